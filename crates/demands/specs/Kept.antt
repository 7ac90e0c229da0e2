-- A valid record stays valid under every call.
use Rattle.std.specs.Prelude.{true, List, ◌≡◌, ℕ}
use Rattle.board.specs.Record.{valid}
use Rattle.board.specs.declared.record.Board.{Board}
use Rattle.responder.specs.Reply.{reply}

abbrev pub Kept : Type 0
Kept = (b : Board) (m : List ℕ) → valid b ≡ true → valid (reply b m).answer.board ≡ true
