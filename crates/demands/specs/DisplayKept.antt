-- What leaves the display as it was.
use Rattle.std.specs.Prelude.{false, List, ◌⊎◌, ◌≡◌, ℕ, get_or}
use Rattle.board.specs.declared.record.Board.{Board}
use Rattle.requests.specs.Requests.{passed}
use Rattle.responder.specs.Reply.{reply}
use Rattle.demands.specs.AnsweredWhen.{AsksGroup, Mixes}
use Rattle.demands.specs.Terms.{trail_of, Faultless}

-- no tag asks the frame buffer group for anything but a test
abbrev pub OnlyTests : List ℕ → Type 0
OnlyTests m = (i : ℕ) → AsksGroup false (get_or (trail_of m).requests i passed) → ⊥

-- After a fault or a refusal, where tests come with other tags of the group, and where there are only tests, settings
-- and buffer are as they were.
abbrev pub DisplayKept : Type 0
DisplayKept =
    (b : Board) (m : List ℕ)
    → (Faultless b m → ⊥) ⊎ (Mixes m ⊎ OnlyTests m)
    → (reply b m).answer.board.display ≡ b.display
