-- No place that the responder gives is above the largest message.
use mathlib.Core.Bool.{Bool, true, false}
use mathlib.Core.List.{List}
use mathlib.Core.Path.{◌≡◌, refl}
use Prim.Native.Nat.{ℕ, ◌≤◌}
use native.Mathlib.Omega.{arith}
use lib.Dec.{eqb}
use Rattle.std.specs.Prelude.{Result, Ok, Err}
use Rattle.words.specs.Numbers.{word}
use Rattle.message.proofs.Laws.Opening.{opened_walking}
use Rattle.message.specs.Opening.{opened}
use Rattle.message.specs.Sizes.{header, code_place, largest}
use Rattle.message.specs.Helpers.{Walking}
use Rattle.message.specs.declared.opening.Message.{Message}
use Rattle.message.specs.declared.outcome.Refusal.{Refusal}
use Rattle.board.specs.Record.{valid}
use Rattle.board.specs.declared.record.Board.{Board}
use Rattle.requests.proofs.Laws.Trails.{trail_inside}
use Rattle.responder.specs.Reply.{served, coded_if, opened_if, valid_if, reply}

pub reply_inside : (b : Board) (m : List ℕ) → (reply b m).answer.place ≤ largest
unfolding reply served
reply_inside b m = validated (valid b)
  where
    coded : (request : Bool) (size : ℕ) → Walking m size header → (coded_if request b m size).answer.place ≤ largest
    coded true size w = let k = trail_inside m size header w in omega arith
    coded false size w = omega arith

    went : (o : Result Message Refusal) → o ≡ opened m → (opened_if o b m).answer.place ≤ largest
    went (Err refusal) e = omega arith
    went (Ok message) e = coded (eqb (word m code_place) 0) message.size (opened_walking m e refl)

    validated : (v : Bool) → (valid_if v b m).answer.place ≤ largest
    validated true = went (opened m) refl
    validated false = omega arith
