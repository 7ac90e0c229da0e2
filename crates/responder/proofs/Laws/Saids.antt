-- What a tag of the responder says: its length fits into a tag word; and what it says where the group is not answered.
use mathlib.Core.Bool.{Bool, true, false, cond}
use mathlib.Core.List.{List}
use mathlib.Core.Path.{◌≡◌, refl, ap}
use Prim.Native.Nat.{◌^◌, ◌<◌}
use lib.ListN.{length}
use Rattle.board.specs.declared.record.Board.{Board}
use Rattle.table.specs.declared.kinds.Kind.{Kind}
use Rattle.tags.proofs.Laws.AnswerFits.{outside_fits}
use Rattle.tags.specs.Outside.{outside_answer}
use Rattle.display.proofs.Laws.AnswerFits.{group_fits}
use Rattle.display.specs.Decision.{group_answer}
use Rattle.display.specs.declared.decision.Decision.{Decision}
use Rattle.requests.specs.Requests.{Request, passed, short, asks}
use Rattle.responder.proofs.Laws.Turns.{Each, turns_each, turns_state, turns_same}
use Rattle.responder.proofs.Laws.Twice.{TwoWalks}
use Rattle.responder.specs.Answers.{turn_of, answers, after}
use Rattle.responder.specs.Turns.{Said, silent, says, Turns}

abbrev pub SaidFits : Said → Type 0
SaidFits silent = Unit {0}
SaidFits (says answer) = length answer < 2 ^ 31

said_fits : (g : Decision) (b : Board) (r : Request) → SaidFits (turn_of g b r).said
unfolding turn_of
said_fits g b passed = tt
said_fits g b short = tt
said_fits g b (asks (Kind.Outside t) request) = outside_fits t request b
said_fits g b (asks (Kind.Group t) request) = go g.answered
  where
    go : (c : Bool) → SaidFits (cond c (says (group_answer g t request)) silent)
    go true = group_fits g t request
    go false = tt

pub saids_fit : (g : Decision) (b : Board) (rs : List Request) → Each SaidFits (answers g b rs)
saids_fit g b rs = turns_each (turn_of g) SaidFits (said_fits g) b rs

-- the record is left the same, whatever was decided of the group
state_same : (g g' : Decision) (b : Board) (r : Request) → (turn_of g b r).state ≡ (turn_of g' b r).state
unfolding turn_of
state_same g g' b passed = refl
state_same g g' b short = refl
state_same g g' b (asks (Kind.Outside t) request) = refl
state_same g g' b (asks (Kind.Group t) request) = refl

pub after_same : (g g' : Decision) (b : Board) (rs : List Request) → after g b rs ≡ after g' b rs
after_same g g' b rs = turns_state (turn_of g) (turn_of g') (state_same g g') b rs

-- a group that is not answered says nothing, whatever was decided
module _ (g g' : Decision) (e : g.answered ≡ false) (e' : g'.answered ≡ false) where
  turn_unanswered : (b : Board) (r : Request) → turn_of g b r ≡ turn_of g' b r
  unfolding turn_of
  turn_unanswered b passed = refl
  turn_unanswered b short = refl
  turn_unanswered b (asks (Kind.Outside t) request) = refl
  turn_unanswered b (asks (Kind.Group t) request) = rw (e, e')

  pub answers_unanswered : (b : Board) (rs : List Request) → answers g b rs ≡ answers g' b rs
  answers_unanswered b rs = ap (λ (x : Turns Board). x.saids) (turns_same (turn_of g) (turn_of g') turn_unanswered b rs)

-- ---- the turns of the first walk, which leaves the group alone, and of the one that there would be
pub two_walks : (g₀ g : Decision) → g₀.answered ≡ false → TwoWalks (turn_of g₀) (turn_of g)
unfolding turn_of
two_walks g₀ g quiet = record {
  passes₀ = λ b. refl;
  passes = λ b. refl;
  state = state_same g₀ g;
  answer = λ b k request. outside_answer k request b;
  answered₀ = λ b k request. refl;
  answered = λ b k request. refl;
  fits = λ b k request. outside_fits k request b;
  quiet = λ b k request. ap (λ (c : Bool). cond c (says (group_answer g₀ k request)) silent) quiet;
  group = λ b b' k request. refl;
}
