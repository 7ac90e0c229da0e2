-- The group reads and changes the display alone, and of it never the region; the other tags neither read nor change it.
use mathlib.Core.Bool.{Bool, true, false}
use mathlib.Core.List.{List}
use mathlib.Core.Path.{◌≡◌, refl, ap, ap₂}
use Prim.Native.Nat.{ℕ}
use lib.Dec.{eqb}
use Rattle.message.specs.Outcomes.{done}
use Rattle.message.specs.Sizes.{header}
use Rattle.message.specs.declared.walk.Ending.{Ending}
use Rattle.board.specs.Record.{with_display}
use Rattle.board.specs.declared.display.Display.{Display}
use Rattle.board.specs.declared.record.Board.{Board}
use Rattle.table.specs.declared.kinds.Kind.{Kind}
use Rattle.tags.proofs.Laws.Alone.{answer_beside, after_beside}
use Rattle.display.proofs.Laws.Kept.{region_same}
use Rattle.display.specs.Decision.{left_alone}
use Rattle.display.specs.Operation.{unasked}
use Rattle.display.specs.declared.decision.Decision.{Decision}
use Rattle.display.specs.declared.operation.Operation.{Operation}
use Rattle.requests.specs.Requests.{Request, passed, short, asks, trail}
use Rattle.responder.proofs.Laws.Saids.{after_same}
use Rattle.responder.proofs.Laws.Turns.{turns_beside}
use Rattle.responder.specs.Answers.{operation, group_by, group_decision, turn_of, answers, after}
use Rattle.responder.specs.Reply.{served}
use Rattle.responder.specs.Turns.{says, Turns, turns}

-- ---- the group
-- but for the display, the record is left as if the group had been left alone
pub group_alone : (b : Board) (m : List ℕ) (size : ℕ)
    → let tr = trail m size header in
    (served b m size).answer.board
    ≡ with_display (after (left_alone b.display) b tr.requests) (group_decision b.display tr.ending tr.requests).display
unfolding served
group_alone b m size =
    let tr = trail m size header in
    let g = group_decision b.display tr.ending tr.requests in
    ap (λ (x : Board). with_display x g.display) (after_same g (left_alone b.display) b tr.requests)

pub group_region : (d : Display) (e : Ending) (rs : List Request) → (group_decision d e rs).display.region ≡ d.region
unfolding group_decision
group_region d e rs = go (eqb e.outcome done) (operation (unasked d.settings) rs)
  where
    go : (faultless : Bool) (o : Operation) → (group_by faultless d o).display.region ≡ d.region
    go true o = region_same d o
    go false o = refl

-- ---- the other tags
module _ (g : Decision) (d : Display) where
  turn_beside : (b : Board) (r : Request)
      → turn_of g (with_display b d) r ≡ record { said = (turn_of g b r).said; state = with_display (turn_of g b r).state d }
  unfolding turn_of
  turn_beside b passed = refl
  turn_beside b short = refl
  turn_beside b (asks (Kind.Outside t) request) =
      ap₂ (λ (x : List ℕ) (y : Board). record { said = says x; state = y }) (answer_beside d request b t) (after_beside d request b t)
  turn_beside b (asks (Kind.Group t) request) = refl

  -- on a record with another display all tags say the same, and leave the same record with that display
  pub others_alone : (b : Board) (rs : List Request)
      → turns (turn_of g) (with_display b d) rs ≡ record { saids = answers g b rs; state = with_display (after g b rs) d }
  others_alone b rs = turns_beside (turn_of g) (λ (x : Board). with_display x d) turn_beside b rs

-- so the display stands as it came until the group is carried out
pub display_kept : (g : Decision) (b : Board) (rs : List Request) → (after g b rs).display ≡ b.display
display_kept g b rs = ap (λ (x : Turns Board). x.state.display) (others_alone g b.display b rs)
