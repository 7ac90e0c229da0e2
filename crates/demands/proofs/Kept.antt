-- A valid record stays valid under every call.
use mathlib.Core.Bool.{Bool, true, false}
use mathlib.Core.List.{List}
use mathlib.Core.Path.{◌≡◌, sym, ap, ◌∙◌}
use Prim.Native.Nat.{ℕ}
use lib.Dec.{eqb}
use Rattle.std.specs.Prelude.{Result, Ok, Err}
use Rattle.words.specs.Numbers.{word}
use Rattle.message.specs.Opening.{opened}
use Rattle.message.specs.Outcomes.{done}
use Rattle.message.specs.Sizes.{header, code_place}
use Rattle.message.specs.declared.opening.Message.{Message}
use Rattle.message.specs.declared.outcome.Refusal.{Refusal}
use Rattle.board.proofs.Laws.Record.{valid_parts, display_valid}
use Rattle.board.specs.Display.{valid_display}
use Rattle.board.specs.Record.{valid}
use Rattle.board.specs.declared.display.Display.{Display}
use Rattle.board.specs.declared.record.Board.{Board}
use Rattle.table.specs.declared.kinds.Kind.{Kind}
use Rattle.tags.proofs.Laws.Kept.{outside_valid}
use Rattle.display.proofs.Laws.Kept.{decided_valid}
use Rattle.display.specs.declared.decision.Decision.{Decision}
use Rattle.display.specs.declared.operation.Operation.{Operation}
use Rattle.requests.specs.Requests.{Request, passed, short, asks, trail}
use Rattle.responder.specs.Answers.{group_by, group_decision, turn_of, after}
use Rattle.responder.specs.Reply.{served, coded_if, opened_if, reply}
use Rattle.responder.proofs.Laws.GroupAlone.{group_region, display_kept}
use Rattle.responder.proofs.Laws.Turns.{turns_keep}
use Rattle.demands.specs.Kept.{Kept}

turn_valid : (g : Decision) (b : Board) (r : Request) → valid b ≡ true → valid (turn_of g b r).state ≡ true
unfolding turn_of
turn_valid g b passed v = v
turn_valid g b short v = v
turn_valid g b (asks (Kind.Outside t) request) v = outside_valid t request b v
turn_valid g b (asks (Kind.Group t) request) v = v

group_valid : (faultless : Bool) (d : Display) (o : Operation) → valid_display d ≡ true → valid_display (group_by faultless d o).display ≡ true
group_valid true d o v = decided_valid d o v
group_valid false d o v = v

served_valid : (b : Board) (m : List ℕ) (size : ℕ) → valid b ≡ true → valid (served b m size).answer.board ≡ true
unfolding served group_decision
served_valid b m size v =
    let tr = trail m size header in
    let g = group_decision b.display tr.ending tr.requests in
    display_valid (after g b tr.requests) g.display (turns_keep (turn_of g) (λ (x : Board). valid x ≡ true) (turn_valid g) b tr.requests v)
    (group_valid (eqb tr.ending.outcome done) b.display _ (valid_parts b v).display)
    (group_region b.display tr.ending tr.requests ∙ sym (ap (λ (d : Display). d.region) (display_kept g b tr.requests)))

pub kept : Kept
unfolding reply
kept b m v = rw v (go (opened m))
  where
    coded : (isRequest : Bool) (size : ℕ) → valid (coded_if isRequest b m size).answer.board ≡ true
    coded true size = served_valid b m size v
    coded false size = v

    go : (o : Result Message Refusal) → valid (opened_if o b m).answer.board ≡ true
    go (Err refusal) = v
    go (Ok message) = coded (eqb (word m code_place) 0) message.size
