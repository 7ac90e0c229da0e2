-- The responder, case by case.
use mathlib.Core.Bool.{Bool, true, false, cond}
use mathlib.Core.List.{List}
use mathlib.Core.Path.{◌≡◌, refl, ap, ◌∙◌}
use Prim.Native.Nat.{ℕ}
use native.Mathlib.Omega.{arith}
use lib.Dec.{eqb}
use lib.ListN.{length}
use Rattle.words.specs.Numbers.{le}
use Rattle.words.specs.Put.{put}
use Rattle.message.specs.Builder.{Call, leaves}
use Rattle.message.specs.Outcomes.{done}
use Rattle.message.specs.Sizes.{header, code_place}
use Rattle.message.specs.Helpers.{Walking}
use Rattle.message.specs.declared.walk.Ending.{Ending}
use Rattle.board.proofs.Laws.Memory.{memory_parts}
use Rattle.board.proofs.Laws.Record.{valid_parts}
use Rattle.board.specs.Memory.{valid_heap}
use Rattle.board.specs.Record.{with_display, valid}
use Rattle.board.specs.declared.record.Board.{Board}
use Rattle.display.specs.Decision.{left_alone}
use Rattle.display.specs.declared.decision.Decision.{Decision}
use Rattle.display.specs.declared.operation.Operation.{Operation}
use Rattle.requests.specs.Requests.{Trail, trail}
use Rattle.responder.proofs.Laws.Saids.{after_same, answers_unanswered, two_walks}
use Rattle.responder.proofs.Laws.Serving.{turn_heap}
use Rattle.responder.proofs.Laws.Turns.{turns_keep}
use Rattle.responder.proofs.Laws.Twice.{twice}
use Rattle.responder.proofs.Laws.Written.{writes_length}
use Rattle.responder.specs.Answers.{group_by, group_decision, turn_of, answers, after}
use Rattle.responder.specs.Reply.{write_all, trail_written, code_of, served}
use Rattle.responder.specs.Serve.{walk_served, group_served}
use Rattle.responder.specs.Turns.{Said}
use Rattle.responder.specs.declared.walk.TagsServed.{TagsServed}

-- ---- the heap of a valid record, and of what a walk leaves of one
pub valid_heap_of : (b : Board) → valid b ≡ true → valid_heap b.heap ≡ true
valid_heap_of b v = (memory_parts b.display.region b.heap b.blocks (valid_parts b v).memory).placed

pub walked_heap : (b : Board) (m : List ℕ) (size : ℕ) (g : Decision) {m₁ : List ℕ} {r : TagsServed} → leaves m₁ r ≡ walk_served g b m size → valid b ≡ true
    → valid_heap r.board.heap ≡ true
walked_heap b m size g e v =
    ap (λ (x : Call TagsServed). valid_heap x.answer.board.heap) e
    ∙ turns_keep (turn_of g) (λ (x : Board). valid_heap x.heap ≡ true) (λ s q h. ap valid_heap (turn_heap g s q) ∙ h) b (trail m size header).requests
    (valid_heap_of b v)

-- ---- a message that is served
module _ (b : Board) (m : List ℕ) (size : ℕ) (w : Walking m size header) where
  abbrev tr : Trail
  tr = trail m size header

  -- a walk keeps the length, so that the message may be walked again
  module _ (g : Decision) {m₁ : List ℕ} {r : TagsServed} (e : leaves m₁ r ≡ walk_served g b m size) where
    walked_length : length m₁ ≡ length m
    walked_length = ap (λ (x : Call TagsServed). length x.bytes) e ∙ writes_length tr.tags (answers g b tr.requests) m

    pub walked_walking : Walking m₁ size header
    walked_walking =
        let l = walked_length in
        record { within = w.within; lent = let k = w.lent in omega arith; most = w.most; place4 = w.place4; size4 = w.size4 }

  -- the first walk with the group left alone, the group decided and answered, the code word
  module _ {g₀ : Decision} (e₀ : g₀ ≡ left_alone b.display) {m₁ : List ℕ} {r : TagsServed}
      (e₁ : leaves m₁ r ≡ walk_served g₀ b m size)
      {g : Decision} (eg : g ≡ group_by (eqb r.ending.outcome done) b.display r.operation) {m₂ : List ℕ} (e₂ : m₂ ≡ group_served g r.board
      m₁ size) where
    quiet : g₀.answered ≡ false
    quiet = ap (λ (x : Decision). x.answered) e₀

    ending_is : r.ending ≡ tr.ending
    ending_is = ap (λ (x : Call TagsServed). x.answer.ending) e₁

    board_is : r.board ≡ after g b tr.requests
    board_is = ap (λ (x : Call TagsServed). x.answer.board) e₁ ∙ after_same g₀ g b tr.requests

    group_is : g ≡ group_decision b.display tr.ending tr.requests
    unfolding group_decision
    group_is =
        eg ∙ ap (λ (x : Ending). group_by (eqb x.outcome done) b.display r.operation) ending_is
        ∙ ap (λ (x : Operation). group_by (eqb tr.ending.outcome done) b.display x) (ap (λ (x : Call TagsServed). x.answer.operation) e₁)

    -- the second walk makes what one walk would have made; where it is not taken, the first has
    bytes_are : m₂ ≡ trail_written (turn_of g) b tr m
    bytes_are = e₂ ∙ either g.answered refl
      where
        first_walk : m₁ ≡ trail_written (turn_of g₀) b tr m
        first_walk = ap (λ (x : Call TagsServed). x.bytes) e₁

        either : (y : Bool) → g.answered ≡ y → cond y (trail_written (turn_of g) r.board (trail m₁ size header) m₁) m₁ ≡ trail_written (turn_of g) b tr m
        either true y = twice (turn_of g₀) (turn_of g) (two_walks g₀ g quiet) size m b r.board w.lent first_walk
        either false n = first_walk ∙ ap (λ (ss : List Said). write_all tr.tags ss m) (answers_unanswered g₀ g quiet n b tr.requests)

    pub served_is : {code : ℕ} → code ≡ code_of r.ending.outcome → {m₃ : List ℕ} → m₃ ≡ put code_place (le 4 code) m₂
        → leaves m₃ (record { outcome = r.ending.outcome; place = r.ending.place; board = with_display r.board g.display }) ≡ served b m size
    unfolding served
    served_is {code} ec {m₃} e₃ =
        let code_is = ap (λ (n : ℕ). put code_place (le 4 n) m₂) ec in
        let bytes : m₃ ≡ put code_place (le 4 (code_of r.ending.outcome)) (trail_written (turn_of g) b tr m) =
        e₃ ∙ code_is ∙ ap (put code_place (le 4 (code_of r.ending.outcome))) bytes_are in
        rw (bytes, ending_is, board_is, group_is)
