-- The bytes held are those granted minus those released.
use mathlib.Core.Bool.{Bool, true, false, cond}
use mathlib.Core.List.{List, [], ◌∷◌}
use mathlib.Core.Logic.{inl, inr}
use mathlib.Core.Path.{◌≡◌, refl, sym, ap, ◌∙◌}
use Prim.Native.Nat.{ℕ, zero, suc, ◌+◌, ◌-◌, ◌<◌}
use native.Mathlib.Nat.{not-suc-le-zero, le_of_suc-le-suc}
use native.Mathlib.Omega.{arith}
use borrow.Author.Tests.{ne_eqb, not-true}
use lib.Dec.{eqb}
use lib.ListN.{length, get_or, set, length-set}
use lib.Seq.{set-get_or}
use Rattle.std.proofs.Common.{Option, Some, None}
use Rattle.words.proofs.Laws.Numbers.{unle_le}
use Rattle.words.specs.Numbers.{le, unle, nth_word, word}
use Rattle.message.specs.Builder.{Call}
use Rattle.message.specs.Sizes.{header}
use Rattle.board.proofs.Laws.Memory.{taken_below}
use Rattle.board.specs.Memory.{no_block}
use Rattle.board.specs.declared.memory.Block.{Block}
use Rattle.board.specs.declared.record.Board.{Board}
use Rattle.table.specs.declared.kinds.HandleTag.{HandleTag}
use Rattle.table.specs.declared.kinds.Kind.{Kind}
use Rattle.table.specs.declared.kinds.OutsideTag.{OutsideTag}
use Rattle.tags.proofs.Laws.Memory.{free_is, free_most, grant_is, taken_left, free_left}
use Rattle.tags.specs.Memory.{block_place, granted_handle, blocks_with, allocation_of, with_lock, taken_after, handle_after}
use Rattle.tags.specs.Memory.{taken_value, unknown_value, handle_value}
use Rattle.tags.specs.Outside.{outside_answer, outside_after}
use Rattle.tags.specs.Place.{change, item, id_of}
use Rattle.tags.specs.declared.memory.Granted.{Granted}
use Rattle.display.specs.declared.decision.Decision.{Decision}
use Rattle.requests.proofs.Laws.Endings.{ending_outcome}
use Rattle.requests.specs.Requests.{Request, passed, short, asks, WalkOutcome}
use Rattle.responder.proofs.Laws.Turns.{turns_keep}
use Rattle.responder.specs.Answers.{turn_of, answers, after}
use Rattle.responder.specs.Reply.{served, reply}
use Rattle.responder.specs.declared.respond.Served.{Served}
use Rattle.demands.proofs.Laws.Replied.{Replied, untouched, walked, replied}
use Rattle.demands.specs.BytesHeld.{held, granted_outside, granted_by, released_outside, released_by, granted_in, released_in, is_walked}
use Rattle.demands.specs.BytesHeld.{granted, released, last_board, granted_so_far, released_so_far, BytesHeld}
use Rattle.demands.specs.Changes.{RefusalOutcome}
use Rattle.demands.specs.Terms.{trail_of, decision_of, answers_of}

-- ---- a place that is filled anew
abbrev size_in : Block → ℕ
size_in b = cond b.taken b.size 0

held_set : (blocks : List Block) (i : ℕ) (b : Block) → i < length blocks → held (set blocks i b) + size_in (get_or blocks i no_block) ≡ held blocks + size_in b
held_set [] i b l = absurd (not-suc-le-zero l)
held_set (x ∷ xs) zero b l = omega arith
held_set (x ∷ xs) (suc i) b l = let h = held_set xs i b (le_of_suc-le-suc l) in omega arith

size_taken : (b : Block) → b.taken ≡ true → size_in b ≡ b.size
size_taken b e = ap (λ (t : Bool). cond t b.size 0) e

size_free : (b : Block) → b.taken ≡ false → size_in b ≡ 0
size_free b e = ap (λ (t : Bool). cond t b.size 0) e

-- ---- an allocate
module _ (b : Board) (places : length b.blocks ≡ 32) (request : List ℕ) where
  allocate_held : (g : Option Granted) → g ≡ allocation_of request b.heap b.blocks
      → held (blocks_with g b.blocks) ≡ held b.blocks + cond (eqb (unle (le 4 (granted_handle g))) 0) 0 (nth_word request 0)
  allocate_held (Some g) e =
      let k = grant_is b.heap b.blocks _ _ _ e in
      let m = free_most b.blocks in
      let eh = k.handle_is in
      let l = k.handle_least in
      let f : (get_or b.blocks (g.handle - 1) no_block).taken ≡ false = not-true _ (rw eh ((free_is b.blocks).passes (omega arith))) in
      let h = held_set b.blocks (g.handle - 1) g.block (omega arith) in
      let z = size_free (get_or b.blocks (g.handle - 1) no_block) f in
      let s : size_in g.block ≡ nth_word request 0 = ap size_in k.block_is in
      let q : eqb (unle (le 4 g.handle)) 0 ≡ false = ap (λ (n : ℕ). eqb n 0) (unle_le 4 g.handle (omega arith)) ∙ ne_eqb g.handle 0 (λ w. omega arith) in
      let t : cond (eqb (unle (le 4 g.handle)) 0) 0 (nth_word request 0) ≡ nth_word request 0 = ap (λ (x : Bool). cond x 0 (nth_word request 0)) q in
      omega arith
  allocate_held None e = omega arith

-- ---- a tag that names a block by its handle
-- what it releases, by the number that it answers and the size of the block
abbrev drops : HandleTag → (number size : ℕ) → ℕ
drops HandleTag.Release number size = cond (eqb number 0) size 0
drops HandleTag.Lock number size = 0
drops HandleTag.Unlock number size = 0

module _ (blocks : List Block) (i : ℕ) where
  abbrev here : Block
  here = get_or blocks i no_block

  -- another block of the same size, and none
  held_same : (c : Block) → (get_or blocks i no_block).taken ≡ true → size_in c ≡ size_in (get_or blocks i no_block) → held (set blocks i c) ≡ held blocks
  held_same c e z = let h = held_set blocks i c (taken_below blocks i e) in omega arith

  held_none : (get_or blocks i no_block).taken ≡ true → held (set blocks i no_block) + (get_or blocks i no_block).size ≡ held blocks
  held_none e =
      let h = held_set blocks i no_block (taken_below blocks i e) in
      let z = size_taken (get_or blocks i no_block) e in
      omega arith

  -- what the tag leaves and answers, where the place is taken and where it is free
  left_then : (t : HandleTag) → (get_or blocks i no_block).taken ≡ true → {c : Block} → c ≡ taken_after t here → {n : ℕ} → n ≡ taken_value t here
      → held (set blocks i c) + drops t (unle (le 4 n)) here.size ≡ held blocks
      → held (set blocks i (handle_after t here)) + drops t (unle (le 4 (handle_value t here))) here.size ≡ held blocks
  unfolding handle_value
  left_then t e {c} ec {n} en h =
      let a : handle_after t here ≡ c = sym (taken_left here refl e ec) in
      let v : handle_value t here ≡ n = ap (λ (y : Bool). cond y (taken_value t here) (unknown_value t)) e ∙ sym en in
      rw (a, v) h

  left_free : (t : HandleTag) → (get_or blocks i no_block).taken ≡ false → drops t (unle (le 4 (unknown_value t))) here.size ≡ 0
      → held (set blocks i (handle_after t here)) + drops t (unle (le 4 (handle_value t here))) here.size ≡ held blocks
  unfolding handle_value
  left_free t e z =
      let a : set blocks i (handle_after t here) ≡ blocks = ap (set blocks i) (free_left t here e) ∙ set-get_or blocks i no_block in
      let v : handle_value t here ≡ unknown_value t = ap (λ (y : Bool). cond y (taken_value t here) (unknown_value t)) e in
      rw (a, v) (omega arith)

  handle_held : (t : HandleTag) (taken : Bool) → (get_or blocks i no_block).taken ≡ taken
      → held (set blocks i (handle_after t here)) + drops t (unle (le 4 (handle_value t here))) here.size ≡ held blocks
  handle_held HandleTag.Lock true e =
      let h = held_same (with_lock true here) e refl in
      left_then HandleTag.Lock e refl refl (omega arith)
  handle_held HandleTag.Unlock true e =
      let h = held_same (with_lock false here) e refl in
      left_then HandleTag.Unlock e refl refl (omega arith)
  handle_held HandleTag.Release true e = left_then HandleTag.Release e refl refl (held_none e)
  handle_held HandleTag.Lock false e = left_free HandleTag.Lock e refl
  handle_held HandleTag.Unlock false e = left_free HandleTag.Unlock e refl
  handle_held HandleTag.Release false e = left_free HandleTag.Release e refl

nothing : (t : Bool) → ◌≡◌ {A = ℕ} (cond t 0 0) 0
nothing true = refl
nothing false = refl

place_held : (blocks : List Block) (t : HandleTag) (at : Option ℕ)
    → held (change no_block (handle_after t) blocks at) + drops t (unle (le 4 (handle_value t (item no_block blocks at)))) (item no_block blocks at).size
    ≡ held blocks
place_held blocks t (Some i) = handle_held blocks i t (get_or blocks i no_block).taken refl
place_held blocks t None = none_dropped t
  where
    none_dropped : (t : HandleTag) → held blocks + drops t (unle (le 4 (handle_value t no_block))) 0 ≡ held blocks
    none_dropped HandleTag.Lock = omega arith
    none_dropped HandleTag.Unlock = omega arith
    none_dropped HandleTag.Release = let z = nothing (eqb (unle (le 4 (handle_value HandleTag.Release no_block))) 0) in omega arith

-- ---- one tag
outside_held : (b : Board) → length b.blocks ≡ 32 → (k : OutsideTag) (request : List ℕ)
    → held (outside_after k request b).blocks + released_outside k request (outside_answer k request b) b.blocks
    ≡ held b.blocks + granted_outside k request (outside_answer k request b)
unfolding outside_after outside_answer
outside_held b p OutsideTag.Allocate request =
    let h = allocate_held b p request (allocation_of request b.heap b.blocks) refl in
    omega arith
outside_held b p (OutsideTag.Handle HandleTag.Lock) request = let h = place_held b.blocks HandleTag.Lock (block_place (id_of request)) in omega arith
outside_held b p (OutsideTag.Handle HandleTag.Unlock) request = let h = place_held b.blocks HandleTag.Unlock (block_place (id_of request)) in omega arith
outside_held b p (OutsideTag.Handle HandleTag.Release) request = let h = place_held b.blocks HandleTag.Release (block_place (id_of request)) in omega arith
outside_held b p (OutsideTag.Fact t) request = omega arith
outside_held b p (OutsideTag.Power t) request = omega arith
outside_held b p (OutsideTag.Clock t) request = omega arith
outside_held b p (OutsideTag.Voltage t) request = omega arith
outside_held b p (OutsideTag.Temperature t) request = omega arith

turn_held : (g : Decision) (b : Board) → length b.blocks ≡ 32 → (r : Request)
    → held (turn_of g b r).state.blocks + released_by r (turn_of g b r).said b.blocks ≡ held b.blocks + granted_by r (turn_of g b r).said
unfolding turn_of
turn_held g b p passed = omega arith
turn_held g b p short = omega arith
turn_held g b p (asks (Kind.Outside t) request) = outside_held b p t request
turn_held g b p (asks (Kind.Group t) request) = omega arith

-- ---- the places stay as many as they were
outside_places : (b : Board) (k : OutsideTag) (request : List ℕ) → length (outside_after k request b).blocks ≡ length b.blocks
unfolding outside_after
outside_places b OutsideTag.Allocate request = go (allocation_of request b.heap b.blocks)
  where
    go : (g : Option Granted) → length (blocks_with g b.blocks) ≡ length b.blocks
    go (Some g) = length-set b.blocks (g.handle - 1) g.block
    go None = refl
outside_places b (OutsideTag.Handle t) request = go (block_place (id_of request))
  where
    go : (at : Option ℕ) → length (change no_block (handle_after t) b.blocks at) ≡ length b.blocks
    go (Some i) = length-set b.blocks i (handle_after t (get_or b.blocks i no_block))
    go None = refl
outside_places b (OutsideTag.Fact t) request = refl
outside_places b (OutsideTag.Power t) request = refl
outside_places b (OutsideTag.Clock t) request = refl
outside_places b (OutsideTag.Voltage t) request = refl
outside_places b (OutsideTag.Temperature t) request = refl

turn_places : (g : Decision) (b : Board) (r : Request) → length b.blocks ≡ 32 → length (turn_of g b r).state.blocks ≡ 32
unfolding turn_of
turn_places g b passed p = p
turn_places g b short p = p
turn_places g b (asks (Kind.Outside t) request) p = outside_places b t request ∙ p
turn_places g b (asks (Kind.Group t) request) p = p

-- ---- the tags in order
tags_held : (g : Decision) (b : Board) → length b.blocks ≡ 32 → (rs : List Request)
    → held (after g b rs).blocks + released_in g b rs (answers g b rs) ≡ held b.blocks + granted_in rs (answers g b rs)
tags_held g b p [] = omega arith
tags_held g b p (r ∷ rs) =
    let h = turn_held g b p r in
    let k = tags_held g (turn_of g b r).state (turn_places g b r p) rs in
    omega arith

-- ---- a message
refused_not_walked : (n : ℕ) → RefusalOutcome n → is_walked n ≡ false
refused_not_walked n (inl z) = rw z
refused_not_walked n (inr (inl z)) = rw z
refused_not_walked n (inr (inr (inl z))) = rw z
refused_not_walked n (inr (inr (inr z))) = rw z

outcome_walked : (n : ℕ) → WalkOutcome n → is_walked n ≡ true
outcome_walked n (inl z) = rw z
outcome_walked n (inr (inl z)) = rw z
outcome_walked n (inr (inr (inl z))) = rw z
outcome_walked n (inr (inr (inr z))) = rw z

module _ (b : Board) (p : length b.blocks ≡ 32) (m : List ℕ) where
  by_outcome : (t : Bool) → is_walked (reply b m).answer.outcome ≡ t → {b' : Board} → (reply b m).answer.board ≡ b'
      → held b'.blocks + released_in (decision_of b m) b (cond t (trail_of m).requests []) (answers_of b m)
      ≡ held b.blocks + granted_in (cond t (trail_of m).requests []) (answers_of b m)
      → held (reply b m).answer.board.blocks + released b m ≡ held b.blocks + granted b m
  by_outcome t e eb h = rw (e, eb) h

  message_held : held (reply b m).answer.board.blocks + released b m ≡ held b.blocks + granted b m
  unfolding served
  message_held = go (replied b m)
    where
      go : Replied b m → held (reply b m).answer.board.blocks + released b m ≡ held b.blocks + granted b m
      go (untouched o e f z) = by_outcome false (refused_not_walked (reply b m).answer.outcome o) f (omega arith)
      go (walked v s e) =
          let w : is_walked (reply b m).answer.outcome ≡ true = rw e (outcome_walked (trail_of m).ending.outcome (ending_outcome m (word m 0) header)) in
          by_outcome true w (ap (λ (x : Call Served). x.answer.board) e) (tags_held (decision_of b m) b p (trail_of m).requests)

  message_places : length (reply b m).answer.board.blocks ≡ 32
  unfolding served
  message_places = go (replied b m)
    where
      go : Replied b m → length (reply b m).answer.board.blocks ≡ 32
      go (untouched o e f z) = rw f p
      go (walked v s e) =
          rw e (turns_keep (turn_of (decision_of b m)) (λ (x : Board). length x.blocks ≡ 32) (turn_places (decision_of b m)) b (trail_of m).requests p)

-- ---- a run of messages
run_held : (b : Board) → length b.blocks ≡ 32 → (ms : List (List ℕ))
    → held (last_board b ms).blocks + released_so_far b ms ≡ held b.blocks + granted_so_far b ms
run_held b p [] = omega arith
run_held b p (m ∷ ms) =
    let h = message_held b p m in
    let k = run_held (reply b m).answer.board (message_places b p m) ms in
    omega arith

held_free : (blocks : List Block) → ((i : ℕ) → (get_or blocks i no_block).taken ≡ false) → held blocks ≡ 0
held_free [] h = refl
held_free (x ∷ xs) h =
    let z = size_free x (h 0) in
    let k = held_free xs (λ i. h (suc i)) in
    omega arith

pub bytes_held : BytesHeld
bytes_held b w ms =
    let h = run_held b w.places ms in
    let z = held_free b.blocks w.all_free in
    omega arith
