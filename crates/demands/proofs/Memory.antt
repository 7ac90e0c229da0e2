-- GPU memory: the lowest address, the handle, and blocks that never overlap.
use mathlib.Core.Bool.{Bool, true, false, not, cond, ◌||◌, true≢false}
use mathlib.Core.Logic.{◌⊎◌, inl, inr}
use mathlib.Core.Path.{◌≡◌, refl, sym, ap, ◌∙◌}
use Prim.Native.Nat.{ℕ, ◌+◌, ◌-◌, ◌≤◌, ◌<◌}
use native.Mathlib.Decide.{ℕ_discrete}
use native.Mathlib.Omega.{arith}
use borrow.Author.Tests.{eqb-true, eq-eqb, not-true}
use lib.ListN.{get_or}
use Rattle.std.proofs.Common.{None}
use Rattle.words.proofs.Laws.Every.{every_at, every_from, pairs_at}
use Rattle.words.specs.Align.{one_bit, aligned}
use Rattle.board.proofs.Laws.Memory.{apart_is, is_apart, clear_of_none, disjoint_swap, disjoint_none, memory_parts}
use Rattle.board.proofs.Laws.Record.{valid_parts}
use Rattle.board.specs.Memory.{span, apart, no_block, bytes_of, clear_of, disjoint}
use Rattle.board.specs.Record.{valid}
use Rattle.board.specs.declared.memory.Block.{Block}
use Rattle.board.specs.declared.record.Board.{Board}
use Rattle.tags.proofs.Laws.Memory.{Fits, fits_is, fits_by, address_is, free_is, free_most, grants_is}
use Rattle.tags.proofs.Laws.Memory.{size_refused, alignment_refused, place_refused, address_refused, is_granted}
use Rattle.tags.specs.Memory.{is_free, free_handle, lowest_address, grants, new_block, with_handle, allocation, granted_handle}
use Rattle.responder.proofs.Laws.Responding.{valid_heap_of}
use Rattle.responder.specs.Reply.{reply}
use Rattle.demands.proofs.Kept.{kept}
use Rattle.demands.specs.Memory.{ShareNoByte, block_at, RoomAt, NoGap, LowestAddress, handle_for, RefusedFor, Handles}
use Rattle.demands.specs.Memory.{BlocksApart}

-- ---- the test whether a block fits, and the plain facts
module _ (b : Board) (size alignment a : ℕ) where
  clear_is : (c : Block) → clear_of (span a size) c ≡ true → c.taken ≡ true → ShareNoByte (span a size) (bytes_of c)
  unfolding clear_of
  clear_is c e t = apart_is (span a size) (bytes_of c) (rw t at e)

  is_clear : (c : Block) → (c.taken ≡ true → ShareNoByte (span a size) (bytes_of c)) → clear_of (span a size) c ≡ true
  unfolding clear_of
  is_clear c h = go c.taken refl
    where
      go : (t : Bool) → c.taken ≡ t → (not t || apart (span a size) (bytes_of c)) ≡ true
      go true e = is_apart (span a size) (bytes_of c) (h e)
      go false e = refl

  room_is : Fits b.heap b.blocks size alignment a → RoomAt b size alignment a
  unfolding aligned
  room_is f =
      record {
        even = eqb-true _ 0 f.even;
        from_base = f.first;
        in_heap = f.last;
        alone = λ i t. clear_is (block_at b i) (every_at (clear_of (span a size)) no_block b.blocks i (clear_of_none (span a size)) f.alone) t;
      }

  is_room : RoomAt b size alignment a → Fits b.heap b.blocks size alignment a
  unfolding aligned
  is_room r =
      record {
        even = eq-eqb _ 0 r.even;
        first = r.from_base;
        last = r.in_heap;
        alone = every_from (clear_of (span a size)) no_block b.blocks (λ i l. is_clear (block_at b i) (r.alone i));
      }

module _ (b : Board) (v : valid b ≡ true) (size alignment : ℕ) (s : 0 < size) where
  -- of any address with room: one is found, and it is not above
  at_most : (x : ℕ) → RoomAt b size alignment x
      → (0 < lowest_address b.heap b.blocks size alignment) × (lowest_address b.heap b.blocks size alignment ≤ x)
  at_most x r =
      let l = r.in_heap in
      (address_is b.heap b.blocks size alignment (valid_heap_of b v)).lowest x r.from_base (omega arith)
      (fits_by b.heap b.blocks size alignment x (is_room b size alignment x r))

  has_room : 0 < lowest_address b.heap b.blocks size alignment → RoomAt b size alignment (lowest_address b.heap b.blocks size alignment)
  has_room h =
      room_is b size alignment _
      (fits_is b.heap b.blocks size alignment _ ((address_is b.heap b.blocks size alignment (valid_heap_of b v)).passes h))

  none_found : NoGap b size alignment → lowest_address b.heap b.blocks size alignment ≡ 0
  none_found n = go (ℕ_discrete (lowest_address b.heap b.blocks size alignment) 0)
    where
      go : Dec (lowest_address b.heap b.blocks size alignment ≡ 0) → lowest_address b.heap b.blocks size alignment ≡ 0
      go (yes e) = e
      go (no e) = absurd (n _ (has_room (omega arith)))

pub lowest_address_is : LowestAddress
lowest_address_is b v size alignment s =
    record {
      found_room = has_room b v size alignment s;
      least = λ x r. (at_most b v size alignment s x r).1;
      none = ((λ z x r. let h = (at_most b v size alignment s x r).0 in absurd (omega arith)), none_found b v size alignment s);
    }

-- ---- the handle
module _ (b : Board) (v : valid b ≡ true) (size alignment flags : ℕ) where
  -- it is 0, or the lowest free one
  either_handle : (handle_for b size alignment flags ≡ 0) ⊎ ((handle_for b size alignment flags ≡ free_handle b.blocks) × (0 < free_handle b.blocks))
  unfolding allocation
  either_handle = go (grants b.heap b.blocks size alignment) refl
    where
      new : Block
      new = new_block (lowest_address b.heap b.blocks size alignment) size alignment flags

      go : (t : Bool) → grants b.heap b.blocks size alignment ≡ t
          → (granted_handle (cond t (with_handle (free_handle b.blocks) new) None) ≡ 0)
          ⊎ ((granted_handle (cond t (with_handle (free_handle b.blocks) new) None) ≡ free_handle b.blocks) × (0 < free_handle b.blocks))
      go true e =
          let granted = grants_is b.heap b.blocks size alignment flags e {g = record { handle = free_handle b.blocks; block = new }} refl refl in
          inr (refl, granted.handle_least)
      go false e = inl refl

  free_place : 0 < free_handle b.blocks → (block_at b (free_handle b.blocks - 1)).taken ≡ false
  free_place h = not-true _ ((free_is b.blocks).passes h)

  -- every lower place is taken
  taken_below_free : (j : ℕ) → j < 32 → (0 < free_handle b.blocks → j + 1 < free_handle b.blocks) → (block_at b j).taken ≡ true
  taken_below_free j m l = go (block_at b j).taken refl
    where
      go : (t : Bool) → (block_at b j).taken ≡ t → t ≡ true
      go true e = refl
      go false e =
          let z : j + 1 - 1 ≡ j = omega arith in
          let f : is_free b.blocks (j + 1) ≡ true = ap (λ (i : ℕ). not (get_or b.blocks i no_block).taken) z ∙ ap not e in
          let h = (free_is b.blocks).lowest (j + 1) (omega arith) (omega arith) f in
          let k = l h.0 in
          absurd (omega (arith, h.1))

  -- a reason leads to handle 0
  refused_zero : None ≡ allocation b.heap b.blocks size alignment flags → handle_for b size alignment flags ≡ 0
  refused_zero e = ap granted_handle (sym e)

  zero_by : RefusedFor b size alignment → handle_for b size alignment flags ≡ 0
  zero_by (inl z) = refused_zero (size_refused b.heap b.blocks size alignment flags z)
  zero_by (inr (inl e)) = refused_zero (alignment_refused b.heap b.blocks size alignment flags e)
  zero_by (inr (inr (inl t))) = go (ℕ_discrete (free_handle b.blocks) 0)
    where
      go : Dec (free_handle b.blocks ≡ 0) → handle_for b size alignment flags ≡ 0
      go (yes z) = refused_zero (place_refused b.heap b.blocks size alignment flags z)
      go (no n) =
          let h = free_most b.blocks in
          absurd (true≢false (sym (t (free_handle b.blocks - 1) (omega arith)) ∙ free_place (omega arith)))
  zero_by (inr (inr (inr n))) = go (ℕ_discrete size 0)
    where
      go : Dec (size ≡ 0) → handle_for b size alignment flags ≡ 0
      go (yes z) = refused_zero (size_refused b.heap b.blocks size alignment flags z)
      go (no p) = refused_zero (address_refused b.heap b.blocks size alignment flags (none_found b v size alignment (omega arith) n))

  -- and handle 0 has a reason
  reason_of : handle_for b size alignment flags ≡ 0 → RefusedFor b size alignment
  reason_of q =
      go (ℕ_discrete size 0) (one_bit alignment) refl (ℕ_discrete (free_handle b.blocks) 0) (ℕ_discrete (lowest_address b.heap b.blocks size alignment) 0)
    where
      go : Dec (size ≡ 0) → (o : Bool) → one_bit alignment ≡ o → Dec (free_handle b.blocks ≡ 0)
          → Dec (lowest_address b.heap b.blocks size alignment ≡ 0) → RefusedFor b size alignment
      go (yes z) o e h a = inl z
      go (no n) false e h a = inr (inl e)
      go (no n) true e (yes z) a = inr (inr (inl (λ i l. taken_below_free i l (λ k. absurd (omega arith)))))
      go (no n) true e (no h) (yes z) = inr (inr (inr ((lowest_address_is b v size alignment (omega arith)).none.0 z)))
      go (no n) true e (no h) (no a) =
          absurd (h (ap granted_handle (is_granted b.heap b.blocks size alignment flags (omega arith) e (omega arith) (omega arith)) ∙ q))

  -- a handle above 0 is the lowest free one
  is_free_handle : (i : ℕ) → handle_for b size alignment flags ≡ i + 1 → free_handle b.blocks ≡ i + 1
  is_free_handle i e = go either_handle
    where
      go : (handle_for b size alignment flags ≡ 0) ⊎ ((handle_for b size alignment flags ≡ free_handle b.blocks) × (0 < free_handle b.blocks))
          → free_handle b.blocks ≡ i + 1
      go (inl z) = absurd (omega arith)
      go (inr f) = sym f.0 ∙ e

pub handles : Handles
handles b v size alignment flags =
    record {
      zero_when = (reason_of b v size alignment flags, zero_by b v size alignment flags);
      free = λ i e.
          let f = is_free_handle b v size alignment flags i e in
          let z : free_handle b.blocks - 1 ≡ i = omega arith in
          ap (λ (k : ℕ). (block_at b k).taken) (sym z) ∙ free_place b v size alignment flags (omega arith);
      lowest_free = λ i j e l.
          let f = is_free_handle b v size alignment flags i e in
          let m = free_most b.blocks in
          taken_below_free b v size alignment flags j (omega arith) (λ _. omega arith);
    }

-- ---- blocks never overlap
pub blocks_apart : BlocksApart
unfolding disjoint clear_of
blocks_apart b m v i j n ti tj =
    let after = (reply b m).answer.board in
    let p = memory_parts after.display.region after.heap after.blocks (valid_parts after (kept b m v)).memory in
    let d = pairs_at disjoint disjoint_swap no_block disjoint_none after.blocks i j n p.each_two in
    apart_is (bytes_of (block_at after i)) (bytes_of (block_at after j)) (both_taken (block_at after i).taken (block_at after j).taken _ ti tj d)
  where
    both_taken : (s t x : Bool) → s ≡ true → t ≡ true → (not s || (not t || x)) ≡ true → x ≡ true
    both_taken s t x es et e = rw (es, et) at e
