-- A valid record stays valid under every tag outside the group.
use mathlib.Core.Bool.{Bool, true, false}
use mathlib.Core.List.{List}
use mathlib.Core.Path.{◌≡◌, refl, sym, ap, ◌∙◌}
use Prim.Native.Nat.{ℕ, ◌-◌, ◌<◌}
use borrow.Author.Tests.{lt-ltb, le-leb}
use lib.ListN.{get_or, set}
use lib.Seq.{set-get_or}
use Rattle.std.proofs.Common.{Option, Some, None}
use Rattle.words.proofs.Laws.Every.{every_at, every_set, pairs_at}
use Rattle.words.specs.Align.{one_bit}
use Rattle.words.specs.Every.{every}
use Rattle.words.specs.Numbers.{nth_word}
use Rattle.board.proofs.Laws.Items.{no_device_valid, no_clock_valid, no_voltage_valid}
use Rattle.board.proofs.Laws.Memory.{disjoint_swap, disjoint_none, clear_of_none, no_block_valid, memory_parts, memory_set}
use Rattle.board.proofs.Laws.Record.{valid_parts, devices_valid, clocks_valid, voltages_valid, blocks_valid}
use Rattle.board.specs.Items.{no_device, no_clock, no_voltage, valid_device, valid_clock, valid_voltage}
use Rattle.board.specs.Memory.{span, inside, no_block, clear_of, valid_block, disjoint, valid_memory}
use Rattle.board.specs.Record.{valid}
use Rattle.board.specs.declared.facts.Span.{Span}
use Rattle.board.specs.declared.memory.Block.{Block}
use Rattle.board.specs.declared.record.Board.{Board}
use Rattle.table.specs.declared.kinds.HandleTag.{HandleTag}
use Rattle.table.specs.declared.kinds.OutsideTag.{OutsideTag}
use Rattle.tags.proofs.Laws.Items.{power_valid, clock_valid, voltage_valid}
use Rattle.tags.proofs.Laws.Memory.{Fits, fits_is, address_is, grant_is, taken_left, free_left}
use Rattle.tags.specs.Clock.{clock_place, clock_after, clocks_after}
use Rattle.tags.specs.Memory.{block_place, new_block, allocation, blocks_with, allocation_of, allocate_after, with_lock, handle_after, blocks_after}
use Rattle.tags.specs.Outside.{outside_after}
use Rattle.tags.specs.Place.{change, new_value, id_of, items_after}
use Rattle.tags.specs.Power.{device_place, power_after, devices_after}
use Rattle.tags.specs.Voltage.{voltage_place, voltage_after, voltages_after}
use Rattle.tags.specs.declared.memory.Granted.{Granted}

-- a change that keeps an item valid keeps all valid
module _ {A : Type 0} (p : A → Bool) (none : A) (n : p none ≡ true) where
  all_change : (f : A → A) (xs : List A) (at : Option ℕ) → ((x : A) → p x ≡ true → p (f x) ≡ true) → every p xs ≡ true → every p (change none f xs at) ≡ true
  all_change f xs (Some i) k h = every_set p xs i (f (get_or xs i none)) (k (get_or xs i none) (every_at p none xs i n h)) h
  all_change f xs None k h = h

  items_valid : (place : ℕ → Option ℕ) (after : ℕ → A → A) → ((x : ℕ) (y : A) → p y ≡ true → p (after x y) ≡ true) → (request : List ℕ) (xs : List A)
      → every p xs ≡ true → every p (items_after none place after request xs) ≡ true
  items_valid place after k request xs = all_change (after (new_value request)) xs (place (id_of request)) (k (new_value request))

-- ---- GPU memory
module _ (region heap : Span) (blocks : List Block) (v : valid_memory region heap blocks ≡ true) where
  -- a new block, where it fits
  new_valid : (size alignment flags a : ℕ) → 0 < size → one_bit alignment ≡ true → Fits heap blocks size alignment a
      → (i : ℕ) → valid_memory region heap (set blocks i (new_block a size alignment flags)) ≡ true
  unfolding valid_block inside disjoint
  new_valid size alignment flags a s o f i =
      memory_set region heap blocks v i (new_block a size alignment flags)
      (rw (lt-ltb 0 size s, le-leb _ _ f.first, le-leb _ _ f.last, o, f.even))
      (λ j n. every_at (clear_of (span a size)) no_block blocks j (clear_of_none (span a size)) f.alone)

  allocation_valid : (size alignment flags : ℕ) (g : Option Granted) → g ≡ allocation heap blocks size alignment flags
      → valid_memory region heap (blocks_with g blocks) ≡ true
  allocation_valid size alignment flags (Some new) e =
      let g = grant_is heap blocks size alignment flags e in
      let w = address_is heap blocks size alignment (memory_parts region heap blocks v).placed in
      rw g.block_is
      (new_valid size alignment flags _ g.filled g.single (fits_is heap blocks size alignment _ (w.passes g.has_address)) (new.handle - 1))
  allocation_valid size alignment flags None e = v

  -- a block that was there, with another lock, or none
  locked_valid : (locked : Bool) (i : ℕ) → valid_memory region heap (set blocks i (with_lock locked (get_or blocks i no_block))) ≡ true
  unfolding valid_block disjoint
  locked_valid locked i =
      let p = memory_parts region heap blocks v in
      memory_set region heap blocks v i (with_lock locked (get_or blocks i no_block))
      (every_at (valid_block heap) no_block blocks i (no_block_valid heap) p.each)
      (λ j n. pairs_at disjoint disjoint_swap no_block disjoint_none blocks i j (λ q. n (sym q)) p.each_two)

  free_valid : (i : ℕ) → valid_memory region heap (set blocks i no_block) ≡ true
  unfolding disjoint
  free_valid i = memory_set region heap blocks v i no_block (no_block_valid heap) (λ j n. refl)

  handle_valid : (t : HandleTag) (at : Option ℕ) → valid_memory region heap (change no_block (handle_after t) blocks at) ≡ true
  handle_valid t None = v
  handle_valid t (Some i) = go t (get_or blocks i no_block).taken refl
    where
      left : (t : HandleTag) {c : Block} → c ≡ handle_after t (get_or blocks i no_block) → valid_memory region heap (set blocks i c) ≡ true
          → valid_memory region heap (set blocks i (handle_after t (get_or blocks i no_block))) ≡ true
      left t e h = ap (λ (c : Block). valid_memory region heap (set blocks i c)) (sym e) ∙ h

      go : (t : HandleTag) (taken : Bool) → (get_or blocks i no_block).taken ≡ taken
          → valid_memory region heap (set blocks i (handle_after t (get_or blocks i no_block))) ≡ true
      go HandleTag.Lock true e = left HandleTag.Lock (taken_left _ refl e refl) (locked_valid true i)
      go HandleTag.Unlock true e = left HandleTag.Unlock (taken_left _ refl e refl) (locked_valid false i)
      go HandleTag.Release true e = left HandleTag.Release (taken_left _ refl e refl) (free_valid i)
      go t false e = left t (sym (free_left t _ e)) (ap (valid_memory region heap) (set-get_or blocks i no_block) ∙ v)

pub outside_valid : (k : OutsideTag) (request : List ℕ) (b : Board) → valid b ≡ true → valid (outside_after k request b) ≡ true
unfolding outside_after
outside_valid (OutsideTag.Fact t) request b v = v
outside_valid (OutsideTag.Power t) request b v =
    devices_valid b (devices_after t request b.devices) v
    (items_valid valid_device no_device no_device_valid device_place (power_after t) (power_valid t) request b.devices (valid_parts b v).devices)
outside_valid (OutsideTag.Clock t) request b v =
    clocks_valid b (clocks_after t request b.clocks) v
    (items_valid valid_clock no_clock no_clock_valid clock_place (clock_after t) (clock_valid t) request b.clocks (valid_parts b v).clocks)
outside_valid (OutsideTag.Voltage t) request b v =
    voltages_valid b (voltages_after t request b.voltages) v
    (items_valid valid_voltage no_voltage no_voltage_valid voltage_place (voltage_after t) (voltage_valid t) request b.voltages (valid_parts b v).voltages)
outside_valid (OutsideTag.Temperature t) request b v = v
outside_valid OutsideTag.Allocate request b v =
    blocks_valid b (allocate_after request b.heap b.blocks) v
    (allocation_valid b.display.region b.heap b.blocks (valid_parts b v).memory (nth_word request 0) (nth_word request 1) (nth_word request 2)
    (allocation_of request b.heap b.blocks) refl)
outside_valid (OutsideTag.Handle t) request b v =
    blocks_valid b (blocks_after t request b.blocks) v
    (handle_valid b.display.region b.heap b.blocks (valid_parts b v).memory t (block_place (id_of request)))
