-- 1,200 mV are 48 steps of 25 mV, so an offset is the steps from 0, less 48, as a word.
use mathlib.Core.Bool.{Bool, true, false, cond}
use mathlib.Core.Path.{◌≡◌, refl}
use Prim.Native.Nat.{ℕ, ◌+◌, ◌-◌, ◌/◌, ◌%◌, ◌^◌, ◌<◌}
use native.Mathlib.Omega.{arith}
use borrow.Author.Tests.{ltb-true, ltb-false}
use lib.Dec.{ltb}
use Rattle.tags.specs.Voltage.{minus, steps_down, steps_up, max_offset, min_offset}

pub max_offset_is : (mv : ℕ) → mv < 2 ^ 32 → (mv / 25 + 0xffff_ffd0) % 0x1_0000_0000 ≡ max_offset mv
unfolding max_offset
max_offset_is mv h = go (ltb mv 1200) refl
  where
    go : (b : Bool) → ltb mv 1200 ≡ b → (mv / 25 + 0xffff_ffd0) % 0x1_0000_0000 ≡ cond b (minus (steps_up (1200 - mv))) (steps_down (mv - 1200))
    go true e = omega (arith, ltb-true mv 1200 e)
    go false e = omega (arith, ltb-false mv 1200 e)

pub min_offset_is : (mv : ℕ) → mv < 2 ^ 32 → ((mv + 24) / 25 + 0xffff_ffd0) % 0x1_0000_0000 ≡ min_offset mv
unfolding min_offset
min_offset_is mv h = go (ltb mv 1200) refl
  where
    go : (b : Bool) → ltb mv 1200 ≡ b → ((mv + 24) / 25 + 0xffff_ffd0) % 0x1_0000_0000 ≡ cond b (minus (steps_down (1200 - mv))) (steps_up (mv - 1200))
    go true e = omega (arith, ltb-true mv 1200 e)
    go false e = omega (arith, ltb-false mv 1200 e)
