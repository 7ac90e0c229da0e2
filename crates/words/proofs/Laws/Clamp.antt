-- Laws of clamping.
use mathlib.Core.Path.{◌≡◌}
use Prim.Native.Nat.{ℕ, ◌≤◌}
use native.Mathlib.Omega.{arith}
use Rattle.words.specs.Clamp.{clamp}

module _ (low high x : ℕ) where
  pub clamp_most : clamp low high x ≤ high
  clamp_most = omega arith

  pub clamp_least : low ≤ high → low ≤ clamp low high x
  clamp_least h = omega arith

  -- a number between the bounds stays
  pub clamp_inside : low ≤ x → x ≤ high → clamp low high x ≡ x
  clamp_inside h k = omega arith
