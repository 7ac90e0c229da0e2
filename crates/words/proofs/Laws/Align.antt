-- Laws of alignments: the count of ones, and the lowest multiple.
use mathlib.Core.Bool.{true, false≢true}
use mathlib.Core.Path.{◌≡◌, refl, sym, ap, ◌∙◌, subst}
use Prim.Native.Nat.{ℕ, zero, suc, ◌+◌, ◌-◌, ◌*◌, ◌/◌, ◌%◌, ◌^◌, ◌≤◌, ◌<◌}
use native.Mathlib.Nat.{suc-mul, le_of_suc-le-suc, zero-lt-suc, mul-le-mul_right}
use native.Mathlib.Nat.{div-lt_iff_lt-mul, div-eq_of_lt-le, div-add-mod', div-mul-le_self, mod-lt, mul-mod_left}
use native.Mathlib.Numerals.{add-one}
use native.Mathlib.Omega.{arith}
use borrow.Author.Tests.{eq-eqb, eqb-true}
use lib.Arith.{lt-one}
use lib.Count.{ones_in, ones, ones_step}
use lib.Dec.{eqb}
use lib.Pow.{shr_lt}
use Rattle.words.specs.Round.{round_up}
use Rattle.words.specs.Align.{one_bit, aligned}

ones_zero : ones 0 ≡ 0
unfolding ones
ones_zero = refl

-- k steps count the ones of a number of k bits
ones_in_ones : (k n : ℕ) → n < 2 ^ k → ones_in k n ≡ ones n
unfolding ones_in
ones_in_ones zero n h = let z : n ≡ 0 = lt-one h in sym (ap ones z ∙ ones_zero)
ones_in_ones (suc k) n h =
    ap (λ (x : ℕ). n % 2 + x) (ones_in_ones k (n / 2) (shr_lt k 1 (subst (λ (x : ℕ). n < 2 ^ x) (sym (add-one k)) h))) ∙ sym (ones_step n)

pub one_bit_ones : (a : ℕ) → a < 2 ^ 32 → eqb (ones a) 1 ≡ one_bit a
unfolding one_bit
one_bit_ones a h = sym (ap (λ (x : ℕ). eqb x 1) (ones_in_ones 32 a h))

pub one_bit_least : (a : ℕ) → one_bit a ≡ true → 0 < a
unfolding one_bit
one_bit_least zero e = absurd (false≢true e)
one_bit_least (suc a) e = zero-lt-suc a

pub one_bit_one : one_bit 1 ≡ true
unfolding one_bit ones_in
one_bit_one = refl

module _ (a b : ℕ) (p : 0 < a) where
  pub up_above : b ≤ round_up a b
  up_above = omega (arith, div-add-mod' (b + (a - 1)) a, mod-lt (b + (a - 1)) p)

  pub up_below : round_up a b < b + a
  up_below = omega (arith, div-mul-le_self (b + (a - 1)) a)

  pub up_aligned : aligned a (round_up a b) ≡ true
  unfolding aligned
  up_aligned = eq-eqb _ 0 (mul-mod_left ((b + (a - 1)) / a) a)

  -- no lower multiple is at or above b
  pub up_least : (x : ℕ) → aligned a x ≡ true → b ≤ x → round_up a b ≤ x
  unfolding aligned
  up_least x e h =
      let z : x % a ≡ 0 = eqb-true _ 0 e in
      let k = x / a in
      let d = div-add-mod' x a in
      let s : b + (a - 1) < suc k * a = omega (arith, suc-mul k a) in
      omega (arith, mul-le-mul_right a (le_of_suc-le-suc ((div-lt_iff_lt-mul p).1 s)))

  -- a multiple at or above b, by less than a, is the lowest
  pub up_is : (r : ℕ) → b ≤ r → r < b + a → r % a ≡ 0 → r ≡ round_up a b
  up_is r l m z =
      let d = div-add-mod' r a in
      let k : (b + (a - 1)) / a ≡ r / a = div-eq_of_lt-le a (omega arith) (rw (add-one, suc-mul) (omega arith)) in
      rw k (omega arith)
