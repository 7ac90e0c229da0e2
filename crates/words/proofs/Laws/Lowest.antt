-- Laws of the lowest number that passes a test.
use mathlib.Core.Bool.{Bool, true, false, true≢false}
use mathlib.Core.Path.{◌≡◌, refl, sym, ap, subst, ◌∙◌}
use Prim.Native.Nat.{ℕ, zero, suc, ◌+◌, ◌≤◌, ◌<◌}
use native.Mathlib.Decide.{ℕ_discrete}
use native.Mathlib.Omega.{arith}
use Rattle.words.specs.Lowest.{lowest}

-- none of the numbers from a on passes before x
abbrev pub Passed : (ℕ → Bool) → (a x : ℕ) → Type 0
Passed p a x = (y : ℕ) → a ≤ y → p y ≡ true → x ≤ y

-- r is the lowest of the n numbers from a on that passes, or 0 and none of them passes
pub record Lowest (p : ℕ → Bool) (n a r : ℕ) : Type 0 where
  pub passes : 0 < r → p r ≡ true
  pub least : 0 < r → a ≤ r
  pub most : 0 < r → r < a + n
  pub lowest : (x : ℕ) → a ≤ x → x < a + n → p x ≡ true → (0 < r) × (r ≤ x)

module _ (p : ℕ → Bool) where
  hit : (n a : ℕ) → p a ≡ true → lowest p (suc n) a ≡ a
  unfolding lowest
  hit n a e = rw (e, lowest)

  miss : (n a : ℕ) → p a ≡ false → lowest p (suc n) a ≡ lowest p n (suc a)
  unfolding lowest
  miss n a e = rw (e, lowest)

  none : (a : ℕ) → lowest p zero a ≡ 0
  unfolding lowest
  none a = refl

  lowest_go : (n a : ℕ) → 0 < a → (b : Bool) → p a ≡ b → Lowest p n (suc a) (lowest p n (suc a)) → Lowest p (suc n) a (lowest p (suc n) a)
  lowest_go n a pos true e ih =
      subst (λ (r : ℕ). Lowest p (suc n) a r) (sym (hit n a e))
      (record { passes = λ _. e; least = λ _. omega arith; most = λ _. omega arith; lowest = λ x l m t. (pos, l) })
  lowest_go n a pos false e ih =
      subst (λ (r : ℕ). Lowest p (suc n) a r) (sym (miss n a e))
      (record {
        passes = λ h. ih.passes h;
        least = λ h. let l = ih.least h in omega arith;
        most = λ h. let l = ih.most h in omega arith;
        lowest = λ x l m t. ih.lowest x (after x l t (ℕ_discrete a x)) (omega arith) t;
      })
    where
      after : (x : ℕ) → a ≤ x → p x ≡ true → Dec (a ≡ x) → suc a ≤ x
      after x l t (yes q) = absurd (true≢false (sym t ∙ sym (ap p q) ∙ e))
      after x l t (no q) = omega arith

  pub lowest_is : (n a : ℕ) → 0 < a → Lowest p n a (lowest p n a)
  lowest_is zero a pos =
      subst (λ (r : ℕ). Lowest p zero a r) (sym (none a))
      (record {
        passes = λ h. absurd (omega arith);
        least = λ h. absurd (omega arith);
        most = λ h. absurd (omega arith);
        lowest = λ x l m t. absurd (omega arith);
      })
  lowest_is (suc n) a pos = lowest_go n a pos (p a) refl (lowest_is n (suc a) (omega arith))

  -- ---- a search that passes over numbers
  module _ (n a : ℕ) (pos : 0 < a) where
    pub lowest_found : (r : ℕ) → a ≤ r → r < a + n → p r ≡ true → Passed p a r → r ≡ lowest p n a
    lowest_found r l m e s =
        let w = lowest_is n a pos in
        let h = w.lowest r l m e in
        let k = s (lowest p n a) (w.least h.0) (w.passes h.0) in
        omega arith

    pub lowest_none : Passed p a (a + n) → 0 ≡ lowest p n a
    lowest_none s = go (ℕ_discrete (lowest p n a) 0)
      where
        go : Dec (lowest p n a ≡ 0) → 0 ≡ lowest p n a
        go (yes e) = sym e
        go (no e) =
            let w = lowest_is n a pos in
            let h : 0 < lowest p n a = omega arith in
            let k = s (lowest p n a) (w.least h) (w.passes h) in
            let l = w.most h in
            absurd (omega arith)
