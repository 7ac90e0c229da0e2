-- The lowest number that passes a test.
use Rattle.std.specs.Prelude.{Bool, true, false, ℕ, zero, suc}

-- the lowest of the `count` numbers from `first` on that passes; 0 where none of them does
unfoldable pub lowest : (ℕ → Bool) → (count first : ℕ) → ℕ
lowest p zero first = 0
lowest p (suc count) first = elim (p first) [ true ↦ first | false ↦ lowest p count (suc first) ]
