-- Alignments.
use Rattle.std.specs.Prelude.{Bool, ℕ, ◌%◌, eqb}
use Rattle.std.specs.Int.Count.{ones_in}

-- an alignment, a word, has exactly one bit set
unfoldable pub one_bit : ℕ → Bool
unfolding ones_in
one_bit a = eqb (ones_in 32 a) 1

-- an address is a multiple of an alignment
unfoldable pub aligned : (alignment address : ℕ) → Bool
aligned alignment address = eqb (address % alignment) 0
