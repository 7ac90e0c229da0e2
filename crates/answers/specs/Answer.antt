-- An answer is a list of bytes, and its length L is theirs.
use Rattle.std.specs.Prelude.{List, [], ◌∷◌, ℕ}
use Rattle.words.specs.Numbers.{word_bytes}

-- the bytes of two words
abbrev pub two_words : (a b : ℕ) → List ℕ
two_words a b = word_bytes (a ∷ b ∷ [])
