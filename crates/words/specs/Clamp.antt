-- Clamping.
use Rattle.std.specs.Prelude.{ℕ, min, max}

-- a number clamped to a minimum and a maximum
abbrev pub clamp : (low high x : ℕ) → ℕ
clamp low high x = min high (max low x)
