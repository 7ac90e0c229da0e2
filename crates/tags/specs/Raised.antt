-- Describes code: an address raised over the blocks that are in its way.
use Rattle.std.specs.Prelude.{true, cond, List, ◌≡◌, ℕ, ◌+◌, ◌≤◌, ◌<◌}
use Rattle.words.specs.Align.{aligned}
use Rattle.words.specs.Every.{every}
use Rattle.words.specs.Round.{round_up}
use Rattle.board.specs.Memory.{span, clear_of}
use Rattle.board.specs.declared.memory.Block.{Block}

-- an address, or the lowest multiple behind a block that is in the way of `size` bytes from it on
abbrev pub raised_over : Block → (address size alignment : ℕ) → ℕ
raised_over b address size alignment =
    cond (clear_of (span address size) b) address (round_up alignment (b.base + b.size))

-- r is an aligned address, a or above; no aligned address from a on that is clear of the blocks is below it; and where
-- nothing was in the way, a is clear of them
pub record Raised (blocks : List Block) (a size alignment r : ℕ) : Type 0 where
  pub even : aligned alignment r ≡ true
  pub above : a ≤ r
  pub most : r < 0x3_0000_0000
  pub passes : (y : ℕ) → a ≤ y → aligned alignment y ≡ true → every (clear_of (span y size)) blocks ≡ true → r ≤ y
  pub stays : r ≡ a → every (clear_of (span a size)) blocks ≡ true
