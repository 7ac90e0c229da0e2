-- GPU memory: the heap and its places, and which are valid.
use Rattle.std.specs.Prelude.{Bool, false, not, ◌&&◌, ◌||◌, List, ℕ, ◌+◌, ◌^◌, eqb, leb, ltb}
use Rattle.words.specs.Align.{one_bit, aligned}
use Rattle.words.specs.Every.{every, pairs}
use Rattle.board.specs.declared.facts.Span.{Span}
use Rattle.board.specs.declared.memory.Block.{Block}

-- ---- runs of memory
abbrev pub span : (base size : ℕ) → Span
span base size = record { base = base; size = size }

-- one lies inside another
unfoldable pub inside : (outer inner : Span) → Bool
inside outer inner = leb outer.base inner.base && leb (inner.base + inner.size) (outer.base + outer.size)

-- two share no byte: one is empty, or one ends where the other begins or before
unfoldable pub apart : Span → Span → Bool
apart s t =
    eqb s.size 0 || (eqb t.size 0 || (leb (s.base + s.size) t.base || leb (t.base + t.size) s.base))

-- ---- blocks
-- a place that is free, as a release leaves it
abbrev pub no_block : Block
no_block = record { taken = false; locked = false; base = 0; size = 0; alignment = 0; flags = 0 }

-- the bytes of a block
abbrev pub bytes_of : Block → Span
bytes_of b = span b.base b.size

-- a run of memory has no byte of the block at a place
unfoldable pub clear_of : Span → Block → Bool
clear_of s b = not b.taken || apart s (bytes_of b)

-- ---- valid
-- the heap's base is above 0, base + size below 2^32
unfoldable pub valid_heap : Span → Bool
valid_heap heap = ltb 0 heap.base && ltb (heap.base + heap.size) (2 ^ 32)

-- a taken block is not empty, inside the heap, and aligned to its kept alignment, which has one bit set
unfoldable pub valid_block : (heap : Span) → Block → Bool
valid_block heap b =
    not b.taken
    || (ltb 0 b.size && (inside heap (bytes_of b) && (one_bit b.alignment && aligned b.alignment b.base)))

-- two blocks are disjoint
unfoldable pub disjoint : Block → Block → Bool
disjoint b c = not b.taken || clear_of (bytes_of b) c

-- the heap, which shares no byte with the frame buffer region, and its places
unfoldable pub valid_memory : (region heap : Span) → (blocks : List Block) → Bool
valid_memory region heap blocks =
    valid_heap heap && apart region heap && every (valid_block heap) blocks && pairs disjoint blocks
