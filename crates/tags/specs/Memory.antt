-- GPU memory: allocate, and the tags that name a block by its handle.
use Rattle.std.specs.Prelude.{Bool, true, false, not, cond, ◌&&◌, List, ℕ, ◌-◌, ltb, get_or, set, Option, Some, None}
use Rattle.words.specs.Align.{one_bit, aligned}
use Rattle.words.specs.Every.{every}
use Rattle.words.specs.Lowest.{lowest}
use Rattle.words.specs.Numbers.{le, nth_word}
use Rattle.board.specs.Memory.{span, inside, no_block, clear_of}
use Rattle.board.specs.declared.facts.Span.{Span}
use Rattle.board.specs.declared.memory.Block.{Block}
use Rattle.table.specs.declared.kinds.HandleTag.{HandleTag}
use Rattle.tags.specs.Place.{place_of, item, change, id_of}
use Rattle.tags.specs.declared.memory.Granted.{Granted}

-- a handle is the place of its block + 1: 1 to 32
abbrev pub handle_count : ℕ
handle_count = 32

abbrev pub block_place : (handle : ℕ) → Option ℕ
block_place handle = place_of handle 1 handle_count

-- ---- allocate
-- the place of a handle is free
abbrev pub is_free : List Block → (handle : ℕ) → Bool
is_free blocks handle = not (get_or blocks (handle - 1) no_block).taken

-- the lowest free place comes first; 0 where all are taken
unfoldable pub free_handle : List Block → ℕ
free_handle blocks = lowest (is_free blocks) handle_count 1

-- an aligned address from which `size` bytes lie in the heap, between the blocks
unfoldable pub fits_at : (heap : Span) → List Block → (size alignment address : ℕ) → Bool
fits_at heap blocks size alignment address =
    aligned alignment address && inside heap (span address size) && every (clear_of (span address size)) blocks

-- the lowest such address in the heap; 0 where there is none
unfoldable pub lowest_address : (heap : Span) → List Block → (size alignment : ℕ) → ℕ
lowest_address heap blocks size alignment = lowest (fits_at heap blocks size alignment) heap.size heap.base

-- granted when the size is above 0, the alignment has one bit set, a place is free and there is an address
unfoldable pub grants : (heap : Span) → List Block → (size alignment : ℕ) → Bool
grants heap blocks size alignment =
    ltb 0 size && one_bit alignment && ltb 0 (free_handle blocks) && ltb 0 (lowest_address heap blocks size alignment)

-- a new block is not locked; its flags are kept
abbrev pub new_block : (base size alignment flags : ℕ) → Block
new_block base size alignment flags =
    record { taken = true; locked = false; base = base; size = size; alignment = alignment; flags = flags }

-- a new block with its handle
abbrev pub with_handle : (handle : ℕ) → Block → Option Granted
with_handle handle b = Some (record { handle = handle; block = b })

unfoldable pub allocation : (heap : Span) → List Block → (size alignment flags : ℕ) → Option Granted
allocation heap blocks size alignment flags =
    cond (grants heap blocks size alignment)
    (with_handle (free_handle blocks) (new_block (lowest_address heap blocks size alignment) size alignment flags))
    None

-- it answers the handle, 0 where it is refused
abbrev pub granted_handle : Option Granted → ℕ
granted_handle (Some g) = g.handle
granted_handle None = 0

abbrev pub blocks_with : Option Granted → List Block → List Block
blocks_with (Some g) blocks = set blocks (g.handle - 1) g.block
blocks_with None blocks = blocks

-- the request is size, alignment and flags
abbrev pub allocation_of : (request : List ℕ) → (heap : Span) → List Block → Option Granted
allocation_of request heap blocks =
    allocation heap blocks (nth_word request 0) (nth_word request 1) (nth_word request 2)

abbrev pub allocate_answer : (request : List ℕ) → (heap : Span) → List Block → List ℕ
allocate_answer request heap blocks = le 4 (granted_handle (allocation_of request heap blocks))

abbrev pub allocate_after : (request : List ℕ) → (heap : Span) → List Block → List Block
allocate_after request heap blocks = blocks_with (allocation_of request heap blocks) blocks

-- ---- lock, unlock and release: the request is a handle, unknown when it is 0, above 32, or its place is free
abbrev pub with_lock : Bool → Block → Block
with_lock locked b = record {
  taken = b.taken;
  locked = locked;
  base = b.base;
  size = b.size;
  alignment = b.alignment;
  flags = b.flags;
}

-- the block as a tag leaves it: one unlock undoes any number of locks, and release drops a locked block too
abbrev pub taken_after : HandleTag → Block → Block
taken_after HandleTag.Lock b = with_lock true b
taken_after HandleTag.Unlock b = with_lock false b
taken_after HandleTag.Release b = no_block

unfoldable pub handle_after : HandleTag → Block → Block
handle_after t b = cond b.taken (taken_after t b) b

-- what a tag answers of the block that it found: lock the address, 0 for an unknown handle; unlock and release 0, 1 for
-- an unknown handle
abbrev pub taken_value : HandleTag → Block → ℕ
taken_value HandleTag.Lock b = b.base
taken_value HandleTag.Unlock b = 0
taken_value HandleTag.Release b = 0

abbrev pub unknown_value : HandleTag → ℕ
unknown_value HandleTag.Lock = 0
unknown_value HandleTag.Unlock = 1
unknown_value HandleTag.Release = 1

unfoldable pub handle_value : HandleTag → Block → ℕ
handle_value t b = cond b.taken (taken_value t b) (unknown_value t)

abbrev pub block_of : List Block → (handle : ℕ) → Block
block_of blocks handle = item no_block blocks (block_place handle)

abbrev pub handle_answer : HandleTag → (request : List ℕ) → List Block → List ℕ
handle_answer t request blocks = le 4 (handle_value t (block_of blocks (id_of request)))

abbrev pub blocks_after : HandleTag → (request : List ℕ) → List Block → List Block
blocks_after t request blocks = change no_block (handle_after t) blocks (block_place (id_of request))
