-- GPU memory: where a block goes, when an allocate is refused, and that blocks never overlap.
use Rattle.std.specs.Prelude.{true, false, List, ◌⊎◌, ◌↔◌, ◌≡◌, ℕ, ◌+◌, ◌%◌, ◌≤◌, ◌<◌, get_or}
use Rattle.words.specs.Align.{one_bit}
use Rattle.board.specs.Memory.{span, no_block, bytes_of}
use Rattle.board.specs.Record.{valid}
use Rattle.board.specs.declared.facts.Span.{Span}
use Rattle.board.specs.declared.memory.Block.{Block}
use Rattle.board.specs.declared.record.Board.{Board}
use Rattle.tags.specs.Memory.{handle_count, lowest_address, allocation, granted_handle}
use Rattle.responder.specs.Reply.{reply}

-- ---- the lowest address
-- an address is one of a run of memory
abbrev pub HasByte : Span → (address : ℕ) → Type 0
HasByte s address = (s.base ≤ address) × (address < s.base + s.size)

-- no address is in both
abbrev pub ShareNoByte : Span → Span → Type 0
ShareNoByte s t = (address : ℕ) → HasByte s address → HasByte t address → ⊥

-- the block at a place
abbrev pub block_at : Board → (place : ℕ) → Block
block_at b place = get_or b.blocks place no_block

-- an aligned address from which `size` bytes lie in the heap and meet no block
pub record RoomAt (b : Board) (size alignment address : ℕ) : Type 0 where
  pub even : address % alignment ≡ 0
  pub from_base : b.heap.base ≤ address
  pub in_heap : address + size ≤ b.heap.base + b.heap.size
  pub alone : (i : ℕ) → (block_at b i).taken ≡ true → ShareNoByte (span address size) (bytes_of (block_at b i))

-- no address has room
abbrev pub NoGap : Board → (size alignment : ℕ) → Type 0
NoGap b size alignment = (address : ℕ) → RoomAt b size alignment address → ⊥

pub record IsLowest (b : Board) (size alignment found : ℕ) : Type 0 where
  -- what is found, above 0, has room
  pub found_room : 0 < found → RoomAt b size alignment found
  -- no lower address has
  pub least : (address : ℕ) → RoomAt b size alignment address → found ≤ address
  -- and none is found, which 0 says, exactly if none has
  pub none : (found ≡ 0) ↔ NoGap b size alignment

-- On any valid record.
abbrev pub LowestAddress : Type 0
LowestAddress =
    (b : Board) → valid b ≡ true → (size alignment : ℕ) → 0 < size
    → IsLowest b size alignment (lowest_address b.heap b.blocks size alignment)

-- ---- the handle
abbrev pub handle_for : Board → (size alignment flags : ℕ) → ℕ
handle_for b size alignment flags = granted_handle (allocation b.heap b.blocks size alignment flags)

-- the four reasons
abbrev pub AllTaken : Board → Type 0
AllTaken b = (i : ℕ) → i < handle_count → (block_at b i).taken ≡ true

abbrev pub RefusedFor : Board → (size alignment : ℕ) → Type 0
RefusedFor b size alignment =
    (size ≡ 0) ⊎ ((one_bit alignment ≡ false) ⊎ (AllTaken b ⊎ NoGap b size alignment))

pub record HandleAnswered (b : Board) (size alignment flags : ℕ) : Type 0 where
  -- handle 0 exactly when one of them holds
  pub zero_when : (handle_for b size alignment flags ≡ 0) ↔ RefusedFor b size alignment
  -- otherwise the lowest free place + 1
  pub free : (i : ℕ) → handle_for b size alignment flags ≡ i + 1 → (block_at b i).taken ≡ false
  pub lowest_free : (i j : ℕ) → handle_for b size alignment flags ≡ i + 1 → j < i → (block_at b j).taken ≡ true

-- On any valid record.
abbrev pub Handles : Type 0
Handles = (b : Board) → valid b ≡ true → (size alignment flags : ℕ) → HandleAnswered b size alignment flags

-- ---- blocks never overlap: what any call leaves of a valid record
abbrev pub BlocksApart : Type 0
BlocksApart =
    (b : Board) (m : List ℕ) → valid b ≡ true
    → (i j : ℕ) → (i ≡ j → ⊥)
    → (block_at (reply b m).answer.board i).taken ≡ true → (block_at (reply b m).answer.board j).taken ≡ true
    → ShareNoByte (bytes_of (block_at (reply b m).answer.board i)) (bytes_of (block_at (reply b m).answer.board j))
