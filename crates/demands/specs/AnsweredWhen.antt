-- A tag is answered exactly when its id is known, its word came with bit 31 clear, it stands before any fault and, for
-- one of the frame buffer group, the message is faultless and its operation does not mix tests with other tags.
use Rattle.std.specs.Prelude.{Bool, true, false, List, ◌⊎◌, ◌↔◌, ◌≡◌, ℕ, ◌<◌, get_or}
use Rattle.message.specs.declared.walk.Tag.{Tag}
use Rattle.board.specs.declared.record.Board.{Board}
use Rattle.table.specs.Table.{known, row_of}
use Rattle.table.specs.declared.kinds.FrameTag.{FrameTag}
use Rattle.table.specs.declared.kinds.Kind.{Kind}
use Rattle.requests.specs.Requests.{Request, passed, short, asks}
use Rattle.responder.specs.Reply.{reply}
use Rattle.demands.specs.Terms.{tag_of, trail_of, Answered, Faultless}

-- the id is known
abbrev pub IsKnown : (id : ℕ) → Type 0
IsKnown id = (kind : Kind) × (least : ℕ) × (row_of id ≡ known kind least)

-- the id is one of the group
abbrev pub OfGroup : (id : ℕ) → Type 0
OfGroup id = (tag : FrameTag) × (least : ℕ) × (row_of id ≡ known (Kind.Group tag) least)

-- a tag of the group is a test
abbrev pub test_of : FrameTag → Bool
test_of (FrameTag.Test s) = true
test_of (FrameTag.Get s) = false
test_of (FrameTag.Set s) = false
test_of FrameTag.Pitch = false
test_of FrameTag.Allocate = false
test_of FrameTag.Release = false

-- a request asks the group for a test, or for something else
abbrev pub AsksGroup : (test : Bool) → Request → Type 0
AsksGroup test passed = ⊥
AsksGroup test short = ⊥
AsksGroup test (asks (Kind.Outside t) request) = ⊥
AsksGroup test (asks (Kind.Group t) request) = test_of t ≡ test

-- among the group's tags that came with bit 31 clear is a test, and another tag
abbrev pub Mixes : List ℕ → Type 0
Mixes m =
    ((i : ℕ) × AsksGroup true (get_or (trail_of m).requests i passed))
    × ((j : ℕ) × AsksGroup false (get_or (trail_of m).requests j passed))

-- what a tag has that is answered
pub record Answerable (b : Board) (m : List ℕ) (t : Tag) : Type 0 where
  -- a known id
  pub known : IsKnown t.id
  -- a word that came with bit 31 clear
  pub bit_clear : t.word < 0x8000_0000
  -- no fault, or one behind it; a refused message has neither, since its place is 0
  pub before : Faultless b m ⊎ (t.at < (reply b m).answer.place)
  -- where it is one of the group: no fault at all, and an operation that does not mix tests with other tags
  pub group : OfGroup t.id → Faultless b m × (Mixes m → ⊥)

-- Of any bytes, on any record, whatever the index.
abbrev pub AnsweredWhen : Type 0
AnsweredWhen = (b : Board) (m : List ℕ) (i : ℕ) → Answered b m i ↔ Answerable b m (tag_of m i)
