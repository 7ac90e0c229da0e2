-- An answer written into its tag.
use Rattle.std.specs.Prelude.{List, ℕ, ◌+◌, length, take}
use Rattle.words.specs.Numbers.{le}
use Rattle.words.specs.Put.{put}
use Rattle.message.specs.Sizes.{tag_header}
use Rattle.message.specs.Walk.{word_place}

-- the tag word becomes 0x80000000 + L, L being the answer's whole length, and the value's first min(L, v) bytes become
-- the answer's first; the rest stays
unfoldable pub answered : (at size : ℕ) → (answer : List ℕ) → List ℕ → List ℕ
answered at size answer m =
    put (at + tag_header) (take size answer) (put (at + word_place) (le 4 (0x8000_0000 + length answer)) m)
