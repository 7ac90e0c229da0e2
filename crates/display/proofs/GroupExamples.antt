-- Worked examples, as one statement over a list of cases.
use mathlib.Core.Bool.{Bool, true, false, cond}
use mathlib.Core.List.{List, [], ◌∷◌, map}
use mathlib.Core.Path.{◌≡◌, refl}
use Prim.Native.Nat.{ℕ}
use lib.Count.{ones_in}
use Rattle.words.specs.Align.{one_bit}
use Rattle.words.specs.Numbers.{le, number_at, nth_word}
use Rattle.board.specs.Bench.{bench_display}
use Rattle.board.specs.Display.{pitch, need, sides, depths, offsets, possible, supported}
use Rattle.board.specs.Memory.{span}
use Rattle.board.specs.declared.display.Display.{Display}
use Rattle.board.specs.declared.display.Size.{Size}
use Rattle.board.specs.declared.facts.Span.{Span}
use Rattle.table.specs.declared.kinds.FrameTag.{FrameTag}
use Rattle.table.specs.declared.kinds.Setting.{Setting}
use Rattle.answers.specs.Answer.{two_words}
use Rattle.display.specs.Decision.{nowhere, supported_from, placed_at, allocatable, fits_buffer, accepted, decided, group_answer}
use Rattle.display.specs.Operation.{with_setting, unasked, noted}
use Rattle.display.specs.declared.decision.Decision.{Decision}
use Rattle.display.specs.declared.operation.Operation.{Operation}

-- a group tag with its request
pub record GroupTag : Type 0 where
  pub group_tag : FrameTag
  pub request : List ℕ

pub data GroupQuestion : Type 0 where
  Alignment : (a : ℕ) → GroupQuestion
  Operated : Display → List GroupTag → GroupQuestion

pub data GroupReply : Type 0 where
  IsAlignment : Bool → GroupReply
  Answers : List (List ℕ) → (afterwards : Display) → GroupReply

pub record GroupCase : Type 0 where
  pub asks_for : GroupQuestion
  pub gets : GroupReply

abbrev pub operation_of : Operation → List GroupTag → Operation
operation_of o [] = o
operation_of o (t ∷ ts) = operation_of (noted t.group_tag t.request o) ts

abbrev pub decision_on : Display → List GroupTag → Decision
decision_on d ts = decided d (operation_of (unasked d.settings) ts)

-- what the tags answer, one after the other; nothing where they are not answered
abbrev pub answers_to : Decision → List GroupTag → List (List ℕ)
answers_to r ts = cond r.answered (map (λ (t : GroupTag). group_answer r t.group_tag t.request) ts) []

abbrev pub group_reply : GroupQuestion → GroupReply
group_reply (Alignment a) = IsAlignment (one_bit a)
group_reply (Operated d ts) = Answers (answers_to (decision_on d ts) ts) (decision_on d ts).display

abbrev pub group_case : GroupQuestion → GroupReply → GroupCase
group_case q r = record { asks_for = q; gets = r }

-- ---- tags
abbrev pub get_tag : Setting → GroupTag
get_tag s = record { group_tag = FrameTag.Get s; request = [] }

abbrev pub test_tag : Setting → (request : List ℕ) → GroupTag
test_tag s request = record { group_tag = FrameTag.Test s; request = request }

abbrev pub set_tag : Setting → (request : List ℕ) → GroupTag
set_tag s request = record { group_tag = FrameTag.Set s; request = request }

abbrev pub pitch_tag : GroupTag
pitch_tag = record { group_tag = FrameTag.Pitch; request = [] }

abbrev pub allocate_tag : (alignment : ℕ) → GroupTag
allocate_tag a = record { group_tag = FrameTag.Allocate; request = le 4 a }

abbrev pub release_tag : GroupTag
release_tag = record { group_tag = FrameTag.Release; request = [] }

-- ---- displays
-- both sizes the same
abbrev pub screen_of : (width height depth : ℕ) (region buffer : Span) → Display
screen_of width height depth region buffer =
    let size : Size = record { width = width; height = height } in
    record {
      region = region;
      settings = record { physical = size; logical = size; offset = record { x = 0; y = 0 }; depth = depth; order = 1; alpha = 2 };
      buffer = buffer;
    }

abbrev pub lab_region : Span
lab_region = span 0x3C00_0000 8_388_608

-- 640 x 480 at depth 24, with no buffer and with one
abbrev pub lab : Display
lab = screen_of 640 480 24 lab_region nowhere

abbrev pub lab_buffer : List ℕ
lab_buffer = two_words 0x3C00_0000 0x000E_1000

abbrev pub lab_standing : Display
lab_standing = screen_of 640 480 24 lab_region (span 0x3C00_0000 0x000E_1000)

-- 4,096 x 4,096, and a region that ends at the top of memory
abbrev pub large_screen : (base extent : ℕ) (buffer : Span) → Display
large_screen base extent buffer = screen_of 4096 4096 32 (span base extent) buffer

-- 800 x 480 shown of a virtual 800 x 960, from a row on
abbrev pub shown_from : (row : ℕ) → Display
shown_from row = record {
  region = lab_region;
  settings = record {
    physical = record { width = 800; height = 480 };
    logical = record { width = 800; height = 960 };
    offset = record { x = 0; y = row };
    depth = 32;
    order = 1;
    alpha = 2;
  };
  buffer = nowhere;
}

unfoldable pub group_cases : List GroupCase
group_cases =
    group_case (Alignment 0) (IsAlignment false)
    ∷ group_case (Alignment 24) (IsAlignment false)
    ∷ group_case (Alignment 1) (IsAlignment true)
    ∷ group_case (Alignment 16) (IsAlignment true)
    ∷ group_case (Alignment 0x8000_0000) (IsAlignment true)
    -- two messages: the sets, then the buffer
    ∷ group_case
    (Operated bench_display (set_tag Setting.Physical (two_words 640 480) ∷ set_tag Setting.Virtual (two_words 640 480) ∷ set_tag Setting.Depth (le 4 24) ∷ []))
    (Answers (two_words 640 480 ∷ two_words 640 480 ∷ le 4 24 ∷ []) lab)
    ∷ group_case (Operated lab (allocate_tag 16 ∷ [])) (Answers (lab_buffer ∷ []) lab_standing)
    -- alignments
    ∷ group_case (Operated lab (allocate_tag 0 ∷ [])) (Answers (two_words 0 0 ∷ []) lab)
    ∷ group_case (Operated lab (allocate_tag 24 ∷ [])) (Answers (two_words 0 0 ∷ []) lab)
    ∷ group_case (Operated lab (allocate_tag 1 ∷ [])) (Answers (lab_buffer ∷ []) lab_standing)
    ∷ group_case (Operated lab (allocate_tag 24 ∷ allocate_tag 16 ∷ [])) (Answers (lab_buffer ∷ lab_buffer ∷ []) lab_standing)
    ∷ group_case (Operated (large_screen 0x8000_0000 0x7FFF_FFFF nowhere) (allocate_tag 0x8000_0000 ∷ []))
    (Answers (two_words 0x8000_0000 0x0400_0000 ∷ []) (large_screen 0x8000_0000 0x7FFF_FFFF (span 0x8000_0000 0x0400_0000)))
    ∷ group_case (Operated (large_screen 0x8000_0001 0x7FFF_FFFE nowhere) (allocate_tag 0x8000_0000 ∷ []))
    (Answers (two_words 0 0 ∷ []) (large_screen 0x8000_0001 0x7FFF_FFFE nowhere))
    -- tests
    ∷ group_case (Operated lab_standing (test_tag Setting.Depth (le 4 8) ∷ test_tag Setting.Depth (le 4 16) ∷ []))
    (Answers (le 4 16 ∷ le 4 16 ∷ []) lab_standing)
    ∷ group_case (Operated lab_standing (test_tag Setting.Depth (le 4 12) ∷ [])) (Answers (le 4 24 ∷ []) lab_standing)
    ∷ group_case (Operated lab_standing (set_tag Setting.Depth (le 4 16) ∷ test_tag Setting.Depth (le 4 8) ∷ release_tag ∷ [])) (Answers [] lab_standing)
    -- sets and gets
    ∷ group_case (Operated lab (get_tag Setting.Depth ∷ set_tag Setting.Depth (le 4 8) ∷ set_tag Setting.Depth (le 4 32) ∷ pitch_tag ∷ [])) (Answers
    (le 4 32 ∷ le 4 32 ∷ le 4 32 ∷ le 4 2560 ∷ []) (screen_of 640 480 32 lab_region nowhere))
    ∷ group_case (Operated lab_standing (set_tag Setting.Depth (le 4 32) ∷ [])) (Answers (le 4 24 ∷ []) lab_standing)
    ∷ group_case (Operated lab_standing (set_tag Setting.Depth (le 4 32) ∷ release_tag ∷ []))
    (Answers (le 4 32 ∷ [] ∷ []) (screen_of 640 480 32 lab_region nowhere))
    ∷ group_case (Operated lab_standing (set_tag Setting.Depth (le 4 25) ∷ release_tag ∷ [])) (Answers (le 4 24 ∷ [] ∷ []) lab_standing)
    ∷ group_case (Operated lab_standing (allocate_tag 16 ∷ release_tag ∷ [])) (Answers (lab_buffer ∷ [] ∷ []) lab_standing)
    -- virtual offsets
    ∷ group_case (Operated bench_display (set_tag Setting.Virtual (two_words 800 960) ∷ set_tag Setting.Offset (two_words 0 480) ∷ []))
    (Answers (two_words 800 960 ∷ two_words 0 480 ∷ []) (shown_from 480))
    ∷ group_case (Operated (shown_from 480) (set_tag Setting.Offset (two_words 0 481) ∷ [])) (Answers (two_words 0 480 ∷ []) (shown_from 480))
    ∷ group_case (Operated (shown_from 480) (set_tag Setting.Virtual (two_words 800 959) ∷ [])) (Answers (two_words 800 960 ∷ []) (shown_from 480))
    ∷ group_case (Operated (shown_from 480) (test_tag Setting.Offset (two_words 0 0xFFFF_FE20) ∷ [])) (Answers (two_words 0 480 ∷ []) (shown_from 480))
    ∷ group_case (Operated bench_display (test_tag Setting.Physical (two_words 1024 768) ∷ test_tag Setting.Offset (two_words 1 0) ∷ []))
    (Answers (two_words 800 480 ∷ two_words 0 0 ∷ []) bench_display)
    ∷ []

pub group_examples : map (λ (c : GroupCase). group_reply c.asks_for) group_cases ≡ map (λ (c : GroupCase). c.gets) group_cases
unfolding group_cases number_at nth_word one_bit ones_in supported_from pitch need sides depths
    offsets possible supported with_setting noted placed_at allocatable fits_buffer accepted decided group_answer
group_examples = refl
