-- Worked examples on the bench record, as one statement over one list of cases.
use Rattle.std.specs.Prelude.{Bool, true, false, ◌&&◌, List, [], ◌∷◌, ℕ, T, eqb}
use Rattle.words.specs.Numbers.{word_bytes}
use Rattle.words.specs.Every.{every}
use Rattle.message.specs.Builder.{Call}
use Rattle.message.specs.Outcomes.{done}
use Rattle.board.specs.Bench.{bench}
use Rattle.board.specs.Display.{pitch_of}
use Rattle.board.specs.declared.display.Settings.{Settings}
use Rattle.board.specs.declared.record.Board.{Board}
use Rattle.tags.specs.Voltage.{max_offset, min_offset}
use Rattle.responder.specs.Reply.{reply}
use Rattle.responder.specs.declared.respond.Served.{Served}

-- a message served on the record that earlier ones left; a message that is done, with the settings that it leaves; a
-- pitch; the offsets of a voltage's maximum and minimum
pub data Case : Type 0 where
  serves : (earlier : List (List ℕ)) (given : List ℕ) (outcome place : ℕ) (gives : List ℕ) → Case
  leaves_settings : (given gives : List ℕ) (afterwards : Settings) → Case
  has_pitch : (width depth pitch : ℕ) → Case
  has_offsets : (millivolts maximum minimum : ℕ) → Case

abbrev pub equal : List ℕ → List ℕ → Bool
equal [] [] = true
equal [] (y ∷ ys) = false
equal (x ∷ xs) [] = false
equal (x ∷ xs) (y ∷ ys) = eqb x y && equal xs ys

-- the numbers of settings, each once
abbrev pub numbers_of : Settings → List ℕ
numbers_of s =
    s.physical.width ∷ s.physical.height
    ∷ s.logical.width ∷ s.logical.height
    ∷ s.offset.x ∷ s.offset.y
    ∷ s.depth ∷ s.order ∷ s.alpha ∷ []

abbrev pub board_after : Board → List (List ℕ) → Board
board_after b [] = b
board_after b (m ∷ ms) = board_after (reply b (word_bytes m)).answer.board ms

-- the reply has this outcome, this place and these words
abbrev pub is_reply : Call Served → (outcome place : ℕ) (words : List ℕ) → Bool
is_reply r outcome place words =
    eqb r.answer.outcome outcome && eqb r.answer.place place && equal r.bytes (word_bytes words)

unfoldable pub comes_out : Case → Bool
comes_out (serves earlier given outcome place gives) =
    is_reply (reply (board_after bench earlier) (word_bytes given)) outcome place gives
comes_out (leaves_settings given gives afterwards) =
    let r = reply bench (word_bytes given) in
    is_reply r done 0 gives && equal (numbers_of r.answer.board.display.settings) (numbers_of afterwards)
comes_out (has_pitch width depth pitch) = eqb (pitch_of width depth) pitch
comes_out (has_offsets millivolts maximum minimum) =
    eqb (max_offset millivolts) maximum && eqb (min_offset millivolts) minimum

-- 640 x 480, depth 24
abbrev pub screen : List ℕ
screen =
    80 ∷ 0
    ∷ 0x00048003 ∷ 8 ∷ 0 ∷ 640 ∷ 480
    ∷ 0x00048004 ∷ 8 ∷ 0 ∷ 640 ∷ 480
    ∷ 0x00048005 ∷ 4 ∷ 0 ∷ 24
    ∷ 0 ∷ 0 ∷ 0 ∷ 0 ∷ []

abbrev pub screen_set : List ℕ
screen_set =
    80 ∷ 0x80000000
    ∷ 0x00048003 ∷ 8 ∷ 0x80000008 ∷ 640 ∷ 480
    ∷ 0x00048004 ∷ 8 ∷ 0x80000008 ∷ 640 ∷ 480
    ∷ 0x00048005 ∷ 4 ∷ 0x80000004 ∷ 24
    ∷ 0 ∷ 0 ∷ 0 ∷ 0 ∷ []

unfoldable pub cases : List Case
cases =
    -- B1: no tag
    serves [] (12 ∷ 0 ∷ 0 ∷ []) 0 0 (12 ∷ 0x80000000 ∷ 0 ∷ [])
    -- B2: the settings of a screen; B3: then its buffer
    ∷ leaves_settings screen screen_set (record {
      physical = record { width = 640; height = 480 };
      logical = record { width = 640; height = 480 };
      offset = record { x = 0; y = 0 };
      depth = 24;
      order = 1;
      alpha = 2;
    })
    ∷ serves (screen ∷ []) (32 ∷ 0 ∷ 0x00040001 ∷ 8 ∷ 0 ∷ 16 ∷ 0 ∷ 0 ∷ []) 0 0
    (32 ∷ 0x80000000 ∷ 0x00040001 ∷ 8 ∷ 0x80000008 ∷ 0x3C000000 ∷ 0x000E1000 ∷ 0 ∷ [])
    -- B4, B5: pitches
    ∷ has_pitch 641 24 1952
    ∷ has_pitch 1 8 32
    -- B6, B7: offsets; -1 in two's complement
    ∷ has_offsets 1199 0xFFFFFFFF 0
    ∷ has_offsets 1226 1 2
    -- B8: a MAC address of six bytes in a value of four
    ∷ serves [] (28 ∷ 0 ∷ 0x00010003 ∷ 4 ∷ 0 ∷ 0 ∷ 0 ∷ []) 0 0
    (28 ∷ 0x80000000 ∷ 0x00010003 ∷ 4 ∷ 0x80000006 ∷ 0x4DEB27B8 ∷ 0 ∷ [])
    -- B9: a value size near 2^32
    ∷ serves [] (24 ∷ 0 ∷ 0x00010003 ∷ 0xFFFFFFFD ∷ 0 ∷ 0 ∷ []) 5 8
    (24 ∷ 0x80000001 ∷ 0x00010003 ∷ 0xFFFFFFFD ∷ 0 ∷ 0 ∷ [])
    -- B10: a rate above the clock's maximum
    ∷ serves [] (32 ∷ 0 ∷ 0x00038002 ∷ 8 ∷ 0 ∷ 3 ∷ 2000000000 ∷ 0 ∷ []) 0 0
    (32 ∷ 0x80000000 ∷ 0x00038002 ∷ 8 ∷ 0x80000008 ∷ 3 ∷ 1500000000 ∷ 0 ∷ [])
    ∷ []

-- Every case comes out as it says.
abbrev pub Examples : Type 0
Examples = T (every comes_out cases)
