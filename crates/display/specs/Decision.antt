-- The decision on an operation.
use Rattle.std.specs.Prelude.{Bool, true, false, cond, ◌&&◌, Option, Some, None, List, [], ℕ, ◌+◌, eqb, leb}
use Rattle.words.specs.Align.{one_bit}
use Rattle.words.specs.Numbers.{le}
use Rattle.words.specs.Round.{round_up}
use Rattle.board.specs.Display.{pitch, need, supported}
use Rattle.board.specs.Memory.{span}
use Rattle.board.specs.declared.display.Display.{Display}
use Rattle.board.specs.declared.display.Settings.{Settings}
use Rattle.board.specs.declared.facts.Span.{Span}
use Rattle.table.specs.declared.kinds.FrameTag.{FrameTag}
use Rattle.table.specs.declared.kinds.Setting.{Setting}
use Rattle.answers.specs.Answer.{two_words}
use Rattle.display.specs.declared.decision.Decision.{Decision}
use Rattle.display.specs.declared.operation.Operation.{Operation}

abbrev pub nowhere : Span
nowhere = span 0 0

-- what may be proposed, given the record's settings: whatever they are, what is supported in the region
unfoldable pub supported_from : Display → Settings → Bool
supported_from d proposal = supported d.region.size proposal

-- where an allocate places its buffer: at the lowest multiple of the alignment at or above the region's base, with the
-- size that is needed
unfoldable pub placed_at : (alignment : ℕ) → Display → (proposal : Settings) → Span
placed_at alignment d proposal = span (round_up alignment d.region.base) (need proposal)

-- with an allocate tag: the last one's alignment has exactly one bit set, and from that base on the region has room for
-- need
unfoldable pub allocatable : (alignment : ℕ) → Display → (proposal : Settings) → Bool
allocatable alignment d proposal =
    let placed = placed_at alignment d proposal in
    one_bit alignment && leb (placed.base + placed.size) (d.region.base + d.region.size)

-- without one, and with a buffer standing and no release: need is at most the buffer's size
unfoldable pub fits_buffer : Display → Operation → Bool
fits_buffer d o =
    cond (eqb d.buffer.size 0) true (cond o.releases true (leb (need o.proposal) d.buffer.size))

-- there is a buffer for it: with an allocate tag, by its alignment, and without one
abbrev pub has_buffer : (alignment : Option ℕ) → Display → Operation → Bool
has_buffer (Some alignment) d o = allocatable alignment d o.proposal
has_buffer None d o = fits_buffer d o

-- the operation is accepted when its proposal is supported, and there is a buffer for it
unfoldable pub accepted : Display → Operation → Bool
accepted d o = supported_from d o.proposal && has_buffer o.alignment d o

-- an allocate answers the buffer that it places
abbrev pub buffer_placed : (alignment : Option ℕ) → Display → Operation → Span
buffer_placed (Some alignment) d o = placed_at alignment d o.proposal
buffer_placed None d o = nowhere

-- release drops the buffer; allocate, whatever the order, places one
abbrev pub buffer_after : (alignment : Option ℕ) → (releases : Bool) → Display → Operation → Span
buffer_after (Some alignment) releases d o = placed_at alignment d o.proposal
buffer_after None true d o = nowhere
buffer_after None false d o = d.buffer

-- these settings are answered, with their pitch; no operation is accepted, and the display is left as it is given
abbrev pub showing : Settings → Display → Decision
showing s d =
    record { answered = true; accepted = false; shown = s; pitch = pitch s; placed = nowhere; display = d }

-- the group is left alone: no tag of it is answered, and nothing changes
abbrev pub left_alone : Display → Decision
left_alone d = record {
  answered = false;
  accepted = false;
  shown = d.settings;
  pitch = pitch d.settings;
  placed = nowhere;
  display = d;
}

-- tests only: each answers the proposal where it is supported, and the current value where not; nothing changes
abbrev pub tested : (is_supported : Bool) → Display → Operation → Decision
tested true d o = showing o.proposal d
tested false d o = showing d.settings d

-- sets and gets: accepted, the settings stand, and every allocate answers the same base and size; refused, nothing
-- changes and allocate answers 0, 0
abbrev pub carried_out : (is_accepted : Bool) → Display → Operation → Decision
carried_out true d o = record {
  answered = true;
  accepted = true;
  shown = o.proposal;
  pitch = pitch o.proposal;
  placed = buffer_placed o.alignment d o;
  display = record {
    region = d.region;
    settings = o.proposal;
    buffer = buffer_after o.alignment o.releases d o;
  };
}
carried_out false d o = showing d.settings d

-- tests together with other tags leave the group alone; without a group tag there is nothing to decide
abbrev pub decided_by : (tests others : Bool) → Display → Operation → Decision
decided_by true true d o = left_alone d
decided_by true false d o = tested (supported_from d o.proposal) d o
decided_by false true d o = carried_out (accepted d o) d o
decided_by false false d o = left_alone d

unfoldable pub decided : Display → Operation → Decision
decided d o = decided_by o.tests o.others d o

-- ---- what a group tag answers
abbrev pub setting_answer : Setting → Settings → List ℕ
setting_answer Setting.Physical s = two_words s.physical.width s.physical.height
setting_answer Setting.Virtual s = two_words s.logical.width s.logical.height
setting_answer Setting.Depth s = le 4 s.depth
setting_answer Setting.Order s = le 4 s.order
setting_answer Setting.Alpha s = le 4 s.alpha
setting_answer Setting.Offset s = two_words s.offset.x s.offset.y

-- by the decision and its own request: every get, test and set the settings shown, every allocate the same base and
-- size, release nothing
unfoldable pub group_answer : Decision → FrameTag → (request : List ℕ) → List ℕ
group_answer d (FrameTag.Get s) request = setting_answer s d.shown
group_answer d (FrameTag.Test s) request = setting_answer s d.shown
group_answer d (FrameTag.Set s) request = setting_answer s d.shown
group_answer d FrameTag.Pitch request = le 4 d.pitch
group_answer d FrameTag.Allocate request = two_words d.placed.base d.placed.size
group_answer d FrameTag.Release request = []
