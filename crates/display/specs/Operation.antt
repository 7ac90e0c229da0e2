-- All group tags of a message as one operation.
use Rattle.std.specs.Prelude.{true, false, Some, None, List, ℕ}
use Rattle.words.specs.Numbers.{nth_word}
use Rattle.board.specs.declared.display.Offset.{Offset}
use Rattle.board.specs.declared.display.Settings.{Settings}
use Rattle.board.specs.declared.display.Size.{Size}
use Rattle.table.specs.declared.kinds.FrameTag.{FrameTag}
use Rattle.table.specs.declared.kinds.Setting.{Setting}
use Rattle.display.specs.declared.operation.Operation.{Operation}

-- ---- a setting as a request's words say it
abbrev pub size_of : (request : List ℕ) → Size
size_of request = record { width = nth_word request 0; height = nth_word request 1 }

abbrev pub offset_of : (request : List ℕ) → Offset
offset_of request = record { x = nth_word request 0; y = nth_word request 1 }

-- the settings with one of them as a request says
unfoldable pub with_setting : Setting → (request : List ℕ) → Settings → Settings
with_setting Setting.Physical request s = record {
  physical = size_of request;
  logical = s.logical;
  offset = s.offset;
  depth = s.depth;
  order = s.order;
  alpha = s.alpha;
}
with_setting Setting.Virtual request s = record {
  physical = s.physical;
  logical = size_of request;
  offset = s.offset;
  depth = s.depth;
  order = s.order;
  alpha = s.alpha;
}
with_setting Setting.Depth request s = record {
  physical = s.physical;
  logical = s.logical;
  offset = s.offset;
  depth = nth_word request 0;
  order = s.order;
  alpha = s.alpha;
}
with_setting Setting.Order request s = record {
  physical = s.physical;
  logical = s.logical;
  offset = s.offset;
  depth = s.depth;
  order = nth_word request 0;
  alpha = s.alpha;
}
with_setting Setting.Alpha request s = record {
  physical = s.physical;
  logical = s.logical;
  offset = s.offset;
  depth = s.depth;
  order = s.order;
  alpha = nth_word request 0;
}
with_setting Setting.Offset request s = record {
  physical = s.physical;
  logical = s.logical;
  offset = offset_of request;
  depth = s.depth;
  order = s.order;
  alpha = s.alpha;
}

-- ---- the operation
-- no tag yet: the proposal is the current settings
abbrev pub unasked : Settings → Operation
unasked s =
    record { tests = false; others = false; proposal = s; alignment = None; releases = false }

-- with a test, and with a tag that is none
abbrev pub with_test : Operation → Operation
with_test o = record {
  tests = true;
  others = o.others;
  proposal = o.proposal;
  alignment = o.alignment;
  releases = o.releases;
}

abbrev pub with_other : Operation → Operation
with_other o = record {
  tests = o.tests;
  others = true;
  proposal = o.proposal;
  alignment = o.alignment;
  releases = o.releases;
}

-- with a request for a setting: it goes into the proposal, over earlier ones
abbrev pub with_proposal : Setting → (request : List ℕ) → Operation → Operation
with_proposal s request o = record {
  tests = o.tests;
  others = o.others;
  proposal = with_setting s request o.proposal;
  alignment = o.alignment;
  releases = o.releases;
}

-- with an allocate, whose alignment counts where it is the last; with a release
abbrev pub with_allocate : (alignment : ℕ) → Operation → Operation
with_allocate alignment o = record {
  tests = o.tests;
  others = o.others;
  proposal = o.proposal;
  alignment = Some alignment;
  releases = o.releases;
}

abbrev pub with_release : Operation → Operation
with_release o = record {
  tests = o.tests;
  others = o.others;
  proposal = o.proposal;
  alignment = o.alignment;
  releases = true;
}

-- one tag more, with its request
unfoldable pub noted : FrameTag → (request : List ℕ) → Operation → Operation
noted (FrameTag.Get s) request o = with_other o
noted (FrameTag.Test s) request o = with_test (with_proposal s request o)
noted (FrameTag.Set s) request o = with_other (with_proposal s request o)
noted FrameTag.Pitch request o = with_other o
noted FrameTag.Allocate request o = with_other (with_allocate (nth_word request 0) o)
noted FrameTag.Release request o = with_other (with_release o)
