-- The length of every answer of the group fits into a tag word.
use mathlib.Core.List.{List}
use Prim.Native.Nat.{ℕ, ◌^◌, ◌<◌}
use native.Mathlib.Omega.{arith}
use lib.ListN.{length}
use Rattle.board.specs.declared.display.Settings.{Settings}
use Rattle.table.specs.declared.kinds.FrameTag.{FrameTag}
use Rattle.table.specs.declared.kinds.Setting.{Setting}
use Rattle.display.specs.Decision.{setting_answer, group_answer}
use Rattle.display.specs.declared.decision.Decision.{Decision}

-- beside its bit 31
setting_fits : (setting : Setting) (s : Settings) → length (setting_answer setting s) < 2 ^ 31
setting_fits Setting.Physical s = omega arith
setting_fits Setting.Virtual s = omega arith
setting_fits Setting.Depth s = omega arith
setting_fits Setting.Order s = omega arith
setting_fits Setting.Alpha s = omega arith
setting_fits Setting.Offset s = omega arith

pub group_fits : (d : Decision) (t : FrameTag) (request : List ℕ) → length (group_answer d t request) < 2 ^ 31
unfolding group_answer
group_fits d (FrameTag.Get s) request = setting_fits s d.shown
group_fits d (FrameTag.Test s) request = setting_fits s d.shown
group_fits d (FrameTag.Set s) request = setting_fits s d.shown
group_fits d FrameTag.Pitch request = omega arith
group_fits d FrameTag.Allocate request = omega arith
group_fits d FrameTag.Release request = omega arith
