-- Laws of the operation.
use mathlib.Core.List.{List}
use mathlib.Core.Path.{◌≡◌, refl}
use Prim.Native.Nat.{ℕ}
use Rattle.board.specs.declared.display.Settings.{Settings}
use Rattle.table.specs.declared.kinds.Setting.{Setting}
use Rattle.display.specs.Operation.{with_setting}

-- of two requests for a setting the later counts
pub later_counts : (setting : Setting) (r r' : List ℕ) (s : Settings) → with_setting setting r' (with_setting setting r s) ≡ with_setting setting r' s
unfolding with_setting
later_counts Setting.Physical r r' s = refl
later_counts Setting.Virtual r r' s = refl
later_counts Setting.Depth r r' s = refl
later_counts Setting.Order r r' s = refl
later_counts Setting.Alpha r r' s = refl
later_counts Setting.Offset r r' s = refl
