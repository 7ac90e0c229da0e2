-- The part of the virtual picture that the screen shows lies in it.
use Rattle.std.specs.Prelude.{true, List, ◌⊎◌, ◌≡◌, ℕ, ◌+◌, ◌≤◌}
use Rattle.board.specs.Display.{supported}
use Rattle.board.specs.Record.{valid}
use Rattle.board.specs.declared.display.Settings.{Settings}
use Rattle.board.specs.declared.record.Board.{Board}
use Rattle.responder.specs.Reply.{reply}

-- on one axis: it ends in the picture, or begins where the picture begins
abbrev pub ShownInside : (offset physical virtual : ℕ) → Type 0
ShownInside offset physical virtual = (offset + physical ≤ virtual) ⊎ (offset ≡ 0)

-- on each axis
pub record ShowsPicture (s : Settings) : Type 0 where
  pub in_width : ShownInside s.offset.x s.physical.width s.logical.width
  pub in_height : ShownInside s.offset.y s.physical.height s.logical.height

-- Of supported settings, whatever the region's size.
abbrev pub Panning : Type 0
Panning = (region_size : ℕ) (s : Settings) → supported region_size s ≡ true → ShowsPicture s

-- Of the settings that any call leaves on a valid record.
abbrev pub PanningKept : Type 0
PanningKept =
    (b : Board) (m : List ℕ) → valid b ≡ true → ShowsPicture (reply b m).answer.board.display.settings
