-- Of supported settings, and of those that a call leaves, the shown part lies in the virtual picture.
use Rattle.board.proofs.Laws.Display.{offset_shown, possible_is, supported_is, display_parts}
use Rattle.board.proofs.Laws.Record.{valid_parts}
use Rattle.responder.specs.Reply.{reply}
use Rattle.demands.proofs.Kept.{kept}
use Rattle.demands.specs.Panning.{Panning, PanningKept}

pub panning : Panning
panning regionSize s e =
    let p = possible_is s (supported_is regionSize s e).0 in
    record { in_width = offset_shown _ _ _ p.x_fits; in_height = offset_shown _ _ _ p.y_fits }

pub panning_kept : PanningKept
panning_kept b m v =
    let after = (reply b m).answer.board in
    panning _ _ (display_parts after.display (valid_parts after (kept b m v)).display).settings
