use Rattle.vcmailbox.proofs.Fits.{start_cursor_fits}
use Rattle.vcmailbox.proofs.Laws.{start_given}
use Rattle.vcmailbox.proofs.build.vc_start.Goals as goal

pub overflow_cast-cursor : goal.overflow_cast-cursor
overflow_cast-cursor c = start_cursor_fits _ c.start-started.ensures

pub returns : goal.returns
returns c = search start_given
