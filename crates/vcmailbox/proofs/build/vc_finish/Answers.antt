use Rattle.vcmailbox.proofs.Fits.{finish_size_fits}
use Rattle.vcmailbox.proofs.Laws.{finish_given}
use Rattle.vcmailbox.proofs.build.vc_finish.Goals as goal

pub overflow_cast-size : goal.overflow_cast-size
overflow_cast-size c = finish_size_fits _ _ c.finish-finished.ensures

pub returns : goal.returns
returns c = search finish_given
