use Rattle.message.proofs.Laws.Shown.{part_within}
use Rattle.vcmailbox.proofs.Fits.{read_end_fits}
use Rattle.vcmailbox.proofs.apart.vc_read_or.Goals as goal

pub overflow_add-end : goal.overflow_add-end
overflow_add-end c = search read_end_fits

pub slice_bounds-shown-end : goal.slice_bounds-shown-end
slice_bounds-shown-end c = search part_within
