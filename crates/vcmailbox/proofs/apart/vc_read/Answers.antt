use Rattle.vcmailbox.proofs.Fits.{read_place_fits, read_value_fits, read_count_fits}
use Rattle.vcmailbox.proofs.apart.vc_read.Goals as goal

pub overflow_cast-place : goal.overflow_cast-place
overflow_cast-place c = search (read_place_fits, read_value_fits, read_count_fits)

pub overflow_cast-value : goal.overflow_cast-value
overflow_cast-value c = search (read_place_fits, read_value_fits, read_count_fits)

pub overflow_cast-count : goal.overflow_cast-count
overflow_cast-count c = search (read_place_fits, read_value_fits, read_count_fits)
