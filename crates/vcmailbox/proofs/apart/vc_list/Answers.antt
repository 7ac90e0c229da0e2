use Rattle.vcmailbox.proofs.Fits.{list_place_fits, list_value_fits}
use Rattle.vcmailbox.proofs.apart.vc_list.Goals as goal

pub overflow_cast-place : goal.overflow_cast-place
overflow_cast-place c = search (list_place_fits, list_value_fits)

pub overflow_cast-value : goal.overflow_cast-value
overflow_cast-value c = search (list_place_fits, list_value_fits)
