use Rattle.std.proofs.Common.{refl}
use Rattle.message.proofs.Laws.Built.{finish_fits}
use Rattle.message.proofs.builder.finish.Goals as goal

pub put_end-requires : goal.put_end-requires
put_end-requires c = finish_fits _ _ refl c.in-Ok.ensures.taken.0 c.in-Ok.ensures.taken.1
