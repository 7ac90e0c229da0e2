use Rattle.std.proofs.Common.{refl}
use Rattle.message.proofs.Laws.Built.{add_fits}
use Rattle.message.proofs.builder.add.Goals as goal

pub put_tag-requires : goal.put_tag-requires
put_tag-requires c = add_fits _ _ _ _ _ refl c.in-Ok.ensures.taken.0 c.in-Ok.ensures.taken.1
