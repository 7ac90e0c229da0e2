use Rattle.message.proofs.Laws.Built.{tag_written}
use Rattle.message.proofs.builder.put_tag.Goals as goal

pub returns : goal.returns
returns c =
    tag_written _ _ _ _ _ _ c.requires c.put_u32.ensures c.put_u32-2.ensures c.put_u32-3.ensures
    c.store.ensures c.clear.ensures
