use Rattle.message.proofs.Laws.Built.{end_written}
use Rattle.message.proofs.builder.put_end.Goals as goal

pub returns : goal.returns
returns c =
    end_written _ _ _ c.requires c.put_u32.ensures c.clear.ensures c.put_u32-2.ensures c.put_u32-3.ensures
