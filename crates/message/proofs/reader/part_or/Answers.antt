use Rattle.message.proofs.Laws.Shown.{part_within}
use Rattle.message.proofs.reader.part_or.Goals as goal

pub part_of-requires : goal.part_of-requires
part_of-requires c = search part_within
