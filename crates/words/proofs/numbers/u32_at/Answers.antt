use Rattle.words.proofs.Laws.Numbers.{number_of_four}
use Rattle.words.proofs.numbers.u32_at.Goals as goal

pub returns : goal.returns
returns c = number_of_four _ _ c.requires c.from_le_bytes.ensures
