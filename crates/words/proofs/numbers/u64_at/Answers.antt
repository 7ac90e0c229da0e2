use Rattle.words.proofs.Laws.Numbers.{two_halves}
use Rattle.words.proofs.numbers.u64_at.Goals as goal

pub returns : goal.returns
returns c = search two_halves
