use Rattle.words.proofs.Laws.Align.{one_bit_ones}
use borrow.Author.Rules.{rules}
use Rattle.words.proofs.align.one_bit.Goals as goal

pub returns : goal.returns
returns c = one_bit_ones _ (search rules)
