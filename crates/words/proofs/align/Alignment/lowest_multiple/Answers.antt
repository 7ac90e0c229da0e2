use Rattle.words.proofs.Laws.Align.{one_bit_least, up_is}
use Rattle.words.proofs.align.Alignment.lowest_multiple.Goals as goal

pub next_multiple_of-requires-clause-nonzero : goal.next_multiple_of-requires-clause-nonzero
next_multiple_of-requires-clause-nonzero c = one_bit_least _ c.args.self.one_bit

pub returns : goal.returns
returns c =
    let low = c.next_multiple_of.ensures.lower_bound in
    let high = c.next_multiple_of.ensures.upper_bound in
    up_is _ _ (one_bit_least _ c.args.self.one_bit) _ low high c.next_multiple_of.ensures.multiple
