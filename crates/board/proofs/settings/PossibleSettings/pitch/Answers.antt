use Rattle.std.proofs.Common.{arith}
use Rattle.words.proofs.Laws.Align.{up_is}
use Rattle.board.proofs.Laws.Display.{row_most}
use Rattle.board.specs.Display.{pitch}
use Rattle.board.proofs.settings.PossibleSettings.pitch.Goals as goal

pub overflow_mul-s : goal.overflow_mul-s
overflow_mul-s c = omega (arith, row_most _ c.args.self.possible)

pub next_multiple_of-requires-clause-fits : goal.next_multiple_of-requires-clause-fits
next_multiple_of-requires-clause-fits c = omega (arith, row_most _ c.args.self.possible)

pub returns : goal.returns
unfolding pitch
returns c = let e = c.next_multiple_of.ensures in up_is 32 _ (omega arith) _ e.lower_bound e.upper_bound e.multiple
