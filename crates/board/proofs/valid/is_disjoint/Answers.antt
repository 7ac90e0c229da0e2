use Rattle.std.proofs.Common.{rules}
use Rattle.std.proofs.lemmas.Iterator.{YieldsList-from_slice}
use Rattle.board.proofs.Laws.Every.{every_from_all}
use Rattle.board.proofs.Laws.Memory.{free_disjoint}
use Rattle.board.specs.Memory.{disjoint}
use Rattle.board.proofs.valid.is_disjoint.Goals as goal

pub returns-then-not-b : goal.returns-then-not-b
returns-then-not-b c = search (rules, free_disjoint)

pub returns-else-not-b : goal.returns-else-not-b
unfolding disjoint
returns-else-not-b c = every_from_all (disjoint c.args.b.now) _ _ _ c.all.ensures.ran (YieldsList-from_slice c.args.others.now cc) (λ x r q k. search rules)
