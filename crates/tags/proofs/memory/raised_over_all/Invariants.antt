use Rattle.tags.proofs.Laws.Memory.{Raising}
use Rattle.tags.proofs.memory.raised_over_all.Given as goal

abbrev pub invariant-loop-b : goal.invariant-loop-b
invariant-loop-b l = Raising l.blocks l.address l.size l.alignment.value l.a l.b-index
