use native.Mathlib.Omega.{arith}
use Rattle.tags.proofs.Laws.Memory.{raising_next, raising_done}
use Rattle.tags.proofs.memory.raised_over_all.Goals as goal

pub loop-b-preserved : goal.loop-b-preserved
loop-b-preserved c = raising_next _ _ _ _ c.loop-b.invariant c.args.alignment.one_bit c.raised_over-a.ensures.0 c.raised_over-a.ensures.1

pub returns : goal.returns
returns c = raising_done _ _ _ _ c.loop-b.invariant (omega arith)
