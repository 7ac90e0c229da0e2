use Prim.Native.Nat.{◌+◌, ◌-◌}
use Rattle.tags.proofs.Laws.Memory.{Searching}
use Rattle.tags.proofs.memory.allocate.Given as goal

abbrev pub invariant-loop-a : goal.invariant-loop-a
invariant-loop-a l = Searching l.blocks (l.heap.base + l.heap.size) l.size l.alignment.value l.initial.a l.a

abbrev pub decreases-loop-a : goal.decreases-loop-a
decreases-loop-a l = l.heap.base + l.heap.size - l.a
