use Prim.Native.Nat.{◌-◌}
use Rattle.message.proofs.Laws.Reader.{Seeking}
use Rattle.message.proofs.reader.seek.Given as goal

abbrev pub invariant-loop-tag : goal.invariant-loop-tag
invariant-loop-tag l = Seeking l.bytes l.size l.id l.occurrence l.wanted l.left l.p

abbrev pub decreases-loop-tag : goal.decreases-loop-tag
decreases-loop-tag l = l.size - l.p
