use Prim.Native.Nat.{◌-◌}
use Rattle.message.proofs.Laws.Lister.{ListingFrom}
use Rattle.message.proofs.lister.list_opened.Given as goal

abbrev pub invariant-loop-tag : goal.invariant-loop-tag
invariant-loop-tag l = ListingFrom l.bytes l.size l.index l.left l.p

abbrev pub decreases-loop-tag : goal.decreases-loop-tag
decreases-loop-tag l = l.size - l.p
