use Prim.Native.Nat.{◌-◌}
use Rattle.responder.proofs.Laws.Serving.{Ahead}
use Rattle.responder.proofs.walk.serve_tags.Given as goal

abbrev pub invariant-loop-tag : goal.invariant-loop-tag
invariant-loop-tag l = Ahead l.group l.initial.msg l.size l.initial.b l.msg l.b l.operation l.p

abbrev pub decreases-loop-tag : goal.decreases-loop-tag
decreases-loop-tag l = l.size - l.p
