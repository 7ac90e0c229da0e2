use Rattle.words.proofs.Laws.Store.{Storing}
use Rattle.words.proofs.bytes.copy.Given as goal

abbrev pub invariant-loop-i : goal.invariant-loop-i
invariant-loop-i l = Storing l.initial.part l.source l.part l.i
