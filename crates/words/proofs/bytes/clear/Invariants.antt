use Rattle.words.proofs.Laws.Store.{Clearing}
use Rattle.words.proofs.bytes.clear.Given as goal

abbrev pub invariant-loop-i : goal.invariant-loop-i
invariant-loop-i l = Clearing l.initial.part l.part l.i
