use Rattle.std.proofs.Common.{length, ◌≤◌}
use Rattle.drawn.proofs.messages.put_words.Given as goal

abbrev pub invariant-loop-c : goal.invariant-loop-c
invariant-loop-c l = l.n ≤ length l.bytes
