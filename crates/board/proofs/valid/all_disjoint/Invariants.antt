use Rattle.std.proofs.Common.{◌≡◌, length}
use Rattle.words.specs.Every.{pairs}
use Rattle.board.specs.Memory.{disjoint}
use Rattle.board.proofs.valid.all_disjoint.Given as goal

abbrev pub invariant-loop-b : goal.invariant-loop-b
invariant-loop-b l = pairs disjoint l.fn.blocks ≡ pairs disjoint l.rest

abbrev pub decreases-loop-b : goal.decreases-loop-b
decreases-loop-b l = length l.rest
