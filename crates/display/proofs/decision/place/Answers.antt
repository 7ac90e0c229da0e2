use Rattle.std.proofs.Common.{arith}
use Rattle.board.proofs.Laws.Display.{display_parts}
use Rattle.display.proofs.decision.place.Goals as goal

pub overflow_cast-result : goal.overflow_cast-result
overflow_cast-result c = let region = (display_parts _ c.args.d.valid).region in omega arith
