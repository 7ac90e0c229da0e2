use mathlib.Core.Path.{◌∙◌}
use native.Mathlib.Omega.{arith}
use lib.ListN.{length}
use Rattle.words.proofs.Laws.Store.{over_take}
use Rattle.words.proofs.bytes.store.Goals as goal

pub returns-then-source-room : goal.returns-then-source-room
returns-then-source-room c = c.copy.ensures ∙ over_take (length c.args.source.now) _ _ (omega arith)

pub returns-else-source-room : goal.returns-else-source-room
returns-else-source-room c = c.copy-else-source-room.ensures ∙ over_take (length c.args.part.now) _ _ (omega arith)
