use native.Mathlib.Omega.{arith}
use Rattle.answers.proofs.Laws.Answers.{answered_is}
use Rattle.answers.proofs.writing.put_bytes.Goals as goal

pub returns : goal.returns
returns c = answered_is _ _ _ _ (omega arith) c.put_u32.ensures c.store.ensures
