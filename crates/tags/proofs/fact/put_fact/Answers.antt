use native.Mathlib.Omega.{arith}
use lib.ListN.{length-take}
use Rattle.tags.proofs.fact.put_fact.Goals as goal

pub put_bytes-requires-in-Line : goal.put_bytes-requires-in-Line
put_bytes-requires-in-Line c = (c.requires, rw (c.prefix-in-Line.ensures, c.prefix.ensures) (simp length-take (omega arith)))
