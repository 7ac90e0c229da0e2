use native.Mathlib.Omega.{arith}
use Rattle.words.proofs.Laws.Store.{clearing_none, clearing_more, clearing_all}
use Rattle.words.proofs.bytes.clear.Goals as goal

pub loop-i-init : goal.loop-i-init
loop-i-init c = search clearing_none

pub loop-i-preserved : goal.loop-i-preserved
loop-i-preserved c = clearing_more c.loop-i.invariant (omega (arith, c.loop-i.invariant.kept))

pub returns : goal.returns
returns c = clearing_all c.loop-i.invariant (omega (arith, c.loop-i.invariant.kept))
