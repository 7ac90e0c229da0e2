use mathlib.Core.Path.{◌≡◌}
use native.Mathlib.Omega.{arith}
use Rattle.words.proofs.Laws.Store.{storing_none, storing_more}
use Rattle.words.proofs.bytes.copy.Goals as goal

pub loop-i-init : goal.loop-i-init
loop-i-init c = search storing_none

pub loop-i-preserved : goal.loop-i-preserved
loop-i-preserved c = storing_more c.loop-i.invariant (omega (arith, c.requires.1)) (omega (arith, c.requires.0))

pub returns : goal.returns
returns c = let e : c.args.count ≡ c.loop-i.i = omega arith in rw e c.loop-i.invariant.stored
