use Rattle.std.proofs.Common.{arith, refl, sym, ◌∙◌}
use Rattle.message.proofs.Laws.Opening.{good_is}
use Rattle.message.proofs.opening.open.Goals as goal

pub returns-then-good_size-clause-walking : goal.returns-then-good_size-clause-walking
returns-then-good_size-clause-walking c =
    let g = good_is _ _ (sym c.good_size.ensures ∙ c.if-good_size.true) in
    record { within = omega arith; lent = g.within; most = g.most; place4 = refl; size4 = g.fours }
