use Rattle.std.proofs.Common.{rules}
use Rattle.std.proofs.lemmas.Iterator.{YieldsList-from_slice}
use Rattle.board.proofs.Laws.Every.{every_from_all}
use Rattle.board.specs.Items.{valid_device, valid_clock, valid_voltage}
use Rattle.board.specs.Record.{valid}
use Rattle.board.proofs.valid.is_valid.Goals as goal

pub returns-then-valid_display : goal.returns-then-valid_display
unfolding valid
returns-then-valid_display c =
    let d = every_from_all valid_device _ _ _ c.all-devices.ensures.ran (YieldsList-from_slice c.args.b.devices cc) (λ x r q k. search rules) in
    let k = every_from_all valid_clock _ _ _ c.all-clocks.ensures.ran (YieldsList-from_slice c.args.b.clocks cc) (λ x r q k. search rules) in
    let v = every_from_all valid_voltage _ _ _ c.all-voltages.ensures.ran (YieldsList-from_slice c.args.b.voltages cc) (λ x r q k. search rules) in
    search rules

pub returns-else-valid_display : goal.returns-else-valid_display
unfolding valid
returns-else-valid_display c =
    let d = every_from_all valid_device _ _ _ c.all-devices.ensures.ran (YieldsList-from_slice c.args.b.devices cc) (λ x r q k. search rules) in
    let k = every_from_all valid_clock _ _ _ c.all-clocks.ensures.ran (YieldsList-from_slice c.args.b.clocks cc) (λ x r q k. search rules) in
    let v = every_from_all valid_voltage _ _ _ c.all-voltages.ensures.ran (YieldsList-from_slice c.args.b.voltages cc) (λ x r q k. search rules) in
    search rules
