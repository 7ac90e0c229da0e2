-- What is absent is valid.
use mathlib.Core.Bool.{true}
use mathlib.Core.Path.{◌≡◌, refl}
use Rattle.board.specs.Items.{no_device, no_clock, no_voltage, valid_state, valid_device, valid_clock, valid_voltage}

pub no_device_valid : valid_device no_device ≡ true
unfolding valid_device valid_state
no_device_valid = refl

pub no_clock_valid : valid_clock no_clock ≡ true
unfolding valid_clock valid_state
no_clock_valid = refl

pub no_voltage_valid : valid_voltage no_voltage ≡ true
unfolding valid_voltage
no_voltage_valid = refl
