-- Power devices, ids 0 to 10.
use Rattle.std.specs.Prelude.{List, ℕ, Option}
use Rattle.board.specs.Items.{no_device}
use Rattle.board.specs.declared.items.Device.{Device}
use Rattle.table.specs.declared.kinds.PowerTag.{PowerTag}
use Rattle.tags.specs.Place.{place_of, item_answer, items_after}
use Rattle.tags.specs.State.{state_of, present, switched}

abbrev pub device_count : ℕ
device_count = 11

abbrev pub device_place : (id : ℕ) → Option ℕ
device_place id = place_of id 0 device_count

-- the device as a tag leaves it, x being the state that a set asks for
unfoldable pub power_after : PowerTag → ℕ → Device → Device
power_after PowerTag.State x d = d
power_after PowerTag.Timing x d = d
power_after PowerTag.SetState x d = record { state = switched x d.state; timing = d.timing }

-- what a tag answers of the device that it left
unfoldable pub power_value : PowerTag → Device → ℕ
power_value PowerTag.State d = state_of d.state
power_value PowerTag.Timing d = present d.state d.timing
power_value PowerTag.SetState d = state_of d.state

-- a tag's answer, and the devices that it leaves
abbrev pub power_answer : PowerTag → (request : List ℕ) → List Device → List ℕ
power_answer t request devices = item_answer no_device device_place (power_after t) (power_value t) request devices

abbrev pub devices_after : PowerTag → (request : List ℕ) → List Device → List Device
devices_after t request devices = items_after no_device device_place (power_after t) request devices
