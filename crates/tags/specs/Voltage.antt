-- Voltages, ids 1 to 4, in millivolts.
use Rattle.std.specs.Prelude.{cond, List, ℕ, ◌+◌, ◌-◌, ◌/◌, ◌%◌, ◌^◌, ltb, Option}
use Rattle.words.specs.Clamp.{clamp}
use Rattle.board.specs.Items.{no_voltage}
use Rattle.board.specs.declared.items.Voltage.{Voltage}
use Rattle.table.specs.declared.kinds.VoltageTag.{VoltageTag}
use Rattle.tags.specs.Place.{place_of, item_answer, items_after}

abbrev pub voltage_count : ℕ
voltage_count = 4

abbrev pub voltage_place : (id : ℕ) → Option ℕ
voltage_place id = place_of id 1 voltage_count

-- minus n as a word of 32 bits, in two's complement
abbrev pub minus : ℕ → ℕ
minus n = (2 ^ 32 - n) % 2 ^ 32

-- n steps of 25 mV rounded down and up
abbrev pub steps_down : ℕ → ℕ
steps_down mv = mv / 25

abbrev pub steps_up : ℕ → ℕ
steps_up mv = (mv + 24) / 25

-- the offset of a maximum from 1,200 mV in steps of 25 mV, rounded toward minus infinity: below 1,200 mV the distance
-- rounds up
unfoldable pub max_offset : ℕ → ℕ
max_offset mv = cond (ltb mv 1200) (minus (steps_up (1200 - mv))) (steps_down (mv - 1200))

-- the offset of a minimum, rounded toward plus infinity: below 1,200 mV the distance rounds down
unfoldable pub min_offset : ℕ → ℕ
min_offset mv = cond (ltb mv 1200) (minus (steps_down (1200 - mv))) (steps_up (mv - 1200))

-- a set is clamped; an invalid voltage changes nothing
unfoldable pub voltage_after : VoltageTag → ℕ → Voltage → Voltage
voltage_after VoltageTag.Set x v =
    cond v.valid (record { valid = v.valid; value = clamp v.min v.max x; min = v.min; max = v.max }) v
voltage_after VoltageTag.Get x v = v
voltage_after VoltageTag.Max x v = v
voltage_after VoltageTag.Min x v = v

abbrev pub voltage_of : VoltageTag → Voltage → ℕ
voltage_of VoltageTag.Get v = v.value
voltage_of VoltageTag.Set v = v.value
voltage_of VoltageTag.Max v = max_offset v.max
voltage_of VoltageTag.Min v = min_offset v.min

-- what a tag answers of the voltage that it left; an invalid one answers 0x80000000 to all four
unfoldable pub voltage_value : VoltageTag → Voltage → ℕ
voltage_value tag v = cond v.valid (voltage_of tag v) 0x8000_0000

-- a tag's answer, and the voltages that it leaves
abbrev pub voltage_answer : VoltageTag → (request : List ℕ) → List Voltage → List ℕ
voltage_answer t request voltages =
    item_answer no_voltage voltage_place (voltage_after t) (voltage_value t) request voltages

abbrev pub voltages_after : VoltageTag → (request : List ℕ) → List Voltage → List Voltage
voltages_after t request voltages = items_after no_voltage voltage_place (voltage_after t) request voltages
