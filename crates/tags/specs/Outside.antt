-- A known tag outside the frame buffer group, on the record: each family reads and changes its part of it alone.
use Rattle.std.specs.Prelude.{List, ℕ}
use Rattle.board.specs.Record.{with_devices, with_clocks, with_voltages, with_blocks}
use Rattle.board.specs.declared.record.Board.{Board}
use Rattle.table.specs.declared.kinds.OutsideTag.{OutsideTag}
use Rattle.tags.specs.Clock.{clock_answer, clocks_after}
use Rattle.tags.specs.Fact.{fact_answer}
use Rattle.tags.specs.Memory.{allocate_answer, allocate_after, handle_answer, blocks_after}
use Rattle.tags.specs.Power.{power_answer, devices_after}
use Rattle.tags.specs.Temperature.{temperature_answer}
use Rattle.tags.specs.Voltage.{voltage_answer, voltages_after}

-- what it answers
unfoldable pub outside_answer : OutsideTag → (request : List ℕ) → Board → List ℕ
outside_answer (OutsideTag.Fact t) request b = fact_answer t b.facts b.line
outside_answer (OutsideTag.Power t) request b = power_answer t request b.devices
outside_answer (OutsideTag.Clock t) request b = clock_answer t request b.clocks
outside_answer (OutsideTag.Voltage t) request b = voltage_answer t request b.voltages
outside_answer (OutsideTag.Temperature t) request b = temperature_answer t request b.temperature
outside_answer OutsideTag.Allocate request b = allocate_answer request b.heap b.blocks
outside_answer (OutsideTag.Handle t) request b = handle_answer t request b.blocks

-- the record that it leaves
unfoldable pub outside_after : OutsideTag → (request : List ℕ) → Board → Board
outside_after (OutsideTag.Fact t) request b = b
outside_after (OutsideTag.Power t) request b = with_devices b (devices_after t request b.devices)
outside_after (OutsideTag.Clock t) request b = with_clocks b (clocks_after t request b.clocks)
outside_after (OutsideTag.Voltage t) request b = with_voltages b (voltages_after t request b.voltages)
outside_after (OutsideTag.Temperature t) request b = b
outside_after OutsideTag.Allocate request b = with_blocks b (allocate_after request b.heap b.blocks)
outside_after (OutsideTag.Handle t) request b = with_blocks b (blocks_after t request b.blocks)
