-- Describes code: the item that a tag names by its id, and what is answered where none has the id.
use Rattle.std.specs.Prelude.{List, ◌≡◌, ℕ, ◌<◌, Option, Some, IfSome}
use Rattle.words.specs.Numbers.{le}
use Rattle.board.specs.Items.{no_device, no_clock, no_voltage}
use Rattle.board.specs.Memory.{no_block}
use Rattle.table.specs.declared.kinds.OutsideTag.{OutsideTag}
use Rattle.answers.specs.Answer.{two_words}
use Rattle.tags.specs.Clock.{clock_count, clock_place, clock_value}
use Rattle.tags.specs.Memory.{handle_count, block_place, handle_value}
use Rattle.tags.specs.Place.{place_of}
use Rattle.tags.specs.Power.{device_count, device_place, power_value}
use Rattle.tags.specs.Voltage.{voltage_count, voltage_place, voltage_value}

pub record Placed (id lowest count : ℕ) (r : Option ℕ) : Type 0 where
  pub is : r ≡ place_of id lowest count
  pub within : IfSome r (λ i. i < count)

abbrev pub item_place : OutsideTag → (id : ℕ) → Option ℕ
item_place (OutsideTag.Fact t) id = Some 0
item_place (OutsideTag.Power t) id = device_place id
item_place (OutsideTag.Clock t) id = clock_place id
item_place (OutsideTag.Voltage t) id = voltage_place id
item_place (OutsideTag.Temperature t) id = Some 0
item_place OutsideTag.Allocate id = Some 0
item_place (OutsideTag.Handle t) id = block_place id

-- how many items a family has
abbrev pub item_count : OutsideTag → ℕ
item_count (OutsideTag.Fact t) = 1
item_count (OutsideTag.Power t) = device_count
item_count (OutsideTag.Clock t) = clock_count
item_count (OutsideTag.Voltage t) = voltage_count
item_count (OutsideTag.Temperature t) = 1
item_count OutsideTag.Allocate = 1
item_count (OutsideTag.Handle t) = handle_count

pub record Named (k : OutsideTag) (id : ℕ) (r : Option ℕ) : Type 0 where
  pub is : r ≡ item_place k id
  pub within : IfSome r (λ i. i < item_count k)

abbrev pub absent_answer : OutsideTag → (id : ℕ) → List ℕ
absent_answer (OutsideTag.Fact t) id = two_words id 0
absent_answer (OutsideTag.Power t) id = two_words id (power_value t no_device)
absent_answer (OutsideTag.Clock t) id = two_words id (clock_value t no_clock)
absent_answer (OutsideTag.Voltage t) id = two_words id (voltage_value t no_voltage)
absent_answer (OutsideTag.Temperature t) id = two_words id 0
absent_answer OutsideTag.Allocate id = two_words id 0
absent_answer (OutsideTag.Handle t) id = le 4 (handle_value t no_block)
