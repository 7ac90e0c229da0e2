-- Clocks, ids 1 to 14.
use Rattle.std.specs.Prelude.{cond, List, ℕ, Option}
use Rattle.words.specs.Clamp.{clamp}
use Rattle.board.specs.Items.{no_clock}
use Rattle.board.specs.declared.items.Clock.{Clock}
use Rattle.table.specs.declared.kinds.ClockTag.{ClockTag}
use Rattle.tags.specs.Place.{place_of, item_answer, items_after}
use Rattle.tags.specs.State.{state_of, present, switched}

abbrev pub clock_count : ℕ
clock_count = 14

abbrev pub clock_place : (id : ℕ) → Option ℕ
clock_place id = place_of id 1 clock_count

-- where a set rate lands: an existing clock takes it, clamped to its minimum and maximum
unfoldable pub settled : ℕ → Clock → Clock
settled x c =
    cond c.state.exists
    (record { state = c.state; rate = clamp c.min c.max x; min = c.min; max = c.max })
    c

-- the clock as a tag leaves it, x being what a set asks for
unfoldable pub clock_after : ClockTag → ℕ → Clock → Clock
clock_after ClockTag.SetState x c = record { state = switched x c.state; rate = c.rate; min = c.min; max = c.max }
clock_after ClockTag.SetRate x c = settled x c
clock_after ClockTag.State x c = c
clock_after ClockTag.Rate x c = c
clock_after ClockTag.Max x c = c
clock_after ClockTag.Min x c = c

-- what a tag answers of the clock that it left
unfoldable pub clock_value : ClockTag → Clock → ℕ
clock_value ClockTag.State c = state_of c.state
clock_value ClockTag.SetState c = state_of c.state
clock_value ClockTag.Rate c = present c.state c.rate
clock_value ClockTag.SetRate c = present c.state c.rate
clock_value ClockTag.Max c = present c.state c.max
clock_value ClockTag.Min c = present c.state c.min

-- a tag's answer, and the clocks that it leaves
abbrev pub clock_answer : ClockTag → (request : List ℕ) → List Clock → List ℕ
clock_answer t request clocks = item_answer no_clock clock_place (clock_after t) (clock_value t) request clocks

abbrev pub clocks_after : ClockTag → (request : List ℕ) → List Clock → List Clock
clocks_after t request clocks = items_after no_clock clock_place (clock_after t) request clocks
