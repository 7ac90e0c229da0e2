-- Each family reads and changes its part of the record alone.
use mathlib.Core.List.{List}
use mathlib.Core.Path.{◌≡◌, refl, ap}
use Prim.Native.Nat.{ℕ}
use Rattle.board.specs.Record.{with_devices, with_clocks, with_voltages, with_display, with_blocks}
use Rattle.board.specs.declared.display.Display.{Display}
use Rattle.board.specs.declared.facts.Facts.{Facts}
use Rattle.board.specs.declared.facts.Span.{Span}
use Rattle.board.specs.declared.memory.Block.{Block}
use Rattle.board.specs.declared.record.Board.{Board}
use Rattle.table.specs.declared.kinds.ClockTag.{ClockTag}
use Rattle.table.specs.declared.kinds.FactTag.{FactTag}
use Rattle.table.specs.declared.kinds.HandleTag.{HandleTag}
use Rattle.table.specs.declared.kinds.OutsideTag.{OutsideTag}
use Rattle.table.specs.declared.kinds.PowerTag.{PowerTag}
use Rattle.table.specs.declared.kinds.TemperatureTag.{TemperatureTag}
use Rattle.table.specs.declared.kinds.VoltageTag.{VoltageTag}
use Rattle.tags.specs.Clock.{clock_answer, clocks_after}
use Rattle.tags.specs.Fact.{fact_answer}
use Rattle.tags.specs.Memory.{allocate_answer, allocate_after, handle_answer, blocks_after}
use Rattle.tags.specs.Outside.{outside_answer, outside_after}
use Rattle.tags.specs.Power.{power_answer, devices_after}
use Rattle.tags.specs.Temperature.{temperature_answer}
use Rattle.tags.specs.Voltage.{voltage_answer, voltages_after}

-- of records with the same part the tag answers the same and leaves the same part, and nothing but the part changes
pub record Alone {P : Type 0} (part : Board → P) (with : Board → P → Board) (k : OutsideTag) (request : List ℕ) : Type 0 where
  pub answer_same : (b b' : Board) → part b ≡ part b' → outside_answer k request b ≡ outside_answer k request b'
  pub part_same : (b b' : Board) → part b ≡ part b' → part (outside_after k request b) ≡ part (outside_after k request b')
  pub rest_same : (b : Board) → outside_after k request b ≡ with b (part (outside_after k request b))

-- facts and command line, and the temperature, never change
pub fact_alone : (t : FactTag) (request : List ℕ) → Alone {P = Facts × List ℕ} (λ b. (b.facts, b.line)) (λ b p. b) (OutsideTag.Fact t) request
unfolding outside_answer outside_after
fact_alone t request = record {
  answer_same = λ b b' e. ap (λ (p : Facts × List ℕ). fact_answer t p.0 p.1) e;
  part_same = λ b b' e. e;
  rest_same = λ b. refl;
}

pub power_alone : (t : PowerTag) (request : List ℕ) → Alone (λ b. b.devices) with_devices (OutsideTag.Power t) request
unfolding outside_answer outside_after
power_alone t request = record {
  answer_same = λ b b' e. ap (power_answer t request) e;
  part_same = λ b b' e. ap (devices_after t request) e;
  rest_same = λ b. refl;
}

pub clock_alone : (t : ClockTag) (request : List ℕ) → Alone (λ b. b.clocks) with_clocks (OutsideTag.Clock t) request
unfolding outside_answer outside_after
clock_alone t request = record {
  answer_same = λ b b' e. ap (clock_answer t request) e;
  part_same = λ b b' e. ap (clocks_after t request) e;
  rest_same = λ b. refl;
}

pub voltage_alone : (t : VoltageTag) (request : List ℕ) → Alone (λ b. b.voltages) with_voltages (OutsideTag.Voltage t) request
unfolding outside_answer outside_after
voltage_alone t request = record {
  answer_same = λ b b' e. ap (voltage_answer t request) e;
  part_same = λ b b' e. ap (voltages_after t request) e;
  rest_same = λ b. refl;
}

pub temperature_alone : (t : TemperatureTag) (request : List ℕ) → Alone (λ b. b.temperature) (λ b p. b) (OutsideTag.Temperature t) request
unfolding outside_answer outside_after
temperature_alone t request = record {
  answer_same = λ b b' e. ap (temperature_answer t request) e;
  part_same = λ b b' e. e;
  rest_same = λ b. refl;
}

pub allocate_alone : (request : List ℕ)
    → Alone {P = Span × List Block} (λ b. (b.heap, b.blocks)) (λ b p. with_blocks b p.1) OutsideTag.Allocate request
unfolding outside_answer outside_after
allocate_alone request = record {
  answer_same = λ b b' e. ap (λ (p : Span × List Block). allocate_answer request p.0 p.1) e;
  part_same = λ b b' e. ap (λ (p : Span × List Block). (p.0, allocate_after request p.0 p.1)) e;
  rest_same = λ b. refl;
}

pub handle_alone : (t : HandleTag) (request : List ℕ) → Alone (λ b. b.blocks) with_blocks (OutsideTag.Handle t) request
unfolding outside_answer outside_after
handle_alone t request = record {
  answer_same = λ b b' e. ap (handle_answer t request) e;
  part_same = λ b b' e. ap (blocks_after t request) e;
  rest_same = λ b. refl;
}

-- none of them reads or changes the display
module _ (d : Display) (request : List ℕ) (b : Board) where
  pub answer_beside : (k : OutsideTag) → outside_answer k request (with_display b d) ≡ outside_answer k request b
  unfolding outside_answer
  answer_beside (OutsideTag.Fact t) = refl
  answer_beside (OutsideTag.Power t) = refl
  answer_beside (OutsideTag.Clock t) = refl
  answer_beside (OutsideTag.Voltage t) = refl
  answer_beside (OutsideTag.Temperature t) = refl
  answer_beside OutsideTag.Allocate = refl
  answer_beside (OutsideTag.Handle t) = refl

  pub after_beside : (k : OutsideTag) → outside_after k request (with_display b d) ≡ with_display (outside_after k request b) d
  unfolding outside_after
  after_beside (OutsideTag.Fact t) = refl
  after_beside (OutsideTag.Power t) = refl
  after_beside (OutsideTag.Clock t) = refl
  after_beside (OutsideTag.Voltage t) = refl
  after_beside (OutsideTag.Temperature t) = refl
  after_beside OutsideTag.Allocate = refl
  after_beside (OutsideTag.Handle t) = refl

-- none of them changes the facts or the command line
pub after_facts : (k : OutsideTag) (request : List ℕ) (b : Board)
    → ((outside_after k request b).facts ≡ b.facts) × ((outside_after k request b).line ≡ b.line)
unfolding outside_after
after_facts (OutsideTag.Fact t) request b = (refl, refl)
after_facts (OutsideTag.Power t) request b = (refl, refl)
after_facts (OutsideTag.Clock t) request b = (refl, refl)
after_facts (OutsideTag.Voltage t) request b = (refl, refl)
after_facts (OutsideTag.Temperature t) request b = (refl, refl)
after_facts OutsideTag.Allocate request b = (refl, refl)
after_facts (OutsideTag.Handle t) request b = (refl, refl)

-- nor the heap
pub after_heap : (k : OutsideTag) (request : List ℕ) (b : Board) → (outside_after k request b).heap ≡ b.heap
unfolding outside_after
after_heap (OutsideTag.Fact t) request b = refl
after_heap (OutsideTag.Power t) request b = refl
after_heap (OutsideTag.Clock t) request b = refl
after_heap (OutsideTag.Voltage t) request b = refl
after_heap (OutsideTag.Temperature t) request b = refl
after_heap OutsideTag.Allocate request b = refl
after_heap (OutsideTag.Handle t) request b = refl
