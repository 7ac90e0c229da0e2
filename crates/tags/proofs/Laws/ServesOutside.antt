-- A tag outside the group as the walk serves it: on the item at its place, or on an absent one.
use mathlib.Core.Bool.{true≢false}
use mathlib.Core.List.{List}
use mathlib.Core.Path.{◌≡◌, refl, sym, ap, ◌∙◌}
use Prim.Native.Nat.{ℕ, ◌-◌}
use lib.ListN.{get_or, set}
use Rattle.std.proofs.Common.{Option, Some, None}
use Rattle.words.specs.Numbers.{le, nth_word}
use Rattle.board.specs.Items.{no_device, no_clock, no_voltage}
use Rattle.board.specs.Memory.{no_block}
use Rattle.board.specs.Record.{with_devices, with_clocks, with_voltages, with_blocks}
use Rattle.board.specs.declared.items.Clock.{Clock}
use Rattle.board.specs.declared.items.Device.{Device}
use Rattle.board.specs.declared.items.Voltage.{Voltage}
use Rattle.board.specs.declared.facts.Span.{Span}
use Rattle.board.specs.declared.memory.Block.{Block}
use Rattle.board.specs.declared.record.Board.{Board}
use Rattle.table.specs.declared.kinds.ClockTag.{ClockTag}
use Rattle.table.specs.declared.kinds.FactTag.{FactTag}
use Rattle.table.specs.declared.kinds.HandleTag.{HandleTag}
use Rattle.table.specs.declared.kinds.OutsideTag.{OutsideTag}
use Rattle.table.specs.declared.kinds.PowerTag.{PowerTag}
use Rattle.table.specs.declared.kinds.TemperatureTag.{TemperatureTag}
use Rattle.table.specs.declared.kinds.VoltageTag.{VoltageTag}
use Rattle.answers.specs.Answer.{two_words}
use Rattle.tags.proofs.Laws.Items.{power_absent, clock_absent, voltage_absent}
use Rattle.tags.specs.Clock.{clock_after, clock_value}
use Rattle.tags.specs.Fact.{fact_answer}
use Rattle.tags.specs.Memory.{allocation, allocation_of, handle_after, handle_value}
use Rattle.tags.specs.Named.{item_place, Named, absent_answer}
use Rattle.tags.specs.Outside.{outside_answer, outside_after}
use Rattle.tags.specs.Place.{id_of, new_value}
use Rattle.tags.specs.Power.{power_after, power_value}
use Rattle.tags.specs.Temperature.{temperature_value}
use Rattle.tags.specs.Voltage.{voltage_after, voltage_value}
use Rattle.tags.specs.declared.memory.Granted.{Granted}

-- the tag says this answer and leaves the record b'
pub record Serves (k : OutsideTag) (request : List ℕ) (b : Board) (answer : List ℕ) (b' : Board) : Type 0 where
  pub says : answer ≡ outside_answer k request b
  pub left : b' ≡ outside_after k request b

-- a fact, whatever the request
pub serves_fact : (request : List ℕ) (b : Board) {k : OutsideTag} {t : FactTag} → k ≡ OutsideTag.Fact t
    → Serves k request b (fact_answer t b.facts b.line) b
unfolding outside_answer outside_after
serves_fact request b ek = rw ek (record { says = refl; left = refl })

-- with the id and what a set asks for, as they were read from the request
module _ (request : List ℕ) (b : Board) {a x : ℕ} (ea : a ≡ id_of request) (ex : x ≡ new_value request) where
  -- an id that is not listed: the answer of an absent item or of an unknown handle, and nothing changes
  pub serves_unlisted : (k : OutsideTag) {r : Option ℕ} → Named k a r → r ≡ None → Serves k request b (absent_answer k a) b
  unfolding outside_answer outside_after
  serves_unlisted (OutsideTag.Fact t) p e = absurd (true≢false cc)
  serves_unlisted (OutsideTag.Power t) p e =
      record { says = rw (← ea, ← ex, ← p.is, e, power_absent t x no_device refl); left = rw (← ea, ← p.is, e) }
  serves_unlisted (OutsideTag.Clock t) p e =
      record { says = rw (← ea, ← ex, ← p.is, e, clock_absent t x no_clock refl); left = rw (← ea, ← p.is, e) }
  serves_unlisted (OutsideTag.Voltage t) p e =
      record { says = rw (← ea, ← ex, ← p.is, e, voltage_absent t x no_voltage refl); left = rw (← ea, ← p.is, e) }
  serves_unlisted (OutsideTag.Temperature t) p e = absurd (true≢false cc)
  serves_unlisted OutsideTag.Allocate p e = absurd (true≢false cc)
  serves_unlisted (OutsideTag.Handle t) p e = record { says = rw (← ea, ← p.is, e); left = rw (← ea, ← p.is, e) }

  module _ {k : OutsideTag} where
    pub serves_temperature : {t : TemperatureTag} → k ≡ OutsideTag.Temperature t → {n : ℕ} → n ≡ temperature_value t a b.temperature
        → Serves k request b (two_words a n) b
    unfolding outside_answer outside_after
    serves_temperature ek e = rw ek (record { says = rw (e, ea); left = refl })

    -- an allocate, with its third word
    module _ (ek : k ≡ OutsideTag.Allocate) {f : ℕ} (ef : f ≡ nth_word request 2) {h : Span} (eh : b.heap ≡ h) {g : Option Granted}
        (eg : g ≡ allocation h b.blocks a x f) where
      came_to : g ≡ allocation_of request b.heap b.blocks
      came_to = rw (eg, ← eh, ea, ex, ef)

      pub serves_refused : g ≡ None → Serves k request b (le 4 0) b
      unfolding outside_answer outside_after
      serves_refused e = rw ek (record { says = rw (← came_to, e); left = rw (← came_to, e) })

      pub serves_granted : {c : Granted} → g ≡ Some c → {i : ℕ} → i ≡ c.handle - 1
          → Serves k request b (le 4 c.handle) (with_blocks b (set b.blocks i c.block))
      unfolding outside_answer outside_after
      serves_granted e ei = rw ek (record { says = rw (← came_to, e); left = rw (← came_to, e, ei) })

    -- the item at the place
    module _ {r : Option ℕ} (p : Named k a r) {i : ℕ} (e : r ≡ Some i) where
      placed : (k' : OutsideTag) → k ≡ k' → item_place k' a ≡ Some i
      placed k' ek = ap (λ (z : OutsideTag). item_place z a) (sym ek) ∙ sym p.is ∙ e

      pub serves_power : {t : PowerTag} → k ≡ OutsideTag.Power t → {d : Device} → d ≡ power_after t x (get_or b.devices i no_device) → {n : ℕ}
          → n ≡ power_value t d
          → Serves k request b (two_words a n) (with_devices b (set b.devices i d))
      unfolding outside_answer outside_after
      serves_power {t} ek ed en =
          let q = placed (OutsideTag.Power t) ek in
          rw ek (record { says = rw (← ea, ← ex, q, ← ed, ← en); left = rw (← ea, ← ex, q, ← ed) })

      pub serves_clock : {t : ClockTag} → k ≡ OutsideTag.Clock t → {c : Clock} → c ≡ clock_after t x (get_or b.clocks i no_clock) → {n : ℕ}
          → n ≡ clock_value t c → Serves k request b (two_words a n) (with_clocks b (set b.clocks i c))
      unfolding outside_answer outside_after
      serves_clock {t} ek ec en =
          let q = placed (OutsideTag.Clock t) ek in
          rw ek (record { says = rw (← ea, ← ex, q, ← ec, ← en); left = rw (← ea, ← ex, q, ← ec) })

      pub serves_voltage : {t : VoltageTag} → k ≡ OutsideTag.Voltage t → {v : Voltage} → v ≡ voltage_after t x (get_or b.voltages i no_voltage) → {n : ℕ}
          → n ≡ voltage_value t v
          → Serves k request b (two_words a n) (with_voltages b (set b.voltages i v))
      unfolding outside_answer outside_after
      serves_voltage {t} ek ev en =
          let q = placed (OutsideTag.Voltage t) ek in
          rw ek (record { says = rw (← ea, ← ex, q, ← ev, ← en); left = rw (← ea, ← ex, q, ← ev) })

      pub serves_handle : {t : HandleTag} → k ≡ OutsideTag.Handle t → {c : Block} → c ≡ get_or b.blocks i no_block → {c' : Block} → c' ≡ handle_after t c
          → {n : ℕ} → n ≡ handle_value t c
          → Serves k request b (le 4 n) (with_blocks b (set b.blocks i c'))
      unfolding outside_answer outside_after
      serves_handle {t} ek ec eb en =
          let q = placed (OutsideTag.Handle t) ek in
          rw ek (record { says = rw (← ea, q, ← ec, ← en); left = rw (← ea, q, ← ec, ← eb) })
