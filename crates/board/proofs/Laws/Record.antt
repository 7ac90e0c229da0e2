-- Laws of a valid record: its parts, and that it stays valid where one of them is replaced by a valid one.
use mathlib.Core.Bool.{true, ◌&&◌, and-eq-true_iff}
use mathlib.Core.List.{List}
use mathlib.Core.Path.{◌≡◌, ap, ◌∙◌}
use Rattle.words.specs.Every.{every}
use Rattle.board.specs.Display.{valid_display}
use Rattle.board.specs.Facts.{valid_facts}
use Rattle.board.specs.Items.{valid_device, valid_clock, valid_voltage}
use Rattle.board.specs.Memory.{valid_memory}
use Rattle.board.specs.Record.{with_devices, with_clocks, with_voltages, with_display, with_blocks, valid}
use Rattle.board.specs.declared.display.Display.{Display}
use Rattle.board.specs.declared.facts.Span.{Span}
use Rattle.board.specs.declared.items.Clock.{Clock}
use Rattle.board.specs.declared.items.Device.{Device}
use Rattle.board.specs.declared.items.Voltage.{Voltage}
use Rattle.board.specs.declared.memory.Block.{Block}
use Rattle.board.specs.declared.record.Board.{Board}

-- ---- the parts
pub record ValidParts (b : Board) : Type 0 where
  pub facts : valid_facts b.facts ≡ true
  pub devices : every valid_device b.devices ≡ true
  pub clocks : every valid_clock b.clocks ≡ true
  pub voltages : every valid_voltage b.voltages ≡ true
  pub display : valid_display b.display ≡ true
  pub memory : valid_memory b.display.region b.heap b.blocks ≡ true

module _ (b : Board) where
  pub valid_parts : valid b ≡ true → ValidParts b
  unfolding valid
  valid_parts e =
      let f = valid_facts b.facts in
      let d = every valid_device b.devices in
      let c = every valid_clock b.clocks in
      let v = every valid_voltage b.voltages in
      let s = valid_display b.display in
      let e4 = (and-eq-true_iff (f && d && c && v && s) (valid_memory b.display.region b.heap b.blocks)).0 e in
      let e3 = (and-eq-true_iff (f && d && c && v) s).0 e4.0 in
      let e2 = (and-eq-true_iff (f && d && c) v).0 e3.0 in
      let e1 = (and-eq-true_iff (f && d) c).0 e2.0 in
      let e0 = (and-eq-true_iff f d).0 e1.0 in
      record { facts = e0.0; devices = e0.1; clocks = e1.1; voltages = e2.1; display = e3.1; memory = e4.1 }

  pub parts_valid : ValidParts b → valid b ≡ true
  unfolding valid
  parts_valid p = rw (p.facts, p.devices, p.clocks, p.voltages, p.display, p.memory)

-- ---- a part replaced
pub devices_valid : (b : Board) (xs : List Device) → valid b ≡ true → every valid_device xs ≡ true → valid (with_devices b xs) ≡ true
devices_valid b xs e t =
    let p = valid_parts b e in
    parts_valid (with_devices b xs)
    (record { facts = p.facts; devices = t; clocks = p.clocks; voltages = p.voltages; display = p.display; memory = p.memory })

pub clocks_valid : (b : Board) (xs : List Clock) → valid b ≡ true → every valid_clock xs ≡ true → valid (with_clocks b xs) ≡ true
clocks_valid b xs e t =
    let p = valid_parts b e in
    parts_valid (with_clocks b xs)
    (record { facts = p.facts; devices = p.devices; clocks = t; voltages = p.voltages; display = p.display; memory = p.memory })

pub voltages_valid : (b : Board) (xs : List Voltage) → valid b ≡ true → every valid_voltage xs ≡ true → valid (with_voltages b xs) ≡ true
voltages_valid b xs e t =
    let p = valid_parts b e in
    parts_valid (with_voltages b xs)
    (record { facts = p.facts; devices = p.devices; clocks = p.clocks; voltages = t; display = p.display; memory = p.memory })

-- the region stays, which shares no byte with the heap
pub display_valid : (b : Board) (d : Display) → valid b ≡ true → valid_display d ≡ true → d.region ≡ b.display.region → valid (with_display b d) ≡ true
display_valid b d e t same =
    let p = valid_parts b e in
    parts_valid (with_display b d)
    (record {
      facts = p.facts;
      devices = p.devices;
      clocks = p.clocks;
      voltages = p.voltages;
      display = t;
      memory = ap (λ (r : Span). valid_memory r b.heap b.blocks) same ∙ p.memory;
    })

pub blocks_valid : (b : Board) (xs : List Block) → valid b ≡ true → valid_memory b.display.region b.heap xs ≡ true → valid (with_blocks b xs) ≡ true
blocks_valid b xs e t =
    let p = valid_parts b e in
    parts_valid (with_blocks b xs)
    (record { facts = p.facts; devices = p.devices; clocks = p.clocks; voltages = p.voltages; display = p.display; memory = t })
