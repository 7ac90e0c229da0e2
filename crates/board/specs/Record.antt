-- The whole record: each part that a message can change replaced by another, and the record that is valid.
use Rattle.std.specs.Prelude.{Bool, ◌&&◌, List}
use Rattle.words.specs.Every.{every}
use Rattle.board.specs.Display.{valid_display}
use Rattle.board.specs.Facts.{valid_facts}
use Rattle.board.specs.Items.{valid_device, valid_clock, valid_voltage}
use Rattle.board.specs.Memory.{valid_memory}
use Rattle.board.specs.declared.display.Display.{Display}
use Rattle.board.specs.declared.items.Clock.{Clock}
use Rattle.board.specs.declared.items.Device.{Device}
use Rattle.board.specs.declared.items.Voltage.{Voltage}
use Rattle.board.specs.declared.memory.Block.{Block}
use Rattle.board.specs.declared.record.Board.{Board}

-- ---- a record with one part replaced: all others stay
abbrev pub with_devices : Board → List Device → Board
with_devices b xs = record {
  facts = b.facts;
  line = b.line;
  devices = xs;
  clocks = b.clocks;
  voltages = b.voltages;
  temperature = b.temperature;
  display = b.display;
  heap = b.heap;
  blocks = b.blocks;
}

abbrev pub with_clocks : Board → List Clock → Board
with_clocks b xs = record {
  facts = b.facts;
  line = b.line;
  devices = b.devices;
  clocks = xs;
  voltages = b.voltages;
  temperature = b.temperature;
  display = b.display;
  heap = b.heap;
  blocks = b.blocks;
}

abbrev pub with_voltages : Board → List Voltage → Board
with_voltages b xs = record {
  facts = b.facts;
  line = b.line;
  devices = b.devices;
  clocks = b.clocks;
  voltages = xs;
  temperature = b.temperature;
  display = b.display;
  heap = b.heap;
  blocks = b.blocks;
}

abbrev pub with_display : Board → Display → Board
with_display b d = record {
  facts = b.facts;
  line = b.line;
  devices = b.devices;
  clocks = b.clocks;
  voltages = b.voltages;
  temperature = b.temperature;
  display = d;
  heap = b.heap;
  blocks = b.blocks;
}

abbrev pub with_blocks : Board → List Block → Board
with_blocks b xs = record {
  facts = b.facts;
  line = b.line;
  devices = b.devices;
  clocks = b.clocks;
  voltages = b.voltages;
  temperature = b.temperature;
  display = b.display;
  heap = b.heap;
  blocks = xs;
}

-- ---- a valid record: each part is valid, whatever the temperature and the command line's bytes
unfoldable pub valid : Board → Bool
valid b =
    valid_facts b.facts
    && every valid_device b.devices
    && every valid_clock b.clocks
    && every valid_voltage b.voltages
    && valid_display b.display
    && valid_memory b.display.region b.heap b.blocks
