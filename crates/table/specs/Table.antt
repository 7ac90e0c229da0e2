-- The table of known tags.
use Rattle.std.specs.Prelude.{cond, List, [], ◌∷◌, ◌++◌, ℕ, eqb, Option, Some, None}
use Rattle.table.specs.declared.kinds.ClockTag.{ClockTag}
use Rattle.table.specs.declared.kinds.FactTag.{FactTag}
use Rattle.table.specs.declared.kinds.FrameTag.{FrameTag}
use Rattle.table.specs.declared.kinds.HandleTag.{HandleTag}
use Rattle.table.specs.declared.kinds.Kind.{Kind}
use Rattle.table.specs.declared.kinds.OutsideTag.{OutsideTag}
use Rattle.table.specs.declared.kinds.PowerTag.{PowerTag}
use Rattle.table.specs.declared.rows.Row.{Row}
use Rattle.table.specs.declared.kinds.Setting.{Setting}
use Rattle.table.specs.declared.kinds.TemperatureTag.{TemperatureTag}
use Rattle.table.specs.declared.kinds.VoltageTag.{VoltageTag}

-- a known tag: its id, the lengths of its request and of its answer, and what it asks
pub record Entry : Type 0 where
  pub id : ℕ
  pub request : ℕ
  pub answer : ℕ
  pub kind : Kind

abbrev pub entry : (id request answer : ℕ) → Kind → Entry
entry id request answer kind = record { id = id; request = request; answer = answer; kind = kind }

-- the families outside the frame buffer group
abbrev pub fact_kind : FactTag → Kind
fact_kind t = Kind.Outside (OutsideTag.Fact t)

abbrev pub power_kind : PowerTag → Kind
power_kind t = Kind.Outside (OutsideTag.Power t)

abbrev pub clock_kind : ClockTag → Kind
clock_kind t = Kind.Outside (OutsideTag.Clock t)

abbrev pub voltage_kind : VoltageTag → Kind
voltage_kind t = Kind.Outside (OutsideTag.Voltage t)

abbrev pub temperature_kind : TemperatureTag → Kind
temperature_kind t = Kind.Outside (OutsideTag.Temperature t)

abbrev pub handle_kind : HandleTag → Kind
handle_kind t = Kind.Outside (OutsideTag.Handle t)

-- The command line's answer has its own length, 256 at most.
abbrev pub outside_tags : List Entry
outside_tags =
    -- fixed facts
    entry 0x0000_0001 0 4 (fact_kind FactTag.Firmware)
    ∷ entry 0x0001_0001 0 4 (fact_kind FactTag.Model)
    ∷ entry 0x0001_0002 0 4 (fact_kind FactTag.Revision)
    ∷ entry 0x0001_0003 0 6 (fact_kind FactTag.Mac)
    ∷ entry 0x0001_0004 0 8 (fact_kind FactTag.Serial)
    ∷ entry 0x0001_0005 0 8 (fact_kind FactTag.Arm)
    ∷ entry 0x0001_0006 0 8 (fact_kind FactTag.Vc)
    ∷ entry 0x0005_0001 0 256 (fact_kind FactTag.Line)
    ∷ entry 0x0006_0001 0 4 (fact_kind FactTag.Dma)
    -- power
    ∷ entry 0x0002_0001 4 8 (power_kind PowerTag.State)
    ∷ entry 0x0002_0002 4 8 (power_kind PowerTag.Timing)
    ∷ entry 0x0002_8001 8 8 (power_kind PowerTag.SetState)
    -- clocks
    ∷ entry 0x0003_0001 4 8 (clock_kind ClockTag.State)
    ∷ entry 0x0003_8001 8 8 (clock_kind ClockTag.SetState)
    ∷ entry 0x0003_0002 4 8 (clock_kind ClockTag.Rate)
    ∷ entry 0x0003_0004 4 8 (clock_kind ClockTag.Max)
    ∷ entry 0x0003_0007 4 8 (clock_kind ClockTag.Min)
    ∷ entry 0x0003_8002 8 8 (clock_kind ClockTag.SetRate)
    -- voltage
    ∷ entry 0x0003_0003 4 8 (voltage_kind VoltageTag.Get)
    ∷ entry 0x0003_8003 8 8 (voltage_kind VoltageTag.Set)
    ∷ entry 0x0003_0005 4 8 (voltage_kind VoltageTag.Max)
    ∷ entry 0x0003_0008 4 8 (voltage_kind VoltageTag.Min)
    -- temperature
    ∷ entry 0x0003_0006 4 8 (temperature_kind TemperatureTag.Current)
    ∷ entry 0x0003_000a 4 8 (temperature_kind TemperatureTag.Max)
    -- GPU memory
    ∷ entry 0x0003_000c 12 4 (Kind.Outside OutsideTag.Allocate)
    ∷ entry 0x0003_000d 4 4 (handle_kind HandleTag.Lock)
    ∷ entry 0x0003_000e 4 4 (handle_kind HandleTag.Unlock)
    ∷ entry 0x0003_000f 4 4 (handle_kind HandleTag.Release)
    ∷ []

-- the frame buffer group: get, test and set of each setting, then pitch, allocate, release
abbrev pub group_tags : List Entry
group_tags =
    entry 0x0004_0003 0 8 (Kind.Group (FrameTag.Get Setting.Physical))
    ∷ entry 0x0004_4003 8 8 (Kind.Group (FrameTag.Test Setting.Physical))
    ∷ entry 0x0004_8003 8 8 (Kind.Group (FrameTag.Set Setting.Physical))
    ∷ entry 0x0004_0004 0 8 (Kind.Group (FrameTag.Get Setting.Virtual))
    ∷ entry 0x0004_4004 8 8 (Kind.Group (FrameTag.Test Setting.Virtual))
    ∷ entry 0x0004_8004 8 8 (Kind.Group (FrameTag.Set Setting.Virtual))
    ∷ entry 0x0004_0005 0 4 (Kind.Group (FrameTag.Get Setting.Depth))
    ∷ entry 0x0004_4005 4 4 (Kind.Group (FrameTag.Test Setting.Depth))
    ∷ entry 0x0004_8005 4 4 (Kind.Group (FrameTag.Set Setting.Depth))
    ∷ entry 0x0004_0006 0 4 (Kind.Group (FrameTag.Get Setting.Order))
    ∷ entry 0x0004_4006 4 4 (Kind.Group (FrameTag.Test Setting.Order))
    ∷ entry 0x0004_8006 4 4 (Kind.Group (FrameTag.Set Setting.Order))
    ∷ entry 0x0004_0007 0 4 (Kind.Group (FrameTag.Get Setting.Alpha))
    ∷ entry 0x0004_4007 4 4 (Kind.Group (FrameTag.Test Setting.Alpha))
    ∷ entry 0x0004_8007 4 4 (Kind.Group (FrameTag.Set Setting.Alpha))
    ∷ entry 0x0004_0009 0 8 (Kind.Group (FrameTag.Get Setting.Offset))
    ∷ entry 0x0004_4009 8 8 (Kind.Group (FrameTag.Test Setting.Offset))
    ∷ entry 0x0004_8009 8 8 (Kind.Group (FrameTag.Set Setting.Offset))
    ∷ entry 0x0004_0008 0 4 (Kind.Group FrameTag.Pitch)
    ∷ entry 0x0004_0001 4 8 (Kind.Group FrameTag.Allocate)
    ∷ entry 0x0004_8001 0 0 (Kind.Group FrameTag.Release)
    ∷ []

unfoldable pub table : List Entry
table = outside_tags ++ group_tags

-- a known tag's row, by what it asks and the length of its request
abbrev pub known : Kind → (request : ℕ) → Option Row
known kind request = Some (record { kind = kind; request = request })

abbrev pub find : ℕ → List Entry → Option Row
find id [] = None
find id (e ∷ es) = cond (eqb id e.id) (known e.kind e.request) (find id es)

-- the row of an id: that of its entry; an id with no entry is unknown
unfoldable pub row_of : ℕ → Option Row
row_of id = find id table
