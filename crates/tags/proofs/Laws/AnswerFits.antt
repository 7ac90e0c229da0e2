-- The length of every answer fits into a tag word.
use mathlib.Core.List.{List}
use Prim.Native.Nat.{ℕ, ◌^◌, ◌<◌}
use native.Mathlib.Omega.{arith}
use lib.ListN.{length, length-take}
use Rattle.board.specs.declared.facts.Facts.{Facts}
use Rattle.board.specs.declared.record.Board.{Board}
use Rattle.table.specs.declared.kinds.FactTag.{FactTag}
use Rattle.table.specs.declared.kinds.OutsideTag.{OutsideTag}
use Rattle.tags.specs.Fact.{fact_answer}
use Rattle.tags.specs.Outside.{outside_answer}

-- beside its bit 31
fact_fits : (t : FactTag) (f : Facts) (line : List ℕ) → length (fact_answer t f line) < 2 ^ 31
unfolding fact_answer
fact_fits FactTag.Firmware f line = omega arith
fact_fits FactTag.Model f line = omega arith
fact_fits FactTag.Revision f line = omega arith
fact_fits FactTag.Mac f line = simp length-take (omega arith)
fact_fits FactTag.Serial f line = omega arith
fact_fits FactTag.Arm f line = omega arith
fact_fits FactTag.Vc f line = omega arith
fact_fits FactTag.Line f line = simp length-take (omega arith)
fact_fits FactTag.Dma f line = omega arith

pub outside_fits : (k : OutsideTag) (request : List ℕ) (b : Board) → length (outside_answer k request b) < 2 ^ 31
unfolding outside_answer
outside_fits (OutsideTag.Fact t) request b = fact_fits t b.facts b.line
outside_fits (OutsideTag.Power t) request b = omega arith
outside_fits (OutsideTag.Clock t) request b = omega arith
outside_fits (OutsideTag.Voltage t) request b = omega arith
outside_fits (OutsideTag.Temperature t) request b = omega arith
outside_fits OutsideTag.Allocate request b = omega arith
outside_fits (OutsideTag.Handle t) request b = omega arith
