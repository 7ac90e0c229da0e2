-- Fixed facts, and what each answers.
use Rattle.std.specs.Prelude.{List, ℕ, take}
use Rattle.words.specs.Numbers.{le}
use Rattle.board.specs.declared.facts.Facts.{Facts}
use Rattle.board.specs.declared.facts.Span.{Span}
use Rattle.table.specs.declared.kinds.FactTag.{FactTag}
use Rattle.answers.specs.Answer.{two_words}

abbrev pub span_answer : Span → List ℕ
span_answer s = two_words s.base s.size

-- the MAC address in stored order; the command line as long as it is, with no zero added
unfoldable pub fact_answer : FactTag → Facts → (line : List ℕ) → List ℕ
fact_answer FactTag.Firmware f line = le 4 f.firmware
fact_answer FactTag.Model f line = le 4 f.model
fact_answer FactTag.Revision f line = le 4 f.revision
fact_answer FactTag.Mac f line = take 6 f.mac
fact_answer FactTag.Serial f line = le 8 f.serial
fact_answer FactTag.Arm f line = span_answer f.arm
fact_answer FactTag.Vc f line = span_answer f.vc
fact_answer FactTag.Line f line = take f.characters (take 256 line)
fact_answer FactTag.Dma f line = le 4 f.dma
