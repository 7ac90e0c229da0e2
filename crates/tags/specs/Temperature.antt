-- The temperature.
use Rattle.std.specs.Prelude.{cond, List, ℕ, eqb}
use Rattle.board.specs.declared.items.Temperature.{Temperature}
use Rattle.table.specs.declared.kinds.TemperatureTag.{TemperatureTag}
use Rattle.answers.specs.Answer.{two_words}
use Rattle.tags.specs.Place.{id_of}

abbrev pub temperature_of : TemperatureTag → Temperature → ℕ
temperature_of TemperatureTag.Current t = t.current
temperature_of TemperatureTag.Max t = t.max

-- an id that is not 0 answers 0
unfoldable pub temperature_value : TemperatureTag → (id : ℕ) → Temperature → ℕ
temperature_value tag id t = cond (eqb id 0) (temperature_of tag t) 0

abbrev pub temperature_answer : TemperatureTag → (request : List ℕ) → Temperature → List ℕ
temperature_answer tag request t = two_words (id_of request) (temperature_value tag (id_of request) t)
