-- What a message file is served as.
use Rattle.std.specs.Prelude.{Bool, true, false, ◌&&◌, ◌||◌, List, ℕ, eqb, leb, ltb, length}
use Rattle.message.specs.Builder.{Call, leaves}
use Rattle.message.specs.Outcomes.{done, bad_size, no_end, short_request}
use Rattle.message.specs.Sizes.{largest}
use Rattle.board.specs.Bench.{bench}
use Rattle.responder.specs.Reply.{reply}

abbrev pub filed_if : (above : Bool) → List ℕ → Call ℕ
filed_if true m = leaves m bad_size
filed_if false m = let r = reply bench m in leaves r.bytes r.answer.outcome

-- the outcome, and the bytes afterwards: those of the bench record's reply; a file above 65,536 bytes stays as it is
unfoldable pub filed : List ℕ → Call ℕ
filed m = filed_if (ltb largest (length m)) m

-- the outcomes after which the bytes can have changed: done, and the faults 4 to 6
unfoldable pub rewrites : (outcome : ℕ) → Bool
rewrites outcome = eqb outcome done || (leb no_end outcome && leb outcome short_request)
