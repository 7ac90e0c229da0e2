-- What the responder gives for any record and any bytes.
use Rattle.std.specs.Prelude.{Bool, true, false, cond, List, [], ◌∷◌, ℕ, eqb, Result, Ok, Err}
use Rattle.words.specs.Numbers.{le, word}
use Rattle.words.specs.Put.{put}
use Rattle.message.specs.Builder.{Call, leaves}
use Rattle.message.specs.Opening.{opened}
use Rattle.message.specs.Outcomes.{done, not_request, invalid_board, number_of}
use Rattle.message.specs.Sizes.{header, code_place}
use Rattle.message.specs.declared.opening.Message.{Message}
use Rattle.message.specs.declared.outcome.Refusal.{Refusal}
use Rattle.message.specs.declared.walk.Tag.{Tag}
use Rattle.board.specs.Record.{with_display, valid}
use Rattle.board.specs.declared.record.Board.{Board}
use Rattle.answers.specs.Writing.{answered}
use Rattle.display.specs.declared.decision.Decision.{Decision}
use Rattle.requests.specs.Requests.{Request, Trail, trail}
use Rattle.responder.specs.Answers.{group_decision, turn_of, after}
use Rattle.responder.specs.Turns.{Said, silent, says, Turn, turns}
use Rattle.responder.specs.declared.respond.Served.{Served}

-- ---- writes
-- what a tag says becomes its tag word and its value's first bytes; a silent tag is left untouched
abbrev pub written : Tag → Said → List ℕ → List ℕ
written t silent m = m
written t (says answer) m = answered t.at t.size answer m

abbrev pub write_all : List Tag → List Said → List ℕ → List ℕ
write_all [] ss m = m
write_all (t ∷ ts) [] m = m
write_all (t ∷ ts) (s ∷ ss) m = write_all ts ss (written t s m)

-- every tag of a message with what it says, from a state on
abbrev pub trail_written : {S : Type 0} → (turn : S → Request → Turn S) → S → Trail → List ℕ → List ℕ
trail_written turn s tr m = write_all tr.tags (turns turn s tr.requests).saids m

-- the code word: 0x80000000 where all was done, 0x80000001 after a fault
abbrev pub code_of : (outcome : ℕ) → ℕ
code_of outcome = cond (eqb outcome done) 0x8000_0000 0x8000_0001

abbrev pub coded : (outcome : ℕ) → List ℕ → List ℕ
coded outcome m = put code_place (le 4 (code_of outcome)) m

-- ---- the reply
-- a refusal: message and record untouched
abbrev pub refused : (outcome : ℕ) → Board → List ℕ → Call Served
refused outcome b m = leaves m (record { outcome = outcome; place = 0; board = b })

-- a message that is walked: its tags are carried out up to its end or its first fault
abbrev pub served_by : Trail → Decision → Board → List ℕ → Call Served
served_by tr g b m =
    leaves (coded tr.ending.outcome (trail_written (turn_of g) b tr m))
    (record {
      outcome = tr.ending.outcome;
      place = tr.ending.place;
      board = with_display (after g b tr.requests) g.display;
    })

unfoldable pub served : Board → List ℕ → (size : ℕ) → Call Served
served b m size = let tr = trail m size header in served_by tr (group_decision b.display tr.ending tr.requests) b m

-- the refusals in order: 14, 1, 2, 3
abbrev pub coded_if : (is_request : Bool) → Board → List ℕ → (size : ℕ) → Call Served
coded_if true b m size = served b m size
coded_if false b m size = refused not_request b m

abbrev pub opened_if : Result Message Refusal → Board → List ℕ → Call Served
opened_if (Err refusal) b m = refused (number_of refusal) b m
opened_if (Ok message) b m = coded_if (eqb (word m code_place) 0) b m message.size

abbrev pub valid_if : Bool → Board → List ℕ → Call Served
valid_if true b m = opened_if (opened m) b m
valid_if false b m = refused invalid_board b m

unfoldable pub reply : Board → List ℕ → Call Served
reply b m = valid_if (valid b) b m
