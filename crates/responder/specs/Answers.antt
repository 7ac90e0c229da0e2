-- What the board answers: from the record and what is asked for, the answers and the record afterwards.
use Rattle.std.specs.Prelude.{Bool, true, false, cond, List, [], ◌∷◌, eqb}
use Rattle.message.specs.Outcomes.{done}
use Rattle.message.specs.declared.walk.Ending.{Ending}
use Rattle.board.specs.declared.display.Display.{Display}
use Rattle.board.specs.declared.record.Board.{Board}
use Rattle.table.specs.declared.kinds.Kind.{Kind}
use Rattle.tags.specs.Outside.{outside_answer, outside_after}
use Rattle.display.specs.Decision.{decided, left_alone, group_answer}
use Rattle.display.specs.Operation.{unasked, noted}
use Rattle.display.specs.declared.decision.Decision.{Decision}
use Rattle.display.specs.declared.operation.Operation.{Operation}
use Rattle.requests.specs.Requests.{Request, passed, short, asks}
use Rattle.responder.specs.Turns.{Said, silent, says, Turn, turns}

-- ---- the frame buffer group: all its requests form one operation
abbrev pub note_by : Request → Operation → Operation
note_by passed o = o
note_by short o = o
note_by (asks (Kind.Outside t) request) o = o
note_by (asks (Kind.Group t) request) o = noted t request o

abbrev pub operation : Operation → List Request → Operation
operation o [] = o
operation o (r ∷ rs) = operation (note_by r o) rs

-- in a faultless message the operation is decided on the record as it came; after a fault the group is not carried
-- out
abbrev pub group_by : (faultless : Bool) → Display → Operation → Decision
group_by true d o = decided d o
group_by false d o = left_alone d

unfoldable pub group_decision : Display → Ending → List Request → Decision
group_decision d e rs = group_by (eqb e.outcome done) d (operation (unasked d.settings) rs)

-- ---- the answers: the state is the record
-- a tag outside the group answers from the record that the last one left, and leaves another; a group tag answers from
-- the decision, unless the group is not answered
unfoldable pub turn_of : Decision → Board → Request → Turn Board
turn_of g b passed = record { said = silent; state = b }
turn_of g b short = record { said = silent; state = b }
turn_of g b (asks (Kind.Outside t) request) =
    record { said = says (outside_answer t request b); state = outside_after t request b }
turn_of g b (asks (Kind.Group t) request) =
    record { said = cond g.answered (says (group_answer g t request)) silent; state = b }

abbrev pub answers : Decision → Board → List Request → List Said
answers g b rs = (turns (turn_of g) b rs).saids

abbrev pub after : Decision → Board → List Request → Board
after g b rs = (turns (turn_of g) b rs).state
