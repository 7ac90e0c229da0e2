-- Describes code: what a walk over a message's tags writes and gives.
use Rattle.std.specs.Prelude.{cond, List, ℕ}
use Rattle.message.specs.Builder.{Call, leaves}
use Rattle.message.specs.Sizes.{header}
use Rattle.board.specs.declared.record.Board.{Board}
use Rattle.display.specs.Operation.{unasked}
use Rattle.display.specs.declared.decision.Decision.{Decision}
use Rattle.display.specs.declared.operation.Operation.{Operation}
use Rattle.requests.specs.Requests.{Trail, trail}
use Rattle.responder.specs.Answers.{operation, turn_of, after}
use Rattle.responder.specs.Reply.{trail_written}
use Rattle.responder.specs.declared.walk.TagsServed.{TagsServed}

-- a trail served on a record, with the group decided as g, starting from the operation o
abbrev pub trail_served : Decision → Board → Operation → Trail → List ℕ → Call TagsServed
trail_served g b o tr m =
    leaves (trail_written (turn_of g) b tr m)
    (record { ending = tr.ending; operation = operation o tr.requests; board = after g b tr.requests })

abbrev pub walk_served : Decision → Board → List ℕ → (size : ℕ) → Call TagsServed
walk_served g b m size = trail_served g b (unasked b.display.settings) (trail m size header) m

-- the message after the second walk, which is not taken where the group is left alone
abbrev pub group_served : Decision → Board → List ℕ → (size : ℕ) → List ℕ
group_served g b m size = cond g.answered (trail_written (turn_of g) b (trail m size header) m) m
