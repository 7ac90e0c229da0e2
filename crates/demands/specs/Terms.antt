-- Terms that the statements share: the tags of a message, and what each of them says where the responder walks it.
use Rattle.std.specs.Prelude.{List, ◌≡◌, ℕ, get_or}
use Rattle.words.specs.Numbers.{word}
use Rattle.message.specs.Outcomes.{done}
use Rattle.message.specs.Sizes.{header}
use Rattle.message.specs.Walk.{Walk, walk_from}
use Rattle.message.specs.declared.walk.Tag.{Tag}
use Rattle.board.specs.declared.record.Board.{Board}
use Rattle.display.specs.declared.decision.Decision.{Decision}
use Rattle.requests.specs.Requests.{Trail, trail, WalkOutcome}
use Rattle.responder.specs.Answers.{group_decision, answers}
use Rattle.responder.specs.Reply.{reply}
use Rattle.responder.specs.Turns.{Said, silent, says}

-- ---- tags
-- the walk of the message that m holds
abbrev pub walk_of : List ℕ → Walk
walk_of m = walk_from m (word m 0) header

-- what stands for a tag behind the last
abbrev pub no_tag : Tag
no_tag = record { at = 0; id = 0; size = 0; word = 0 }

-- its tag of an index, from 0
abbrev pub tag_of : List ℕ → ℕ → Tag
tag_of m i = get_or (walk_of m).tags i no_tag

-- ---- answers
-- the tags of the message that m holds, up to its end or its first fault, and what they ask
abbrev pub trail_of : List ℕ → Trail
trail_of m = trail m (word m 0) header

-- what is decided of the frame buffer group on the record b, and what each of these tags says
abbrev pub decision_of : Board → List ℕ → Decision
decision_of b m = group_decision b.display (trail_of m).ending (trail_of m).requests

abbrev pub answers_of : Board → List ℕ → List Said
answers_of b m = answers (decision_of b m) b (trail_of m).requests

-- what the tag of an index says in a message that is walked: behind a fault, and behind the last tag, nothing
abbrev pub said_at : Board → List ℕ → ℕ → Said
said_at b m i = get_or (answers_of b m) i silent

-- the message is faultless on this record
abbrev pub Faultless : Board → List ℕ → Type 0
Faultless b m = (reply b m).answer.outcome ≡ done

-- the tag of an index is answered: the message is walked, and the tag says something
abbrev pub Answered : Board → List ℕ → ℕ → Type 0
Answered b m i = WalkOutcome (reply b m).answer.outcome × ((answer : List ℕ) × (said_at b m i ≡ says answer))
