-- The walk of a reply: the tags of the rewritten message are the tags of the request, each at its place with its id and
-- value size; only answered tags have another word.
use Rattle.std.specs.Prelude.{List, [], ◌∷◌, ◌≡◌, ℕ, ◌+◌, length}
use Rattle.message.specs.declared.walk.Tag.{Tag}
use Rattle.board.specs.declared.record.Board.{Board}
use Rattle.requests.specs.Requests.{WalkOutcome}
use Rattle.responder.specs.Reply.{reply}
use Rattle.responder.specs.Turns.{Said, silent, says}
use Rattle.demands.specs.Terms.{walk_of, answers_of}

-- a tag that says something has the word 0x80000000 + L; a silent one keeps its own
abbrev pub tag_after : Tag → Said → Tag
tag_after t silent = t
tag_after t (says answer) = record { at = t.at; id = t.id; size = t.size; word = 0x8000_0000 + length answer }

abbrev pub tags_after : List Tag → List Said → List Tag
tags_after [] ss = []
tags_after (t ∷ ts) [] = t ∷ ts
tags_after (t ∷ ts) (s ∷ ss) = tag_after t s ∷ tags_after ts ss

-- the tags of what the responder left are those of the request, those that say something with their new word, and the
-- walk ends the same
abbrev pub LeavesTags : Board → List ℕ → Type 0
LeavesTags b m =
    walk_of (reply b m).bytes
    ≡ record { tags = tags_after (walk_of m).tags (answers_of b m); ending = (walk_of m).ending }

-- Wherever the responder walked the message.
abbrev pub Walked : Type 0
Walked = (b : Board) (m : List ℕ) → WalkOutcome (reply b m).answer.outcome → LeavesTags b m
