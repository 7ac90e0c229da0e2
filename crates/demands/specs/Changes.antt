-- What every call gives, and what it changes of a message.
use Rattle.std.specs.Prelude.{cond, List, [], ◌∷◌, ◌⊎◌, ◌≡◌, ℕ, ◌+◌, ◌≤◌, ◌<◌, min, eqb, length, get_or}
use Rattle.words.specs.Numbers.{word}
use Rattle.message.specs.Outcomes.{done, too_few_lent, bad_size, not_request, invalid_board}
use Rattle.message.specs.Sizes.{tag_header, code_place}
use Rattle.message.specs.Walk.{word_place}
use Rattle.message.specs.declared.walk.Tag.{Tag}
use Rattle.board.specs.declared.record.Board.{Board}
use Rattle.requests.specs.Requests.{WalkOutcome}
use Rattle.responder.specs.Reply.{reply}
use Rattle.responder.specs.Turns.{Said, silent, says}
use Rattle.demands.specs.Terms.{trail_of, answers_of}

-- the outcomes 1, 2, 3 and 14
abbrev pub RefusalOutcome : (outcome : ℕ) → Type 0
RefusalOutcome outcome =
    (outcome ≡ too_few_lent) ⊎ ((outcome ≡ bad_size) ⊎ ((outcome ≡ not_request) ⊎ (outcome ≡ invalid_board)))

-- Any bytes and any record get an outcome by number: 0, a fault 4, 5 or 6, or a refusal 1, 2, 3 or 14.
abbrev pub Numbered : Type 0
Numbered = (b : Board) (m : List ℕ) → WalkOutcome (reply b m).answer.outcome ⊎ RefusalOutcome (reply b m).answer.outcome

-- ---- where the message is walked
-- After 0 the code word is 0x80000000, after a fault 0x80000001.
abbrev pub CodeWord : Type 0
CodeWord =
    (b : Board) (m : List ℕ)
    → WalkOutcome (reply b m).answer.outcome
    → word (reply b m).bytes code_place ≡ cond (eqb (reply b m).answer.outcome done) 0x8000_0000 0x8000_0001

-- the byte at i is none of the n bytes from a on
abbrev pub NotAmong : (i a n : ℕ) → Type 0
NotAmong i a n = (i < a) ⊎ (a + n ≤ i)

-- the byte at i is in no tag word and in no stored answer of a tag that says something
abbrev pub InNoAnswer : List Tag → List Said → ℕ → Type 0
InNoAnswer [] ss i = Unit {0}
InNoAnswer (t ∷ ts) [] i = Unit {0}
InNoAnswer (t ∷ ts) (silent ∷ ss) i = InNoAnswer ts ss i
InNoAnswer (t ∷ ts) (says answer ∷ ss) i =
    NotAmong i (t.at + word_place) 4
    × NotAmong i (t.at + tag_header) (min (length answer) t.size)
    × InNoAnswer ts ss i

-- Only the code word, the tag words of answered tags and their stored answers change, byte by byte.
abbrev pub Changes : Type 0
Changes =
    (b : Board) (m : List ℕ) (i : ℕ)
    → NotAmong i code_place 4
    → InNoAnswer (trail_of m).tags (answers_of b m) i
    → get_or (reply b m).bytes i 0 ≡ get_or m i 0

-- The length never changes.
abbrev pub SameLength : Type 0
SameLength = (b : Board) (m : List ℕ) → length (reply b m).bytes ≡ length m

-- ---- where it is refused
-- message and record are as they were
abbrev pub Untouched : Board → List ℕ → Type 0
Untouched b m = ((reply b m).bytes ≡ m) × ((reply b m).answer.board ≡ b)

-- After 1, 2, 3 and 14 nothing changes, the record included.
abbrev pub Refusals : Type 0
Refusals = (b : Board) (m : List ℕ) → RefusalOutcome (reply b m).answer.outcome → Untouched b m
