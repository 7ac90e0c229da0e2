-- The reader shows what the responder stored.
use Rattle.std.specs.Prelude.{cond, List, [], ◌∷◌, ◌≡◌, ℕ, zero, suc, ◌+◌, ◌≤◌, ◌<◌, min, eqb, length, take, drop}
use Rattle.message.specs.Outcomes.{done, not_answered, fewer_stored}
use Rattle.message.specs.Reader.{unread, with_id, found}
use Rattle.message.specs.Sizes.{tag_header}
use Rattle.message.specs.declared.reader.Reading.{Reading}
use Rattle.message.specs.declared.walk.Tag.{Tag}
use Rattle.board.specs.declared.record.Board.{Board}
use Rattle.requests.specs.Requests.{WalkOutcome}
use Rattle.responder.specs.Reply.{reply}
use Rattle.responder.specs.Turns.{silent, says}
use Rattle.demands.specs.Terms.{walk_of, tag_of, said_at}

-- ---- questions
-- what the reader gives of what the responder left of m
abbrev pub reading_of : Board → List ℕ → (id occurrence wanted : ℕ) → Reading
reading_of b m id occurrence wanted = found (reply b m).bytes id occurrence wanted

-- the occurrence of the tag of an index: how many tags before it have its id
abbrev pub occurrence_at : List ℕ → ℕ → ℕ
occurrence_at m i = length (with_id (tag_of m i).id (take i (walk_of m).tags))

-- the index of the tag that a reader seeks, by its id and its occurrence, from 0; behind the last where there is none
abbrev pub sought_in : (id occurrence : ℕ) → List Tag → ℕ
sought_in id n [] = 0
sought_in id zero (t ∷ ts) = cond (eqb t.id id) 0 (suc (sought_in id zero ts))
sought_in id (suc n) (t ∷ ts) = suc (sought_in id (cond (eqb t.id id) n (suc n)) ts)

abbrev pub sought : List ℕ → (id occurrence : ℕ) → ℕ
sought m id occurrence = sought_in id occurrence (walk_of m).tags

-- Every tag of a message is sought so, by its id and its occurrence.
abbrev pub EveryTagSought : Type 0
EveryTagSought = (m : List ℕ) (i : ℕ) → i < length (walk_of m).tags → sought m (tag_of m i).id (occurrence_at m i) ≡ i

-- ---- reading what was stored
-- what the reader gives of the tag of an index, asked for its id and its occurrence
abbrev pub reading_at : Board → List ℕ → (i wanted : ℕ) → Reading
reading_at b m i wanted = reading_of b m (tag_of m i).id (occurrence_at m i) wanted

-- so many bytes of the value of the tag of an index, as the responder left them
abbrev pub stored_at : Board → List ℕ → (i count : ℕ) → List ℕ
stored_at b m i count = take count (drop ((tag_of m i).at + tag_header) (reply b m).bytes)

-- how many bytes of an answer are stored at the tag of an index: min(L, v)
abbrev pub stored_count : List ℕ → (i : ℕ) (answer : List ℕ) → ℕ
stored_count m i answer = min (length answer) (tag_of m i).size

-- of an answered tag the reader shows, up to what is stored, exactly those bytes, and L; for more bytes it gives 13
pub record ReadsAnswer (b : Board) (m : List ℕ) (i : ℕ) (answer : List ℕ) : Type 0 where
  pub shows : (wanted : ℕ) → wanted ≤ stored_count m i answer → reading_at b m i wanted ≡ record {
    outcome = done;
    place = 0;
    total = length answer;
    value = (tag_of m i).at + tag_header;
    count = wanted;
  }
  pub bytes : (wanted : ℕ) → wanted ≤ stored_count m i answer → stored_at b m i wanted ≡ take wanted answer
  pub fewer : (wanted : ℕ) → stored_count m i answer < wanted → reading_at b m i wanted ≡ unread fewer_stored 0

-- Where the responder walked the message: each tag that it answered is read so, and a tag that came with bit 31 clear
-- and was not answered is read with 12.
pub record Reads (b : Board) (m : List ℕ) : Type 0 where
  pub answer_read : (i : ℕ) → i < length (walk_of m).tags
      → (answer : List ℕ) → said_at b m i ≡ says answer → ReadsAnswer b m i answer
  pub unanswered_read : (i : ℕ) → i < length (walk_of m).tags
      → said_at b m i ≡ silent → (tag_of m i).word < 0x8000_0000
      → (wanted : ℕ) → reading_at b m i wanted ≡ unread not_answered 0

abbrev pub ReadingBack : Type 0
ReadingBack = (b : Board) (m : List ℕ) → WalkOutcome (reply b m).answer.outcome → Reads b m
