-- Two faultless requests alike but for longer value buffers in the second are served alike.
use Rattle.std.specs.Prelude.{List, map, ◌≡◌, ℕ, ◌≤◌, ◌<◌, length, take, drop}
use Rattle.message.specs.Outcomes.{done, no_such_tag, not_answered}
use Rattle.message.specs.Reader.{stored}
use Rattle.message.specs.declared.reader.Reading.{Reading}
use Rattle.message.specs.declared.walk.Tag.{Tag}
use Rattle.board.specs.declared.record.Board.{Board}
use Rattle.table.specs.Table.{known, row_of}
use Rattle.table.specs.declared.kinds.Kind.{Kind}
use Rattle.requests.specs.Requests.{value_of, request_bytes}
use Rattle.responder.specs.Reply.{reply}
use Rattle.demands.specs.ReadingBack.{reading_of, sought}
use Rattle.demands.specs.Terms.{walk_of, tag_of, Answered, Faultless}
use Rattle.demands.specs.Walked.{LeavesTags}

-- ---- the premises
-- the ids and the tag words of a message, in order up to its end
abbrev pub tag_ids : List ℕ → List ℕ
tag_ids m = map (λ t. t.id) (walk_of m).tags

abbrev pub tag_words : List ℕ → List ℕ
tag_words m = map (λ t. t.word) (walk_of m).tags

-- at a tag of known id with bit 31 clear the request bytes are the same
abbrev pub SameRequest : (m m' : List ℕ) (t t' : Tag) → Type 0
SameRequest m m' t t' =
    (kind : Kind) (least : ℕ)
    → row_of t.id ≡ known kind least
    → t.word < 0x8000_0000
    → request_bytes kind least t.size (value_of m t) ≡ request_bytes kind least t'.size (value_of m' t')

-- two requests m and m', each served on the record b
pub record AlikeButLonger (b : Board) (m m' : List ℕ) : Type 0 where
  -- both are faultless: outcome 0, which no record but a valid one gives
  pub faultless : Faultless b m
  pub faultless' : Faultless b m'
  -- the same tags in order: as many in both, ids equal
  pub same_ids : tag_ids m ≡ tag_ids m'
  -- the same tag words
  pub words_before : tag_words m ≡ tag_words m'
  -- the same request bytes
  pub same_requests : (i : ℕ) → i < length (walk_of m).tags → SameRequest m m' (tag_of m i) (tag_of m' i)
  -- each value buffer of the second at least as long as in the first
  pub longer : (i : ℕ) → i < length (walk_of m).tags → (tag_of m i).size ≤ (tag_of m' i).size

-- ---- the conclusions
-- the stored answer of a tag of a served message: the first min(L, v) bytes of its value, L told by its word
abbrev pub stored_answer : List ℕ → (i : ℕ) → List ℕ
stored_answer m i = take (stored (tag_of m i)) (value_of m (tag_of m i))

abbrev pub Begins : (short long : List ℕ) → Type 0
Begins short long = take (length short) long ≡ short

-- the wanted bytes that a reading shows of what the responder left of m
abbrev pub bytes_read : Board → List ℕ → (wanted : ℕ) → Reading → List ℕ
bytes_read b m wanted r = take wanted (drop r.value (reply b m).bytes)

-- what a reading of the first shows, one of the second shows: the same L and the same bytes, as many as are wanted
pub record ShownAlike (b : Board) (m m' : List ℕ) (wanted : ℕ) (r r' : Reading) : Type 0 where
  pub is_done : r'.outcome ≡ done
  pub as_many : r'.count ≡ wanted
  pub same_total : r'.total ≡ r.total
  pub same_bytes : bytes_read b m' wanted r' ≡ bytes_read b m wanted r

-- the reader, asked the same of both messages
pub record ReadAlike (b : Board) (m m' : List ℕ) (id occurrence wanted : ℕ) : Type 0 where
  -- where it shows the wanted bytes of an answered tag of the first, it shows the same of the second
  pub shown : Answered b m (sought m id occurrence) → (reading_of b m id occurrence wanted).outcome ≡ done
      → ShownAlike b m m' wanted (reading_of b m id occurrence wanted) (reading_of b m' id occurrence wanted)
  -- where it refuses the first with 11, it refuses the second with 11
  pub not_there : (reading_of b m id occurrence wanted).outcome ≡ no_such_tag
      → (reading_of b m' id occurrence wanted).outcome ≡ no_such_tag
  -- where it refuses the first with 12, it refuses the second with 12
  pub no_answer : (reading_of b m id occurrence wanted).outcome ≡ not_answered
      → (reading_of b m' id occurrence wanted).outcome ≡ not_answered

pub record ServedAlike (b : Board) (m m' : List ℕ) : Type 0 where
  -- both leave the same record
  pub same_board : (reply b m).answer.board ≡ (reply b m').answer.board
  -- afterwards each message has the tags that it had, an answered one with the word 0x80000000 + L, any other with the
  -- word that it came with
  pub leaves_tags : LeavesTags b m
  pub leaves_tags' : LeavesTags b m'
  -- and each tag has the same word in both
  pub words_after : tag_words (reply b m).bytes ≡ tag_words (reply b m').bytes
  -- each stored answer of the first begins the second's
  pub begins : (i : ℕ) → Answered b m i
      → Begins (stored_answer (reply b m).bytes i) (stored_answer (reply b m').bytes i)
  -- the reader agrees, whatever the tag id, the occurrence and the wanted length
  pub read : (id occurrence wanted : ℕ) → ReadAlike b m m' id occurrence wanted

-- On any record, of any two requests.
abbrev pub LongerValues : Type 0
LongerValues = (b : Board) (m m' : List ℕ) → AlikeButLonger b m m' → ServedAlike b m m'
