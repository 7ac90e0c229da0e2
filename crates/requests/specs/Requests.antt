-- What the tags of a message ask for. A request has its bytes, and no size of a value buffer in it.
use Rattle.std.specs.Prelude.{Bool, true, false, cond, List, [], ◌∷◌, ◌⊎◌, ◌≡◌, ℕ, ◌+◌, ltb, take, drop}
use Rattle.std.specs.Prelude.{Option, Some, None}
use Rattle.message.specs.Outcomes.{done, no_end, runs_over, short_request}
use Rattle.message.specs.Reader.{is_answered}
use Rattle.message.specs.Sizes.{tag_header}
use Rattle.message.specs.Walk.{walk_from}
use Rattle.message.specs.declared.walk.Ending.{Ending}
use Rattle.message.specs.declared.walk.Tag.{Tag}
use Rattle.table.specs.Table.{row_of}
use Rattle.table.specs.declared.kinds.Kind.{Kind}
use Rattle.table.specs.declared.rows.Row.{Row}

-- a tag is passed over, has a value too short for its request, or asks something with its request bytes
pub data Request : Type 0 where
  passed short : Request
  asks : Kind → (request : List ℕ) → Request

-- a tag's value
abbrev pub value_of : List ℕ → Tag → List ℕ
value_of m t = take t.size (drop (t.at + tag_header) m)

-- a tag's request bytes, by its kind, the request length of its row, v and its value: the first of the value, to the
-- request length
unfoldable pub request_bytes : Kind → (least size : ℕ) → (value : List ℕ) → List ℕ
request_bytes kind least size value = take least value

-- a tag that came with bit 31 of its word set, or with an unknown id: passed over; bits 0 to 30 of a request's
-- word are ignored
unfoldable pub request_by : (answered : Bool) → Option Row → (size : ℕ) → List ℕ → Request
request_by true row size value = passed
request_by false None size value = passed
request_by false (Some row) size value =
    cond (ltb size row.request) short (asks row.kind (request_bytes row.kind row.request size value))

unfoldable pub request_of : List ℕ → Tag → Request
request_of m t = request_by (is_answered t) (row_of t.id) t.size (value_of m t)

-- the tags of a message up to its end or its first fault, what they ask for, and how the walk ends
pub record Trail : Type 0 where
  pub tags : List Tag
  pub requests : List Request
  pub ending : Ending

abbrev pub ends : Ending → Trail
ends e = record { tags = []; requests = []; ending = e }

abbrev pub going_on : Tag → Request → Trail → Trail
going_on t r rest = record { tags = t ∷ rest.tags; requests = r ∷ rest.requests; ending = rest.ending }

-- a known request tag with a value below its request length ends the walk: fault 6 at its place
abbrev pub cut_by : Request → Tag → Trail → Trail
cut_by short t rest = ends (record { outcome = short_request; place = t.at })
cut_by passed t rest = going_on t passed rest
cut_by (asks k request) t rest = going_on t (asks k request) rest

abbrev pub cut : List ℕ → List Tag → Ending → Trail
cut m [] e = ends e
cut m (t ∷ ts) e = cut_by (request_of m t) t (cut m ts e)

-- the trail of a message of `size` bytes, from p on
unfoldable pub trail : List ℕ → (size p : ℕ) → Trail
trail m size p = cut m (walk_from m size p).tags (walk_from m size p).ending

-- the outcomes of a message that is walked: 0, or one of the faults 4, 5 and 6
abbrev pub WalkOutcome : (outcome : ℕ) → Type 0
WalkOutcome outcome = (outcome ≡ done) ⊎ ((outcome ≡ no_end) ⊎ ((outcome ≡ runs_over) ⊎ (outcome ≡ short_request)))
