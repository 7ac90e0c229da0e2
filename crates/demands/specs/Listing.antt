-- The lister shows what the builder took.
use Rattle.std.specs.Prelude.{Bool, true, false, List, [], ◌∷◌, ◌++◌, ◌≡◌, ℕ, ◌+◌, ◌-◌, ◌^◌, ◌≤◌, ◌<◌, eqb}
use Rattle.std.specs.Prelude.{length, take, drop, get_or}
use Rattle.words.specs.Put.{zeros}
use Rattle.message.specs.Builder.{Call, started, added, finished}
use Rattle.message.specs.Lister.{listed, unlisted}
use Rattle.message.specs.Outcomes.{done, no_such_tag}
use Rattle.message.specs.Sizes.{header, tag_header}
use Rattle.message.specs.Walk.{tag_end}
use Rattle.message.specs.declared.builder.Cursor.{Cursor}
use Rattle.message.specs.declared.builder.Finished.{Finished}

-- what an add asks for: an id, a value of `size` bytes, and its first bytes
pub record Add : Type 0 where
  pub id : ℕ
  pub size : ℕ
  pub request : List ℕ

-- adds run one after the other: the buffer and the cursor that they leave, and those that were taken
pub record Run : Type 0 where
  pub bytes : List ℕ
  pub cursor : Cursor
  pub taken : List Add

abbrev pub kept_if : Bool → Add → Run → Run
kept_if true a r = record { bytes = r.bytes; cursor = r.cursor; taken = a ∷ r.taken }
kept_if false a r = r

-- each add gets the buffer and the cursor that the one before it left
abbrev pub add_all : List Add → List ℕ → Cursor → Run
add_all [] m c = record { bytes = m; cursor = c; taken = [] }
add_all (a ∷ adds) m c =
    let call = added m c a.id a.size a.request in
    kept_if (eqb call.answer.outcome done) a (add_all adds call.bytes call.answer.cursor)

-- start comes first
abbrev pub run : List ℕ → List Add → Run
run buffer adds = add_all adds buffer (started buffer).cursor

-- finishing comes last
abbrev pub request_built : List ℕ → List Add → Call Finished
request_built buffer adds = finished (run buffer adds).bytes (run buffer adds).cursor

-- Finishing is never refused after an accepted start and any adds, each given the cursor of the call before it.
abbrev pub Finishing : Type 0
Finishing =
    (buffer : List ℕ) (adds : List Add)
    → (started buffer).outcome ≡ done
    → (request_built buffer adds).answer.outcome ≡ done

-- ---- the lister
-- the first place behind tags that stand one behind the other from p on
abbrev pub place_behind : ℕ → List Add → ℕ
place_behind p [] = p
place_behind p (a ∷ adds) = place_behind (tag_end p a.size) adds

-- the value offset of the add of an index: behind its tag header, at a place that the sizes before it decide
abbrev pub value_offset : List Add → ℕ → ℕ
value_offset adds i = place_behind header (take i adds) + tag_header

-- the lister's i-th tag of m is the add: id, value size, tag word 0, and its value offset, where the request bytes
-- stand, then zeros to the value's size
pub record Shows (m : List ℕ) (i offset : ℕ) (a : Add) : Type 0 where
  pub as_listed : listed m i ≡ record {
    outcome = done;
    place = 0;
    id = a.id;
    size = a.size;
    word = 0;
    value = offset;
  }
  pub value : take a.size (drop offset m) ≡ a.request ++ zeros (a.size - length a.request)

abbrev pub no_add : Add
no_add = record { id = 0; size = 0; request = [] }

-- the lister shows exactly these adds, in order, and 11 behind the last
pub record Lists (m : List ℕ) (adds : List Add) : Type 0 where
  pub each : (i : ℕ) → i < length adds → Shows m i (value_offset adds i) (get_or adds i no_add)
  pub behind_last : (i : ℕ) → length adds ≤ i → listed m i ≡ unlisted no_such_tag 0

-- ids and sizes are words
abbrev pub AreWords : List Add → Type 0
AreWords [] = Unit {0}
AreWords (a ∷ adds) = (a.id < 2 ^ 32) × (a.size < 2 ^ 32) × AreWords adds

-- For any buffer and any adds: where start is accepted, listing the finished message gives exactly the adds that were
-- taken.
abbrev pub Listing : Type 0
Listing =
    (buffer : List ℕ) (adds : List Add)
    → AreWords adds
    → (started buffer).outcome ≡ done
    → Lists (request_built buffer adds).bytes (run buffer adds).taken
