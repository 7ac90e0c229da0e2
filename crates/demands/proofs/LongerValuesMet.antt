-- The premises of `LongerValues` can be met: a MAC address with a value of 4 bytes against one of 8, a tag that is passed over,
-- and a frame buffer operation.
use mathlib.Core.Bool.{true≢false}
use mathlib.Core.List.{List, [], ◌∷◌}
use mathlib.Core.Path.{◌≡◌, refl, sym, ap, ◌∙◌}
use Prim.Native.Nat.{ℕ, zero, suc, ◌≤◌, ◌<◌}
use native.Mathlib.Omega.{arith}
use lib.Dec.{lit≤, lit<}
use Rattle.std.proofs.Common.{None}
use Rattle.words.specs.Numbers.{number_at, word_bytes}
use Rattle.message.specs.Opening.{good_size, opened}
use Rattle.message.specs.Outcomes.{done}
use Rattle.message.specs.Walk.{tag_at, overruns, step, walk_from}
use Rattle.message.specs.declared.reader.Reading.{Reading}
use Rattle.message.specs.declared.walk.Tag.{Tag}
use Rattle.board.proofs.Laws.Bench.{bench_valid}
use Rattle.board.specs.Bench.{bench}
use Rattle.table.specs.Table.{known, fact_kind, table, row_of}
use Rattle.table.specs.declared.kinds.FactTag.{FactTag}
use Rattle.table.specs.declared.kinds.FrameTag.{FrameTag}
use Rattle.table.specs.declared.kinds.Kind.{Kind}
use Rattle.table.specs.declared.kinds.Setting.{Setting}
use Rattle.requests.specs.Requests.{value_of, request_bytes, request_by, request_of, trail}
use Rattle.responder.specs.Reply.{served, reply}
use Rattle.demands.proofs.Laws.Cuts.{row_same}
use Rattle.demands.proofs.LongerValues.{longer_values}
use Rattle.demands.proofs.ServedMet.{request_tag, mac_bytes, several_tags, several_done, mac_said, several_read, mac_answered}
use Rattle.demands.specs.LongerValues.{SameRequest, ShownAlike, ServedAlike}
use Rattle.demands.specs.ReadingBack.{reading_of}
use Rattle.demands.specs.Terms.{tag_of}

-- the tags of `several_tags` in longer values
abbrev longer_tags : List ℕ
longer_tags = word_bytes (88 ∷ 0 ∷ 0x00010003 ∷ 8 ∷ 0 ∷ 0 ∷ 0 ∷ 0x00099999 ∷ 8 ∷ 0 ∷ 9 ∷ 9 ∷ 0x00048005 ∷ 8 ∷ 0 ∷ 16 ∷ 5 ∷ 0x00040005 ∷ 4 ∷ 0 ∷ 0 ∷ 0 ∷ [])

longer_done : (reply bench longer_tags).answer.outcome ≡ done
unfolding reply served opened good_size number_at trail walk_from step overruns tag_at request_of request_by request_bytes row_of table
longer_done = rw bench_valid

-- a tag of a known row, and one of an unknown id
pub known_row : (m m' : List ℕ) (t t' : Tag) (k : Kind) (n : ℕ) → row_of t.id ≡ known k n
    → request_bytes k n t.size (value_of m t) ≡ request_bytes k n t'.size (value_of m' t') → SameRequest m m' t t'
known_row m m' t t' k n r e k' n' r' w =
    let q = row_same (sym r ∙ r') in
    rw (← q.0, ← q.1) e

unknown_row : (m m' : List ℕ) (t t' : Tag) → row_of t.id ≡ None → SameRequest m m' t t'
unknown_row m m' t t' r k n r' w =
    let q : None ≡ known k n = sym r ∙ r' in
    absurd (true≢false cc)

several_requests : (i : ℕ) → i < 4 → SameRequest several_tags longer_tags (tag_of several_tags i) (tag_of longer_tags i)
unfolding number_at walk_from step overruns tag_at row_of table request_bytes
several_requests zero l = known_row several_tags longer_tags (request_tag 8 0x00010003 4) (request_tag 8 0x00010003 8) (fact_kind FactTag.Mac) 0 refl refl
several_requests (suc zero) l = unknown_row several_tags longer_tags (request_tag 24 0x00099999 4) (request_tag 28 0x00099999 8) refl
several_requests (suc (suc zero)) l =
    known_row several_tags longer_tags (request_tag 40 0x00048005 4) (request_tag 48 0x00048005 8) (Kind.Group (FrameTag.Set Setting.Depth)) 4 refl refl
several_requests (suc (suc (suc zero))) l =
    known_row several_tags longer_tags (request_tag 56 0x00040005 4) (request_tag 68 0x00040005 4) (Kind.Group (FrameTag.Get Setting.Depth)) 0 refl refl
several_requests (suc (suc (suc (suc i)))) l = absurd (omega arith)

several_values : (i : ℕ) → i < 4 → (tag_of several_tags i).size ≤ (tag_of longer_tags i).size
unfolding number_at walk_from step overruns tag_at
several_values zero l = lit≤ tt
several_values (suc zero) l = lit≤ tt
several_values (suc (suc zero)) l = lit≤ tt
several_values (suc (suc (suc zero))) l = lit≤ tt
several_values (suc (suc (suc (suc i)))) l = absurd (omega arith)

pub longer_alike : ServedAlike bench several_tags longer_tags
unfolding number_at walk_from step overruns tag_at
longer_alike =
    longer_values bench several_tags longer_tags (record {
      faultless = several_done;
      faultless' = longer_done;
      same_ids = refl;
      words_before = refl;
      same_requests = several_requests;
      longer = several_values;
    })

-- the reader, asked for the four first bytes of the MAC address, shows the same of both
pub mac_alike : ShownAlike bench several_tags longer_tags 4 (reading_of bench several_tags 0x00010003 0 4) (reading_of bench longer_tags 0x00010003 0 4)
unfolding number_at walk_from step overruns tag_at
mac_alike =
    let reading = (several_read.answer_read 0 (lit< tt) mac_bytes mac_said).shows 4 (lit≤ tt) in
    (longer_alike.read 0x00010003 0 4).shown mac_answered (ap (λ (r : Reading). r.outcome) reading)
