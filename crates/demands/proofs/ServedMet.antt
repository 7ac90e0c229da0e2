-- The premises of the statements on one served message can be met: a message with a MAC address in a value of 4 bytes, an
-- unknown tag, and a depth that is set and asked; one whose operation is refused, with a release; one that mixes a test with a set; and
-- messages that are refused.
use mathlib.Core.Bool.{true, false, true≢false}
use mathlib.Core.List.{List, [], ◌∷◌}
use mathlib.Core.Logic.{◌⊎◌, inl, inr}
use mathlib.Core.Path.{◌≡◌, refl, ap}
use Prim.Native.Nat.{ℕ, zero, suc}
use lib.Count.{ones_in}
use lib.Dec.{lit≤, lit<}
use lib.ListN.{length, get_or, take}
use Rattle.words.specs.Align.{one_bit}
use Rattle.words.specs.Numbers.{number_at, word, nth_word, word_bytes}
use Rattle.message.specs.Opening.{good_size, opened}
use Rattle.message.specs.Outcomes.{done}
use Rattle.message.specs.Sizes.{code_place}
use Rattle.message.specs.Walk.{tag_at, overruns, step, walk_from}
use Rattle.message.specs.declared.walk.Tag.{Tag}
use Rattle.board.proofs.Laws.Bench.{bench_valid}
use Rattle.board.proofs.Laws.Record.{display_valid}
use Rattle.board.specs.Bench.{bench}
use Rattle.board.specs.Display.{pitch, need, sides, depths, offsets, possible, supported, valid_buffer, valid_display}
use Rattle.board.specs.Facts.{valid_facts}
use Rattle.board.specs.Items.{valid_state, valid_device}
use Rattle.board.specs.Record.{with_devices, with_display, valid}
use Rattle.board.specs.declared.record.Board.{Board}
use Rattle.table.specs.Table.{fact_kind, table, row_of}
use Rattle.table.specs.declared.kinds.FactTag.{FactTag}
use Rattle.table.specs.declared.kinds.FrameTag.{FrameTag}
use Rattle.table.specs.declared.kinds.Kind.{Kind}
use Rattle.table.specs.declared.kinds.Setting.{Setting}
use Rattle.tags.specs.Fact.{fact_answer}
use Rattle.tags.specs.Outside.{outside_answer, outside_after}
use Rattle.display.specs.Decision.{supported_from, placed_at, allocatable, fits_buffer, accepted, decided, group_answer}
use Rattle.display.specs.Operation.{with_setting, noted}
use Rattle.requests.specs.Requests.{passed, asks, request_bytes, request_by, request_of, trail, WalkOutcome}
use Rattle.responder.specs.Answers.{group_decision, turn_of}
use Rattle.responder.specs.Reply.{served, reply}
use Rattle.responder.specs.Turns.{Said, silent, says}
use Rattle.demands.proofs.Laws.Cuts.{row_same}
use Rattle.demands.proofs.AnswerLengths.{answer_lengths}
use Rattle.demands.proofs.AnsweredWhen.{answered_when}
use Rattle.demands.proofs.Changes.{numbered, changes, same_length, refusals}
use Rattle.demands.proofs.DisplayKept.{display_stays}
use Rattle.demands.proofs.Kept.{kept}
use Rattle.demands.proofs.ReadingBack.{every_tag_sought, code_word, reads}
use Rattle.demands.proofs.Walked.{walked_is}
use Rattle.demands.specs.AnswerLengths.{HasArrays, length_in}
use Rattle.demands.specs.AnsweredWhen.{AsksGroup, Mixes}
use Rattle.demands.specs.Changes.{RefusalOutcome, Untouched}
use Rattle.demands.specs.ReadingBack.{occurrence_at, sought, Reads}
use Rattle.demands.specs.Terms.{tag_of, trail_of, answers_of, said_at, Answered}
use Rattle.demands.specs.Walked.{LeavesTags}

abbrev pub request_tag : (at id size : ℕ) → Tag
request_tag at id size = record { at = at; id = id; size = size; word = 0 }

-- ---- MAC address, an unknown id, set depth 16, get depth
abbrev pub several_tags : List ℕ
several_tags = word_bytes (76 ∷ 0 ∷ 0x00010003 ∷ 4 ∷ 0 ∷ 0 ∷ 0x00099999 ∷ 4 ∷ 0 ∷ 7 ∷ 0x00048005 ∷ 4 ∷ 0 ∷ 16 ∷ 0x00040005 ∷ 4 ∷ 0 ∷ 0 ∷ 0 ∷ [])

pub several_done : (reply bench several_tags).answer.outcome ≡ done
unfolding reply served opened good_size number_at trail walk_from step overruns tag_at request_of request_by request_bytes row_of table
several_done = rw bench_valid

-- the MAC address, the set and the get are answered, and the unknown tag is silent
abbrev pub mac_bytes : List ℕ
mac_bytes = 0xB8 ∷ 0x27 ∷ 0xEB ∷ 0x4D ∷ 0x91 ∷ 0xF6 ∷ []

several_answers : answers_of bench several_tags
    ≡ says mac_bytes ∷ silent ∷ says (16 ∷ 0 ∷ 0 ∷ 0 ∷ []) ∷ says (16 ∷ 0 ∷ 0 ∷ 0 ∷ []) ∷ []
unfolding bench number_at trail walk_from step overruns tag_at request_of request_by request_bytes row_of table group_decision decided accepted allocatable fits_buffer placed_at one_bit ones_in supported_from nth_word noted with_setting turn_of outside_answer outside_after fact_answer group_answer supported possible sides depths offsets pitch need
several_answers = refl

pub mac_said : said_at bench several_tags 0 ≡ says mac_bytes
mac_said = ap (λ (ss : List Said). get_or ss 0 silent) several_answers

several_trail : (trail_of several_tags).tags
    ≡ request_tag 8 0x00010003 4 ∷ request_tag 24 0x00099999 4 ∷ request_tag 40 0x00048005 4 ∷ request_tag 56 0x00040005 4 ∷ []
unfolding number_at trail walk_from step overruns tag_at request_of request_by request_bytes row_of table
several_trail = refl

-- `Kept`: the record that it leaves is valid
pub several_kept : valid (reply bench several_tags).answer.board ≡ true
several_kept = kept bench several_tags bench_valid

-- `SameLength`: its 76 bytes
pub several_length : length (reply bench several_tags).bytes ≡ 76
several_length = same_length bench several_tags

-- `Changes`: the value of the unknown tag, at 36
pub several_value : get_or (reply bench several_tags).bytes 36 0 ≡ 7
several_value =
    changes bench several_tags 36 (inr (lit≤ tt))
    (rw (several_trail, several_answers) (inr (lit≤ tt), inr (lit≤ tt), (inl (lit< tt), inl (lit< tt), (inl (lit< tt), inl (lit< tt), tt))))

-- `CodeWord`, `Walked`, `EveryTagSought` and `ReadingBack`
pub several_code : word (reply bench several_tags).bytes code_place ≡ 0x8000_0000
several_code = rw several_done at (code_word bench several_tags (inl several_done))

pub several_leave_tags : LeavesTags bench several_tags
several_leave_tags = walked_is bench several_tags (inl several_done)

pub several_sought : sought several_tags (tag_of several_tags 3).id (occurrence_at several_tags 3) ≡ 3
unfolding number_at walk_from step overruns tag_at
several_sought = every_tag_sought several_tags 3 (lit< tt)

pub several_read : Reads bench several_tags
several_read = reads bench several_tags (inl several_done)

-- `AnswerLengths`, on the bench record
pub bench_arrays : HasArrays bench
unfolding bench
bench_arrays = record { mac = refl; line = refl }

pub mac_length : length mac_bytes ≡ length_in bench.facts.characters (tag_of several_tags 0).id table
mac_length = answer_lengths bench several_tags bench_arrays 0 mac_bytes mac_said

-- `AnsweredWhen`: the MAC address is answered, by what the rule asks; the unknown tag is not
pub mac_answered : Answered bench several_tags 0
unfolding number_at walk_from step overruns tag_at row_of table
mac_answered =
    (answered_when bench several_tags 0).1 (record {
      known = (fact_kind FactTag.Mac, 0, refl);
      bit_clear = lit< tt;
      before = inl several_done;
      group = λ w. let z : fact_kind FactTag.Mac ≡ Kind.Group w.0 = (row_same {n = 0} w.2).0 in absurd (true≢false cc);
    })

pub unknown_silent : Answered bench several_tags 1 → ⊥
unfolding number_at walk_from step overruns tag_at row_of table
unknown_silent a = let k = ((answered_when bench several_tags 1).0 a).known in let e = k.2 in true≢false cc

-- ---- release, set depth 7, on a record with a buffer: the operation is refused
abbrev pub standing_buffer : Board
standing_buffer = with_display bench (record {
  region = bench.display.region;
  settings = bench.display.settings;
  buffer = record { base = 0x3C000000; size = 1536000 };
})

standing_valid : valid standing_buffer ≡ true
unfolding bench valid_display valid_buffer supported possible sides depths offsets pitch need
standing_valid = display_valid bench standing_buffer.display bench_valid refl refl

abbrev pub release_refused : List ℕ
release_refused = word_bytes (40 ∷ 0 ∷ 0x00048001 ∷ 0 ∷ 0 ∷ 0x00048005 ∷ 4 ∷ 0 ∷ 7 ∷ 0 ∷ [])

refused_done : (reply standing_buffer release_refused).answer.outcome ≡ done
unfolding reply served opened good_size number_at trail walk_from step overruns tag_at request_of request_by request_bytes row_of table
refused_done = rw standing_valid

refused_asks : (trail_of release_refused).requests
    ≡ asks (Kind.Group FrameTag.Release) [] ∷ asks (Kind.Group (FrameTag.Set Setting.Depth)) (7 ∷ 0 ∷ 0 ∷ 0 ∷ []) ∷ []
unfolding number_at trail walk_from step overruns tag_at request_of request_by request_bytes row_of table
refused_asks = refl

refused_apart : Mixes release_refused → ⊥
refused_apart x = go x.0.0 (rw refused_asks at x.0.1)
  where
    go : (i : ℕ)
        → AsksGroup true (get_or (asks (Kind.Group FrameTag.Release) [] ∷ asks (Kind.Group (FrameTag.Set Setting.Depth)) (7 ∷ 0 ∷ 0 ∷ 0 ∷ []) ∷ []) i passed)
        → ⊥
    go zero e = true≢false cc
    go (suc zero) e = true≢false cc
    go (suc (suc i)) e = e

-- the release is answered, with no bytes, and the record stays as it was
pub release_answered : Answered standing_buffer release_refused 0
unfolding number_at walk_from step overruns tag_at row_of table
release_answered =
    (answered_when standing_buffer release_refused 0).1 (record {
      known = (Kind.Group FrameTag.Release, 0, refl);
      bit_clear = lit< tt;
      before = inl refused_done;
      group = λ w. (refused_done, refused_apart);
    })

pub release_left : (said_at standing_buffer release_refused 0 ≡ says []) × ((reply standing_buffer release_refused).answer.board ≡ standing_buffer)
unfolding reply served opened good_size bench number_at trail walk_from step overruns tag_at request_of request_by request_bytes row_of table group_decision decided accepted allocatable fits_buffer placed_at one_bit ones_in supported_from nth_word noted with_setting turn_of group_answer supported possible sides depths offsets pitch need
release_left = (refl, rw standing_valid)

-- ---- test depth, set depth: mixed, and neither is answered
abbrev pub test_beside_set : List ℕ
test_beside_set = word_bytes (44 ∷ 0 ∷ 0x00044005 ∷ 4 ∷ 0 ∷ 16 ∷ 0x00048005 ∷ 4 ∷ 0 ∷ 16 ∷ 0 ∷ [])

pub mixed_silent : Answered bench test_beside_set 1 → ⊥
unfolding number_at trail walk_from step overruns tag_at request_of request_by request_bytes row_of table
mixed_silent a =
    (((answered_when bench test_beside_set 1).0 a).group (FrameTag.Set Setting.Depth, 4, refl)).1 ((0, refl), (1, refl))

-- `DisplayKept`: so the depth stays
pub mixed_kept : (reply bench test_beside_set).answer.board.display ≡ bench.display
unfolding number_at trail walk_from step overruns tag_at request_of request_by request_bytes row_of table
mixed_kept = display_stays bench test_beside_set (inr (inl ((0, refl), (1, refl))))

-- ---- `Numbered` and `Refusals`: eleven bytes; a size of 14; a code word of 1; a record with an absent device that is on
abbrev eleven : List ℕ
eleven = take 11 (word_bytes (12 ∷ 0 ∷ 0 ∷ []))

pub eleven_numbered : WalkOutcome (reply bench eleven).answer.outcome ⊎ RefusalOutcome (reply bench eleven).answer.outcome
eleven_numbered = numbered bench eleven

pub eleven_untouched : Untouched bench eleven
unfolding reply opened
eleven_untouched = refusals bench eleven (inl (rw bench_valid))

abbrev fourteen : List ℕ
fourteen = word_bytes (14 ∷ 0 ∷ 0 ∷ 0 ∷ [])

pub fourteen_untouched : Untouched bench fourteen
unfolding reply opened good_size number_at
fourteen_untouched = refusals bench fourteen (inr (inl (rw bench_valid)))

abbrev code_one : List ℕ
code_one = word_bytes (12 ∷ 1 ∷ 0 ∷ [])

pub coded_untouched : Untouched bench code_one
unfolding reply opened good_size number_at
coded_untouched = refusals bench code_one (inr (inr (inl (rw bench_valid))))

abbrev spoiled : Board
spoiled = with_devices bench (record { state = record { exists = false; on = true }; timing = 0 } ∷ [])

pub spoiled_untouched : Untouched spoiled several_tags
unfolding reply bench valid valid_facts valid_device valid_state
spoiled_untouched = refusals spoiled several_tags (inr (inr (inr refl)))
