-- The premises of the statements can be met by a virtual size and a virtual offset that are set: 800 x 960, with the lower half
-- shown. A record that shows a part beyond its picture is refused.
use mathlib.Core.Bool.{true}
use mathlib.Core.List.{List, [], ◌∷◌}
use mathlib.Core.Logic.{inl, inr}
use mathlib.Core.Path.{◌≡◌, refl}
use Prim.Native.Nat.{ℕ, zero, suc, ◌≤◌, ◌<◌}
use native.Mathlib.Omega.{arith}
use lib.Count.{ones_in}
use lib.Dec.{lit≤}
use lib.ListN.{get_or}
use Rattle.words.specs.Align.{one_bit}
use Rattle.words.specs.Numbers.{number_at, nth_word, word_bytes}
use Rattle.message.specs.Opening.{good_size, opened}
use Rattle.message.specs.Outcomes.{done, invalid_board}
use Rattle.message.specs.Walk.{tag_at, overruns, step, walk_from}
use Rattle.board.proofs.Laws.Bench.{bench_valid}
use Rattle.board.specs.Bench.{bench}
use Rattle.board.specs.Display.{pitch, need, sides, depths, offsets, possible, supported, valid_display}
use Rattle.board.specs.Facts.{valid_facts}
use Rattle.board.specs.Items.{valid_state, valid_device, valid_clock, valid_voltage}
use Rattle.board.specs.Record.{with_display, valid}
use Rattle.board.specs.declared.record.Board.{Board}
use Rattle.table.specs.Table.{table, row_of}
use Rattle.table.specs.declared.kinds.FrameTag.{FrameTag}
use Rattle.table.specs.declared.kinds.Kind.{Kind}
use Rattle.table.specs.declared.kinds.Setting.{Setting}
use Rattle.answers.specs.Answer.{two_words}
use Rattle.display.specs.Decision.{supported_from, placed_at, allocatable, fits_buffer, accepted, decided, group_answer}
use Rattle.display.specs.Operation.{with_setting, noted}
use Rattle.requests.specs.Requests.{request_bytes, request_by, request_of, trail}
use Rattle.responder.specs.Answers.{group_decision, turn_of}
use Rattle.responder.specs.Reply.{served, reply}
use Rattle.responder.specs.Turns.{says}
use Rattle.demands.proofs.Changes.{changes, refusals}
use Rattle.demands.proofs.Kept.{kept}
use Rattle.demands.proofs.LongerValues.{longer_values}
use Rattle.demands.proofs.LongerValuesMet.{known_row}
use Rattle.demands.proofs.Panning.{panning_kept}
use Rattle.demands.proofs.ReadingBack.{reads}
use Rattle.demands.proofs.ServedMet.{request_tag}
use Rattle.demands.specs.Changes.{Untouched}
use Rattle.demands.specs.LongerValues.{SameRequest, ServedAlike}
use Rattle.demands.specs.Panning.{ShowsPicture}
use Rattle.demands.specs.ReadingBack.{Reads}
use Rattle.demands.specs.Terms.{tag_of, trail_of, answers_of}

-- set virtual 800 x 960, set offset 0, 480 in a value of 12 bytes
abbrev panned_down : List ℕ
panned_down = word_bytes (56 ∷ 0 ∷ 0x00048004 ∷ 8 ∷ 0 ∷ 800 ∷ 960 ∷ 0x00048009 ∷ 12 ∷ 0 ∷ 0 ∷ 480 ∷ 7 ∷ 0 ∷ [])

panned_done : (reply bench panned_down).answer.outcome ≡ done
unfolding reply served opened good_size number_at trail walk_from step overruns tag_at request_of request_by request_bytes row_of table
panned_done = rw bench_valid

panned_answers : answers_of bench panned_down ≡ says (two_words 800 960) ∷ says (two_words 0 480) ∷ []
unfolding bench number_at trail walk_from step overruns tag_at request_of request_by request_bytes row_of table group_decision decided accepted allocatable fits_buffer placed_at one_bit ones_in supported_from nth_word noted with_setting turn_of group_answer supported possible sides depths offsets pitch need
panned_answers = refl

panned_trail : (trail_of panned_down).tags ≡ request_tag 8 0x00048004 8 ∷ request_tag 28 0x00048009 12 ∷ []
unfolding number_at trail walk_from step overruns tag_at request_of request_by request_bytes row_of table
panned_trail = refl

-- `Kept` and `PanningKept`: the record afterwards has this offset, and is valid
pub panned_offset : (reply bench panned_down).answer.board.display.settings.offset ≡ record { x = 0; y = 480 }
unfolding reply served opened good_size bench number_at trail walk_from step overruns tag_at request_of request_by request_bytes row_of table group_decision decided accepted allocatable fits_buffer placed_at one_bit ones_in supported_from nth_word noted with_setting turn_of group_answer supported possible sides depths offsets pitch need
panned_offset = rw bench_valid

pub panned_valid : valid (reply bench panned_down).answer.board ≡ true
panned_valid = kept bench panned_down bench_valid

pub panned_shows : ShowsPicture (reply bench panned_down).answer.board.display.settings
panned_shows = panning_kept bench panned_down bench_valid

-- `Changes`: the value byte behind the offset's answer, at 48
pub panned_value : get_or (reply bench panned_down).bytes 48 0 ≡ 7
panned_value =
    changes bench panned_down 48 (inr (lit≤ tt))
    (rw (panned_trail, panned_answers) (inr (lit≤ tt), inr (lit≤ tt), (inr (lit≤ tt), inr (lit≤ tt), tt)))

-- `ReadingBack`
pub panned_read : Reads bench panned_down
panned_read = reads bench panned_down (inl panned_done)

-- `LongerValues`: the same in longer values
abbrev panned_longer : List ℕ
panned_longer = word_bytes (64 ∷ 0 ∷ 0x00048004 ∷ 12 ∷ 0 ∷ 800 ∷ 960 ∷ 5 ∷ 0x00048009 ∷ 16 ∷ 0 ∷ 0 ∷ 480 ∷ 9 ∷ 9 ∷ 0 ∷ [])

panned_longer_done : (reply bench panned_longer).answer.outcome ≡ done
unfolding reply served opened good_size number_at trail walk_from step overruns tag_at request_of request_by request_bytes row_of table
panned_longer_done = rw bench_valid

panned_requests : (i : ℕ) → i < 2 → SameRequest panned_down panned_longer (tag_of panned_down i) (tag_of panned_longer i)
unfolding number_at walk_from step overruns tag_at row_of table request_bytes
panned_requests zero l =
    known_row panned_down panned_longer (request_tag 8 0x00048004 8) (request_tag 8 0x00048004 12) (Kind.Group (FrameTag.Set Setting.Virtual)) 8 refl refl
panned_requests (suc zero) l =
    known_row panned_down panned_longer (request_tag 28 0x00048009 12) (request_tag 32 0x00048009 16) (Kind.Group (FrameTag.Set Setting.Offset)) 8 refl refl
panned_requests (suc (suc i)) l = absurd (omega arith)

panned_values : (i : ℕ) → i < 2 → (tag_of panned_down i).size ≤ (tag_of panned_longer i).size
unfolding number_at walk_from step overruns tag_at
panned_values zero l = lit≤ tt
panned_values (suc zero) l = lit≤ tt
panned_values (suc (suc i)) l = absurd (omega arith)

pub panned_alike : ServedAlike bench panned_down panned_longer
unfolding number_at walk_from step overruns tag_at
panned_alike =
    longer_values bench panned_down panned_longer (record {
      faultless = panned_done;
      faultless' = panned_longer_done;
      same_ids = refl;
      words_before = refl;
      same_requests = panned_requests;
      longer = panned_values;
    })

-- ---- a record of 800 x 480 that shows its picture from column 799 on
abbrev beyond_picture : Board
beyond_picture = with_display bench (record {
  region = bench.display.region;
  settings = with_setting Setting.Offset (two_words 799 0) bench.display.settings;
  buffer = bench.display.buffer;
})

-- it is not valid: `Refusals`
beyond_refused : (reply beyond_picture panned_down).answer.outcome ≡ invalid_board
unfolding reply bench valid valid_facts valid_state valid_device valid_clock valid_voltage valid_display with_setting nth_word number_at supported possible sides depths offsets
beyond_refused = refl

pub beyond_untouched : Untouched beyond_picture panned_down
beyond_untouched = refusals beyond_picture panned_down (inr (inr (inr beyond_refused)))
