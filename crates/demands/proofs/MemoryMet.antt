-- The premises of the statements can be met by messages with the tags of GPU memory, on the bench record and on those that they leave.
use mathlib.Core.Bool.{true, false}
use mathlib.Core.List.{List, [], ◌∷◌}
use mathlib.Core.Logic.{inl, inr}
use mathlib.Core.Path.{◌≡◌, refl}
use Prim.Native.Nat.{ℕ, zero, suc, ◌+◌, ◌≤◌, ◌<◌}
use native.Mathlib.Omega.{arith}
use lib.Count.{ones_in}
use lib.Dec.{lit≤, lit<}
use lib.ListN.{get_or, replicate}
use Rattle.words.specs.Align.{one_bit, aligned}
use Rattle.words.specs.Lowest.{lowest}
use Rattle.words.specs.Numbers.{le, number_at, nth_word, word_bytes}
use Rattle.message.specs.Opening.{good_size, opened}
use Rattle.message.specs.Outcomes.{done, invalid_board}
use Rattle.message.specs.Walk.{tag_at, overruns, step, walk_from}
use Rattle.board.proofs.Laws.Bench.{bench_valid}
use Rattle.board.specs.Bench.{bench}
use Rattle.board.specs.Display.{pitch, need, sides, depths, offsets, possible, supported, valid_buffer, valid_display}
use Rattle.board.specs.Facts.{valid_facts}
use Rattle.board.specs.Items.{valid_state, valid_device, valid_clock, valid_voltage}
use Rattle.board.specs.Memory.{inside, apart, no_block, bytes_of, clear_of, valid_heap, valid_block, disjoint, valid_memory}
use Rattle.board.specs.Record.{with_blocks, valid}
use Rattle.board.specs.declared.record.Board.{Board}
use Rattle.table.specs.Table.{table, row_of}
use Rattle.table.specs.declared.kinds.HandleTag.{HandleTag}
use Rattle.table.specs.declared.kinds.Kind.{Kind}
use Rattle.table.specs.declared.kinds.OutsideTag.{OutsideTag}
use Rattle.tags.specs.Memory.{free_handle, fits_at, lowest_address, grants, new_block, allocation, handle_after, handle_value}
use Rattle.tags.specs.Outside.{outside_answer, outside_after}
use Rattle.tags.specs.Place.{place_of}
use Rattle.display.specs.Decision.{decided}
use Rattle.requests.specs.Requests.{request_bytes, request_by, request_of, trail}
use Rattle.responder.specs.Answers.{group_decision, turn_of}
use Rattle.responder.specs.Reply.{served, reply}
use Rattle.responder.specs.Turns.{says}
use Rattle.demands.proofs.BytesHeld.{bytes_held}
use Rattle.demands.proofs.Changes.{changes, refusals}
use Rattle.demands.proofs.Kept.{kept}
use Rattle.demands.proofs.LongerValues.{longer_values}
use Rattle.demands.proofs.LongerValuesMet.{known_row}
use Rattle.demands.proofs.Memory.{lowest_address_is, handles, blocks_apart}
use Rattle.demands.proofs.ReadingBack.{reads}
use Rattle.demands.proofs.ServedMet.{request_tag}
use Rattle.demands.specs.BytesHeld.{held, last_board, granted_so_far, released_so_far, WithoutBlocks}
use Rattle.demands.specs.Changes.{Untouched}
use Rattle.demands.specs.LongerValues.{SameRequest, ServedAlike}
use Rattle.demands.specs.Memory.{ShareNoByte, block_at, RoomAt, NoGap, handle_for}
use Rattle.demands.specs.ReadingBack.{Reads}
use Rattle.demands.specs.Terms.{tag_of, trail_of, answers_of}

-- allocate 4,096 bytes aligned to 4,096, flags 7, and 16 aligned to 16; lock the first, in a value of 8 bytes
abbrev two_blocks : List ℕ
two_blocks =
    word_bytes (
    80 ∷ 0
    ∷ 0x0003000c ∷ 12 ∷ 0 ∷ 4096 ∷ 4096 ∷ 7
    ∷ 0x0003000c ∷ 12 ∷ 0 ∷ 16 ∷ 16 ∷ 0
    ∷ 0x0003000d ∷ 8 ∷ 0 ∷ 1 ∷ 9
    ∷ 0 ∷ []
    )

blocks_done : (reply bench two_blocks).answer.outcome ≡ done
unfolding reply served opened good_size number_at trail walk_from step overruns tag_at request_of request_by request_bytes row_of table
blocks_done = rw bench_valid

blocks_answers : answers_of bench two_blocks ≡ says (le 4 1) ∷ says (le 4 2) ∷ says (le 4 0x3C800000) ∷ []
unfolding bench number_at trail walk_from step overruns tag_at request_of request_by request_bytes row_of table group_decision decided nth_word turn_of outside_answer outside_after one_bit ones_in aligned lowest inside apart clear_of free_handle fits_at lowest_address grants allocation place_of handle_after handle_value
blocks_answers = refl

blocks_trail : (trail_of two_blocks).tags ≡ request_tag 8 0x0003000c 12 ∷ request_tag 32 0x0003000c 12 ∷ request_tag 56 0x0003000d 8 ∷ []
unfolding number_at trail walk_from step overruns tag_at request_of request_by request_bytes row_of table
blocks_trail = refl

-- `Kept` and `BlocksApart`: the record afterwards has these blocks, is valid, and they share no byte
pub blocks_first : block_at (reply bench two_blocks).answer.board 0
    ≡ record { taken = true; locked = true; base = 0x3C800000; size = 4096; alignment = 4096; flags = 7 }
unfolding reply served opened good_size bench number_at trail walk_from step overruns tag_at request_of request_by request_bytes row_of table group_decision decided nth_word turn_of outside_answer outside_after one_bit ones_in aligned lowest inside apart clear_of free_handle fits_at lowest_address grants allocation place_of handle_after handle_value
blocks_first = rw bench_valid

pub blocks_second : block_at (reply bench two_blocks).answer.board 1
    ≡ record { taken = true; locked = false; base = 0x3C801000; size = 16; alignment = 16; flags = 0 }
unfolding reply served opened good_size bench number_at trail walk_from step overruns tag_at request_of request_by request_bytes row_of table group_decision decided nth_word turn_of outside_answer outside_after one_bit ones_in aligned lowest inside apart clear_of free_handle fits_at lowest_address grants allocation place_of handle_after handle_value
blocks_second = rw bench_valid

pub two_valid : valid (reply bench two_blocks).answer.board ≡ true
two_valid = kept bench two_blocks bench_valid

pub blocks_share_none : ShareNoByte (bytes_of (block_at (reply bench two_blocks).answer.board 0)) (bytes_of (block_at (reply bench two_blocks).answer.board 1))
blocks_share_none = blocks_apart bench two_blocks bench_valid 0 1 (λ e. absurd (omega arith)) (rw blocks_first) (rw blocks_second)

-- `Changes`: the value byte behind the lock's answer, at 72
pub blocks_value : get_or (reply bench two_blocks).bytes 72 0 ≡ 9
blocks_value =
    changes bench two_blocks 72 (inr (lit≤ tt))
    (rw (blocks_trail, blocks_answers)
    (inr (lit≤ tt), inr (lit≤ tt), (inr (lit≤ tt), inr (lit≤ tt), (inr (lit≤ tt), inr (lit≤ tt), tt))))

-- `ReadingBack`
pub blocks_read : Reads bench two_blocks
blocks_read = reads bench two_blocks (inl blocks_done)

-- `LongerValues`: the same in longer values
abbrev blocks_longer : List ℕ
blocks_longer =
    word_bytes (
    92 ∷ 0
    ∷ 0x0003000c ∷ 16 ∷ 0 ∷ 4096 ∷ 4096 ∷ 7 ∷ 5
    ∷ 0x0003000c ∷ 16 ∷ 0 ∷ 16 ∷ 16 ∷ 0 ∷ 5
    ∷ 0x0003000d ∷ 12 ∷ 0 ∷ 1 ∷ 5 ∷ 5
    ∷ 0 ∷ []
    )

blocks_longer_done : (reply bench blocks_longer).answer.outcome ≡ done
unfolding reply served opened good_size number_at trail walk_from step overruns tag_at request_of request_by request_bytes row_of table
blocks_longer_done = rw bench_valid

blocks_requests : (i : ℕ) → i < 3 → SameRequest two_blocks blocks_longer (tag_of two_blocks i) (tag_of blocks_longer i)
unfolding number_at walk_from step overruns tag_at row_of table request_bytes
blocks_requests zero l =
    known_row two_blocks blocks_longer (request_tag 8 0x0003000c 12) (request_tag 8 0x0003000c 16) (Kind.Outside OutsideTag.Allocate) 12 refl refl
blocks_requests (suc zero) l =
    known_row two_blocks blocks_longer (request_tag 32 0x0003000c 12) (request_tag 36 0x0003000c 16) (Kind.Outside OutsideTag.Allocate) 12 refl refl
blocks_requests (suc (suc zero)) l =
    known_row two_blocks blocks_longer (request_tag 56 0x0003000d 8) (request_tag 64 0x0003000d 12)
    (Kind.Outside (OutsideTag.Handle HandleTag.Lock)) 4 refl refl
blocks_requests (suc (suc (suc i))) l = absurd (omega arith)

blocks_values : (i : ℕ) → i < 3 → (tag_of two_blocks i).size ≤ (tag_of blocks_longer i).size
unfolding number_at walk_from step overruns tag_at
blocks_values zero l = lit≤ tt
blocks_values (suc zero) l = lit≤ tt
blocks_values (suc (suc zero)) l = lit≤ tt
blocks_values (suc (suc (suc i))) l = absurd (omega arith)

pub blocks_alike : ServedAlike bench two_blocks blocks_longer
unfolding number_at walk_from step overruns tag_at
blocks_alike =
    longer_values bench two_blocks blocks_longer (record {
      faultless = blocks_done;
      faultless' = blocks_longer_done;
      same_ids = refl;
      words_before = refl;
      same_requests = blocks_requests;
      longer = blocks_values;
    })

-- ---- `LowestAddress` and `Handles`, on the bench record
-- 4,096 bytes aligned to 4,096 go to the heap's base, and get handle 1
bench_address : lowest_address bench.heap bench.blocks 4096 4096 ≡ 0x3C800000
unfolding bench one_bit ones_in aligned lowest inside clear_of fits_at lowest_address
bench_address = refl

pub bench_room : RoomAt bench 4096 4096 0x3C800000
bench_room =
    let found = lowest_address_is bench bench_valid 4096 4096 (lit< tt) in
    rw bench_address at (found.found_room (rw bench_address (lit< tt)))

bench_handle : handle_for bench 4096 4096 7 ≡ 1
unfolding bench one_bit ones_in aligned lowest inside clear_of free_handle fits_at lowest_address grants allocation
bench_handle = refl

pub bench_free : (block_at bench 0).taken ≡ false
bench_free = (handles bench bench_valid 4096 4096 7).free 0 bench_handle

-- a byte more than the heap has: no gap, and handle 0
no_gap : NoGap bench 0x0040_0001 1
unfolding bench
no_gap a r = let f = r.from_base in let l = r.in_heap in absurd (omega arith)

pub bench_none : lowest_address bench.heap bench.blocks 0x0040_0001 1 ≡ 0
bench_none = (lowest_address_is bench bench_valid 0x0040_0001 1 (lit< tt)).none.1 no_gap

pub none_granted : handle_for bench 0x0040_0001 1 0 ≡ 0
none_granted = (handles bench bench_valid 0x0040_0001 1 0).zero_when.1 (inr (inr (inr no_gap)))

-- size 0, and an alignment of two bits
pub nothing_granted : handle_for bench 0 16 0 ≡ 0
nothing_granted = (handles bench bench_valid 0 16 0).zero_when.1 (inl refl)

pub odd_granted : handle_for bench 16 24 0 ≡ 0
unfolding one_bit ones_in
odd_granted = (handles bench bench_valid 16 24 0).zero_when.1 (inr (inl refl))

-- ---- `BytesHeld`, over four messages with a fault and a refusal in it
-- allocate 64 bytes; then a rate of no request, which is a fault, and an allocate behind it
abbrev fault_behind : List ℕ
fault_behind = word_bytes (72 ∷ 0 ∷ 0x0003000c ∷ 12 ∷ 0 ∷ 64 ∷ 64 ∷ 0 ∷ 0x00030002 ∷ 0 ∷ 0 ∷ 0x0003000c ∷ 12 ∷ 0 ∷ 32 ∷ 32 ∷ 0 ∷ 0 ∷ [])

-- an allocate in a message that is no request
abbrev no_request : List ℕ
no_request = word_bytes (36 ∷ 1 ∷ 0x0003000c ∷ 12 ∷ 0 ∷ 64 ∷ 64 ∷ 0 ∷ 0 ∷ [])

-- release handle 1, which is locked, and once more
abbrev release_twice : List ℕ
release_twice = word_bytes (44 ∷ 0 ∷ 0x0003000f ∷ 4 ∷ 0 ∷ 1 ∷ 0x0003000f ∷ 4 ∷ 0 ∷ 1 ∷ 0 ∷ [])

abbrev four_messages : List (List ℕ)
four_messages = two_blocks ∷ fault_behind ∷ no_request ∷ release_twice ∷ []

bench_without : WithoutBlocks bench
unfolding bench
bench_without = record { places = refl; all_free = all_free_places 32 }
  where
    all_free_places : (n i : ℕ) → (get_or (replicate n no_block) i no_block).taken ≡ false
    all_free_places zero i = refl
    all_free_places (suc n) zero = refl
    all_free_places (suc n) (suc i) = all_free_places n i

pub run_counted : held (last_board bench four_messages).blocks + released_so_far bench four_messages ≡ granted_so_far bench four_messages
run_counted = bytes_held bench bench_without four_messages

-- 4,096 + 16 + 64 bytes were granted, 4,096 released, and 80 are held
pub run_counts : (granted_so_far bench four_messages ≡ 4176) × (released_so_far bench four_messages ≡ 4096)
unfolding reply served opened good_size valid valid_facts valid_state valid_device valid_clock valid_voltage valid_buffer valid_display valid_memory valid_heap valid_block disjoint supported possible sides depths offsets pitch need bench number_at trail walk_from step overruns tag_at request_of request_by request_bytes row_of table group_decision decided nth_word turn_of outside_answer outside_after one_bit ones_in aligned lowest inside apart clear_of free_handle fits_at lowest_address grants allocation place_of handle_after handle_value
run_counts = (refl, refl)

-- ---- a record with two blocks that share the byte at 0x3C800010
abbrev shared_byte : Board
shared_byte = with_blocks bench (new_block 0x3C800000 17 1 0 ∷ new_block 0x3C800010 16 16 0 ∷ [])

-- it is not valid: `Refusals`
shared_refused : (reply shared_byte two_blocks).answer.outcome ≡ invalid_board
unfolding reply bench valid valid_facts valid_state valid_device valid_clock valid_voltage valid_display valid_buffer supported possible sides depths offsets pitch need valid_memory valid_heap valid_block disjoint clear_of inside apart one_bit ones_in aligned
shared_refused = refl

pub shared_untouched : Untouched shared_byte two_blocks
shared_untouched = refusals shared_byte two_blocks (inr (inr (inr shared_refused)))
