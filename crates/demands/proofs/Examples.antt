-- The worked examples come out as they say.
use lib.Count.{ones_in}
use Rattle.words.specs.Align.{one_bit}
use Rattle.words.specs.Numbers.{number_at, nth_word}
use Rattle.message.specs.Opening.{good_size, opened}
use Rattle.message.specs.Walk.{tag_at, overruns, step, walk_from}
use Rattle.board.specs.Bench.{bench}
use Rattle.board.specs.Display.{pitch, need, sides, depths, offsets, possible, supported, valid_buffer, valid_display}
use Rattle.board.specs.Facts.{valid_facts}
use Rattle.board.specs.Items.{valid_state, valid_device, valid_clock, valid_voltage}
use Rattle.board.specs.Memory.{apart, valid_heap, valid_block, disjoint, valid_memory}
use Rattle.board.specs.Record.{valid}
use Rattle.table.specs.Table.{table, row_of}
use Rattle.answers.specs.Writing.{answered}
use Rattle.tags.specs.Clock.{settled, clock_after, clock_value}
use Rattle.tags.specs.Fact.{fact_answer}
use Rattle.tags.specs.Outside.{outside_answer, outside_after}
use Rattle.tags.specs.Place.{place_of}
use Rattle.tags.specs.State.{present}
use Rattle.tags.specs.Voltage.{max_offset, min_offset}
use Rattle.display.specs.Decision.{supported_from, placed_at, allocatable, fits_buffer, accepted, decided, group_answer}
use Rattle.display.specs.Operation.{with_setting, noted}
use Rattle.requests.specs.Requests.{request_bytes, request_by, request_of, trail}
use Rattle.responder.specs.Answers.{group_decision, turn_of}
use Rattle.responder.specs.Reply.{served, reply}
use Rattle.demands.specs.Examples.{Examples, comes_out, cases}

pub examples : Examples
unfolding comes_out cases reply served valid valid_facts valid_state valid_device valid_clock valid_voltage valid_buffer valid_display valid_memory valid_heap apart valid_block disjoint supported possible sides depths offsets pitch need bench opened good_size number_at trail walk_from step overruns tag_at request_of request_by request_bytes row_of table group_decision decided accepted allocatable fits_buffer placed_at one_bit ones_in supported_from nth_word noted with_setting turn_of outside_answer outside_after fact_answer place_of settled clock_after clock_value present group_answer answered max_offset min_offset
examples = tt
