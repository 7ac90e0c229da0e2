use native.Mathlib.Omega.{arith}
use mathlib.Core.Path.{refl, sym, ◌∙◌}
use Rattle.message.proofs.Laws.WalkFrom.{no_tag_is_one}
use Rattle.tags.proofs.Laws.Memory.{granted_below}
use Rattle.tags.proofs.Laws.ServesOutside.{serves_unlisted, serves_fact, serves_power, serves_clock, serves_voltage, serves_temperature}
use Rattle.tags.proofs.Laws.ServesOutside.{serves_refused, serves_granted, serves_handle}
use Rattle.responder.proofs.Laws.Serving.{serve_stop, serve_less, serve_in, serve_most, serve_short}
use Rattle.responder.proofs.Laws.Serving.{serve_pass, group_part, serve_group, outside_part, serve_outside}
use Rattle.responder.proofs.walk.serve_tags.Goals as goal

-- ---- the walk's end, and what a tag asks
pub returns-in_default : goal.returns-in_default
returns-in_default c =
    serve_stop _ _ _ _ _ _ _ _ c.loop-tag.invariant c.step_at-st.ensures (no_tag_is_one _ c.in_default.not-Tag)
    c.ended.ensures refl

pub ask_at-requires : goal.ask_at-requires
ask_at-requires c = serve_in _ _ _ _ _ _ _ _ c.loop-tag.invariant c.step_at-st.ensures c.in-Tag.is

pub overflow_add-value : goal.overflow_add-value
overflow_add-value c = omega (arith, serve_most _ _ _ _ _ _ _ _ c.loop-tag.invariant c.step_at-st.ensures c.in-Tag.is)

pub returns-in-Short : goal.returns-in-Short
returns-in-Short c =
    serve_short _ _ _ _ _ _ _ _ c.loop-tag.invariant c.step_at-st.ensures c.in-Tag.is
    c.ask_at.ensures c.in-Short.is c.short_at.ensures refl

-- ---- a tag of the group
pub overflow_add-request : goal.overflow_add-request
overflow_add-request c =
    omega (arith, (group_part _ _ _ _ _ _ _ _ c.loop-tag.invariant c.step_at-st.ensures c.in-Tag.is c.ask_at.ensures c.in-Group.is).0)

pub slice_bounds-request-end : goal.slice_bounds-request-end
slice_bounds-request-end c =
    omega (arith, (group_part _ _ _ _ _ _ _ _ c.loop-tag.invariant c.step_at-st.ensures c.in-Tag.is c.ask_at.ensures c.in-Group.is).1)

pub put_group-requires : goal.put_group-requires
put_group-requires c = serve_in _ _ _ _ _ _ _ _ c.loop-tag.invariant c.step_at-st.ensures c.in-Tag.is

-- ---- a tag outside the group
pub overflow_add-request-in-Outside : goal.overflow_add-request-in-Outside
overflow_add-request-in-Outside c =
    omega (arith, (outside_part _ _ _ _ _ _ _ _ c.loop-tag.invariant c.step_at-st.ensures c.in-Tag.is c.ask_at.ensures c.in-Outside.is).0)

pub slice_bounds-request-end-in-Outside : goal.slice_bounds-request-end-in-Outside
slice_bounds-request-end-in-Outside c =
    omega (arith, (outside_part _ _ _ _ _ _ _ _ c.loop-tag.invariant c.step_at-st.ensures c.in-Tag.is c.ask_at.ensures c.in-Outside.is).1)

pub put_absent-requires : goal.put_absent-requires
put_absent-requires c = serve_in _ _ _ _ _ _ _ _ c.loop-tag.invariant c.step_at-st.ensures c.in-Tag.is

pub loop-tag-smaller-in_default-item_place : goal.loop-tag-smaller-in_default-item_place
loop-tag-smaller-in_default-item_place c = serve_less _ _ _ _ _ _ _ _ c.loop-tag.invariant c.step_at-st.ensures c.in-Tag.is

pub loop-tag-preserved-in_default-item_place : goal.loop-tag-preserved-in_default-item_place
loop-tag-preserved-in_default-item_place c =
    serve_outside _ _ _ _ _ _ _ _ c.loop-tag.invariant c.step_at-st.ensures c.in-Tag.is
    c.ask_at.ensures c.in-Outside.is
    (serves_unlisted _ _ c.nth_word-id.ensures c.nth_word-x.ensures _ c.item_place.ensures c.in_default-item_place.is)
    c.put_absent.ensures

pub put_fact-requires : goal.put_fact-requires
put_fact-requires c = serve_in _ _ _ _ _ _ _ _ c.loop-tag.invariant c.step_at-st.ensures c.in-Tag.is

pub loop-tag-smaller-in-Fact : goal.loop-tag-smaller-in-Fact
loop-tag-smaller-in-Fact c = serve_less _ _ _ _ _ _ _ _ c.loop-tag.invariant c.step_at-st.ensures c.in-Tag.is

pub loop-tag-preserved-in-Fact : goal.loop-tag-preserved-in-Fact
loop-tag-preserved-in-Fact c =
    serve_outside _ _ _ _ _ _ _ _ c.loop-tag.invariant c.step_at-st.ensures c.in-Tag.is
    c.ask_at.ensures c.in-Outside.is
    (serves_fact _ _ c.in-Fact.is)
    c.put_fact.ensures

pub put_pair-requires : goal.put_pair-requires
put_pair-requires c = serve_in _ _ _ _ _ _ _ _ c.loop-tag.invariant c.step_at-st.ensures c.in-Tag.is

pub loop-tag-smaller-in-Power : goal.loop-tag-smaller-in-Power
loop-tag-smaller-in-Power c = serve_less _ _ _ _ _ _ _ _ c.loop-tag.invariant c.step_at-st.ensures c.in-Tag.is

pub loop-tag-preserved-in-Power : goal.loop-tag-preserved-in-Power
loop-tag-preserved-in-Power c =
    serve_outside _ _ _ _ _ _ _ _ c.loop-tag.invariant c.step_at-st.ensures c.in-Tag.is
    c.ask_at.ensures c.in-Outside.is
    (serves_power _ _ c.nth_word-id.ensures c.nth_word-x.ensures c.item_place.ensures c.in-Some.is c.in-Power.is
    c.power_after-d.ensures c.power_value.ensures)
    c.put_pair.ensures

pub put_pair-requires-in-Clock : goal.put_pair-requires-in-Clock
put_pair-requires-in-Clock c = serve_in _ _ _ _ _ _ _ _ c.loop-tag.invariant c.step_at-st.ensures c.in-Tag.is

pub loop-tag-smaller-in-Clock : goal.loop-tag-smaller-in-Clock
loop-tag-smaller-in-Clock c = serve_less _ _ _ _ _ _ _ _ c.loop-tag.invariant c.step_at-st.ensures c.in-Tag.is

pub loop-tag-preserved-in-Clock : goal.loop-tag-preserved-in-Clock
loop-tag-preserved-in-Clock c =
    serve_outside _ _ _ _ _ _ _ _ c.loop-tag.invariant c.step_at-st.ensures c.in-Tag.is
    c.ask_at.ensures c.in-Outside.is
    (serves_clock _ _ c.nth_word-id.ensures c.nth_word-x.ensures c.item_place.ensures c.in-Some.is c.in-Clock.is
    c.clock_after-c.ensures c.clock_value.ensures)
    c.put_pair-in-Clock.ensures

pub put_pair-requires-in-Voltage : goal.put_pair-requires-in-Voltage
put_pair-requires-in-Voltage c = serve_in _ _ _ _ _ _ _ _ c.loop-tag.invariant c.step_at-st.ensures c.in-Tag.is

pub loop-tag-smaller-in-Voltage : goal.loop-tag-smaller-in-Voltage
loop-tag-smaller-in-Voltage c = serve_less _ _ _ _ _ _ _ _ c.loop-tag.invariant c.step_at-st.ensures c.in-Tag.is

pub loop-tag-preserved-in-Voltage : goal.loop-tag-preserved-in-Voltage
loop-tag-preserved-in-Voltage c =
    serve_outside _ _ _ _ _ _ _ _ c.loop-tag.invariant c.step_at-st.ensures c.in-Tag.is
    c.ask_at.ensures c.in-Outside.is
    (serves_voltage _ _ c.nth_word-id.ensures c.nth_word-x.ensures c.item_place.ensures c.in-Some.is c.in-Voltage.is
    c.voltage_after-v.ensures c.voltage_value.ensures)
    c.put_pair-in-Voltage.ensures

pub put_pair-requires-in-Temperature : goal.put_pair-requires-in-Temperature
put_pair-requires-in-Temperature c = serve_in _ _ _ _ _ _ _ _ c.loop-tag.invariant c.step_at-st.ensures c.in-Tag.is

pub loop-tag-smaller-in-Temperature : goal.loop-tag-smaller-in-Temperature
loop-tag-smaller-in-Temperature c = serve_less _ _ _ _ _ _ _ _ c.loop-tag.invariant c.step_at-st.ensures c.in-Tag.is

pub loop-tag-preserved-in-Temperature : goal.loop-tag-preserved-in-Temperature
loop-tag-preserved-in-Temperature c =
    serve_outside _ _ _ _ _ _ _ _ c.loop-tag.invariant c.step_at-st.ensures c.in-Tag.is
    c.ask_at.ensures c.in-Outside.is
    (serves_temperature _ _ c.nth_word-id.ensures c.nth_word-x.ensures c.in-Temperature.is c.temperature_value-n.ensures)
    c.put_pair-in-Temperature.ensures

-- ---- an allocate
pub overflow_sub-granted : goal.overflow_sub-granted
overflow_sub-granted c = (granted_below _ _ _ _ _ (sym c.in-Some-allocate.is ∙ c.allocate.ensures)).0

pub bounds-b-granted : goal.bounds-b-granted
bounds-b-granted c =
    let h = granted_below _ _ _ _ _ (sym c.in-Some-allocate.is ∙ c.allocate.ensures) in
    omega arith

pub put_word-requires : goal.put_word-requires
put_word-requires c = serve_in _ _ _ _ _ _ _ _ c.loop-tag.invariant c.step_at-st.ensures c.in-Tag.is

pub loop-tag-smaller-in-Some-allocate : goal.loop-tag-smaller-in-Some-allocate
loop-tag-smaller-in-Some-allocate c = serve_less _ _ _ _ _ _ _ _ c.loop-tag.invariant c.step_at-st.ensures c.in-Tag.is

pub loop-tag-preserved-in-Some-allocate : goal.loop-tag-preserved-in-Some-allocate
loop-tag-preserved-in-Some-allocate c =
    serve_outside _ _ _ _ _ _ _ _ c.loop-tag.invariant c.step_at-st.ensures c.in-Tag.is
    c.ask_at.ensures c.in-Outside.is
    (serves_granted _ _ c.nth_word-id.ensures c.nth_word-x.ensures c.in-Allocate.is c.nth_word-flags.ensures
    c.loop-tag.invariant.heap_same c.allocate.ensures c.in-Some-allocate.is refl)
    c.put_word.ensures

pub put_word-requires-in-None : goal.put_word-requires-in-None
put_word-requires-in-None c = serve_in _ _ _ _ _ _ _ _ c.loop-tag.invariant c.step_at-st.ensures c.in-Tag.is

pub loop-tag-smaller-in-None : goal.loop-tag-smaller-in-None
loop-tag-smaller-in-None c = serve_less _ _ _ _ _ _ _ _ c.loop-tag.invariant c.step_at-st.ensures c.in-Tag.is

pub loop-tag-preserved-in-None : goal.loop-tag-preserved-in-None
loop-tag-preserved-in-None c =
    serve_outside _ _ _ _ _ _ _ _ c.loop-tag.invariant c.step_at-st.ensures c.in-Tag.is
    c.ask_at.ensures c.in-Outside.is
    (serves_refused _ _ c.nth_word-id.ensures c.nth_word-x.ensures c.in-Allocate.is c.nth_word-flags.ensures
    c.loop-tag.invariant.heap_same c.allocate.ensures c.in-None.is)
    c.put_word-in-None.ensures

-- ---- a tag of a handle
pub put_word-requires-in-Handle : goal.put_word-requires-in-Handle
put_word-requires-in-Handle c = serve_in _ _ _ _ _ _ _ _ c.loop-tag.invariant c.step_at-st.ensures c.in-Tag.is

pub loop-tag-smaller : goal.loop-tag-smaller
loop-tag-smaller c = serve_less _ _ _ _ _ _ _ _ c.loop-tag.invariant c.step_at-st.ensures c.in-Tag.is

pub loop-tag-preserved : goal.loop-tag-preserved
loop-tag-preserved c =
    serve_outside _ _ _ _ _ _ _ _ c.loop-tag.invariant c.step_at-st.ensures c.in-Tag.is
    c.ask_at.ensures c.in-Outside.is
    (serves_handle _ _ c.nth_word-id.ensures c.nth_word-x.ensures c.item_place.ensures c.in-Some.is c.in-Handle.is refl
    c.handle_after.ensures c.handle_value.ensures)
    c.put_word-in-Handle.ensures

-- ---- what is passed over, and a tag of the group that is noted
pub loop-tag-smaller-in-Pass : goal.loop-tag-smaller-in-Pass
loop-tag-smaller-in-Pass c = serve_less _ _ _ _ _ _ _ _ c.loop-tag.invariant c.step_at-st.ensures c.in-Tag.is

pub loop-tag-preserved-in-Pass : goal.loop-tag-preserved-in-Pass
loop-tag-preserved-in-Pass c = serve_pass _ _ _ _ _ _ _ _ c.loop-tag.invariant c.step_at-st.ensures c.in-Tag.is c.ask_at.ensures c.in-Pass.is

pub loop-tag-smaller-in-Group : goal.loop-tag-smaller-in-Group
loop-tag-smaller-in-Group c = serve_less _ _ _ _ _ _ _ _ c.loop-tag.invariant c.step_at-st.ensures c.in-Tag.is

pub loop-tag-preserved-in-Group : goal.loop-tag-preserved-in-Group
loop-tag-preserved-in-Group c =
    serve_group _ _ _ _ _ _ _ _ c.loop-tag.invariant c.step_at-st.ensures c.in-Tag.is c.ask_at.ensures c.in-Group.is
    c.note-operation.ensures c.put_group.ensures
