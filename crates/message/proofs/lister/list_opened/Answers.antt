use Rattle.message.proofs.Laws.Lister.{list_less, list_place, list_met, list_more, list_stop}
use Rattle.message.proofs.Laws.WalkFrom.{no_tag_is_one}
use Rattle.message.proofs.lister.list_opened.Goals as goal

pub returns-in_default : goal.returns-in_default
returns-in_default c =
    list_stop
    _ _ _ _ _ c.loop-tag.invariant c.step_at-st.ensures (no_tag_is_one _ c.in_default.not-Tag) c.ended.ensures c.not_met-end.ensures c.refused.ensures

pub met-requires : goal.met-requires
met-requires c = search list_place

pub returns-then-left-eq0 : goal.returns-then-left-eq0
returns-then-left-eq0 c = search list_met

pub loop-tag-smaller : goal.loop-tag-smaller
loop-tag-smaller c = search list_less

pub loop-tag-preserved : goal.loop-tag-preserved
loop-tag-preserved c = search list_more
