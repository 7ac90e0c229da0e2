use Rattle.message.proofs.Laws.Reader.{seek_less, seek_place, seek_other, seek_met, seek_more, seek_stop}
use Rattle.message.proofs.Laws.WalkFrom.{no_tag_is_one}
use Rattle.message.proofs.reader.seek.Goals as goal

pub returns-in_default : goal.returns-in_default
returns-in_default c =
    seek_stop
    _ _ _ _ _ _ _ c.loop-tag.invariant c.step_at-st.ensures (no_tag_is_one _ c.in_default.not-Tag) c.ended.ensures c.not_met-end.ensures c.refused.ensures

pub loop-tag-smaller-then-tag-id : goal.loop-tag-smaller-then-tag-id
loop-tag-smaller-then-tag-id c = search seek_less

pub loop-tag-preserved-then-tag-id : goal.loop-tag-preserved-then-tag-id
loop-tag-preserved-then-tag-id c = search seek_other

pub judge-requires : goal.judge-requires
judge-requires c = search seek_place

pub returns-then-left-eq0 : goal.returns-then-left-eq0
returns-then-left-eq0 c = search seek_met

pub loop-tag-smaller : goal.loop-tag-smaller
loop-tag-smaller c = search seek_less

pub loop-tag-preserved : goal.loop-tag-preserved
loop-tag-preserved c = search seek_more
