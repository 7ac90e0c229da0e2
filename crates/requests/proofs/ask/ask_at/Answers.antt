use native.Mathlib.Omega.{arith}
use Rattle.requests.proofs.Laws.Asks.{ask_response, ask_unknown, ask_short, ask_outside, ask_group}
use Rattle.requests.proofs.ask.ask_at.Goals as goal

pub returns-then-tag-ge2147483648 : goal.returns-then-tag-ge2147483648
returns-then-tag-ge2147483648 c = ask_response _ _ (omega (arith, c.if-tag-ge2147483648.true))

pub returns-in_default : goal.returns-in_default
returns-in_default c = ask_unknown _ _ c.row_of.ensures c.in_default.is

pub returns-then-tag-row : goal.returns-then-tag-row
returns-then-tag-row c = ask_short _ _ (omega arith) c.row_of.ensures c.in-Some.is c.if-tag-row.true

pub returns-in-Outside : goal.returns-in-Outside
returns-in-Outside c =
    ask_outside _ _ (omega arith) c.row_of.ensures c.in-Some.is c.if-tag-row.false c.requires
    c.request_length-count.ensures c.in-Outside.is

pub returns-in-Group : goal.returns-in-Group
returns-in-Group c =
    ask_group _ _ (omega arith) c.row_of.ensures c.in-Some.is c.if-tag-row.false c.requires
    c.request_length-count.ensures c.in-Group.is
