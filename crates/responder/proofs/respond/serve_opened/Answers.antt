use borrow.Author.Rules.{rules}
use Rattle.board.proofs.Laws.Record.{valid_parts}
use Rattle.responder.proofs.Laws.Responding.{valid_heap_of, walked_walking, walked_heap, served_is}
use Rattle.responder.proofs.respond.serve_opened.Goals as goal

pub invariant_of-display : goal.invariant_of-display
invariant_of-display c = record { valid = (valid_parts _ c.requires.1).display }

pub serve_tags-first-requires : goal.serve_tags-first-requires
serve_tags-first-requires c = (search rules, valid_heap_of _ c.requires.1)

pub answer_group-requires : goal.answer_group-requires
answer_group-requires c = (
  walked_walking _ _ _ c.requires.0 c.leave.result c.serve_tags-first.ensures,
  walked_heap _ _ _ c.leave.result c.serve_tags-first.ensures c.requires.1,
)

pub returns : goal.returns
returns c =
    served_is _ _ _ c.requires.0 c.leave.ensures c.serve_tags-first.ensures c.group_of-group.ensures
    c.answer_group.ensures c.code_of.ensures c.put_u32.ensures
