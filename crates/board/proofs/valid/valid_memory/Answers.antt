use Rattle.std.proofs.Common.{rules}
use Rattle.std.proofs.lemmas.Iterator.{YieldsList-from_slice}
use Rattle.board.proofs.Laws.Every.{every_from_all}
use Rattle.board.specs.Memory.{valid_block, valid_memory}
use Rattle.board.proofs.valid.valid_memory.Goals as goal

pub returns-then-valid : goal.returns-then-valid
unfolding valid_memory
returns-then-valid c =
    let e = every_from_all (valid_block c.args.heap) _ _ _ c.all-valid.ensures.ran (YieldsList-from_slice c.args.blocks.now cc) (λ x r q k. search rules) in
    search rules

pub returns-else-valid : goal.returns-else-valid
unfolding valid_memory
returns-else-valid c =
    let e = every_from_all (valid_block c.args.heap) _ _ _ c.all-valid.ensures.ran (YieldsList-from_slice c.args.blocks.now cc) (λ x r q k. search rules) in
    search rules
