use mathlib.Core.Path.{◌≡◌, sym, ◌∙◌}
use native.Mathlib.Omega.{arith}
use Rattle.words.proofs.Laws.Align.{one_bit_least, up_below}
use Rattle.board.proofs.Laws.Memory.{heap_is}
use Rattle.tags.proofs.Laws.Memory.{size_refused, alignment_refused, place_refused, address_refused, place_found}
use Rattle.tags.proofs.Laws.Memory.{search_start, search_granted, address_none}
use borrow.Author.Rules.{rules}
use Rattle.tags.proofs.memory.allocate.Goals as goal

pub returns-then-size-eq0 : goal.returns-then-size-eq0
returns-then-size-eq0 c = size_refused _ _ _ _ _ c.if-size-eq0.true

pub returns-in_err-alignment : goal.returns-in_err-alignment
returns-in_err-alignment c = c.from_residual.ensures ∙ alignment_refused _ _ _ _ _ (search rules)

pub returns-then-end-a : goal.returns-then-end-a
returns-then-end-a c =
    let alignment = c.in_ok-alignment.alignment in
    let single = alignment.one_bit in
    let same : alignment.value ≡ c.args.alignment = search rules in
    rw (← same) (address_refused _ _ _ _ _
    (address_none _ _ _ _ c.requires (omega (arith, c.if-size-eq0.false)) single c.lowest_multiple-a.ensures
    (search_start _ _ _ _ single _ c.lowest_multiple-a.ensures (omega (arith, up_below _ c.args.heap.base (one_bit_least _ single))))
    (omega (arith, c.end.ensures.0, c.if-end-a.true))))

pub returns-in_err-place : goal.returns-in_err-place
returns-in_err-place c = c.from_residual-in_err-place.ensures ∙ place_refused _ _ _ _ _ (sym (place_found _ (search rules) c.in_err-place.ensures))

pub loop-a-init : goal.loop-a-init
loop-a-init c =
    let alignment = c.in_ok-alignment.alignment in
    let single = alignment.one_bit in
    search_start _ _ _ _ single _ c.lowest_multiple-a.ensures
    (omega (arith, up_below _ c.args.heap.base (one_bit_least _ single)))

pub overflow_cast-a : goal.overflow_cast-a
overflow_cast-a c =
    let h = (heap_is _ c.requires).last in
    let e = c.end.ensures.0 in
    search rules

pub returns-then-raised-a : goal.returns-then-raised-a
returns-then-raised-a c =
    let alignment = c.in_ok-alignment.alignment in
    let single = alignment.one_bit in
    let same : alignment.value ≡ c.args.alignment = search rules in
    rw (← same)
    (search_granted _ _ _ _ c.requires (omega (arith, c.if-size-eq0.false)) single c.lowest_multiple-a.ensures c.loop-a.invariant
    _ (omega (arith, c.end.ensures.0)) _ (place_found _ (search rules) c.in_ok-place.ensures) c.raised_over_all-raised.ensures
    c.if-raised-a.true c.new_block-block.ensures)

pub returns : goal.returns
returns c =
    let alignment = c.in_ok-alignment.alignment in
    let single = alignment.one_bit in
    let same : alignment.value ≡ c.args.alignment = search rules in
    rw (← same) (address_refused _ _ _ _ _
    (address_none _ _ _ _ c.requires (omega (arith, c.if-size-eq0.false)) single c.lowest_multiple-a.ensures
    c.loop-a.invariant (omega (arith, c.end.ensures.0))))
