-- A valid display stays valid under every operation.
use Rattle.std.specs.Prelude.{Option, Some, None}
use mathlib.Core.Bool.{Bool, true, false, cond, not, ◌&&◌, true≢false}
use mathlib.Core.Logic.{◌⊎◌, inl, inr}
use mathlib.Core.Path.{◌≡◌, refl, sym, ap, ◌∙◌}
use Prim.Native.Nat.{ℕ, ◌+◌, ◌<◌}
use native.Mathlib.Nat.{eq-zero-or-pos}
use native.Mathlib.Omega.{arith}
use borrow.Author.Tests.{leb-true, ne_eqb}
use lib.Dec.{eqb, leb}
use Rattle.board.specs.Display.{need, valid_buffer, valid_display}
use Rattle.board.specs.declared.display.Display.{Display}
use Rattle.board.specs.declared.facts.Span.{Span}
use Rattle.board.proofs.Laws.Display.{need_least, display_parts, parts_display, buffer_stands, buffer_valid, no_buffer_valid}
use Rattle.display.specs.Decision.{supported_from, placed_at, fits_buffer, accepted, buffer_after, tested, carried_out, decided_by, decided}
use Rattle.display.specs.declared.decision.Decision.{Decision}
use Rattle.display.specs.declared.operation.Operation.{Operation}
use Rattle.display.proofs.Laws.Decision.{accepted_supported, accepted_possible, accepted_placed, accepted_fits, decided_by_is, decided_cases}

-- where none stands, what is needed does not matter
none_valid : (region : Span) (n : ℕ) (buffer : Span) → buffer.size ≡ 0 → valid_buffer region n buffer ≡ eqb buffer.base 0
unfolding valid_buffer
none_valid region n buffer =
    ap (λ (k : ℕ). cond (eqb k 0) (eqb buffer.base 0) (leb region.base buffer.base && leb (buffer.base + buffer.size)
    (region.base + region.size) && leb n buffer.size))

-- where one stands and is not released, it fits by its size
stands_fits : (d : Display) (o : Operation) → (d.buffer.size ≡ 0 → ⊥) → o.releases ≡ false → leb (need o.proposal) d.buffer.size ≡ fits_buffer d o
unfolding fits_buffer
stands_fits d o n e = rw (ne_eqb _ _ n, e)

module _ (d : Display) (o : Operation) (v : valid_display d ≡ true) where
  -- ---- the buffer that an accepted operation leaves
  module _ (e : accepted d o ≡ true) where
    placed_valid : {alignment : ℕ} → o.alignment ≡ Some alignment
        → valid_buffer d.region (need o.proposal) (placed_at alignment d o.proposal) ≡ true
    unfolding placed_at
    placed_valid a =
        let room = accepted_placed d o e a in
        let least = need_least o.proposal (accepted_possible d o e) in
        buffer_valid _ _ _ (λ z. omega arith) (record { from_base = room.from_base; last = room.last; enough = omega arith })

    kept_valid : o.alignment ≡ None → o.releases ≡ false → (d.buffer.size ≡ 0) ⊎ (0 < d.buffer.size)
        → valid_buffer d.region (need o.proposal) d.buffer ≡ true
    kept_valid a r (inl z) = none_valid _ _ d.buffer z ∙ sym (none_valid _ _ d.buffer z) ∙ (display_parts d v).buffer
    kept_valid a r (inr p) =
        let stands : d.buffer.size ≡ 0 → ⊥ = λ z. omega arith in
        let inside = buffer_stands _ _ _ stands (display_parts d v).buffer in
        let fits = leb-true _ _ (stands_fits d o stands r ∙ accepted_fits d o e a) in
        buffer_valid _ _ _ stands (record { from_base = inside.from_base; last = inside.last; enough = fits })

    after_valid : (alignment : Option ℕ) → (releases : Bool) → o.alignment ≡ alignment → o.releases ≡ releases
        → valid_buffer d.region (need o.proposal) (buffer_after alignment releases d o) ≡ true
    after_valid (Some alignment) releases a r = placed_valid a
    after_valid None true a r = no_buffer_valid _ _
    after_valid None false a r = kept_valid a r (eq-zero-or-pos d.buffer.size)

    carried_valid : valid_display (carried_out true d o).display ≡ true
    carried_valid =
        let buffer = after_valid o.alignment o.releases refl refl in
        parts_display _ (record { region = (display_parts d v).region; settings = accepted_supported d o e; buffer = buffer })

  pub decided_valid : valid_display (decided d o).display ≡ true
  decided_valid = decided_cases d o (λ (r : Decision). valid_display r.display ≡ true) v v (λ s. v) carried_valid

-- ---- what leaves the display as it is
module _ (d : Display) (o : Operation) where
  tested_same : (others isSupported : Bool) → supported_from d o.proposal ≡ isSupported → (decided_by true others d o).display ≡ d
  tested_same true s e = refl
  tested_same false true e = ap (λ (b : Bool). (tested b d o).display) e
  tested_same false false e = ap (λ (b : Bool). (tested b d o).display) e

  pub tests_same : o.tests ≡ true → (decided d o).display ≡ d
  tests_same t = ap (λ (r : Decision). r.display) (sym (decided_by_is d o t refl)) ∙ tested_same o.others (supported_from d o.proposal) refl

  pub refused_same : accepted d o ≡ false → (decided d o).display ≡ d
  refused_same e = decided_cases d o (λ (r : Decision). r.display ≡ d) refl refl (λ s. refl) (λ a. absurd (true≢false (sym a ∙ e)))

  -- no operation changes the region
  pub region_same : (decided d o).display.region ≡ d.region
  region_same = decided_cases d o (λ (r : Decision). r.display.region ≡ d.region) refl refl (λ s. refl) (λ a. refl)

  -- a decision says that an operation was accepted: one with no test, with another tag, and accepted by its proposal
  pub accepted_told : (decided d o).accepted ≡ (not o.tests && o.others && accepted d o)
  unfolding decided
  accepted_told = told o.tests o.others
    where
      tests : (isSupported : Bool) → (tested isSupported d o).accepted ≡ false
      tests true = refl
      tests false = refl

      sets : (isAccepted : Bool) → (carried_out isAccepted d o).accepted ≡ isAccepted
      sets true = refl
      sets false = refl

      told : (t u : Bool) → (decided_by t u d o).accepted ≡ (not t && u && accepted d o)
      told true true = refl
      told true false = tests (supported_from d o.proposal)
      told false true = sets (accepted d o)
      told false false = refl
