-- Laws of the decision.
use Rattle.std.specs.Prelude.{Option, Some, None, is_some}
use mathlib.Core.Bool.{Bool, true, false, cond, and-eq-true_iff}
use mathlib.Core.Path.{◌≡◌, refl, sym, ap, ap₂, ◌∙◌}
use Prim.Native.Nat.{ℕ, ◌+◌, ◌≤◌}
use borrow.Author.Tests.{leb-true}
use lib.Dec.{leb}
use Rattle.words.proofs.Laws.Align.{one_bit_least, up_above}
use Rattle.words.specs.Align.{one_bit}
use Rattle.words.specs.Round.{round_up}
use Rattle.board.specs.Display.{need, possible, supported, valid_display}
use Rattle.board.specs.declared.display.Display.{Display}
use Rattle.board.specs.declared.display.Settings.{Settings}
use Rattle.board.proofs.Laws.Display.{supported_is, display_parts}
use Rattle.display.specs.Decision.{nowhere, supported_from, placed_at, allocatable, fits_buffer, has_buffer, buffer_placed, buffer_after, accepted}
use Rattle.display.specs.Decision.{showing, left_alone, tested, carried_out, decided_by, decided}
use Rattle.display.specs.declared.decision.Decision.{Decision}
use Rattle.display.specs.declared.operation.Operation.{Operation}

-- ---- a valid display
pub valid_possible : (d : Display) → valid_display d ≡ true → possible d.settings ≡ true
valid_possible d v = (supported_is _ _ (display_parts d v).settings).0

-- what may be proposed is supported
pub from_supported : (d : Display) (s : Settings) → supported_from d s ≡ true → supported d.region.size s ≡ true
unfolding supported_from
from_supported d s e = e

pub from_possible : (d : Display) (s : Settings) → supported_from d s ≡ true → possible s ≡ true
from_possible d s e = (supported_is _ _ (from_supported d s e)).0

module _ (d : Display) (o : Operation) where
  -- ---- an accepted operation
  accepted_both : accepted d o ≡ true → (supported_from d o.proposal ≡ true) × (has_buffer o.alignment d o ≡ true)
  unfolding accepted
  accepted_both = (and-eq-true_iff (supported_from d o.proposal) (has_buffer o.alignment d o)).0

  pub accepted_supported : accepted d o ≡ true → supported d.region.size o.proposal ≡ true
  accepted_supported e = from_supported d o.proposal (accepted_both e).0

  pub accepted_possible : accepted d o ≡ true → possible o.proposal ≡ true
  accepted_possible e = from_possible d o.proposal (accepted_both e).0

  pub accepted_fits : accepted d o ≡ true → o.alignment ≡ None → fits_buffer d o ≡ true
  accepted_fits e a = sym (ap (λ (alignment : Option ℕ). has_buffer alignment d o) a) ∙ (accepted_both e).1

-- ---- where an allocate places its buffer
module _ (alignment : ℕ) (d : Display) (proposal : Settings) where
  pub record Room : Type 0 where
    pub aligned : one_bit alignment ≡ true
    pub from_base : d.region.base ≤ round_up alignment d.region.base
    pub last : round_up alignment d.region.base + need proposal ≤ d.region.base + d.region.size

  pub allocatable_is : allocatable alignment d proposal ≡ true → Room
  unfolding allocatable placed_at
  allocatable_is e =
      let base : ℕ = round_up alignment d.region.base in
      let both = (and-eq-true_iff (one_bit alignment) (leb (base + need proposal) (d.region.base + d.region.size))).0 e in
      record { aligned = both.0; from_base = up_above _ _ (one_bit_least _ both.0); last = leb-true _ _ both.1 }

module _ (d : Display) (o : Operation) where
  pub accepted_placed : accepted d o ≡ true → {alignment : ℕ} → o.alignment ≡ Some alignment → Room alignment d o.proposal
  accepted_placed e a =
      allocatable_is _ d o.proposal (sym (ap (λ (alignment : Option ℕ). has_buffer alignment d o) a) ∙ (accepted_both d o e).1)

  pub decided_by_is : {tests others : Bool} → o.tests ≡ tests → o.others ≡ others → decided_by tests others d o ≡ decided d o
  unfolding decided
  decided_by_is t u = sym (ap₂ (λ (x y : Bool). decided_by x y d o) t u)

-- ---- the buffer afterwards, by two tests
buffer_after_cases : (alignment : Option ℕ) (releases : Bool) (d : Display) (o : Operation)
    → cond (is_some alignment) (buffer_placed alignment d o) (cond releases nowhere d.buffer) ≡ buffer_after alignment releases d o
buffer_after_cases (Some alignment) releases d o = refl
buffer_after_cases None true d o = refl
buffer_after_cases None false d o = refl

-- ---- what holds of each decision that there is holds of the decision
module _ (d : Display) (o : Operation) (P : Decision → Type 0) (shows : P (showing d.settings d)) where
  tested_cases : (supported_from d o.proposal ≡ true → P (showing o.proposal d)) → (b : Bool) → supported_from d o.proposal ≡ b → P (tested b d o)
  tested_cases h true e = h e
  tested_cases h false e = shows

  carried_cases : (accepted d o ≡ true → P (carried_out true d o)) → (b : Bool) → accepted d o ≡ b → P (carried_out b d o)
  carried_cases h true e = h e
  carried_cases h false e = shows

  module _ (alone : P (left_alone d)) (tests : supported_from d o.proposal ≡ true → P (showing o.proposal d)) (carries : accepted d o ≡ true → P
      (carried_out true d o)) where
    by_cases : (t u : Bool) → P (decided_by t u d o)
    by_cases true true = alone
    by_cases true false = tested_cases tests (supported_from d o.proposal) refl
    by_cases false true = carried_cases carries (accepted d o) refl
    by_cases false false = alone

    pub decided_cases : P (decided d o)
    unfolding decided
    decided_cases = by_cases o.tests o.others
