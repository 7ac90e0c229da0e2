-- Items by place.
use mathlib.Core.List.{List, [], ◌∷◌}
use mathlib.Core.Path.{◌≡◌, refl, sym, ap, ◌∙◌}
use Prim.Native.Nat.{ℕ, zero, suc}
use lib.ListN.{get_or, set}
use lib.Seq.{set-get_or}
use Rattle.std.proofs.Common.{Option, Some, None}
use Rattle.tags.specs.Place.{item, change}

module _ {A : Type 0} (none : A) (f : A → A) where
  -- a change that leaves its item alone changes nothing
  pub change_same : (xs : List A) (p : Option ℕ) → f (item none xs p) ≡ item none xs p → change none f xs p ≡ xs
  change_same xs (Some i) e = ap (set xs i) e ∙ set-get_or xs i none
  change_same xs None e = refl

  set_get : (xs : List A) (i : ℕ) → f none ≡ none → get_or (set xs i (f (get_or xs i none))) i none ≡ f (get_or xs i none)
  set_get [] i e = sym e
  set_get (x ∷ xs) zero e = refl
  set_get (x ∷ xs) (suc i) e = set_get xs i e

  -- after a change, the item at the place is the changed one
  pub item_change : (xs : List A) (p : Option ℕ) → f none ≡ none → item none (change none f xs p) p ≡ f (item none xs p)
  item_change xs (Some i) e = set_get xs i e
  item_change xs None e = sym e
