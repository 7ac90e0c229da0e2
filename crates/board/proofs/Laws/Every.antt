-- What std's `all` answers is the test of each.
use mathlib.Core.Bool.{Bool, ◌&&◌}
use mathlib.Core.List.{List, [], ◌∷◌}
use mathlib.Core.Path.{◌≡◌, refl, ap, ◌∙◌}
use denote.Param.Members.{Mut}
use Rattle.std.proofs.Common.{Option}
use Rattle.std.proofs.lemmas.Iterator.{YieldsList}
use Rattle.std.proofs.lemmas.Iterator.Search.{all_from_yields_List}
use Rattle.std.specs.Fn.{Called}
use Rattle.std.specs.Iterator.{ChecksAll}
use Rattle.std.specs.List.{list_all}
use Rattle.words.specs.Every.{every}

every_is : {A : Type 0} (p : A → Bool) (xs : List A) → list_all p xs ≡ every p xs
every_is p [] = refl
every_is p (x ∷ xs) = ap (λ (r : Bool). p x && r) (every_is p xs)

pub every_from_all : {S A B F : Type 0} {steps : S → Option A → S → Type 0} {v : A → B} {g : Mut F (A × Unit {0}) Bool} {s : S} {xs : List B}
    (p : B → Bool) (u : S) (f : F) (r : Bool) → ChecksAll steps g s f r u → YieldsList steps v s xs
    → ((x : A) (b : Bool) (q : F) → Called g f (x, tt) b q → (q ≡ f) × (b ≡ p (v x))) → r ≡ every p xs
every_from_all {xs = xs} p u f r h y k = all_from_yields_List p u f r h y k ∙ every_is p xs
