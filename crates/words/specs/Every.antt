-- A test of each of a list, and of each two of them.
use Rattle.std.specs.Prelude.{Bool, true, ◌&&◌, List, [], ◌∷◌}

abbrev pub every : {A : Type 0} → (A → Bool) → List A → Bool
every p [] = true
every p (x ∷ xs) = p x && every p xs

-- each passes with every one behind it
abbrev pub pairs : {A : Type 0} → (A → A → Bool) → List A → Bool
pairs r [] = true
pairs r (x ∷ xs) = every (r x) xs && pairs r xs
