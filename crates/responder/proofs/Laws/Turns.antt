-- Laws of turns, whatever the turn and the state.
use mathlib.Core.List.{List, [], ◌∷◌}
use mathlib.Core.Path.{◌≡◌, refl, ap, ◌∙◌}
use Rattle.requests.specs.Requests.{Request}
use Rattle.responder.specs.Turns.{Said, Turn, Turns, turns}

-- something holds of all that is said
abbrev pub Each : (Said → Type 0) → List Said → Type 0
Each P [] = Unit {0}
Each P (s ∷ ss) = P s × Each P ss

-- what a tag says before what is said behind it
abbrev joined : {S : Type 0} → Said → Turns S → Turns S
joined s rest = record { saids = s ∷ rest.saids; state = rest.state }

module _ {S : Type 0} (turn : S → Request → Turn S) where
  pub turns_each : (P : Said → Type 0) → ((s : S) (r : Request) → P (turn s r).said) → (s : S) (rs : List Request) → Each P (turns turn s rs).saids
  turns_each P each s [] = tt
  turns_each P each s (r ∷ rs) = (each s r, turns_each P each (turn s r).state rs)

  -- what every turn keeps holds of the last state
  pub turns_keep : (P : S → Type 0) → ((s : S) (r : Request) → P s → P (turn s r).state) → (s : S) (rs : List Request) → P s → P (turns turn s rs).state
  turns_keep P keep s [] p = p
  turns_keep P keep s (r ∷ rs) p = turns_keep P keep (turn s r).state rs (keep s r p)

  -- turns that leave the same states leave the same last one
  module _ (turn' : S → Request → Turn S) where
    pub turns_state : ((s : S) (r : Request) → (turn s r).state ≡ (turn' s r).state) → (s : S) (rs : List Request)
        → (turns turn s rs).state ≡ (turns turn' s rs).state
    turns_state same s [] = refl
    turns_state same s (r ∷ rs) = turns_state same (turn s r).state rs ∙ ap (λ (x : S). (turns turn' x rs).state) (same s r)

    -- turns that are the same say the same
    pub turns_same : ((s : S) (r : Request) → turn s r ≡ turn' s r) → (s : S) (rs : List Request) → turns turn s rs ≡ turns turn' s rs
    turns_same same s [] = refl
    turns_same same s (r ∷ rs) =
        ap (joined (turn s r).said) (turns_same same (turn s r).state rs) ∙ ap (λ (t : Turn S). joined t.said (turns turn' t.state rs)) (same s r)

  -- a change of the state that no turn sees stays beside all of them
  pub turns_beside : (change : S → S) → ((s : S) (r : Request) → turn (change s) r ≡ record { said = (turn s r).said; state = change (turn s r).state })
      → (s : S) (rs : List Request) → turns turn (change s) rs ≡ record { saids = (turns turn s rs).saids; state = change (turns turn s rs).state }
  turns_beside change beside s [] = refl
  turns_beside change beside s (r ∷ rs) =
      ap (λ (t : Turn S). joined t.said (turns turn t.state rs)) (beside s r) ∙ ap (joined (turn s r).said) (turns_beside change beside
      (turn s r).state rs)
