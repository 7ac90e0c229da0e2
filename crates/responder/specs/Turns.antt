-- The tags of a message in order, each on the state that the last one left. What a tag does with the state is the turn.
use Rattle.std.specs.Prelude.{List, [], ◌∷◌, ℕ}
use Rattle.requests.specs.Requests.{Request}

-- a tag says nothing, or its whole answer
pub data Said : Type 0 where
  silent : Said
  says : List ℕ → Said

-- what a tag says, and the state that it leaves
pub record Turn (S : Type 0) : Type 0 where
  pub said : Said
  pub state : S

-- what all of them say, and the state that the last one leaves
pub record Turns (S : Type 0) : Type 0 where
  pub saids : List Said
  pub state : S

abbrev pub turns : {S : Type 0} → (turn : S → Request → Turn S) → S → List Request → Turns S
turns turn s [] = record { saids = []; state = s }
turns turn s (r ∷ rs) =
    let t = turn s r in
    let rest = turns turn t.state rs in
    record { saids = t.said ∷ rest.saids; state = rest.state }
