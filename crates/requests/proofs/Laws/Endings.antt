-- How a message that is walked can end: done, or by one of the faults 4, 5 and 6.
use mathlib.Core.Bool.{Bool, true, false}
use mathlib.Core.List.{List, [], ◌∷◌}
use mathlib.Core.Logic.{inl, inr}
use mathlib.Core.Path.{refl}
use Prim.Native.Nat.{ℕ, zero, suc}
use lib.Dec.{eqb}
use Rattle.words.specs.Numbers.{word}
use Rattle.message.specs.Walk.{tag_at, overruns, step_of, step, ending_of, walk, walk_from}
use Rattle.message.specs.declared.walk.Ending.{Ending}
use Rattle.message.specs.declared.walk.Step.{Step}
use Rattle.message.specs.declared.walk.Tag.{Tag}
use Rattle.requests.specs.Requests.{Request, passed, short, asks, request_of, cut_by, cut, trail, WalkOutcome}

step_outcome : (m : List ℕ) (size p : ℕ) → WalkOutcome (ending_of (step m size p)).outcome
unfolding step
step_outcome m size p = go (eqb p size) (eqb (word m p) 0) (overruns m size p)
  where
    go : (a b c : Bool) → WalkOutcome (ending_of (step_of a b c (tag_at m p))).outcome
    go true b c = inr (inl refl)
    go false true c = inl refl
    go false false true = inr (inr (inl refl))
    go false false false = inl refl

walk_outcome : (n : ℕ) (m : List ℕ) (size : ℕ) (s : Step) → WalkOutcome (ending_of s).outcome → WalkOutcome (walk n m size s).ending.outcome
walk_outcome zero m size s k = k
walk_outcome (suc n) m size Step.End k = k
walk_outcome (suc n) m size (Step.Fault o q) k = k
walk_outcome (suc n) m size (Step.Tag t q) k = walk_outcome n m size (step m size q) (step_outcome m size q)

cut_outcome : (m : List ℕ) (ts : List Tag) (e : Ending) → WalkOutcome e.outcome → WalkOutcome (cut m ts e).ending.outcome
cut_outcome m [] e k = k
cut_outcome m (t ∷ ts) e k = go (request_of m t) (cut_outcome m ts e k)
  where
    go : (r : Request) → WalkOutcome (cut m ts e).ending.outcome → WalkOutcome (cut_by r t (cut m ts e)).ending.outcome
    go passed h = h
    go short h = inr (inr (inr refl))
    go (asks k request) h = h

pub ending_outcome : (m : List ℕ) (size p : ℕ) → WalkOutcome (trail m size p).ending.outcome
unfolding trail walk_from
ending_outcome m size p =
    cut_outcome m (walk_from m size p).tags (walk_from m size p).ending (walk_outcome (suc size) m size (step m size p) (step_outcome m size p))
