-- The group is answered exactly when the message is faultless, one of its tags asks something, and tests do not come with others;
-- and what leaves the display as it was.
use mathlib.Core.Bool.{Bool, true, false, not, ◌||◌, true≢false}
use mathlib.Core.List.{List, [], ◌∷◌}
use mathlib.Core.Logic.{◌⊎◌, inl, inr}
use mathlib.Core.Path.{◌≡◌, refl, sym, ◌∙◌}
use Prim.Native.Nat.{ℕ, zero, suc}
use borrow.Author.Tests.{eqb-true, eq-eqb}
use lib.Dec.{eqb}
use lib.ListN.{get_or}
use Rattle.message.specs.Outcomes.{done}
use Rattle.message.specs.declared.walk.Ending.{Ending}
use Rattle.board.specs.declared.display.Display.{Display}
use Rattle.table.specs.declared.kinds.FrameTag.{FrameTag}
use Rattle.table.specs.declared.kinds.Kind.{Kind}
use Rattle.display.specs.Decision.{supported_from, accepted, tested, carried_out, decided_by, decided}
use Rattle.display.specs.Operation.{unasked, noted}
use Rattle.display.specs.declared.operation.Operation.{Operation}
use Rattle.requests.specs.Requests.{Request, passed, short, asks}
use Rattle.responder.specs.Answers.{note_by, operation, group_by, group_decision}
use Rattle.demands.specs.AnsweredWhen.{test_of, AsksGroup}

-- whether an operation has tests, and whether it has other tags
abbrev has : (test : Bool) → Operation → Bool
has true o = o.tests
has false o = o.others

-- ---- one tag more
-- a test adds a test, another tag another
noted_either : (t : FrameTag) (request : List ℕ) (o : Operation)
    → ((noted t request o).tests ≡ (test_of t || o.tests)) × ((noted t request o).others ≡ (not (test_of t) || o.others))
unfolding noted
noted_either (FrameTag.Get s) request o = (refl, refl)
noted_either (FrameTag.Test s) request o = (refl, refl)
noted_either (FrameTag.Set s) request o = (refl, refl)
noted_either FrameTag.Pitch request o = (refl, refl)
noted_either FrameTag.Allocate request o = (refl, refl)
noted_either FrameTag.Release request o = (refl, refl)

abbrev adds_one : (test isTest : Bool) → Bool
adds_one true isTest = isTest
adds_one false isTest = not isTest

noted_has : (test : Bool) (t : FrameTag) (request : List ℕ) (o : Operation) → has test (noted t request o) ≡ (adds_one test (test_of t) || has test o)
noted_has true t request o = (noted_either t request o).0
noted_has false t request o = (noted_either t request o).1

-- what there was stays, and what is new came from the tag
pub record OneMore (test : Bool) (r : Request) (x y : Bool) : Type 0 where
  pub keeps : x ≡ true → y ≡ true
  pub adds : AsksGroup test r → y ≡ true
  pub from : y ≡ true → AsksGroup test r ⊎ (x ≡ true)

one_more : (test : Bool) (r : Request) (o : Operation) → OneMore test r (has test o) (has test (note_by r o))
one_more test passed o = record { keeps = λ e. e; adds = λ a. absurd a; from = λ e. inr e }
one_more test short o = record { keeps = λ e. e; adds = λ a. absurd a; from = λ e. inr e }
one_more test (asks (Kind.Outside k) request) o = record { keeps = λ e. e; adds = λ a. absurd a; from = λ e. inr e }
one_more test (asks (Kind.Group t) request) o = rw (noted_has test t request o) (go test (test_of t) (has test o) refl)
  where
    go : (c isTest x : Bool) → test_of t ≡ isTest → OneMore c (asks (Kind.Group t) request) x (adds_one c isTest || x)
    go true true x q = record { keeps = λ e. refl; adds = λ a. refl; from = λ e. inl q }
    go true false x q = record { keeps = λ e. e; adds = λ a. absurd (true≢false cc); from = λ e. inr e }
    go false true x q = record { keeps = λ e. e; adds = λ a. absurd (true≢false cc); from = λ e. inr e }
    go false false x q = record { keeps = λ e. refl; adds = λ a. refl; from = λ e. inl q }

-- ---- all of them
keeps_all : (test : Bool) (rs : List Request) (o : Operation) → has test o ≡ true → has test (operation o rs) ≡ true
keeps_all test [] o e = e
keeps_all test (r ∷ rs) o e = keeps_all test rs (note_by r o) ((one_more test r o).keeps e)

has_one : (test : Bool) (rs : List Request) (o : Operation) (i : ℕ) → AsksGroup test (get_or rs i passed) → has test (operation o rs) ≡ true
has_one test [] o i a = absurd a
has_one test (r ∷ rs) o zero a = keeps_all test rs (note_by r o) ((one_more test r o).adds a)
has_one test (r ∷ rs) o (suc i) a = has_one test rs (note_by r o) i a

came_from : (test : Bool) (rs : List Request) (o : Operation) → has test (operation o rs) ≡ true
    → ((i : ℕ) × AsksGroup test (get_or rs i passed)) ⊎ (has test o ≡ true)
came_from test [] o e = inr e
came_from test (r ∷ rs) o e = go (came_from test rs (note_by r o) e)
  where
    last : AsksGroup test r ⊎ (has test o ≡ true) → ((i : ℕ) × AsksGroup test (get_or (r ∷ rs) i passed)) ⊎ (has test o ≡ true)
    last (inl a) = inl (zero, a)
    last (inr x) = inr x

    go : ((i : ℕ) × AsksGroup test (get_or rs i passed)) ⊎ (has test (note_by r o) ≡ true)
        → ((i : ℕ) × AsksGroup test (get_or (r ∷ rs) i passed)) ⊎ (has test o ≡ true)
    go (inl w) = inl (suc w.0, w.1)
    go (inr x) = last ((one_more test r o).from x)

-- ---- the decision
tested_answered : (c : Bool) (d : Display) (o : Operation) → (tested c d o).answered ≡ true
tested_answered true d o = refl
tested_answered false d o = refl

carried_answered : (c : Bool) (d : Display) (o : Operation) → (carried_out c d o).answered ≡ true
carried_answered true d o = refl
carried_answered false d o = refl

decided_apart : (t u : Bool) (d : Display) (o : Operation) → (decided_by t u d o).answered ≡ true → t ≡ true → u ≡ true → ⊥
decided_apart true true d o e p q = true≢false cc
decided_apart true false d o e p q = true≢false cc
decided_apart false u d o e p q = true≢false cc

decided_some : (t u : Bool) (d : Display) (o : Operation) → (t ≡ true → u ≡ true → ⊥) → (t ≡ true) ⊎ (u ≡ true) → (decided_by t u d o).answered ≡ true
decided_some true true d o n s = absurd (n refl refl)
decided_some true false d o n s = tested_answered (supported_from d o.proposal) d o
decided_some false true d o n s = carried_answered (accepted d o) d o
decided_some false false d o n (inl s) = absurd (true≢false cc)
decided_some false false d o n (inr s) = absurd (true≢false cc)

-- a fault, tests with other tags, or nothing but tests
abbrev pub KeepsDisplay : Ending → List Request → Type 0
KeepsDisplay e rs =
    (e.outcome ≡ done → ⊥)
    ⊎ ((((i : ℕ) × AsksGroup true (get_or rs i passed)) × ((j : ℕ) × AsksGroup false (get_or rs j passed)))
    ⊎ ((i : ℕ) → AsksGroup false (get_or rs i passed) → ⊥))

module _ (d : Display) (e : Ending) (rs : List Request) where
  abbrev o : Operation
  o = operation (unasked d.settings) rs

  -- a group that is answered has no fault before it, and does not mix
  pub answered_faultless : (group_decision d e rs).answered ≡ true → e.outcome ≡ done
  unfolding group_decision
  answered_faultless a = go (eqb e.outcome done) refl a
    where
      go : (c : Bool) → eqb e.outcome done ≡ c → (group_by c d o).answered ≡ true → e.outcome ≡ done
      go true q a = eqb-true _ _ q
      go false q a = absurd (true≢false cc)

  pub answered_unmixed : (group_decision d e rs).answered ≡ true → (i j : ℕ) → AsksGroup true (get_or rs i passed) → AsksGroup false (get_or rs j passed) → ⊥
  unfolding group_decision decided
  answered_unmixed a i j p q =
      decided_apart o.tests o.others d o (rw (eq-eqb e.outcome done (answered_faultless a)) at a)
      (has_one true rs (unasked d.settings) i p) (has_one false rs (unasked d.settings) j q)

  -- what an operation has came from one of its tags
  witness : (c : Bool) → has c o ≡ true → (i : ℕ) × AsksGroup c (get_or rs i passed)
  witness c x = given (came_from c rs (unasked d.settings) x)
    where
      none_yet : (c : Bool) → has c (unasked d.settings) ≡ true → ⊥
      none_yet true y = true≢false cc
      none_yet false y = true≢false cc

      given : ((i : ℕ) × AsksGroup c (get_or rs i passed)) ⊎ (has c (unasked d.settings) ≡ true) → (i : ℕ) × AsksGroup c (get_or rs i passed)
      given (inl w) = w
      given (inr y) = absurd (none_yet c y)

  -- one that has no fault, does not mix and is asked something is answered
  pub unmixed_answered : e.outcome ≡ done
      → (((i : ℕ) × AsksGroup true (get_or rs i passed)) → ((j : ℕ) × AsksGroup false (get_or rs j passed)) → ⊥)
      → (test : Bool) (i : ℕ) → AsksGroup test (get_or rs i passed) → (group_decision d e rs).answered ≡ true
  unfolding group_decision decided
  unmixed_answered f n test i a =
      rw (eq-eqb e.outcome done f)
      (decided_some o.tests o.others d o (λ p q. n (witness true p) (witness false q)) (one test (has_one test rs (unasked d.settings) i a)))
    where
      one : (c : Bool) → has c o ≡ true → (o.tests ≡ true) ⊎ (o.others ≡ true)
      one true x = inl x
      one false x = inr x

  -- a group with a fault before it, one that mixes, and one that is asked for nothing but tests leave the display
  pub display_same : KeepsDisplay e rs → (group_decision d e rs).display ≡ d
  unfolding group_decision decided
  display_same h = go (eqb e.outcome done) refl
    where
      tested_same : (c : Bool) → (tested c d o).display ≡ d
      tested_same true = refl
      tested_same false = refl

      carries : o.tests ≡ false → o.others ≡ true → e.outcome ≡ done → KeepsDisplay e rs → ⊥
      carries t u f (inl n) = n f
      carries t u f (inr (inl x)) = true≢false (sym (has_one true rs (unasked d.settings) x.0.0 x.0.1) ∙ t)
      carries t u f (inr (inr n)) = let w = witness false u in n w.0 w.1

      by : (t u : Bool) → o.tests ≡ t → o.others ≡ u → e.outcome ≡ done → (decided_by t u d o).display ≡ d
      by true true et eu f = refl
      by true false et eu f = tested_same (supported_from d o.proposal)
      by false true et eu f = absurd (carries et eu f h)
      by false false et eu f = refl

      go : (c : Bool) → eqb e.outcome done ≡ c → (group_by c d o).display ≡ d
      go true q = by o.tests o.others refl refl (eqb-true _ _ q)
      go false q = refl
