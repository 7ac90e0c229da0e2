-- The builder's calls have the place 0 only, so that outcome and cursor, or outcome and size, are all that they give.
use mathlib.Core.Bool.{Bool, true, false}
use mathlib.Core.List.{List}
use mathlib.Core.Path.{◌≡◌, refl, sym, ap, ◌∙◌}
use Prim.Native.Nat.{ℕ}
use lib.Dec.{eqb}
use lib.ListN.{length}
use Rattle.message.specs.Builder.{Call, leaves, built, start_outcome, started_if, started, add_outcome, added_if, added, finish_outcome, finished_if, finished}
use Rattle.message.specs.Outcomes.{done}
use Rattle.message.specs.declared.builder.Built.{Built}
use Rattle.message.specs.declared.builder.Cursor.{Cursor}
use Rattle.message.specs.declared.builder.Finished.{Finished}

started_place : (m : List ℕ) → (started m).place ≡ 0
unfolding started
started_place m = go (eqb (start_outcome (length m)) done) (start_outcome (length m))
  where
    go : (b : Bool) (outcome : ℕ) → (started_if b outcome).place ≡ 0
    go true outcome = refl
    go false outcome = refl

added_place : (m : List ℕ) (c : Cursor) (id size : ℕ) (request : List ℕ) → (added m c id size request).answer.place ≡ 0
unfolding added
added_place m c id size request = let outcome = add_outcome (length m) c.at id size (length request) in go (eqb outcome done) outcome
  where
    go : (b : Bool) (outcome : ℕ) → (added_if b outcome m c id size request).answer.place ≡ 0
    go true outcome = refl
    go false outcome = refl

finished_place : (m : List ℕ) (c : Cursor) → (finished m c).answer.place ≡ 0
unfolding finished
finished_place m c = let outcome = finish_outcome (length m) c.at in go (eqb outcome done) outcome
  where
    go : (b : Bool) (outcome : ℕ) → (finished_if b outcome m c).answer.place ≡ 0
    go true outcome = refl
    go false outcome = refl

-- ---- what a call gives, in the numbers that cross
pub start_given : (m : List ℕ) {r : Built} → r ≡ started m → built r.outcome r.cursor.at ≡ started m
start_given m {r} e = let p : 0 ≡ r.place = sym (ap (λ (s : Built). s.place) e ∙ started_place m) in rw p e

pub add_given : (m : List ℕ) (c : Cursor) (id size : ℕ) (request : List ℕ) {m₁ : List ℕ} {r : Built} → leaves m₁ r ≡ added m c id size request
    → leaves m₁ (built r.outcome r.cursor.at) ≡ added m c id size request
add_given m c id size request {m₁} {r} e = let p : 0 ≡ r.place = sym (ap (λ (s : Call Built). s.answer.place) e ∙ added_place m c id size request) in rw p e

pub finish_given : (m : List ℕ) (c : Cursor) {m₁ : List ℕ} {r : Finished} → leaves m₁ r ≡ finished m c
    → leaves m₁ (record { outcome = r.outcome; place = 0; size = r.size }) ≡ finished m c
finish_given m c {m₁} {r} e = let p : 0 ≡ r.place = sym (ap (λ (s : Call Finished). s.answer.place) e ∙ finished_place m c) in rw p e
