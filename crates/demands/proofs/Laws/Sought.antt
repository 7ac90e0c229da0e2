-- The tag that a reader seeks, by its index.
use mathlib.Core.Bool.{Bool, true, false}
use mathlib.Core.List.{List, [], ◌∷◌}
use mathlib.Core.Path.{◌≡◌, refl, ap, ◌∙◌}
use Prim.Native.Nat.{ℕ, zero, suc, ◌<◌}
use native.Mathlib.Omega.{arith}
use borrow.Author.Tests.{eqb-true, eq-eqb}
use lib.Dec.{eqb}
use lib.ListN.{length, take, get_or}
use Rattle.message.specs.Reader.{kept_tag, with_id}
use Rattle.message.specs.declared.walk.Tag.{Tag}
use Rattle.demands.specs.ReadingBack.{sought_in}
use Rattle.demands.specs.Terms.{no_tag}

-- ---- a tag of another id is passed by, one of the id counts
sought_other : (id n : ℕ) (t : Tag) (ts : List Tag) → eqb t.id id ≡ false → sought_in id n (t ∷ ts) ≡ suc (sought_in id n ts)
sought_other id zero t ts e = rw e
sought_other id (suc n) t ts e = rw e

sought_same : (id n : ℕ) (t : Tag) (ts : List Tag) → eqb t.id id ≡ true → sought_in id (suc n) (t ∷ ts) ≡ suc (sought_in id n ts)
sought_same id n t ts e = rw e

sought_here : (id : ℕ) (t : Tag) (ts : List Tag) → eqb t.id id ≡ true → sought_in id zero (t ∷ ts) ≡ 0
sought_here id t ts e = rw e

-- ---- where there is one, it has the id, and as many tags of the id stand before it as the occurrence says
pub record SoughtAt (id n i : ℕ) (ts : List Tag) : Type 0 where
  pub named : (get_or ts i no_tag).id ≡ id
  pub occurs : length (with_id id (take i ts)) ≡ n

pub sought_at : (id n : ℕ) (ts : List Tag) → sought_in id n ts < length ts → SoughtAt id n (sought_in id n ts) ts
sought_at id n [] l = absurd (omega arith)
sought_at id n (t ∷ ts) l = go (eqb t.id id) refl n l (λ k. sought_at id k ts)
  where
    go : (c : Bool) → eqb t.id id ≡ c → (k : ℕ) → sought_in id k (t ∷ ts) < suc (length ts)
        → ((j : ℕ) → sought_in id j ts < length ts → SoughtAt id j (sought_in id j ts) ts) → SoughtAt id k (sought_in id k (t ∷ ts)) (t ∷ ts)
    go true q zero h r = rw (sought_here id t ts q) (record { named = eqb-true _ _ q; occurs = refl })
    go true q (suc k) h r =
        let e = sought_same id k t ts q in
        let s = r k (omega arith) in
        rw e (record { named = s.named; occurs = rw q (ap suc s.occurs) })
    go false q k h r =
        let e = sought_other id k t ts q in
        let s = r k (omega arith) in
        rw e (record { named = s.named; occurs = rw q s.occurs })

-- ---- and every tag is sought, by its id and its occurrence
pub sought_tag : (ts : List Tag) (i : ℕ) → i < length ts
    → sought_in (get_or ts i no_tag).id (length (with_id (get_or ts i no_tag).id (take i ts))) ts ≡ i
sought_tag [] i l = absurd (omega arith)
sought_tag (t ∷ ts) zero l = sought_here t.id t ts (eq-eqb t.id t.id refl)
sought_tag (t ∷ ts) (suc i) l = go (get_or ts i no_tag).id (sought_tag ts i (omega arith))
  where
    go : (id : ℕ) → sought_in id (length (with_id id (take i ts))) ts ≡ i → sought_in id (length (with_id id (t ∷ take i ts))) (t ∷ ts) ≡ suc i
    go id e = by (eqb t.id id) refl
      where
        by : (c : Bool) → eqb t.id id ≡ c → sought_in id (length (with_id id (t ∷ take i ts))) (t ∷ ts) ≡ suc i
        by true q = ap (λ (c : Bool). sought_in id (length (kept_tag c t (with_id id (take i ts)))) (t ∷ ts)) q ∙ sought_same id _ t ts q ∙ ap suc e
        by false q = ap (λ (c : Bool). sought_in id (length (kept_tag c t (with_id id (take i ts)))) (t ∷ ts)) q ∙ sought_other id _ t ts q ∙ ap suc e
