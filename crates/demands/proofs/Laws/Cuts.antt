-- The tag of an index beside the trail: it stands before the first fault, at it or behind it, or there is no such tag.
use mathlib.Core.Bool.{Bool, true, false, cond, true≢false}
use mathlib.Core.List.{List, [], ◌∷◌}
use mathlib.Core.Logic.{◌⊎◌, inl, inr}
use mathlib.Core.Path.{◌≡◌, refl, sym, ap}
use Prim.Native.Nat.{ℕ, zero, suc, ◌≤◌, ◌<◌}
use native.Mathlib.Omega.{arith}
use borrow.Author.Tests.{leb-false, lt-leb}
use lib.Dec.{ltb, eqb}
use lib.ListN.{get_or}
use Rattle.std.proofs.Common.{Option, Some, None}
use Rattle.words.specs.Numbers.{word}
use Rattle.message.proofs.Laws.Follows.{Follows}
use Rattle.message.proofs.Laws.Steps.{step_found}
use Rattle.message.specs.Outcomes.{done}
use Rattle.message.specs.Reader.{is_answered}
use Rattle.message.specs.Walk.{tag_at, overruns, step_of, step, ending_of}
use Rattle.message.specs.declared.walk.Ending.{Ending}
use Rattle.message.specs.declared.walk.Tag.{Tag}
use Rattle.table.specs.Table.{known, row_of}
use Rattle.table.specs.declared.kinds.Kind.{Kind}
use Rattle.table.specs.declared.rows.Row.{Row}
use Rattle.requests.specs.Requests.{Request, passed, short, asks, value_of, request_bytes, request_by, request_of, Trail, cut_by, cut}
use Rattle.demands.specs.Terms.{no_tag}

-- of two equal rows both parts are equal
pub row_same : {k k' : Kind} {n n' : ℕ} → known k n ≡ known k' n' → (k ≡ k') × (n ≡ n')
row_same {k} {k'} {n} {n'} e =
    let row : Row = record { kind = k; request = n } in
    let row' : Row = record { kind = k'; request = n' } in
    let r : row ≡ row' = cc in
    (ap (λ (x : Row). x.kind) r, ap (λ (x : Row). x.request) r)

-- ---- what a tag has that asks something
pub record HasAsked (t : Tag) (k : Kind) : Type 0 where
  pub clear : t.word < 0x8000_0000
  pub least : ℕ
  pub row : row_of t.id ≡ known k least

pub has_asked : (m : List ℕ) (t : Tag) {k : Kind} {request : List ℕ} → request_of m t ≡ asks k request → HasAsked t k
unfolding request_of request_by
has_asked m t {k} {request} e = go (is_answered t) refl (row_of t.id) refl e
  where
    sized : (x : Bool) (k' : Kind) (n : ℕ) → cond x short (asks k' (request_bytes k' n t.size (value_of m t))) ≡ asks k request → k' ≡ k
    sized true k' n q = absurd (true≢false cc)
    sized false k' n q = cc

    go : (a : Bool) → is_answered t ≡ a → (row : Option Row) → row_of t.id ≡ row → request_by a row t.size (value_of m t) ≡ asks k request → HasAsked t k
    go true ea row er q = absurd (true≢false cc)
    go false ea None er q = absurd (true≢false cc)
    go false ea (Some row) er q =
        record { clear = leb-false _ _ ea; least = row.request; row = rw (← (sized (ltb t.size row.request) row.kind row.request q)) er }

-- and it asks that, unless its value is too short
pub asks_unless_short : (m : List ℕ) (t : Tag) {k : Kind} {n : ℕ} → row_of t.id ≡ known k n → t.word < 0x8000_0000 → (request_of m t ≡ short → ⊥)
    → request_of m t ≡ asks k (request_bytes k n t.size (value_of m t))
unfolding request_of request_by
asks_unless_short m t {k} {n} er w ns = rw (lt-leb 0x8000_0000 t.word w, er) (go (ltb t.size n) (rw (lt-leb 0x8000_0000 t.word w, er) at ns))
  where
    go : (x : Bool) → (cond x short (asks k (request_bytes k n t.size (value_of m t))) ≡ short → ⊥)
        → cond x short (asks k (request_bytes k n t.size (value_of m t))) ≡ asks k (request_bytes k n t.size (value_of m t))
    go true s = absurd (s refl)
    go false s = refl

-- ---- places rise
-- a step that ends the walk ends it well, or by a fault at its place
stop_place : (m : List ℕ) (size p : ℕ) → ((ending_of (step m size p)).outcome ≡ done) ⊎ ((ending_of (step m size p)).place ≡ p)
unfolding step tag_at
stop_place m size p = go (eqb p size) (eqb (word m p) 0) (overruns m size p)
  where
    go : (a b c : Bool) → ((ending_of (step_of a b c (tag_at m p))).outcome ≡ done) ⊎ ((ending_of (step_of a b c (tag_at m p))).place ≡ p)
    go true b c = inr refl
    go false true c = inl refl
    go false false true = inr refl
    go false false false = inl refl

tag_later : (m : List ℕ) (size p : ℕ) (ts : List Tag) (e : Ending) → Follows m size p ts e → (i : ℕ)
    → (p ≤ (get_or ts i no_tag).at) ⊎ (get_or ts i no_tag ≡ no_tag)
tag_later m size p [] e h i = inr refl
tag_later m size p (t ∷ ts) e h zero = let f = step_found m size p h.1 in inl (omega arith)
tag_later m size p (t ∷ ts) e h (suc i) = go (tag_later m size h.0 ts e h.2 i)
  where
    go : (h.0 ≤ (get_or ts i no_tag).at) ⊎ (get_or ts i no_tag ≡ no_tag) → (p ≤ (get_or ts i no_tag).at) ⊎ (get_or ts i no_tag ≡ no_tag)
    go (inl l) = let f = step_found m size p h.1 in inl (omega arith)
    go (inr q) = inr q

abbrev EndsBehind : ℕ → Trail → Type 0
EndsBehind p tr = (tr.ending.outcome ≡ done) ⊎ (p ≤ tr.ending.place)

ends_behind : (m : List ℕ) (size p : ℕ) (ts : List Tag) (e : Ending) → Follows m size p ts e → EndsBehind p (cut m ts e)
ends_behind m size p [] e h = rw (← h.1) (go (stop_place m size p))
  where
    go : ((ending_of (step m size p)).outcome ≡ done) ⊎ ((ending_of (step m size p)).place ≡ p)
        → ((ending_of (step m size p)).outcome ≡ done) ⊎ (p ≤ (ending_of (step m size p)).place)
    go (inl d) = inl d
    go (inr q) = inr (omega arith)
ends_behind m size p (t ∷ ts) e h = go (request_of m t) (ends_behind m size h.0 ts e h.2)
  where
    later : EndsBehind h.0 (cut m ts e) → EndsBehind p (cut m ts e)
    later (inl d) = inl d
    later (inr l) = let f = step_found m size p h.1 in inr (omega arith)

    go : (r : Request) → EndsBehind h.0 (cut m ts e) → EndsBehind p (cut_by r t (cut m ts e))
    go passed k = later k
    go short k = let f = step_found m size p h.1 in inr (omega arith)
    go (asks q request) k = later k

-- ---- the tag of an index
pub data CutAt (m : List ℕ) (t : Tag) (tr : Trail) (r : Request) : Type 0 where
  cut_before : r ≡ request_of m t → (request_of m t ≡ short → ⊥) → (tr.ending.outcome ≡ done) ⊎ (t.at < tr.ending.place) → CutAt m t tr r
  cut_behind : r ≡ passed → (tr.ending.outcome ≡ done → ⊥) → tr.ending.place ≤ t.at → CutAt m t tr r
  cut_none : r ≡ passed → t ≡ no_tag → CutAt m t tr r

module _ (m : List ℕ) (size : ℕ) where
  pub cut_at : (p : ℕ) (ts : List Tag) (e : Ending) → Follows m size p ts e → (i : ℕ)
      → CutAt m (get_or ts i no_tag) (cut m ts e) (get_or (cut m ts e).requests i passed)
  cut_at p [] e h i = cut_none refl refl
  cut_at p (t ∷ ts) e h zero = go (request_of m t) refl
    where
      further : EndsBehind h.0 (cut m ts e) → ((cut m ts e).ending.outcome ≡ done) ⊎ (t.at < (cut m ts e).ending.place)
      further (inl d) = inl d
      further (inr l) = let f = step_found m size p h.1 in inr (omega arith)

      here : ((cut m ts e).ending.outcome ≡ done) ⊎ (t.at < (cut m ts e).ending.place)
      here = further (ends_behind m size h.0 ts e h.2)

      go : (r : Request) → request_of m t ≡ r → CutAt m t (cut_by r t (cut m ts e)) (get_or (cut_by r t (cut m ts e)).requests zero passed)
      go passed q = cut_before (sym q) (λ s. true≢false cc) here
      go short q = cut_behind refl (λ d. omega arith) (omega arith)
      go (asks k request) q = cut_before (sym q) (λ s. true≢false cc) here
  cut_at p (t ∷ ts) e h (suc i) = go (request_of m t) (cut_at h.0 ts e h.2 i) (tag_later m size h.0 ts e h.2 i)
    where
      stopped_before : (h.0 ≤ (get_or ts i no_tag).at) ⊎ (get_or ts i no_tag ≡ no_tag)
          → CutAt m (get_or ts i no_tag) (cut_by short t (cut m ts e)) (get_or (cut_by short t (cut m ts e)).requests (suc i) passed)
      stopped_before (inl l) = let f = step_found m size p h.1 in cut_behind refl (λ d. omega arith) (omega arith)
      stopped_before (inr q) = cut_none refl q

      go : (r : Request) → CutAt m (get_or ts i no_tag) (cut m ts e) (get_or (cut m ts e).requests i passed)
          → (h.0 ≤ (get_or ts i no_tag).at) ⊎ (get_or ts i no_tag ≡ no_tag)
          → CutAt m (get_or ts i no_tag) (cut_by r t (cut m ts e)) (get_or (cut_by r t (cut m ts e)).requests (suc i) passed)
      go passed (cut_before q s o) l = cut_before q s o
      go passed (cut_behind q n o) l = cut_behind q n o
      go passed (cut_none q z) l = cut_none q z
      go short k l = stopped_before l
      go (asks j request) (cut_before q s o) l = cut_before q s o
      go (asks j request) (cut_behind q n o) l = cut_behind q n o
      go (asks j request) (cut_none q z) l = cut_none q z
