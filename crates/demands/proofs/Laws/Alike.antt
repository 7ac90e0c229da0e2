-- Requests that are alike ask for the same.
use mathlib.Core.Bool.{Bool, true, false, cond, true≢false}
use mathlib.Core.List.{List, [], ◌∷◌, map}
use mathlib.Core.Path.{◌≡◌, refl, sym, ap, ◌∙◌}
use Prim.Native.Nat.{ℕ, zero, suc, ◌<◌}
use native.Mathlib.Omega.{arith}
use borrow.Author.Tests.{leb-false}
use lib.Dec.{ltb, eqb}
use lib.ListN.{length, take, get_or}
use Rattle.std.proofs.Common.{Option, Some, None}
use Rattle.message.proofs.Laws.Paired.{Paired, no_pair, one_pair}
use Rattle.message.specs.Outcomes.{done}
use Rattle.message.specs.Reader.{is_answered, kept_tag, with_id}
use Rattle.message.specs.declared.walk.Ending.{Ending}
use Rattle.message.specs.declared.walk.Tag.{Tag}
use Rattle.table.specs.Table.{known, row_of}
use Rattle.table.specs.declared.kinds.Kind.{Kind}
use Rattle.table.specs.declared.rows.Row.{Row}
use Rattle.requests.specs.Requests.{Request, passed, short, asks, value_of, request_bytes, request_by, request_of, Trail, cut_by, cut}
use Rattle.responder.specs.Turns.{Said, silent, says}
use Rattle.demands.specs.LongerValues.{SameRequest}
use Rattle.demands.specs.Terms.{no_tag}
use Rattle.demands.specs.Walked.{tags_after}

-- the tags pair off in order, as many in both: ids, tag words and requests are the same
abbrev pub Alike : (m m' : List ℕ) → List Tag → List Tag → Type 0
Alike m m' [] [] = Unit {0}
Alike m m' [] (t' ∷ ts') = ⊥
Alike m m' (t ∷ ts) [] = ⊥
Alike m m' (t ∷ ts) (t' ∷ ts') =
    (t.id ≡ t'.id)
    × (t.word ≡ t'.word)
    × SameRequest m m' t t'
    × Alike m m' ts ts'

pub alike_by_index : (m m' : List ℕ) (ts ts' : List Tag) → map (λ t. t.id) ts ≡ map (λ t. t.id) ts' → map (λ t. t.word) ts ≡ map (λ t. t.word) ts'
    → ((i : ℕ) → i < length ts → SameRequest m m' (get_or ts i no_tag) (get_or ts' i no_tag)) → Alike m m' ts ts'
alike_by_index m m' [] [] ids words requests = tt
alike_by_index m m' [] (t' ∷ ts') ids words requests = true≢false cc
alike_by_index m m' (t ∷ ts) [] ids words requests = true≢false cc
alike_by_index m m' (t ∷ ts) (t' ∷ ts') ids words requests =
    let id : t.id ≡ t'.id = cc in
    let word : t.word ≡ t'.word = cc in
    let later_ids : map (λ (u : Tag). u.id) ts ≡ map (λ (u : Tag). u.id) ts' = cc in
    let later_words : map (λ (u : Tag). u.word) ts ≡ map (λ (u : Tag). u.word) ts' = cc in
    (id, word, requests 0 (omega arith), alike_by_index m m' ts ts' later_ids later_words (λ i l. requests (suc i) (omega arith)))

-- ---- one pair
request_pair : (m m' : List ℕ) (t t' : Tag) → t.id ≡ t'.id → t.word ≡ t'.word → SameRequest m m' t t' → (request_of m t ≡ short → ⊥)
    → (request_of m' t' ≡ short → ⊥) → request_of m t ≡ request_of m' t'
unfolding request_of request_by
request_pair m m' t t' ei ew same n n' =
    rw (← ei, ← ew) (go (is_answered t) refl (row_of t.id) refl n (rw (← ei, ← ew) at n'))
  where
    sized : (k : Kind) (c : ℕ) → row_of t.id ≡ known k c → t.word < 0x8000_0000 → (x y : Bool)
        → (cond x short (asks k (request_bytes k c t.size (value_of m t))) ≡ short → ⊥)
        → (cond y short (asks k (request_bytes k c t'.size (value_of m' t'))) ≡ short → ⊥) → cond x short (asks k (request_bytes k c t.size
        (value_of m t))) ≡ cond y short (asks k (request_bytes k c t'.size (value_of m' t')))
    sized k c er w true y a b = absurd (a refl)
    sized k c er w false true a b = absurd (b refl)
    sized k c er w false false a b = ap (asks k) (same k c er w)

    go : (r : Bool) → is_answered t ≡ r → (row : Option Row) → row_of t.id ≡ row → (request_by r row t.size (value_of m t) ≡ short → ⊥)
        → (request_by r row t'.size (value_of m' t') ≡ short → ⊥)
        → request_by r row t.size (value_of m t) ≡ request_by r row t'.size (value_of m' t')
    go true e row er a b = refl
    go false e None er a b = refl
    go false e (Some row) er a b = sized row.kind row.request er (leb-false _ _ e) (ltb t.size row.request) (ltb t'.size row.request) a b

-- ---- a trail without a fault has no short request
module _ (m : List ℕ) (t : Tag) (rest : Trail) where
  by_not_short : (r : Request) → (cut_by r t rest).ending.outcome ≡ done → r ≡ short → ⊥
  by_not_short passed e z = true≢false cc
  by_not_short short e z = omega arith
  by_not_short (asks k request) e z = true≢false cc

  by_ending : (r : Request) → (cut_by r t rest).ending.outcome ≡ done → rest.ending.outcome ≡ done
  by_ending passed e = e
  by_ending short e = absurd (omega arith)
  by_ending (asks k request) e = e

  by_requests : (r : Request) → (r ≡ short → ⊥) → (cut_by r t rest).requests ≡ r ∷ rest.requests
  by_requests passed n = refl
  by_requests short n = absurd (n refl)
  by_requests (asks k request) n = refl

pub requests_same : (m m' : List ℕ) (ts ts' : List Tag) (e e' : Ending) → Alike m m' ts ts' → (cut m ts e).ending.outcome ≡ done
    → (cut m' ts' e').ending.outcome ≡ done
    → (cut m ts e).requests ≡ (cut m' ts' e').requests
requests_same m m' [] [] e e' a d d' = refl
requests_same m m' [] (t' ∷ ts') e e' a d d' = absurd a
requests_same m m' (t ∷ ts) [] e e' a d d' = absurd a
requests_same m m' (t ∷ ts) (t' ∷ ts') e e' a d d' =
    let n = by_not_short m t (cut m ts e) (request_of m t) d in
    let n' = by_not_short m' t' (cut m' ts' e') (request_of m' t') d' in
    let h = request_pair m m' t t' a.0 a.1 a.2 n n' in
    let ih = requests_same m m' ts ts' e e' a.3 (by_ending m t (cut m ts e) (request_of m t) d) (by_ending m' t' (cut m' ts' e') (request_of m' t') d') in
    by_requests m t (cut m ts e) (request_of m t) n ∙ ap (λ (r : Request). r ∷ (cut m ts e).requests) h ∙ ap (λ (rs : List Request). request_of m' t' ∷
    rs) ih ∙ sym (by_requests m' t' (cut m' ts' e') (request_of m' t') n')

-- the walk itself ends at an end word
pub walk_done : (m : List ℕ) (ts : List Tag) (e : Ending) → (cut m ts e).ending.outcome ≡ done → e.outcome ≡ done
walk_done m [] e d = d
walk_done m (t ∷ ts) e d = walk_done m ts e (by_ending m t (cut m ts e) (request_of m t) d)

-- ---- what pairs off
pub record SameHeader (t u : Tag) : Type 0 where
  pub id : t.id ≡ u.id
  pub word : t.word ≡ u.word

pub paired_after : (m m' : List ℕ) (ts ts' : List Tag) (ss : List Said) → Alike m m' ts ts' → Paired SameHeader (tags_after ts ss) (tags_after ts' ss)
paired_after m m' [] [] ss a = no_pair
paired_after m m' [] (t' ∷ ts') ss a = absurd a
paired_after m m' (t ∷ ts) [] ss a = absurd a
paired_after m m' (t ∷ ts) (t' ∷ ts') [] a = one_pair (record { id = a.0; word = a.1 }) (untold m m' ts ts' a.3)
  where
    untold : (m m' : List ℕ) (us us' : List Tag) → Alike m m' us us' → Paired SameHeader us us'
    untold m m' [] [] q = no_pair
    untold m m' [] (u' ∷ us') q = absurd q
    untold m m' (u ∷ us) [] q = absurd q
    untold m m' (u ∷ us) (u' ∷ us') q = one_pair (record { id = q.0; word = q.1 }) (untold m m' us us' q.3)
paired_after m m' (t ∷ ts) (t' ∷ ts') (silent ∷ ss) a = one_pair (record { id = a.0; word = a.1 }) (paired_after m m' ts ts' ss a.3)
paired_after m m' (t ∷ ts) (t' ∷ ts') (says x ∷ ss) a = one_pair (record { id = a.0; word = refl }) (paired_after m m' ts ts' ss a.3)

pub paired_words : {ts us : List Tag} → Paired SameHeader ts us → map (λ t. t.word) ts ≡ map (λ t. t.word) us
paired_words no_pair = refl
paired_words (one_pair {t} {u} {ts} {us} p ps) = ap (λ (n : ℕ). n ∷ map (λ t. t.word) ts) p.word ∙ ap (λ (ns : List ℕ). u.word ∷ ns) (paired_words ps)

-- ---- the tags of an index
pub alike_id : (m m' : List ℕ) (ts ts' : List Tag) (i : ℕ) → Alike m m' ts ts' → (get_or ts i no_tag).id ≡ (get_or ts' i no_tag).id
alike_id m m' [] [] i a = refl
alike_id m m' [] (t' ∷ ts') i a = absurd a
alike_id m m' (t ∷ ts) [] i a = absurd a
alike_id m m' (t ∷ ts) (t' ∷ ts') zero a = a.0
alike_id m m' (t ∷ ts) (t' ∷ ts') (suc i) a = alike_id m m' ts ts' i a.3

pub alike_length : (m m' : List ℕ) (ts ts' : List Tag) → Alike m m' ts ts' → length ts ≡ length ts'
alike_length m m' [] [] a = refl
alike_length m m' [] (t' ∷ ts') a = absurd a
alike_length m m' (t ∷ ts) [] a = absurd a
alike_length m m' (t ∷ ts) (t' ∷ ts') a = ap suc (alike_length m m' ts ts' a.3)

kept_length : (c : Bool) (t t' : Tag) (ts ts' : List Tag) → length ts ≡ length ts' → length (kept_tag c t ts) ≡ length (kept_tag c t' ts')
kept_length true t t' ts ts' e = ap suc e
kept_length false t t' ts ts' e = e

pub alike_occurrence : (m m' : List ℕ) (ts ts' : List Tag) (id i : ℕ) → Alike m m' ts ts' → length (with_id id (take i ts)) ≡ length (with_id id (take i ts'))
alike_occurrence m m' ts ts' id zero a = refl
alike_occurrence m m' [] [] id (suc i) a = refl
alike_occurrence m m' [] (t' ∷ ts') id (suc i) a = absurd a
alike_occurrence m m' (t ∷ ts) [] id (suc i) a = absurd a
alike_occurrence m m' (t ∷ ts) (t' ∷ ts') id (suc i) a =
    kept_length (eqb t.id id) t t' (with_id id (take i ts)) (with_id id (take i ts')) (alike_occurrence m m' ts ts' id i a.3)
    ∙ ap (λ (k : ℕ). length (kept_tag (eqb k id) t' (with_id id (take i ts')))) a.0
