-- What the reader finds in a message into which answers were written.
use mathlib.Core.Bool.{Bool, true, false, true≢false}
use mathlib.Core.List.{List, [], ◌∷◌}
use mathlib.Core.Path.{◌≡◌, refl, sym, ap, ◌∙◌, subst}
use Prim.Native.Nat.{ℕ, zero, suc, ◌+◌, ◌^◌, ◌≤◌, ◌<◌, min}
use native.Mathlib.Omega.{arith}
use borrow.Author.Tests.{eq-eqb}
use lib.Dec.{eqb}
use lib.ListN.{length, take, drop, get_or, length-take}
use lib.Seq.{take-take}
use Rattle.words.proofs.Laws.Agree.{part_before}
use Rattle.message.proofs.Laws.Follows.{Follows, follows_same}
use Rattle.message.proofs.Laws.Found.{Nth}
use Rattle.message.proofs.Laws.Reader.{judged_fewer, judged_done}
use Rattle.message.proofs.Laws.Steps.{step_found}
use Rattle.message.specs.Outcomes.{done, fewer_stored}
use Rattle.message.specs.Reader.{unread, kept_tag, with_id, judged, answer_length, stored}
use Rattle.message.specs.Sizes.{tag_header}
use Rattle.message.specs.declared.walk.Ending.{Ending}
use Rattle.message.specs.declared.walk.Tag.{Tag}
use Rattle.answers.specs.Writing.{answered}
use Rattle.responder.specs.Reply.{write_all}
use Rattle.responder.specs.Turns.{Said, silent, says}
use Rattle.responder.proofs.Laws.Written.{answered_length, answered_behind, answered_value, writes_before}
use Rattle.demands.specs.Terms.{no_tag}
use Rattle.demands.specs.Walked.{tag_after, tags_after}

-- ---- the tag of an index, by its id and occurrence
id_after : (t : Tag) (s : Said) → (tag_after t s).id ≡ t.id
id_after t silent = refl
id_after t (says answer) = refl

kept_nth : (c : Bool) (t u : Tag) (us vs : List Tag) (x : Tag) → Nth (length us) vs x → Nth (length (kept_tag c t us)) (kept_tag c u vs) x
kept_nth true t u us vs x h = h
kept_nth false t u us vs x h = h

kept_first : (c : Bool) (u : Tag) (vs : List Tag) → c ≡ true → Nth 0 (kept_tag c u vs) u
kept_first true u vs e = refl
kept_first false u vs e = absurd (true≢false cc)

pub nth_at : (id : ℕ) (ts : List Tag) (ss : List Said) (i : ℕ) → i < length ts → (get_or ts i no_tag).id ≡ id
    → Nth (length (with_id id (take i ts))) (with_id id (tags_after ts ss)) (tag_after (get_or ts i no_tag) (get_or ss i silent))
nth_at id [] ss i l e = absurd (omega arith)
nth_at id (t ∷ ts) [] zero l e = kept_first (eqb t.id id) t (with_id id ts) (eq-eqb t.id id e)
nth_at id (t ∷ ts) [] (suc i) l e = kept_nth (eqb t.id id) t t (with_id id (take i ts)) (with_id id ts) (get_or ts i no_tag) (unsaid id ts i l e)
  where
    unsaid : (id : ℕ) (us : List Tag) (j : ℕ) → suc j < suc (length us) → (get_or us j no_tag).id ≡ id
        → Nth (length (with_id id (take j us))) (with_id id us) (get_or us j no_tag)
    unsaid id [] j q z = absurd (omega arith)
    unsaid id (u ∷ us) zero q z = kept_first (eqb u.id id) u (with_id id us) (eq-eqb u.id id z)
    unsaid id (u ∷ us) (suc j) q z = kept_nth (eqb u.id id) u u (with_id id (take j us)) (with_id id us) (get_or us j no_tag) (unsaid id us j (omega arith) z)
nth_at id (t ∷ ts) (s ∷ ss) zero l e =
    kept_first (eqb (tag_after t s).id id) (tag_after t s) (with_id id (tags_after ts ss)) (eq-eqb (tag_after t s).id id (id_after t s ∙ e))
nth_at id (t ∷ ts) (s ∷ ss) (suc i) l e =
    subst (λ (k : ℕ). Nth (length (kept_tag (eqb t.id id) t (with_id id (take i ts)))) (kept_tag (eqb k id) (tag_after t s) (with_id id
    (tags_after ts ss))) (tag_after (get_or ts i no_tag) (get_or ss i silent))) (sym (id_after t s))
    (kept_nth (eqb t.id id) t (tag_after t s) (with_id id (take i ts)) (with_id id (tags_after ts ss)) (tag_after (get_or ts i no_tag) (get_or ss i silent))
    (nth_at id ts ss i (omega arith) e))

-- ---- an answered tag, judged
module _ (t : Tag) (answer : List ℕ) (short : length answer < 2 ^ 31) where
  length_is : answer_length (tag_after t (says answer)) ≡ length answer
  length_is = omega arith

  pub stored_is : min (length answer) t.size ≡ stored (tag_after t (says answer))
  stored_is = ap (λ (n : ℕ). min n t.size) (sym length_is)

  pub judged_shows : (wanted : ℕ) → wanted ≤ min (length answer) t.size
      → judged (tag_after t (says answer)) wanted ≡ record { outcome = done; place = 0; total = length answer; value = t.at + tag_header; count = wanted }
  judged_shows wanted l =
      sym (judged_done (tag_after t (says answer)) wanted (omega arith) stored_is l)
      ∙ ap (λ (n : ℕ). record { outcome = done; place = 0; total = n; value = t.at + tag_header; count = wanted }) length_is

  pub judged_lacks : (wanted : ℕ) → min (length answer) t.size < wanted → judged (tag_after t (says answer)) wanted ≡ unread fewer_stored 0
  judged_lacks wanted l = sym (judged_fewer (tag_after t (says answer)) wanted (omega arith) stored_is l refl)

-- ---- the stored bytes
silent_says : {answer : List ℕ} {A : Type 0} → silent ≡ says answer → A
silent_says e = absurd (true≢false cc)

pub value_written : (m : List ℕ) (size p : ℕ) (ts : List Tag) (ss : List Said) (e : Ending) → Follows m size p ts e → size ≤ length m → (i : ℕ)
    → i < length ts → {answer : List ℕ} → get_or ss i silent ≡ says answer
    → (k : ℕ) → k ≤ min (length answer) (get_or ts i no_tag).size → take k (drop ((get_or ts i no_tag).at + tag_header) (write_all ts ss m)) ≡ take k answer
value_written m size p [] ss e h l i b a k q = absurd (omega arith)
value_written m size p (t ∷ ts) [] e h l i b a k q = silent_says a
value_written m size p (t ∷ ts) (silent ∷ ss) e h l zero b a k q = silent_says a
value_written m size p (t ∷ ts) (silent ∷ ss) e h l (suc i) b a k q = value_written m size h.0 ts ss e h.2 l i (omega arith) a k q
value_written m size p (t ∷ ts) (says x ∷ ss) e h l zero b {answer} a k q =
    let f = step_found m size p h.1 in
    let is : x ≡ answer = cc in
    let m₁ = answered t.at t.size x m in
    let rest = follows_same m m₁ size h.0 ts e (sym (answered_behind t.at t.size x m h.0 (omega arith))) h.2 in
    let n = length (take t.size x) in
    let ln : n ≡ min t.size (length x) = length-take t.size x in
    let lx : length x ≡ length answer = ap length is in
    part_before h.0 (t.at + tag_header) k (write_all ts ss m₁) m₁ (omega arith) (writes_before m₁ size h.0 ts ss e rest)
    ∙ sym (take-take k n (drop (t.at + tag_header) m₁) (omega arith))
    ∙ ap (take k) (answered_value t.at t.size x m (omega arith))
    ∙ take-take k t.size x (omega arith)
    ∙ ap (take k) is
value_written m size p (t ∷ ts) (says x ∷ ss) e h l (suc i) b a k q =
    let f = step_found m size p h.1 in
    let m₁ = answered t.at t.size x m in
    let rest = follows_same m m₁ size h.0 ts e (sym (answered_behind t.at t.size x m h.0 (omega arith))) h.2 in
    let n = answered_length t.at t.size x m in
    value_written m₁ size h.0 ts ss e rest (omega arith) i (omega arith) a k q
