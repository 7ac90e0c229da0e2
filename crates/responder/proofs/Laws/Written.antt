-- A message into which answers were written: what stays, and the step at a tag.
use mathlib.Core.List.{List, [], ◌∷◌}
use mathlib.Core.Path.{◌≡◌, refl, sym, ap, ◌∙◌}
use Prim.Native.Nat.{ℕ, ◌+◌, ◌^◌, ◌≤◌, ◌<◌}
use native.Mathlib.Omega.{arith}
use lib.ListN.{length, take, drop, length-take}
use Rattle.words.proofs.Laws.Agree.{take_earlier, number_before}
use Rattle.words.proofs.Laws.Put.{length_put, drop_put, take_put, read_put, number_put}
use Rattle.words.specs.Numbers.{le, word}
use Rattle.words.specs.Put.{put}
use Rattle.message.proofs.Laws.Follows.{Follows, follows_same}
use Rattle.message.proofs.Laws.Steps.{step_found, step_tag, tag_named}
use Rattle.message.specs.Sizes.{tag_header}
use Rattle.message.specs.Walk.{size_place, word_place, tag_at, step}
use Rattle.message.specs.declared.walk.Ending.{Ending}
use Rattle.message.specs.declared.walk.Step.{Step}
use Rattle.message.specs.declared.walk.Tag.{Tag}
use Rattle.answers.specs.Writing.{answered}
use Rattle.requests.specs.Requests.{Request, passed, short, asks, request_of, cut_by, cut}
use Rattle.responder.specs.Reply.{written, write_all}
use Rattle.responder.specs.Turns.{Said, silent, says, Turn, turns}

-- ---- one answer
module _ (at size : ℕ) (answer m : List ℕ) where
  abbrev new_word : ℕ
  new_word = 0x8000_0000 + length answer

  abbrev marked : List ℕ
  marked = put (at + word_place) (le 4 new_word) m

  stored_most : length (take size answer) ≤ size
  stored_most = simp length-take (omega arith)

  pub answered_length : length (answered at size answer m) ≡ length m
  unfolding answered
  answered_length = length_put (at + tag_header) (take size answer) marked ∙ length_put (at + word_place) (le 4 new_word) m

  pub answered_before : (k : ℕ) → k ≤ at + word_place → take k (answered at size answer m) ≡ take k m
  unfolding answered
  answered_before k h = take_put k (at + tag_header) (take size answer) marked (omega arith) ∙ take_put k (at + word_place) (le 4 new_word) m h

  pub answered_behind : (k : ℕ) → at + tag_header + size ≤ k → drop k (answered at size answer m) ≡ drop k m
  unfolding answered
  answered_behind k h =
      let l = stored_most in
      drop_put (at + tag_header) (take size answer) marked k (omega arith) ∙ drop_put (at + word_place) (le 4 new_word) m k (omega arith)

  pub answered_word : length answer < 2 ^ 31 → at + tag_header ≤ length m → word (answered at size answer m) (at + word_place) ≡ new_word
  unfolding answered
  answered_word l h =
      number_before 4 (at + word_place) (at + tag_header) (put (at + tag_header) (take size answer) marked) marked (omega arith) (take_put
      (at + tag_header) (at + tag_header) (take size answer) marked (omega arith))
      ∙ number_put 4 (at + word_place) new_word m (omega arith) (omega arith)

  pub answered_value : at + tag_header + size ≤ length m
      → take (length (take size answer)) (drop (at + tag_header) (answered at size answer m)) ≡ take size answer
  unfolding answered
  answered_value h =
      let l = stored_most in
      let e = length_put (at + word_place) (le 4 new_word) m in
      read_put (at + tag_header) (take size answer) marked (omega arith)

-- ---- all of them
pub written_length : (t : Tag) (s : Said) (m : List ℕ) → length (written t s m) ≡ length m
written_length t silent m = refl
written_length t (says answer) m = answered_length t.at t.size answer m

pub written_before : (t : Tag) (s : Said) (m : List ℕ) (k : ℕ) → k ≤ t.at + word_place → take k (written t s m) ≡ take k m
written_before t silent m k h = refl
written_before t (says answer) m k h = answered_before t.at t.size answer m k h

pub written_behind : (t : Tag) (s : Said) (m : List ℕ) (k : ℕ) → t.at + tag_header + t.size ≤ k → drop k (written t s m) ≡ drop k m
written_behind t silent m k h = refl
written_behind t (says answer) m k h = answered_behind t.at t.size answer m k h

pub writes_length : (ts : List Tag) (ss : List Said) (m : List ℕ) → length (write_all ts ss m) ≡ length m
writes_length [] ss m = refl
writes_length (t ∷ ts) [] m = refl
writes_length (t ∷ ts) (s ∷ ss) m = writes_length ts ss (written t s m) ∙ written_length t s m

-- the writes leave what stands before the first tag
pub writes_before : (m : List ℕ) (size p : ℕ) (ts : List Tag) (ss : List Said) (e : Ending) → Follows m size p ts e → take p (write_all ts ss m) ≡ take p m
writes_before m size p [] ss e h = refl
writes_before m size p (t ∷ ts) [] e h = refl
writes_before m size p (t ∷ ts) (s ∷ ss) e h =
    let f = step_found m size p h.1 in
    let m₁ = written t s m in
    let rest = follows_same m m₁ size h.0 ts e (sym (written_behind t s m h.0 (omega arith))) h.2 in
    take_earlier p h.0 (write_all ts ss m₁) m₁ (omega arith) (writes_before m₁ size h.0 ts ss e rest) ∙ written_before t s m p (omega arith)

-- a step at a tag whose header has another word
step_reworded : (m m' : List ℕ) (size p : ℕ) {t : Tag} {next w : ℕ} → step m size p ≡ Step.Tag t next → word m' p ≡ word m p
    → word m' (p + size_place) ≡ word m (p + size_place) → word m' (p + word_place) ≡ w
    → step m' size p ≡ Step.Tag (record { at = t.at; id = t.id; size = t.size; word = w }) next
unfolding tag_at
step_reworded m m' size p {t} {next} {w} e ei es ew =
    let f = step_found m size p e in
    let id : t.id ≡ word m p = ap (λ (x : Tag). x.id) f.is in
    let size_is : t.size ≡ word m (p + size_place) = ap (λ (x : Tag). x.size) f.is in
    let n = f.next_is in
    let q = f.fits in
    rw (f.at, f.next_is)
    (sym (step_tag m' size p (λ z. omega arith) {id = t.id} (id ∙ sym ei) (tag_named m size p e) {v = t.size} (size_is ∙ sym es) refl (omega arith) (sym ew)))

-- the header of a tag, with what is written into it and behind it
module _ (m : List ℕ) (size p : ℕ) (t : Tag) (next : ℕ) (s : Said) (ts : List Tag) (ss : List Said) (e : Ending) (h : step m size p ≡ Step.Tag t next)
    (rest : Follows m size next ts e) (l : size ≤ length m) where
  abbrev m₁ : List ℕ
  m₁ = written t s m

  abbrev m₂ : List ℕ
  m₂ = write_all ts ss m₁

  pub rest₁ : Follows m₁ size next ts e
  rest₁ = let f = step_found m size p h in follows_same m m₁ size next ts e (sym (written_behind t s m next (omega arith))) rest

  before : take next m₂ ≡ take next m₁
  before = writes_before m₁ size next ts ss e rest₁

  word_same : (k : ℕ) → k + 4 ≤ word_place → word m₂ (p + k) ≡ word m (p + k)
  word_same k b =
      let f = step_found m size p h in
      number_before 4 (p + k) next m₂ m₁ (omega arith) before ∙ number_before 4 (p + k) (p + word_place) m₁ m (omega arith) (written_before t s m
      (p + word_place) (omega arith))

  id_same : word m₂ p ≡ word m p
  id_same =
      let f = step_found m size p h in
      number_before 4 p next m₂ m₁ (omega arith) before ∙ number_before 4 p (p + word_place) m₁ m (omega arith) (written_before t s m (p + word_place)
      (omega arith))

  pub reworded : {w : ℕ} → word m₁ (p + word_place) ≡ w → step m₂ size p ≡ Step.Tag (record { at = t.at; id = t.id; size = t.size; word = w }) next
  reworded ew =
      let f = step_found m size p h in
      step_reworded m m₂ size p h id_same (word_same size_place (omega arith)) (number_before 4 (p + word_place) next m₂ m₁ (omega arith) before ∙ ew)

-- the tags behind a cut say nothing
pub cut_writes : {S : Type 0} (turn : S → Request → Turn S) (s : S) (m : List ℕ) (ts : List Tag) (e : Ending) (x : List ℕ)
    → write_all (cut m ts e).tags (turns turn s (cut m ts e).requests).saids x ≡ write_all ts (turns turn s (cut m ts e).requests).saids x
cut_writes turn s m [] e x = refl
cut_writes {S} turn s m (t ∷ ts) e x = go (request_of m t) (λ (r : Request). cut_writes turn (turn s r).state m ts e (written t (turn s r).said x))
  where
    rest : Request → List Said
    rest r = (turns turn (turn s r).state (cut m ts e).requests).saids

    go : (r : Request)
        → ((q : Request) → write_all (cut m ts e).tags (rest q) (written t (turn s q).said x) ≡ write_all ts (rest q) (written t (turn s q).said x))
        → write_all (cut_by r t (cut m ts e)).tags (turns turn s (cut_by r t (cut m ts e)).requests).saids x
        ≡ write_all (t ∷ ts) (turns turn s (cut_by r t (cut m ts e)).requests).saids x
    go passed h = h passed
    go short h = refl
    go (asks k request) h = h (asks k request)
