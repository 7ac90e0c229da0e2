-- Adds that stand in a message one behind the other.
use mathlib.Core.List.{List, [], ◌∷◌, ◌++◌}
use mathlib.Core.Path.{◌≡◌, refl, sym, ap, ◌∙◌}
use Prim.Native.Nat.{ℕ, zero, suc, ◌+◌, ◌-◌, ◌^◌, ◌≤◌, ◌<◌}
use native.Mathlib.Omega.{arith}
use lib.ListN.{length, take, drop, length-append, length-replicate}
use lib.Seq.{drop-drop, take-append-add}
use Rattle.words.proofs.Laws.Agree.{drop_later, part_before, number_part, part_of_longer}
use Rattle.words.proofs.Laws.Numbers.{unle_le}
use Rattle.words.specs.Numbers.{unle, number_at, word}
use Rattle.words.specs.Put.{zeros}
use Rattle.words.specs.Round.{round_up}
use Rattle.message.proofs.Laws.Steps.{step_tag}
use Rattle.message.specs.Builder.{tag_bytes}
use Rattle.message.specs.Sizes.{tag_header}
use Rattle.message.specs.Walk.{size_place, word_place, tag_end, step}
use Rattle.message.specs.declared.walk.Step.{Step}
use Rattle.demands.specs.Listing.{Add}

-- what holds of an add that was taken
pub record Fine (a : Add) : Type 0 where
  pub id_word : a.id < 2 ^ 32
  pub size_word : a.size < 2 ^ 32
  pub named : a.id ≡ 0 → ⊥
  pub holds : length a.request ≤ a.size

abbrev pub add_bytes : Add → List ℕ
add_bytes a = tag_bytes a.id a.size a.request

pub length_tag : (a : Add) → Fine a → length (add_bytes a) ≡ tag_header + round_up 4 a.size
unfolding tag_bytes
length_tag a f = simp (length-append, length-replicate) (omega arith)

-- from p up to c the message holds these adds
abbrev pub Holds : List ℕ → ℕ → List Add → ℕ → Type 0
Holds m p [] c = p ≡ c
Holds m p (a ∷ adds) c = Fine a × (take (length (add_bytes a)) (drop p m) ≡ add_bytes a) × Holds m (tag_end p a.size) adds c

pub holds_le : (m : List ℕ) (p : ℕ) (adds : List Add) (c : ℕ) → Holds m p adds c → p ≤ c
holds_le m p [] c h = omega arith
holds_le m p (a ∷ adds) c h = let r = holds_le m (tag_end p a.size) adds c h.2 in omega arith

-- what is written behind c, or before p, does not matter
pub holds_before : (m m' : List ℕ) (p : ℕ) (adds : List Add) (c : ℕ) → take c m ≡ take c m' → Holds m p adds c → Holds m' p adds c
holds_before m m' p [] c e h = h
holds_before m m' p (a ∷ adds) c e h =
    let l = length_tag a h.0 in
    let r = holds_le m (tag_end p a.size) adds c h.2 in
    (h.0, sym (part_before c p (length (add_bytes a)) m m' (omega arith) e) ∙ h.1, holds_before m m' (tag_end p a.size) adds c e h.2)

pub holds_behind : (m m' : List ℕ) (p : ℕ) (adds : List Add) (c : ℕ) → drop p m ≡ drop p m' → Holds m p adds c → Holds m' p adds c
holds_behind m m' p [] c e h = h
holds_behind m m' p (a ∷ adds) c e h = (
  h.0,
  ap (take (length (add_bytes a))) (sym e) ∙ h.1,
  holds_behind m m' (tag_end p a.size) adds c (drop_later p (tag_end p a.size) m m'
      (omega arith) e) h.2,
)

-- ---- a tag that stands at p
module _ (m : List ℕ) (p : ℕ) (a : Add) (f : Fine a) (h : take (length (add_bytes a)) (drop p m) ≡ add_bytes a) where
  four : (i : ℕ) → i + 4 ≤ tag_header → word m (p + i) ≡ word (add_bytes a) i
  four i l = let n = length_tag a f in number_part 4 i (length (add_bytes a)) p m (add_bytes a) (omega arith) h

  id_is : word m p ≡ a.id
  unfolding number_at tag_bytes
  id_is = let n = length_tag a f in ap unle (part_of_longer (length (add_bytes a)) 0 4 (drop p m) (omega arith) ∙ ap (take 4) h) ∙ unle_le 4 a.id f.id_word

  size_is : word m (p + size_place) ≡ a.size
  unfolding number_at tag_bytes
  size_is = four size_place (omega arith) ∙ unle_le 4 a.size f.size_word

  word_is : word m (p + word_place) ≡ 0
  unfolding number_at tag_bytes
  word_is = four word_place (omega arith)

  -- the walk finds it
  pub finds : (size : ℕ) → tag_end p a.size ≤ size → step m size p ≡ Step.Tag (record { at = p; id = a.id; size = a.size; word = 0 }) (tag_end p a.size)
  finds size l = sym (step_tag m size p (λ e. omega arith) (sym id_is) f.named (sym size_is) refl l (sym word_is))

  take_zeros : (n k : ℕ) → n ≤ k → take n (zeros k) ≡ zeros n
  take_zeros zero k l = refl
  take_zeros (suc n) zero l = absurd (omega arith)
  take_zeros (suc n) (suc k) l = ap (λ (r : List ℕ). 0 ∷ r) (take_zeros n k (omega arith))

  -- its value: the request bytes, then zeros
  pub value_is : take a.size (drop (p + tag_header) m) ≡ a.request ++ zeros (a.size - length a.request)
  unfolding tag_bytes
  value_is =
      let n = length_tag a f in
      let s : length a.request + (a.size - length a.request) ≡ a.size = omega arith in
      ap (take a.size) (sym (drop-drop tag_header p m))
      ∙ part_of_longer (length (add_bytes a)) tag_header a.size (drop p m) (omega arith)
      ∙ ap (λ (l : List ℕ). take a.size (drop tag_header l)) h
      ∙ ap (λ (x : ℕ). take x (a.request ++ zeros (round_up 4 a.size - length a.request))) (sym s)
      ∙ take-append-add a.request (zeros (round_up 4 a.size - length a.request)) (a.size - length a.request)
      ∙ ap (λ (l : List ℕ). a.request ++ l) (take_zeros (a.size - length a.request) (round_up 4 a.size - length a.request) (omega arith))
