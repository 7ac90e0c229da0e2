-- Answers written into their tags.
use mathlib.Core.List.{List, []}
use mathlib.Core.Path.{◌≡◌, sym, ap, ◌∙◌}
use Prim.Native.Nat.{ℕ, ◌+◌, ◌-◌, ◌≤◌}
use native.Mathlib.Omega.{arith}
use borrow.Rule.Slice.PartMut.{put_mid}
use lib.ListN.{length, take, drop, length-take}
use lib.Seq.{take-nil}
use Rattle.words.proofs.Laws.Parts.{put_mid_part}
use Rattle.words.proofs.Laws.Put.{put_nil, put_apart}
use Rattle.words.specs.Numbers.{le}
use Rattle.words.specs.Put.{over, put}
use Rattle.message.specs.Sizes.{tag_header}
use Rattle.message.specs.Walk.{word_place}
use Rattle.answers.specs.Writing.{answered}

-- ---- the tag word and the value's first bytes
pub answered_is : (at size : ℕ) (bytes m : List ℕ) {n : ℕ} {m₁ part : List ℕ} → n ≡ length bytes → m₁ ≡ put (at + word_place) (le 4 (0x8000_0000 + n)) m
    → part ≡ over bytes (take (at + tag_header + size - (at + tag_header)) (drop (at + tag_header) m₁))
    → put_mid (at + tag_header) (at + tag_header + size - (at + tag_header)) m₁ part ≡ answered at size bytes m
unfolding answered
answered_is at size bytes m {n} {m₁} {part} en e₁ ep =
    let k : at + tag_header + size - (at + tag_header) ≡ size = omega arith in
    ap (put_mid (at + tag_header) (at + tag_header + size - (at + tag_header)) m₁) ep
    ∙ put_mid_part (at + tag_header) (at + tag_header + size - (at + tag_header)) bytes m₁
    ∙ rw (k, e₁, en)

-- an answer of no bytes is the tag word alone
answered_word_alone : (at size : ℕ) (m : List ℕ) → answered at size [] m ≡ put (at + word_place) (le 4 0x8000_0000) m
unfolding answered
answered_word_alone at size m =
    let m₁ = put (at + word_place) (le 4 0x8000_0000) m in
    ap (λ (bs : List ℕ). put (at + tag_header) bs m₁) (take-nil size) ∙ put_nil (at + tag_header) m₁

-- whatever the size of the value
pub none_sized : (at size size' : ℕ) (m : List ℕ) → answered at size [] m ≡ answered at size' [] m
none_sized at size size' m = answered_word_alone at size m ∙ sym (answered_word_alone at size' m)

-- ---- answers of tags that stand apart are written in either order
module _ (at size : ℕ) (x : List ℕ) (at' size' : ℕ) (x' : List ℕ) (apart : at + tag_header + size ≤ at') where
  pub answered_apart : (m : List ℕ) → answered at' size' x' (answered at size x m) ≡ answered at size x (answered at' size' x' m)
  unfolding answered
  answered_apart m =
      let w = le 4 (0x8000_0000 + length x) in
      let w' = le 4 (0x8000_0000 + length x') in
      let v = take size x in
      let v' = take size' x' in
      let l : length v ≤ size = simp length-take (omega arith) in
      let m₁ = put (at + word_place) w m in
      ap (put (at' + tag_header) v') (put_apart (at + tag_header) (at' + word_place) v w' m₁ (omega arith))
      ∙ put_apart (at + tag_header) (at' + tag_header) v v' (put (at' + word_place) w' m₁) (omega arith)
      ∙ ap (λ (y : List ℕ). put (at + tag_header) v (put (at' + tag_header) v' y)) (put_apart (at + word_place) (at' + word_place) w w' m (omega arith))
      ∙ ap (put (at + tag_header) v) (put_apart (at + word_place) (at' + tag_header) w v' (put (at' + word_place) w' m) (omega arith))
