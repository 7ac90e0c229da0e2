-- Laws of GPU memory: runs of memory that share no byte, blocks, and a place that is filled anew.
use mathlib.Core.Bool.{Bool, true, false, not, ◌&&◌, ◌||◌, and-eq-true_iff, true≢false}
use mathlib.Core.List.{List}
use mathlib.Core.Path.{◌≡◌, refl, sym, ap, ◌∙◌}
use Prim.Native.Nat.{ℕ, ◌+◌, ◌^◌, ◌≤◌, ◌<◌}
use native.Mathlib.Decide.{ℕ_discrete, dec_le}
use native.Mathlib.Omega.{arith}
use borrow.Author.Tests.{eq-eqb, ne_eqb, le-leb, lt-leb, ltb-true}
use lib.Dec.{eqb, leb, ltb}
use lib.ListN.{length, get_or, set, get_or-eq_default}
use Rattle.words.proofs.Laws.Every.{every_set, every_from, pairs_set}
use Rattle.words.specs.Every.{every, pairs}
use Rattle.board.specs.Memory.{apart, no_block, bytes_of, clear_of, valid_heap, valid_block, disjoint, valid_memory}
use Rattle.board.specs.declared.facts.Span.{Span}
use Rattle.board.specs.declared.memory.Block.{Block}

-- ---- runs of memory that meet
pub record Meets (s t : Span) : Type 0 where
  pub filled : 0 < s.size
  pub filled' : 0 < t.size
  pub behind : t.base < s.base + s.size
  pub before : s.base < t.base + t.size

-- a chain of tests with the first two and the last two exchanged
or_swap : (a b c d : Bool) → (a || (b || (c || d))) ≡ (b || (a || (d || c)))
or_swap true true c d = refl
or_swap true false c d = refl
or_swap false true c d = refl
or_swap false false true true = refl
or_swap false false true false = refl
or_swap false false false true = refl
or_swap false false false false = refl

module _ (s t : Span) where
  pub apart_swap : apart s t ≡ apart t s
  unfolding apart
  apart_swap = or_swap (eqb s.size 0) (eqb t.size 0) (leb (s.base + s.size) t.base) (leb (t.base + t.size) s.base)

  -- two that do not meet are apart
  pub meets_not : (Meets s t → ⊥) → apart s t ≡ true
  unfolding apart
  meets_not h = go (ℕ_discrete s.size 0) (ℕ_discrete t.size 0) (dec_le (s.base + s.size) t.base) (dec_le (t.base + t.size) s.base)
    where
      go : Dec (s.size ≡ 0) → Dec (t.size ≡ 0) → Dec (s.base + s.size ≤ t.base) → Dec (t.base + t.size ≤ s.base)
          → (eqb s.size 0 || (eqb t.size 0 || (leb (s.base + s.size) t.base || leb (t.base + t.size) s.base))) ≡ true
      go (yes z) q l k = rw (eq-eqb s.size 0 z)
      go (no n) (yes z) l k = rw (ne_eqb s.size 0 n, eq-eqb t.size 0 z)
      go (no n) (no n') (yes l) k = rw (ne_eqb s.size 0 n, ne_eqb t.size 0 n', le-leb _ _ l)
      go (no n) (no n') (no l) (yes k) =
          let l' : t.base < s.base + s.size = omega arith in
          rw (ne_eqb s.size 0 n, ne_eqb t.size 0 n', lt-leb _ _ l', le-leb _ _ k)
      go (no n) (no n') (no l) (no k) = absurd (h (record { filled = omega arith; filled' = omega arith; behind = omega arith; before = omega arith }))

  -- and two that meet are not
  pub meets_is : Meets s t → apart s t ≡ false
  unfolding apart
  meets_is m =
      let n : s.size ≡ 0 → ⊥ = λ z. let h = m.filled in absurd (omega arith) in
      let n' : t.size ≡ 0 → ⊥ = λ z. let h = m.filled' in absurd (omega arith) in
      rw (ne_eqb s.size 0 n, ne_eqb t.size 0 n', lt-leb _ _ m.behind, lt-leb _ _ m.before)

  pub not_apart : apart s t ≡ false → Meets s t
  not_apart e = go (dec_le 1 s.size) (dec_le 1 t.size) (dec_le (s.base + s.size) t.base) (dec_le (t.base + t.size) s.base)
    where
      none : (Meets s t → ⊥) → Meets s t
      none h = absurd (true≢false (sym (meets_not h) ∙ e))

      go : Dec (1 ≤ s.size) → Dec (1 ≤ t.size) → Dec (s.base + s.size ≤ t.base) → Dec (t.base + t.size ≤ s.base) → Meets s t
      go (no n) q l k = none (λ m. let h = m.filled in absurd (omega arith))
      go (yes p) (no n) l k = none (λ m. let h = m.filled' in absurd (omega arith))
      go (yes p) (yes q) (yes l) k = none (λ m. let h = m.behind in absurd (omega arith))
      go (yes p) (yes q) (no l) (yes k) = none (λ m. let h = m.before in absurd (omega arith))
      go (yes p) (yes q) (no l) (no k) = record { filled = p; filled' = q; behind = omega arith; before = omega arith }

  -- no address is in two that are apart, and two with no address in both are apart
  pub apart_is : apart s t ≡ true → (x : ℕ) → (s.base ≤ x) × (x < s.base + s.size) → (t.base ≤ x) × (x < t.base + t.size) → ⊥
  apart_is e x p q =
      true≢false (sym e ∙ meets_is (record { filled = omega arith; filled' = omega arith; behind = omega arith; before = omega arith }))

  pub is_apart : ((x : ℕ) → (s.base ≤ x) × (x < s.base + s.size) → (t.base ≤ x) × (x < t.base + t.size) → ⊥) → apart s t ≡ true
  is_apart h = meets_not (λ m. go m (dec_le s.base t.base))
    where
      go : Meets s t → Dec (s.base ≤ t.base) → ⊥
      go m (yes l) = let k = m.behind in let q = m.filled' in h t.base (l, k) (omega arith, omega arith)
      go m (no l) = let k = m.before in let q = m.filled in h s.base (omega arith, omega arith) (omega arith, k)

-- ---- blocks that are disjoint
taken_swap : (s t x : Bool) → (not s || (not t || x)) ≡ (not t || (not s || x))
taken_swap true true x = refl
taken_swap true false x = refl
taken_swap false true x = refl
taken_swap false false x = refl

pub disjoint_swap : (b c : Block) → disjoint b c ≡ true → disjoint c b ≡ true
unfolding disjoint clear_of
disjoint_swap b c e =
    ap (λ (x : Bool). not c.taken || (not b.taken || x)) (apart_swap (bytes_of c) (bytes_of b))
    ∙ sym (taken_swap b.taken c.taken (apart (bytes_of b) (bytes_of c))) ∙ e

pub clear_of_none : (s : Span) → clear_of s no_block ≡ true
unfolding clear_of
clear_of_none s = refl

pub disjoint_none : (b : Block) → disjoint b no_block ≡ true
unfolding disjoint clear_of
disjoint_none b = go b.taken
  where
    go : (t : Bool) → (not t || true) ≡ true
    go true = refl
    go false = refl

-- a free place is disjoint from every block
pub free_disjoint : (b : Block) → b.taken ≡ false → (cs : List Block) → every (disjoint b) cs ≡ true
unfolding disjoint
free_disjoint b e cs = every_from (disjoint b) no_block cs (λ i l. rw e)

pub no_block_valid : (heap : Span) → valid_block heap no_block ≡ true
unfolding valid_block
no_block_valid heap = refl

-- a taken block is at a place
pub taken_below : (blocks : List Block) (i : ℕ) → (get_or blocks i no_block).taken ≡ true → i < length blocks
taken_below blocks i e = go (dec_le (length blocks) i)
  where
    go : Dec (length blocks ≤ i) → i < length blocks
    go (yes l) = absurd (true≢false (sym e ∙ ap (λ (b : Block). b.taken) (get_or-eq_default blocks no_block l)))
    go (no n) = omega arith

-- ---- a valid heap
pub record HeapFacts (heap : Span) : Type 0 where
  pub first : 0 < heap.base
  pub last : heap.base + heap.size < 2 ^ 32

pub heap_is : (heap : Span) → valid_heap heap ≡ true → HeapFacts heap
unfolding valid_heap
heap_is heap e =
    let both = (and-eq-true_iff (ltb 0 heap.base) (ltb (heap.base + heap.size) (2 ^ 32))).0 e in
    record { first = ltb-true _ _ both.0; last = ltb-true _ _ both.1 }

-- ---- valid memory
pub record MemoryParts (region heap : Span) (blocks : List Block) : Type 0 where
  pub placed : valid_heap heap ≡ true
  pub beside : apart region heap ≡ true
  pub each : every (valid_block heap) blocks ≡ true
  pub each_two : pairs disjoint blocks ≡ true

module _ (region heap : Span) (blocks : List Block) where
  pub memory_parts : valid_memory region heap blocks ≡ true → MemoryParts region heap blocks
  unfolding valid_memory
  memory_parts e =
      let h = valid_heap heap in
      let a = apart region heap in
      let v = every (valid_block heap) blocks in
      let e2 = (and-eq-true_iff (h && a && v) (pairs disjoint blocks)).0 e in
      let e1 = (and-eq-true_iff (h && a) v).0 e2.0 in
      let e0 = (and-eq-true_iff h a).0 e1.0 in
      record { placed = e0.0; beside = e0.1; each = e1.1; each_two = e2.1 }

  -- a place is filled anew, by a block that is valid and disjoint from those at the other places
  pub memory_set : valid_memory region heap blocks ≡ true → (i : ℕ) (b : Block) → valid_block heap b ≡ true
      → ((j : ℕ) → (j ≡ i → ⊥) → disjoint b (get_or blocks j no_block) ≡ true) → valid_memory region heap (set blocks i b) ≡ true
  unfolding valid_memory
  memory_set e i b v h =
      let p = memory_parts e in
      rw (p.placed, p.beside, every_set (valid_block heap) blocks i b v p.each)
      (pairs_set disjoint disjoint_swap no_block disjoint_none blocks i b h p.each_two)
