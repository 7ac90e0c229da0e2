-- Laws of GPU memory: the lowest free handle, and the search for the lowest address.
use mathlib.Core.Bool.{Bool, true, false, not, cond, ◌&&◌, ◌||◌, and-eq-true_iff, and-false, true≢false}
use mathlib.Core.List.{List}
use mathlib.Core.Path.{◌≡◌, refl, sym, ap, ap₂, ◌∙◌}
use Prim.Native.Nat.{ℕ, ◌+◌, ◌-◌, ◌≤◌, ◌<◌}
use native.Mathlib.Decide.{ℕ_discrete, dec_le}
use native.Mathlib.Omega.{arith}
use borrow.Author.Count.{below_more}
use borrow.Author.Tests.{leb-true, le-leb, ltb-true, lt-ltb, le-ltb}
use lib.Dec.{leb, ltb}
use lib.ListN.{length, get_or}
use Rattle.std.proofs.Common.{Option, Some, None}
use Rattle.std.specs.List.{position, position_or_len}
use Rattle.std.proofs.lemmas.List.Sums.{fails_before_first, passes_at_first}
use Rattle.words.proofs.Laws.Align.{one_bit_least, up_above, up_aligned, up_least}
use Rattle.words.proofs.Laws.Every.{every_at, every_from}
use Rattle.words.proofs.Laws.Lowest.{Passed, Lowest, lowest_is, lowest_found, lowest_none}
use Rattle.words.specs.Align.{one_bit, aligned}
use Rattle.words.specs.Every.{every}
use Rattle.words.specs.Lowest.{lowest}
use Rattle.words.specs.Round.{round_up}
use Rattle.board.proofs.Laws.Memory.{Meets, meets_is, not_apart, clear_of_none, heap_is}
use Rattle.board.specs.Memory.{span, inside, apart, no_block, bytes_of, clear_of, valid_heap}
use Rattle.board.specs.declared.facts.Span.{Span}
use Rattle.board.specs.declared.memory.Block.{Block}
use Rattle.table.specs.declared.kinds.HandleTag.{HandleTag}
use Rattle.tags.specs.Memory.{handle_count, is_free, free_handle, fits_at, lowest_address, grants, new_block, with_handle, allocation}
use Rattle.tags.specs.Memory.{with_lock, taken_after, handle_after}
use Rattle.tags.specs.declared.memory.Granted.{Granted}
use Rattle.tags.specs.Raised.{raised_over, Raised}

-- ---- the lowest free handle, as a scan finds it: that of the places before i, 0 where all of them are taken
pub record FirstFree (blocks : List Block) (handle i : ℕ) : Type 0 where
  pub none_free : handle ≡ 0 → Passed (is_free blocks) 1 (i + 1)
  pub found : (handle ≡ 0 → ⊥) → handle ≡ free_handle blocks

pub first_start : (blocks : List Block) → FirstFree blocks 0 0
first_start blocks = record { none_free = λ _ y l _. l; found = λ n. absurd (n refl) }

at_place : (blocks : List Block) (i : ℕ) {t : Bool} → (get_or blocks i no_block).taken ≡ t → is_free blocks (i + 1) ≡ not t
at_place blocks i e = let z : i + 1 - 1 ≡ i = omega arith in rw z (ap not e)

module _ (blocks : List Block) {handle i : ℕ} (s : FirstFree blocks handle i) where
  pub first_taken : (get_or blocks i no_block).taken ≡ true → {h : ℕ} → h ≡ handle → FirstFree blocks h (i + 1)
  first_taken t e = record { none_free = λ z y l f. go y l f (s.none_free (sym e ∙ z)) (ℕ_discrete y (i + 1)); found = λ n. e ∙ s.found (λ z. n (e ∙ z)) }
    where
      go : (y : ℕ) → 1 ≤ y → is_free blocks y ≡ true → Passed (is_free blocks) 1 (i + 1) → Dec (y ≡ i + 1) → i + 1 + 1 ≤ y
      go y l f b (yes q) = absurd (true≢false (sym f ∙ ap (is_free blocks) q ∙ at_place blocks i t))
      go y l f b (no q) = let k = b y l f in omega arith

  pub first_found : i < 32 → (get_or blocks i no_block).taken ≡ false → handle ≡ 0 → {h : ℕ} → h ≡ i + 1 → FirstFree blocks h (i + 1)
  unfolding free_handle
  first_found l t z e =
      record {
        none_free = λ n. absurd (omega arith);
        found = λ _. e
            ∙ lowest_found (is_free blocks) handle_count 1 (omega arith) (i + 1) (omega arith) (omega arith) (at_place blocks i t) (s.none_free z);
      }

  pub first_kept : (handle ≡ 0 → ⊥) → {h : ℕ} → h ≡ handle → FirstFree blocks h (i + 1)
  first_kept n e = record { none_free = λ z. absurd (n (sym e ∙ z)); found = λ _. e ∙ s.found n }

pub first_all : (blocks : List Block) {handle i : ℕ} → FirstFree blocks handle i → 32 ≤ i → handle ≡ free_handle blocks
unfolding free_handle
first_all blocks {handle} {i} s l = go (ℕ_discrete handle 0)
  where
    go : Dec (handle ≡ 0) → handle ≡ lowest (is_free blocks) handle_count 1
    go (yes z) = z ∙ lowest_none (is_free blocks) handle_count 1 (omega arith) (λ y k t. let h = s.none_free z y k t in omega arith)
    go (no n) = s.found n

-- ---- the lowest free handle, by the first place that is free
abbrev handle_of : (place : Option ℕ) → ℕ
handle_of (Some i) = i + 1
handle_of None = 0

pub place_found : (blocks : List Block) → length blocks ≡ 32 → {place : Option ℕ} → place ≡ position (λ b. not b.taken) blocks
    → handle_of place ≡ free_handle blocks
unfolding free_handle
place_found blocks n {place} e = go (dec_le (length blocks) (position_or_len free blocks)) (e ∙ refl)
  where
    free : Block → Bool
    free b = not b.taken

    first : ℕ
    first = position_or_len free blocks

    -- no handle of a place before the first free one is free
    passed : (n : ℕ) → n ≤ first → Passed (is_free blocks) 1 (n + 1)
    passed n l y m t = later (dec_le (n + 1) y)
      where
        later : Dec (n + 1 ≤ y) → n + 1 ≤ y
        later (yes k) = k
        later (no k) = absurd (true≢false (sym t ∙ fails_before_first free blocks (y - 1) no_block (omega arith)))

    go : Dec (length blocks ≤ first) → place ≡ position free blocks → handle_of place ≡ lowest (is_free blocks) handle_count 1
    go (yes l) e =
        rw (e, le-ltb first (length blocks) l) (lowest_none (is_free blocks) handle_count 1 (omega arith) (passed 32 (omega (arith, n))))
    go (no l) e =
        let z : first + 1 - 1 ≡ first = omega arith in
        let k : first < length blocks = omega arith in
        rw (e, lt-ltb first (length blocks) k)
        (lowest_found (is_free blocks) handle_count 1 (omega arith) (first + 1) (omega arith) (omega arith)
        (ap (λ (i : ℕ). free (get_or blocks i no_block)) z ∙ passes_at_first free blocks no_block k) (passed first (omega arith)))

pub free_is : (blocks : List Block) → Lowest (is_free blocks) handle_count 1 (free_handle blocks)
unfolding free_handle
free_is blocks = lowest_is (is_free blocks) handle_count 1 (omega arith)

pub free_most : (blocks : List Block) → free_handle blocks ≤ 32
free_most blocks = go (ℕ_discrete (free_handle blocks) 0)
  where
    go : Dec (free_handle blocks ≡ 0) → free_handle blocks ≤ 32
    go (yes e) = omega arith
    go (no e) = let h = (free_is blocks).most (omega arith) in omega arith

-- ---- an address where a block fits, as plain facts
pub record Fits (heap : Span) (blocks : List Block) (size alignment a : ℕ) : Type 0 where
  pub even : aligned alignment a ≡ true
  pub first : heap.base ≤ a
  pub last : a + size ≤ heap.base + heap.size
  pub alone : every (clear_of (span a size)) blocks ≡ true

module _ (heap : Span) (blocks : List Block) (size alignment a : ℕ) where
  pub fits_is : fits_at heap blocks size alignment a ≡ true → Fits heap blocks size alignment a
  unfolding fits_at inside
  fits_is e =
      let f = leb heap.base a in
      let l = leb (a + size) (heap.base + heap.size) in
      let e2 = (and-eq-true_iff (aligned alignment a && (f && l)) (every (clear_of (span a size)) blocks)).0 e in
      let e1 = (and-eq-true_iff (aligned alignment a) (f && l)).0 e2.0 in
      let e0 = (and-eq-true_iff f l).0 e1.1 in
      record { even = e1.0; first = leb-true _ _ e0.0; last = leb-true _ _ e0.1; alone = e2.1 }

  pub fits_by : Fits heap blocks size alignment a → fits_at heap blocks size alignment a ≡ true
  unfolding fits_at inside
  fits_by f = rw (f.even, le-leb _ _ f.first, le-leb _ _ f.last, f.alone)

-- ---- a block in the way
pub record InTheWay (a size : ℕ) (b : Block) : Type 0 where
  pub taken : b.taken ≡ true
  pub meets : Meets (span a size) (bytes_of b)

module _ (size : ℕ) (b : Block) where
  pub in_the_way : (a : ℕ) → clear_of (span a size) b ≡ false → InTheWay a size b
  unfolding clear_of
  in_the_way a e = go b.taken refl e
    where
      go : (t : Bool) → b.taken ≡ t → (not t || apart (span a size) (bytes_of b)) ≡ false → InTheWay a size b
      go true et e = record { taken = et; meets = not_apart (span a size) (bytes_of b) e }
      go false et e = absurd (true≢false e)

  -- what is clear of it from there on lies behind it
  pub way_passed : {a : ℕ} → InTheWay a size b → (y : ℕ) → a ≤ y → clear_of (span y size) b ≡ true → b.base + b.size ≤ y
  unfolding clear_of
  way_passed {a} w y l t = go (dec_le (b.base + b.size) y)
    where
      go : Dec (b.base + b.size ≤ y) → b.base + b.size ≤ y
      go (yes k) = k
      go (no k) =
          let m = w.meets in
          let h = m.behind in
          let p = m.filled in
          let q = m.filled' in
          let e : apart (span y size) (bytes_of b) ≡ true = rw w.taken at t in
          absurd (true≢false (sym e ∙ meets_is (span y size) (bytes_of b) (record { filled = p; filled' = q; behind = omega arith; before = omega arith })))

-- ---- the address raised over one block after the other: those before i are not in its way, unless it has been raised
pub record Raising (blocks : List Block) (address size alignment a i : ℕ) : Type 0 where
  pub even : aligned alignment a ≡ true
  pub above : address ≤ a
  pub most : a < 0x3_0000_0000
  pub passes : (y : ℕ) → address ≤ y → aligned alignment y ≡ true → every (clear_of (span y size)) blocks ≡ true → a ≤ y
  pub before_clear : a ≡ address → (k : ℕ) → k < i → clear_of (span address size) (get_or blocks k no_block) ≡ true

module _ (blocks : List Block) (address size alignment : ℕ) where
  module _ {a i : ℕ} (s : Raising blocks address size alignment a i) where
    pub raising_done : length blocks ≤ i → Raised blocks address size alignment a
    raising_done l =
        record {
          even = s.even;
          above = s.above;
          most = s.most;
          passes = s.passes;
          stays = λ e. every_from (clear_of (span address size)) no_block blocks (λ k h. s.before_clear e k (omega arith));
        }

    pub raising_next : one_bit alignment ≡ true → {r : ℕ} → r ≡ raised_over (get_or blocks i no_block) a size alignment → r < 0x3_0000_0000
        → Raising blocks address size alignment r (i + 1)
    raising_next o {r} er m = go (clear_of (span a size) (get_or blocks i no_block)) refl (er ∙ refl)
      where
        go : (t : Bool) → clear_of (span a size) (get_or blocks i no_block) ≡ t
            → r ≡ cond t a (round_up alignment ((get_or blocks i no_block).base + (get_or blocks i no_block).size))
            → Raising blocks address size alignment r (i + 1)
        go true t e =
            record {
              even = rw e s.even;
              above = omega (arith, s.above);
              most = m;
              passes = λ y h k c. rw e (s.passes y h k c);
              before_clear = λ q. let z : a ≡ address = sym e ∙ q in
                  below_more (λ k. clear_of (span address size) (get_or blocks k no_block) ≡ true) i (s.before_clear z)
                  (ap (λ (x : ℕ). clear_of (span x size) (get_or blocks i no_block)) (sym z) ∙ t);
            }
        go false t e =
            let w = in_the_way size (get_or blocks i no_block) a t in
            let h = w.meets.before in
            let p = one_bit_least alignment o in
            let u = up_above alignment ((get_or blocks i no_block).base + (get_or blocks i no_block).size) p in
            record {
              even = rw e (up_aligned alignment _ p);
              above = omega (arith, s.above);
              most = m;
              passes = λ y h k c. rw e (up_least alignment _ p y k (way_passed size (get_or blocks i no_block) w y (s.passes y h k c)
                  (every_at (clear_of (span y size)) no_block blocks i (clear_of_none (span y size)) c)));
              before_clear = λ q. absurd (omega (arith, s.above));
            }

-- ---- what an allocate comes to, as the code tests it: refused for each of four reasons, else granted
module _ (heap : Span) (blocks : List Block) (size alignment flags : ℕ) where
  not_granted : grants heap blocks size alignment ≡ false → None ≡ allocation heap blocks size alignment flags
  unfolding allocation
  not_granted e = rw e

  pub size_refused : size ≡ 0 → None ≡ allocation heap blocks size alignment flags
  unfolding grants
  size_refused z = not_granted (rw (le-ltb 0 size (omega arith)))

  pub alignment_refused : one_bit alignment ≡ false → None ≡ allocation heap blocks size alignment flags
  unfolding grants
  alignment_refused e = not_granted (rw (e, and-false))

  pub place_refused : free_handle blocks ≡ 0 → None ≡ allocation heap blocks size alignment flags
  unfolding grants
  place_refused z = not_granted (rw (le-ltb 0 (free_handle blocks) (omega arith), and-false))

  pub address_refused : lowest_address heap blocks size alignment ≡ 0 → None ≡ allocation heap blocks size alignment flags
  unfolding grants
  address_refused z = not_granted (rw (le-ltb 0 (lowest_address heap blocks size alignment) (omega arith), and-false))

  pub is_granted : 0 < size → one_bit alignment ≡ true → 0 < free_handle blocks → 0 < lowest_address heap blocks size alignment
      → with_handle (free_handle blocks) (new_block (lowest_address heap blocks size alignment) size alignment flags)
      ≡ allocation heap blocks size alignment flags
  unfolding grants allocation
  is_granted p o h a = rw (lt-ltb 0 size p, o, lt-ltb 0 (free_handle blocks) h, lt-ltb 0 (lowest_address heap blocks size alignment) a)

-- ---- the search, from a₀ on: no address below a fits
pub record Searching (blocks : List Block) (last size alignment a₀ a : ℕ) : Type 0 where
  pub even : aligned alignment a ≡ true
  pub most : a < 0x3_0000_0000
  pub least : a₀ ≤ a
  pub passed : (y : ℕ) → a₀ ≤ y → aligned alignment y ≡ true → y + size ≤ last → every (clear_of (span y size)) blocks ≡ true → a ≤ y

module _ (blocks : List Block) (last size alignment : ℕ) where
  pub search_start : one_bit alignment ≡ true → (b : ℕ) {a : ℕ} → a ≡ round_up alignment b → a < 0x3_0000_0000 → Searching blocks last size alignment a a
  search_start o b e l =
      record { even = rw e (up_aligned alignment b (one_bit_least alignment o)); most = l; least = omega arith; passed = λ y h _ _ _. h }

module _ (heap : Span) (blocks : List Block) (size alignment : ℕ) (v : valid_heap heap ≡ true) (p : 0 < size) (o : one_bit alignment ≡ true) {a₀ a : ℕ}
    (e₀ : a₀ ≡ round_up alignment heap.base) (s : Searching blocks (heap.base + heap.size) size alignment a₀ a) where
  before : (y : ℕ) → fits_at heap blocks size alignment y ≡ true → a ≤ y
  before y t =
      let f = fits_is heap blocks size alignment y t in
      let h : a₀ ≤ y = rw e₀ (up_least alignment heap.base (one_bit_least alignment o) y f.even f.first) in
      s.passed y h f.even f.last f.alone

  from_base : heap.base ≤ a
  from_base = omega (arith, s.least, up_above alignment heap.base (one_bit_least alignment o))

  pub address_found : a + size ≤ heap.base + heap.size → {r : ℕ} → Raised blocks a size alignment r → r ≡ a → a ≡ lowest_address heap blocks size alignment
  unfolding lowest_address
  address_found l w e =
      let k = heap_is heap v in
      lowest_found (fits_at heap blocks size alignment) heap.size heap.base k.first a from_base (omega arith)
      (fits_by heap blocks size alignment a (record { even = s.even; first = from_base; last = omega arith; alone = w.stays e }))
      (λ y _ t. before y t)

  pub address_none : heap.base + heap.size < a + size → lowest_address heap blocks size alignment ≡ 0
  unfolding lowest_address
  address_none l =
      let k = heap_is heap v in
      sym (lowest_none (fits_at heap blocks size alignment) heap.size heap.base k.first
      (λ y _ t. let f = (fits_is heap blocks size alignment y t).last in let b = before y t in absurd (omega arith)))

  pub search_granted : (flags : ℕ) → a + size ≤ heap.base + heap.size → (i : ℕ) {r : ℕ} → i + 1 ≡ free_handle blocks → Raised blocks a size alignment r → r ≡ a
      → {b : Block} → b ≡ new_block a size alignment flags → with_handle (i + 1) b ≡ allocation heap blocks size alignment flags
  search_granted flags l i eh w e eb =
      let k = (heap_is heap v).first in
      let ea = address_found l w e in
      ap₂ with_handle eh (eb ∙ ap (λ (x : ℕ). new_block x size alignment flags) ea)
      ∙ is_granted heap blocks size alignment flags p o (omega arith) (omega (arith, from_base))

-- ---- the address that is found
module _ (heap : Span) (blocks : List Block) (size alignment : ℕ) (v : valid_heap heap ≡ true) where
  pub address_is : Lowest (fits_at heap blocks size alignment) heap.size heap.base (lowest_address heap blocks size alignment)
  unfolding lowest_address
  address_is = lowest_is (fits_at heap blocks size alignment) heap.size heap.base (heap_is heap v).first

-- ---- what is granted, as plain facts
module _ (heap : Span) (blocks : List Block) (size alignment flags : ℕ) where
  pub record Grant (g : Granted) : Type 0 where
    pub filled : 0 < size
    pub single : one_bit alignment ≡ true
    pub handle_is : g.handle ≡ free_handle blocks
    pub handle_least : 0 < g.handle
    pub has_address : 0 < lowest_address heap blocks size alignment
    pub block_is : g.block ≡ new_block (lowest_address heap blocks size alignment) size alignment flags

  pub grants_is : grants heap blocks size alignment ≡ true → {g : Granted} → g.handle ≡ free_handle blocks
      → g.block ≡ new_block (lowest_address heap blocks size alignment) size alignment flags → Grant g
  unfolding grants
  grants_is e {g} eh eb =
      let s = ltb 0 size in
      let h = ltb 0 (free_handle blocks) in
      let e2 = (and-eq-true_iff (s && one_bit alignment && h) (ltb 0 (lowest_address heap blocks size alignment))).0 e in
      let e1 = (and-eq-true_iff (s && one_bit alignment) h).0 e2.0 in
      let e0 = (and-eq-true_iff s (one_bit alignment)).0 e1.0 in
      let k : 0 < free_handle blocks = ltb-true _ _ e1.1 in
      record {
        filled = ltb-true _ _ e0.0;
        single = e0.1;
        handle_is = eh;
        handle_least = omega arith;
        has_address = ltb-true _ _ e2.1;
        block_is = eb;
      }

  pub grant_is : {g : Granted} → Some g ≡ allocation heap blocks size alignment flags → Grant g
  unfolding allocation
  grant_is {g} e = go (grants heap blocks size alignment) refl e
    where
      go : (t : Bool) → grants heap blocks size alignment ≡ t
          → Some g ≡ cond t (with_handle (free_handle blocks) (new_block (lowest_address heap blocks size alignment) size alignment flags)) None
          → Grant g
      go true et q =
          let new : Granted = record {
            handle = free_handle blocks;
            block = new_block (lowest_address heap blocks size alignment) size alignment flags;
          } in
          let eg : g ≡ new = cc in
          grants_is et (ap (λ (x : Granted). x.handle) eg) (ap (λ (x : Granted). x.block) eg)
      go false et q = absurd (true≢false cc)

  pub granted_below : {g : Granted} → Some g ≡ allocation heap blocks size alignment flags → (1 ≤ g.handle) × (g.handle ≤ 32)
  granted_below e = let g = grant_is e in let h = g.handle_is in let l = g.handle_least in (omega arith, omega (arith, free_most blocks))

-- ---- a known handle, as the code tests it
module _ (b : Block) {t x : HandleTag} (et : t ≡ x) where
  pub taken_left : b.taken ≡ true → {r : Block} → r ≡ taken_after x b → r ≡ handle_after t b
  unfolding handle_after
  taken_left e er = er ∙ sym (ap (λ (y : HandleTag). handle_after y b) et ∙ ap (λ (y : Bool). cond y (taken_after x b) b) e)

pub free_left : (t : HandleTag) (b : Block) → b.taken ≡ false → handle_after t b ≡ b
unfolding handle_after
free_left t b e = ap (λ (y : Bool). cond y (taken_after t b) b) e

-- ---- locks
module _ (b : Block) where
  -- a second lock changes nothing, and one unlock undoes any number
  pub lock_twice : handle_after HandleTag.Lock (handle_after HandleTag.Lock b) ≡ handle_after HandleTag.Lock b
  unfolding handle_after
  lock_twice = go b.taken refl
    where
      go : (t : Bool) → b.taken ≡ t
          → cond (cond t (with_lock true b) b).taken (with_lock true (cond t (with_lock true b) b)) (cond t (with_lock true b) b) ≡ cond t (with_lock true b) b
      go true e = ap (λ (x : Bool). cond x (with_lock true b) (with_lock true b)) e
      go false e = ap (λ (x : Bool). cond x (with_lock true b) b) e

  pub unlock_undoes : handle_after HandleTag.Unlock (handle_after HandleTag.Lock b) ≡ handle_after HandleTag.Unlock b
  unfolding handle_after
  unlock_undoes = go b.taken refl
    where
      go : (t : Bool) → b.taken ≡ t
          → cond (cond t (with_lock true b) b).taken (with_lock false (cond t (with_lock true b) b)) (cond t (with_lock true b) b)
          ≡ cond t (with_lock false b) b
      go true e = ap (λ (x : Bool). cond x (with_lock false b) (with_lock true b)) e
      go false e = ap (λ (x : Bool). cond x (with_lock false b) b) e

  -- unlocking an unlocked block changes nothing
  pub unlock_unlocked : b.locked ≡ false → handle_after HandleTag.Unlock b ≡ b
  unfolding handle_after
  unlock_unlocked e = go b.taken
    where
      same : with_lock false b ≡ b
      same = λ i. record { taken = b.taken; locked = sym e i; base = b.base; size = b.size; alignment = b.alignment; flags = b.flags }

      go : (t : Bool) → cond t (with_lock false b) b ≡ b
      go true = same
      go false = refl
