-- What the lister gives of a message that holds adds up to its end word.
use mathlib.Core.List.{List, [], ◌∷◌, ◌++◌}
use mathlib.Core.Path.{◌≡◌, refl, sym, ap, ◌∙◌}
use Prim.Native.Nat.{ℕ, zero, suc, ◌+◌, ◌-◌, ◌≤◌, ◌<◌}
use native.Mathlib.Omega.{arith}
use lib.ListN.{length, take, drop, get_or}
use Rattle.words.specs.Numbers.{word}
use Rattle.words.specs.Put.{zeros}
use Rattle.message.proofs.Laws.Opening.{opened_good}
use Rattle.message.proofs.Laws.Steps.{step_end}
use Rattle.message.proofs.Laws.WalkFrom.{walk_tag, walk_stop}
use Rattle.message.specs.Lister.{listed, listed_of, unlisted, nth}
use Rattle.message.specs.Outcomes.{done, no_such_tag}
use Rattle.message.specs.Sizes.{header, tag_header}
use Rattle.message.specs.Walk.{not_met, tag_end, step, walk_from}
use Rattle.message.specs.declared.lister.Listed.{Listed}
use Rattle.message.specs.declared.walk.Step.{Step}
use Rattle.demands.proofs.Laws.Runs.{Whole}
use Rattle.demands.proofs.Laws.Tags.{Holds, holds_le, finds, value_is}
use Rattle.demands.specs.Listing.{Add, no_add, place_behind, value_offset, Shows, Lists}

-- what the lister gives of a tag is the add a, with its value at an offset
record IsAdd (m : List ℕ) (offset : ℕ) (a : Add) (r : Listed) : Type 0 where
  pub as_listed : r ≡ record { outcome = done; place = 0; id = a.id; size = a.size; word = 0; value = offset }
  pub value : take a.size (drop offset m) ≡ a.request ++ zeros (a.size - length a.request)

module _ (m : List ℕ) (size c : ℕ) (inside : c < size) (end : word m c ≡ 0) where
  stops : step m size c ≡ Step.End
  stops = sym (step_end m size c (λ e. omega arith) (sym end) refl)

  rows : (adds : List Add) (p : ℕ) → Holds m p adds c → (i : ℕ) → i < length adds
      → IsAdd m (place_behind p (take i adds) + tag_header) (get_or adds i no_add) (nth i (walk_from m size p))
  rows [] p h i l = absurd (omega arith)
  rows (a ∷ adds) p h zero l =
      let q = holds_le m (tag_end p a.size) adds c h.2 in
      rw (walk_tag m size p (finds m p a h.0 h.1 size (omega arith))) (record { as_listed = refl; value = value_is m p a h.0 h.1 })
  rows (a ∷ adds) p h (suc i) l =
      let q = holds_le m (tag_end p a.size) adds c h.2 in
      rw (walk_tag m size p (finds m p a h.0 h.1 size (omega arith))) (rows adds (tag_end p a.size) h.2 i (omega arith))

  behind_last : (adds : List Add) (p : ℕ) → Holds m p adds c → (i : ℕ) → length adds ≤ i → nth i (walk_from m size p) ≡ unlisted no_such_tag 0
  unfolding not_met
  behind_last [] p h i l = rw (h, walk_stop m size c Step.End tt stops)
  behind_last (a ∷ adds) p h zero l = absurd (omega arith)
  behind_last (a ∷ adds) p h (suc i) l =
      let q = holds_le m (tag_end p a.size) adds c h.2 in
      rw (walk_tag m size p (finds m p a h.0 h.1 size (omega arith))) (behind_last adds (tag_end p a.size) h.2 i (omega arith))

module _ (m : List ℕ) (c : ℕ) (adds : List Add) (w : Whole m c adds) where
  listed_is : (i : ℕ) → listed m i ≡ nth i (walk_from m (word m 0) header)
  unfolding listed
  listed_is i = ap (listed_of m i) (opened_good m w.good)

  shows : (i : ℕ) → i < length adds → Shows m i (value_offset adds i) (get_or adds i no_add)
  shows i l =
      let r : IsAdd m (value_offset adds i) (get_or adds i no_add) (listed m i) =
      rw (listed_is i) (rows m (word m 0) c w.inside w.end adds header w.holds i l) in
      record { as_listed = r.as_listed; value = r.value }

  pub lists : Lists m adds
  lists = record { each = shows; behind_last = λ i l. listed_is i ∙ behind_last m (word m 0) c w.inside w.end adds header w.holds i l }
