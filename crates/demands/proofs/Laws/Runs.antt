-- What a run of adds leaves, that it can be finished, and what finishing makes of it.
use mathlib.Core.Bool.{Bool, true, false, cond}
use mathlib.Core.List.{List, [], ◌∷◌, ◌++◌}
use mathlib.Core.Path.{◌≡◌, refl, sym, ap, ◌∙◌, subst}
use Prim.Native.Nat.{ℕ, ◌+◌, ◌-◌, ◌^◌, ◌≤◌, ◌<◌}
use native.Mathlib.Omega.{arith}
use borrow.Author.Tests.{eqb-true, eqb-false, ltb-false, ne_eqb}
use lib.Dec.{ltb, eqb}
use lib.ListN.{length, take, drop}
use Rattle.words.proofs.Laws.Agree.{take_earlier, part_before, number_behind, number_before}
use Rattle.words.proofs.Laws.Put.{length_put, drop_put, take_put, read_put, number_put, put_behind}
use Rattle.words.specs.Numbers.{le, word}
use Rattle.words.specs.Put.{put, zeros}
use Rattle.message.proofs.Laws.Builder.{taken_has, finish_taken, Closed}
use Rattle.message.proofs.Laws.Built.{add_refused, add_done, finish_done, finish_accepted}
use Rattle.message.proofs.Laws.Opening.{GoodSize}
use Rattle.message.specs.Builder.{Call, added, room, start_outcome, add_outcome, started_if, started, finished, closed, finished_size}
use Rattle.message.specs.Outcomes.{done, no_room}
use Rattle.message.specs.Sizes.{header, end_word, code_place}
use Rattle.message.specs.Walk.{tag_end}
use Rattle.message.specs.declared.builder.Built.{Built}
use Rattle.message.specs.declared.builder.Cursor.{Cursor}
use Rattle.message.specs.declared.builder.Finished.{Finished}
use Rattle.demands.proofs.Laws.Tags.{Fine, add_bytes, length_tag, Holds, holds_before, holds_behind}
use Rattle.demands.specs.Listing.{Add, Run, kept_if, add_all, AreWords}

-- ---- a run leaves what stands before its cursor, and holds the adds that were taken from there on
pub record Ran (m : List ℕ) (c : ℕ) (r : Run) : Type 0 where
  pub same : length r.bytes ≡ length m
  pub before : take c r.bytes ≡ take c m
  pub holds : Holds r.bytes c r.taken r.cursor.at

-- the rest of a run, behind a call
abbrev onward : Add → List Add → Call Built → Run
onward a adds call = kept_if (eqb call.answer.outcome done) a (add_all adds call.bytes call.answer.cursor)

module _ (m : List ℕ) (c : Cursor) (a : Add) (adds : List Add) where
  outcome : ℕ
  outcome = add_outcome (length m) c.at a.id a.size (length a.request)

  -- a refused add changes nothing
  ran_refused : (outcome ≡ done → ⊥) → Ran m c.at (add_all adds m c) → Ran m c.at (add_all (a ∷ adds) m c)
  unfolding outcome
  ran_refused n r =
      subst (λ (call : Call Built). Ran m c.at (onward a adds call)) (add_refused m c a.id a.size a.request {j = outcome} refl n)
      (rw (ne_eqb outcome done n) r)

  -- one that is taken stands at its cursor, and what follows comes behind it
  m₁ : List ℕ
  m₁ = put c.at (add_bytes a) m

  c₁ : Cursor
  c₁ = record { at = tag_end c.at a.size }

  ran_taken : a.id < 2 ^ 32 → a.size < 2 ^ 32 → outcome ≡ done → Ran m₁ c₁.at (add_all adds m₁ c₁) → Ran m c.at (add_all (a ∷ adds) m c)
  unfolding outcome m₁ c₁
  ran_taken wi ws z r =
      let t = taken_has (length m) c.at a.id a.size (length a.request) z in
      let f : Fine a = record { id_word = wi; size_word = ws; named = t.named; holds = t.holds } in
      let l = length_tag a f in
      let after = add_all adds m₁ c₁ in
      let b : take c.at after.bytes ≡ take c.at m =
      take_earlier c.at c₁.at after.bytes m₁ (omega arith) r.before ∙ take_put c.at c.at (add_bytes a) m (omega arith) in
      let h : take (length (add_bytes a)) (drop c.at after.bytes) ≡ add_bytes a =
      part_before c₁.at c.at (length (add_bytes a)) after.bytes m₁ (omega arith) r.before ∙ read_put c.at (add_bytes a) m (omega arith) in
      let g : Ran m c.at (kept_if true a after) = record { same = r.same ∙ length_put c.at (add_bytes a) m; before = b; holds = (f, h, r.holds) } in
      subst (λ (call : Call Built). Ran m c.at (onward a adds call)) (add_done m c a.id a.size a.request {j = outcome} refl z refl refl) g

pub ran : (adds : List Add) (m : List ℕ) (c : Cursor) → AreWords adds → Ran m c.at (add_all adds m c)
ran [] m c w = record { same = refl; before = refl; holds = refl }
ran (a ∷ adds) m c w =
    go (eqb (outcome m c a adds) done) refl (ran adds (m₁ m c a adds) (c₁ m c a adds) w.2) (ran adds m c w.2)
  where
    go : (b : Bool) → eqb (outcome m c a adds) done ≡ b → Ran (m₁ m c a adds) (c₁ m c a adds).at (add_all adds (m₁ m c a adds) (c₁ m c a adds))
        → Ran m c.at (add_all adds m c)
        → Ran m c.at (add_all (a ∷ adds) m c)
    go true e r r' = ran_taken m c a adds w.0 w.1 (eqb-true (outcome m c a adds) done e) r
    go false e r r' = ran_refused m c a adds (eqb-false (outcome m c a adds) done e) r'

-- ---- after an accepted start a message can be finished, whatever is added
pub start_can_finish : (m : List ℕ) → (started m).outcome ≡ done → Closed (length m) header
unfolding started start_outcome
start_can_finish m e = go (ltb (room (length m)) (finished_size header)) refl e
  where
    go : (b : Bool) → ltb (room (length m)) (finished_size header) ≡ b → (started_if (eqb (cond b no_room done) done) (cond b no_room done)).outcome ≡ done
        → Closed (length m) header
    go true l q = absurd (omega arith)
    go false l q =
        let f : finished_size header ≤ room (length m) = ltb-false _ _ l in
        record { cursor = record { from_header = omega arith; fours = refl; within = omega arith }; fits = f }

abbrev CanFinish : Run → Type 0
CanFinish r = Closed (length r.bytes) r.cursor.at

kept_can_finish : (b : Bool) (a : Add) (r : Run) → CanFinish r → CanFinish (kept_if b a r)
kept_can_finish true a r h = h
kept_can_finish false a r h = h

pub run_can_finish : (adds : List Add) (m : List ℕ) (c : Cursor) → Closed (length m) c.at → CanFinish (add_all adds m c)
unfolding outcome m₁ c₁
run_can_finish [] m c h = h
run_can_finish (a ∷ adds) m c h =
    go (eqb (outcome m c a adds) done) refl (run_can_finish adds m c h) (λ k. run_can_finish adds (m₁ m c a adds) (c₁ m c a adds) k)
  where
    behind_call : {call : Call Built} → call ≡ added m c a.id a.size a.request → CanFinish (add_all adds call.bytes call.answer.cursor)
        → CanFinish (add_all (a ∷ adds) m c)
    behind_call {call} e r =
        subst (λ (x : Call Built). CanFinish (onward a adds x)) e (kept_can_finish (eqb call.answer.outcome done) a (add_all adds call.bytes
        call.answer.cursor) r)

    go : (b : Bool) → eqb (outcome m c a adds) done ≡ b → CanFinish (add_all adds m c)
        → (Closed (length (m₁ m c a adds)) (c₁ m c a adds).at → CanFinish (add_all adds (m₁ m c a adds) (c₁ m c a adds))) → CanFinish (add_all (a ∷ adds) m c)
    go true e r k =
        let z = eqb-true (outcome m c a adds) done e in
        let t = taken_has (length m) c.at a.id a.size (length a.request) z in
        let l = length_put c.at (add_bytes a) m in
        let o : Closed (length (put c.at (add_bytes a) m)) (tag_end c.at a.size) =
        rw l (record { cursor = record { from_header = omega arith; fours = omega arith; within = omega arith }; fits = t.fits }) in
        behind_call (add_done m c a.id a.size a.request {j = outcome m c a adds} refl z refl refl) (k o)
    go false e r k = behind_call (add_refused m c a.id a.size a.request {j = outcome m c a adds} refl (eqb-false (outcome m c a adds) done e)) r

pub finish_taken_there : (m : List ℕ) (c : Cursor) → Closed (length m) c.at → (finished m c).answer.outcome ≡ done
finish_taken_there m c h =
    sym (ap (λ (x : Call Finished). x.answer.outcome)
    (finish_done m c (finish_taken (length m) c.at h) refl refl refl))

-- ---- finishing at a cursor behind adds that the message holds from its header on
pub record Whole (m : List ℕ) (c : ℕ) (adds : List Add) : Type 0 where
  pub good : GoodSize (word m 0) (length m)
  pub holds : Holds m header adds c
  pub inside : c < word m 0
  pub end : word m c ≡ 0

pub finished_whole : (m : List ℕ) (c : Cursor) (adds : List Add) → Holds m header adds c.at → (finished m c).answer.outcome ≡ done
    → Whole (finished m c).bytes c.at adds
unfolding closed
finished_whole m c adds h e =
    let a = finish_accepted m c e in
    let at = c.at in
    let size = finished_size at in
    let k = size - (at + end_word) in
    let ended = put at (le 4 0 ++ zeros k) m in
    let sized = put 0 (le 4 size ++ le 4 0) ended in
    let cl = a.closes in
    let cu = cl.cursor in
    let le₁ : length ended ≡ length m = length_put at (le 4 0 ++ zeros k) m in
    let ls : length sized ≡ length m = length_put 0 (le 4 size ++ le 4 0) ended ∙ le₁ in
    let behind : drop header sized ≡ drop header ended = drop_put 0 (le 4 size ++ le 4 0) ended header (omega arith) in
    let size_is : word sized 0 ≡ size =
    ap (λ (x : List ℕ). word x 0) (sym (put_behind 0 code_place (le 4 size) (le 4 0) ended refl))
    ∙ number_before 4 0 4 (put code_place (le 4 0) (put 0 (le 4 size) ended)) (put 0 (le 4 size) ended) (omega arith) (take_put 4 code_place (le 4 0)
    (put 0 (le 4 size) ended) (omega arith))
    ∙ number_put 4 0 size ended (omega arith) (omega arith) in
    let end_is : word sized at ≡ 0 =
    number_behind 4 header at sized ended (omega arith) behind
    ∙ ap (λ (x : List ℕ). word x at) (sym (put_behind at (at + end_word) (le 4 0) (zeros k) m refl))
    ∙ number_before 4 at (at + end_word) (put (at + end_word) (zeros k) (put at (le 4 0) m)) (put at (le 4 0) m) (omega arith) (take_put (at + end_word)
    (at + end_word) (zeros k) (put at (le 4 0) m) (omega arith))
    ∙ number_put 4 at 0 m (omega arith) (omega arith) in
    let held : Holds sized header adds at =
    holds_behind ended sized header adds at (sym behind) (holds_before m ended header adds at (sym (take_put at at (le 4 0 ++ zeros k) m (omega arith))) h) in
    let w : Whole sized at adds = record {
      good = record { least = omega arith; most = omega arith; fours = rw size_is (omega arith); within = omega arith };
      holds = held;
      inside = omega arith;
      end = end_is;
    } in
    rw a.bytes w
