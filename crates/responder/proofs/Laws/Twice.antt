-- A message that was walked once with its group left alone, and is walked again with the group decided: nothing but the
-- group is written then.
use mathlib.Core.List.{List, [], ◌∷◌}
use mathlib.Core.Path.{◌≡◌, refl, sym, ap, ◌∙◌, subst}
use Prim.Native.Nat.{ℕ, ◌+◌, ◌^◌, ◌≤◌, ◌<◌}
use native.Mathlib.Omega.{arith}
use lib.ListN.{length}
use Rattle.words.specs.Numbers.{word}
use Rattle.message.proofs.Laws.Follows.{Follows, follows, follows_walk, follows_same}
use Rattle.message.proofs.Laws.Steps.{step_found}
use Rattle.message.specs.Sizes.{header}
use Rattle.message.specs.Walk.{Walk, word_place, tag_at, step, walk_from}
use Rattle.message.specs.declared.walk.Ending.{Ending}
use Rattle.message.specs.declared.walk.Step.{Step}
use Rattle.message.specs.declared.walk.Tag.{Tag}
use Rattle.table.specs.declared.kinds.FrameTag.{FrameTag}
use Rattle.table.specs.declared.kinds.Kind.{Kind}
use Rattle.table.specs.declared.kinds.OutsideTag.{OutsideTag}
use Rattle.requests.proofs.Laws.Trails.{trail_tag, trail_behind, request_before, answered_passed}
use Rattle.requests.specs.Requests.{Request, passed, short, asks, request_of, Trail, ends, going_on, cut_by, cut, trail}
use Rattle.responder.proofs.Laws.Apart.{writes_apart}
use Rattle.responder.proofs.Laws.Written.{answered_word, written_length, written_behind, writes_before, cut_writes, reworded}
use Rattle.responder.specs.Reply.{written, write_all, trail_written}
use Rattle.responder.specs.Turns.{Said, silent, says, Turn, turns}

-- the turns of two walks, one that leaves the group alone and one that does not: they leave the same states, and say the
-- same outside the group; what the second has a group tag say depends on no state
pub record TwoWalks {S : Type 0} (turn₀ turn : S → Request → Turn S) : Type 0 where
  pub passes₀ : (s : S) → (turn₀ s passed).said ≡ silent
  pub passes : (s : S) → (turn s passed).said ≡ silent
  pub state : (s : S) (r : Request) → (turn₀ s r).state ≡ (turn s r).state
  pub answer : (s : S) (k : OutsideTag) (request : List ℕ) → List ℕ
  pub answered₀ : (s : S) (k : OutsideTag) (request : List ℕ) → (turn₀ s (asks (Kind.Outside k) request)).said ≡ says (answer s k request)
  pub answered : (s : S) (k : OutsideTag) (request : List ℕ) → (turn s (asks (Kind.Outside k) request)).said ≡ says (answer s k request)
  pub fits : (s : S) (k : OutsideTag) (request : List ℕ) → length (answer s k request) < 2 ^ 31
  pub quiet : (s : S) (k : FrameTag) (request : List ℕ) → (turn₀ s (asks (Kind.Group k) request)).said ≡ silent
  pub group : (s s' : S) (k : FrameTag) (request : List ℕ) → (turn s (asks (Kind.Group k) request)).said ≡ (turn s' (asks (Kind.Group k) request)).said

module _ {S : Type 0} (turn₀ turn : S → Request → Turn S) (two : TwoWalks turn₀ turn) (size : ℕ) where
  -- the message as the first walk leaves it
  abbrev walked_once : List Tag → S → Trail → List ℕ → List ℕ
  walked_once ts s tr m = write_all ts (turns turn₀ s tr.requests).saids m

  -- what the second walk makes of it, on a state s₁, is what one walk on s would have made
  abbrev Goal : List Tag → (s s₁ : S) → (p : ℕ) → Trail → List ℕ → Type 0
  Goal ts s s₁ p tr m = trail_written turn s₁ (trail (walked_once ts s tr m) size p) (walked_once ts s tr m) ≡ trail_written turn s tr m

  module _ (t : Tag) (ts : List Tag) (e : Ending) (m : List ℕ) (p q : ℕ) (st : step m size p ≡ Step.Tag t q) (rest : Follows m size q ts e)
      (l : size ≤ length m) where
    -- the trail behind the tag, with what the tag says written
    behind : (v : Said) → trail m size q ≡ trail (written t v m) size q
    behind v =
        let f = step_found m size p st in
        trail_behind m (written t v m) size q (sym (written_behind t v m q (omega arith)))

    -- a tag that is passed over in the second walk: it said in the first what it says in one
    over : (r : Request) (s s₁ : S) {t₁ : Tag} {v : Said}
        → (turn₀ s r).said ≡ v
        → (turn s r).said ≡ v
        → step (walked_once ts (turn₀ s r).state (trail m size q) (written t v m)) size p ≡ Step.Tag t₁ q
        → request_of (walked_once ts (turn₀ s r).state (trail m size q) (written t v m)) t₁ ≡ passed
        → Goal ts (turn₀ s r).state (turn s₁ passed).state q (trail (written t v m) size q) (written t v m)
        → Goal (t ∷ ts) s s₁ p (going_on t r (trail m size q)) m
    over r s s₁ {t₁} {v} e₀ e₁ est er ih =
        let s' = (turn₀ s r).state in
        let m₁ = written t v m in
        let x = walked_once ts s' (trail m size q) m₁ in
        let tr : trail x size p ≡ going_on t₁ passed (trail x size q) = trail_tag x size p est ∙ ap (λ (z : Request). cut_by z t₁ (trail x size q)) er in
        let ih₁ : Goal ts s' (turn s₁ passed).state q (trail m size q) m₁ =
        subst (λ (z : Trail). Goal ts s' (turn s₁ passed).state q z m₁) (sym (behind v)) ih in
        ap (λ (y : Said). trail_written turn s₁ (trail (walked_once ts s' (trail m size q) (written t y m)) size p) (walked_once ts s' (trail m size q)
        (written t y m))) e₀
        ∙ ap (λ (z : Trail). trail_written turn s₁ z x) tr
        ∙ ap (λ (y : Said). trail_written turn (turn s₁ passed).state (trail x size q) (written t₁ y x)) (two.passes s₁)
        ∙ ih₁
        ∙ ap (λ (y : S). trail_written turn y (trail m size q) m₁) (two.state s r)
        ∙ ap (λ (y : Said). trail_written turn (turn s r).state (trail m size q) (written t y m)) (sym e₁)

    -- a tag that says nothing in the first walk stays as it is
    module _ (ss : List Said) where
      kept_step : step (write_all ts ss m) size p ≡ Step.Tag t q
      unfolding tag_at
      kept_step = let f = step_found m size p st in reworded m size p t q silent ts ss e st rest l (sym (ap (λ (x : Tag). x.word) f.is))

      kept_request : request_of (write_all ts ss m) t ≡ request_of m t
      kept_request = let f = step_found m size p st in request_before (write_all ts ss m) m t q (omega arith) (writes_before m size q ts ss e rest)

    -- ---- one tag, the others behind it
    module _ (ih : (m' : List ℕ) (s s₁ : S) → Follows m' size q ts e → size ≤ length m' → Goal ts s s₁ q (trail m' size q) m') (s s₁ : S) where
      next : (v : Said) (s' s₁' : S) → Goal ts s' s₁' q (trail (written t v m) size q) (written t v m)
      next v s' s₁' =
          let f = step_found m size p st in
          let n = written_length t v m in
          ih (written t v m) s' s₁' (follows_same m (written t v m) size q ts e (sym (written_behind t v m q (omega arith))) rest) (omega arith)

      -- a tag outside the group is answered by then
      outside : (k : OutsideTag) (request : List ℕ) → Goal (t ∷ ts) s s₁ p (going_on t (asks (Kind.Outside k) request) (trail m size q)) m
      outside k request =
          let f = step_found m size p st in
          let r = asks (Kind.Outside k) request in
          let a = two.answer s k request in
          let w : word (written t (says a) m) (p + word_place) ≡ 0x8000_0000 + length a =
          rw (← f.at) (answered_word t.at t.size a m (two.fits s k request) (omega arith)) in
          let ss = (turns turn₀ (turn₀ s r).state (trail m size q).requests).saids in
          over r s s₁ (two.answered₀ s k request) (two.answered s k request) (reworded m size p t q (says a) ts ss e st rest l w)
          (answered_passed (write_all ts ss (written t (says a) m)) (record { at = t.at; id = t.id; size = t.size; word = 0x8000_0000 + length a })
          (omega arith))
          (next (says a) (turn₀ s r).state (turn s₁ passed).state)

      -- a group tag: the first walk leaves it, the second writes what one would have
      group : {k : FrameTag} {request : List ℕ} → request_of m t ≡ asks (Kind.Group k) request
          → Goal (t ∷ ts) s s₁ p (going_on t (asks (Kind.Group k) request) (trail m size q)) m
      group {k} {request} er =
          let f = step_found m size p st in
          let r = asks (Kind.Group k) request in
          let s' = (turn₀ s r).state in
          let s₁' = (turn s₁ r).state in
          let v = (turn s₁ r).said in
          let ss = (turns turn₀ s' (trail m size q).requests).saids in
          let x = write_all ts ss m in
          let tr : trail x size p ≡ going_on t r (trail x size q) = trail_tag x size p (kept_step ss) ∙ ap (λ (z : Request). cut_by z t (trail x size q))
          (kept_request ss ∙ er) in
          let moved : write_all ts ss (written t v m) ≡ written t v x = writes_apart t v m size q ts ss e (omega arith) rest in
          let ih₁ : Goal ts s' s₁' q (trail m size q) (written t v m) =
          subst (λ (z : Trail). Goal ts s' s₁' q z (written t v m)) (sym (behind v)) (next v s' s₁') in
          let same : trail x size q ≡ trail (written t v x) size q = trail_behind x (written t v x) size q (sym (written_behind t v x q (omega arith))) in
          ap (λ (y : Said). trail_written turn s₁ (trail (write_all ts ss (written t y m)) size p) (write_all ts ss (written t y m))) (two.quiet s k request)
          ∙ ap (λ (z : Trail). trail_written turn s₁ z x) tr
          ∙ ap (λ (z : Trail). trail_written turn s₁' z (written t v x)) same
          ∙ ap (λ (y : List ℕ). trail_written turn s₁' (trail y size q) y) (sym moved)
          ∙ ih₁
          ∙ ap (λ (y : S). trail_written turn y (trail m size q) (written t v m)) (two.state s r)
          ∙ ap (λ (y : Said). trail_written turn (turn s r).state (trail m size q) (written t y m)) (two.group s₁ s k request)

      at_tag : (r : Request) → request_of m t ≡ r → Goal (t ∷ ts) s s₁ p (cut_by r t (trail m size q)) m
      at_tag passed er =
          let ss = (turns turn₀ (turn₀ s passed).state (trail m size q).requests).saids in
          over passed s s₁ (two.passes₀ s) (two.passes s) (kept_step ss) (kept_request ss ∙ er) (next silent (turn₀ s passed).state (turn s₁ passed).state)
      at_tag short er = ap (λ (z : Trail). trail_written turn s₁ z m) (trail_tag m size p st ∙ ap (λ (z : Request). cut_by z t (trail m size q)) er)
      at_tag (asks (Kind.Outside k) request) er = outside k request
      at_tag (asks (Kind.Group k) request) er = group er

  twice_from : (ts : List Tag) (e : Ending) (m : List ℕ) (p : ℕ) (s s₁ : S) → Follows m size p ts e → size ≤ length m → Goal ts s s₁ p (trail m size p) m
  unfolding trail
  twice_from [] e m p s s₁ h l =
      let tr : trail m size p ≡ ends e = ap (λ (w : Walk). cut m w.tags w.ending) (follows_walk m size p [] e h) in
      ap (λ (z : Trail). trail_written turn s₁ z m) tr ∙ ap (λ (z : Trail). trail_written turn s z m) (sym tr)
  twice_from (t ∷ ts) e m p s s₁ h l =
      subst (λ (z : Trail). Goal (t ∷ ts) s s₁ p z m) (sym (trail_tag m size p h.1))
      (at_tag t ts e m p h.0 h.1 h.2 l (λ m' s' s₁' f' l'. twice_from ts e m' h.0 s' s₁' f' l') s s₁ (request_of m t) refl)

  -- a message walked once with its group left alone, and once more, is one walk's
  pub twice : (m : List ℕ) (s s₁ : S) → size ≤ length m
      → {m₁ : List ℕ} → m₁ ≡ write_all (trail m size header).tags (turns turn₀ s (trail m size header).requests).saids m
      → trail_written turn s₁ (trail m₁ size header) m₁ ≡ trail_written turn s (trail m size header) m
  unfolding trail
  twice m s s₁ l {m₁} e =
      let w = walk_from m size header in
      let x = e ∙ cut_writes turn₀ s m w.tags w.ending m in
      ap (λ (y : List ℕ). trail_written turn s₁ (trail y size header) y) x ∙ twice_from w.tags w.ending m header s s₁ (follows m size header) l
