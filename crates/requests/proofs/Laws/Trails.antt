-- The trail, step by step.
use mathlib.Core.List.{List, [], ◌∷◌}
use mathlib.Core.Path.{◌≡◌, refl, sym, ap, ◌∙◌}
use Prim.Native.Nat.{ℕ, ◌+◌, ◌≤◌}
use native.Mathlib.Omega.{arith}
use borrow.Author.Tests.{le-leb}
use denote.Enum.Declared.{tag_of}
use types.Run.{OneOf}
use lib.ListN.{length, take, drop}
use Rattle.words.proofs.Laws.Agree.{drop_later, part_before}
use Rattle.message.proofs.Laws.Bounds.{EndWithin, walk_inside}
use Rattle.message.proofs.Laws.Follows.{Follows, follows, follows_walk, follows_same}
use Rattle.message.proofs.Laws.Steps.{StepFound, step_found, step_same}
use Rattle.message.proofs.Laws.WalkFrom.{no_tag_stops, walk_tag, walk_stop}
use Rattle.message.specs.contracts.walk.Step
use Rattle.message.specs.Sizes.{tag_header}
use Rattle.message.specs.Helpers.{Walking, InMessage}
use Rattle.message.specs.Walk.{Walk, step, ending_of, walk_from}
use Rattle.message.specs.declared.walk.Ending.{Ending}
use Rattle.message.specs.declared.walk.Step.{Step}
use Rattle.message.specs.declared.walk.Tag.{Tag}
use Rattle.requests.specs.Requests.{Request, passed, short, asks, request_by, request_of, Trail, ends, going_on, cut_by, cut, trail}

module _ (m : List ℕ) (size p : ℕ) where
  -- a step that is no tag ends it
  pub trail_stop : (s : Step) → OneOf (1 ∷ 2 ∷ []) (tag_of Step.the_type s) → step m size p ≡ s → trail m size p ≡ ends (ending_of s)
  unfolding trail
  trail_stop s o e = ap (λ (w : Walk). cut m w.tags w.ending) (walk_stop m size p s (no_tag_stops s o) e)

  -- at a tag its request decides
  pub trail_tag : {t : Tag} {next : ℕ} → step m size p ≡ Step.Tag t next → trail m size p ≡ cut_by (request_of m t) t (trail m size next)
  unfolding trail
  trail_tag e = ap (λ (w : Walk). cut m w.tags w.ending) (walk_tag m size p e)

-- a tag's request reads only what stands from the tag on
pub request_same : (m m' : List ℕ) (t : Tag) → drop t.at m ≡ drop t.at m' → request_of m t ≡ request_of m' t
unfolding request_of
request_same m m' t e = rw (drop_later t.at (t.at + tag_header) m m' (omega arith) e)

-- a request that is not short goes on
pub cut_on : (r : Request) (t : Tag) (rest : Trail) → (r ≡ short → ⊥) → cut_by r t rest ≡ going_on t r rest
cut_on passed t rest n = refl
cut_on short t rest n = absurd (n refl)
cut_on (asks k request) t rest n = refl

-- a tag that was found lies in the message
pub in_message : (m : List ℕ) (size p : ℕ) {t : Tag} {next : ℕ} → Walking m size p → StepFound m size p t next → InMessage (length m) t.at t.size
in_message m size p w f = record { within = omega arith; place = omega arith }

-- a trail reads only what stands from its place on
trail_same : (m m' : List ℕ) (size p : ℕ) (ts : List Tag) (e : Ending) → Follows m size p ts e → drop p m ≡ drop p m' → trail m size p ≡ trail m' size p
unfolding trail
trail_same m m' size p [] e h d =
    ap (λ (w : Walk). cut m w.tags w.ending) (follows_walk m size p [] e h)
    ∙ ap (λ (w : Walk). cut m' w.tags w.ending) (sym (follows_walk m' size p [] e (follows_same m m' size p [] e d h)))
trail_same m m' size p (t ∷ ts) e h d =
    let f = step_found m size p h.1 in
    trail_tag m size p h.1
    ∙ ap (λ (r : Request). cut_by r t (trail m size h.0)) (request_same m m' t (rw f.at d))
    ∙ ap (cut_by (request_of m' t) t) (trail_same m m' size h.0 ts e h.2 (drop_later p h.0 m m' (omega arith) d))
    ∙ sym (trail_tag m' size p (sym (step_same m m' size p d) ∙ h.1))

pub trail_behind : (m m' : List ℕ) (size p : ℕ) → drop p m ≡ drop p m' → trail m size p ≡ trail m' size p
trail_behind m m' size p d = trail_same m m' size p (walk_from m size p).tags (walk_from m size p).ending (follows m size p) d

-- a request reads only what stands before the tag's end
pub request_before : (m m' : List ℕ) (t : Tag) (q : ℕ) → t.at + tag_header + t.size ≤ q → take q m ≡ take q m' → request_of m t ≡ request_of m' t
unfolding request_of
request_before m m' t q l e = rw (part_before q (t.at + tag_header) t.size m m' l e)

-- a tag that was answered is passed over
pub answered_passed : (m : List ℕ) (t : Tag) → 0x8000_0000 ≤ t.word → request_of m t ≡ passed
unfolding request_of request_by
answered_passed m t h = rw (le-leb 0x8000_0000 t.word h)

-- it ends within the size
cut_inside : (m : List ℕ) (size : ℕ) (ts : List Tag) (e : Ending) → EndWithin size ts → e.place ≤ size → (cut m ts e).ending.place ≤ size
cut_inside m size [] e s h = h
cut_inside m size (t ∷ ts) e s h = go (request_of m t) (cut_inside m size ts e s.1 h)
  where
    go : (r : Request) → (cut m ts e).ending.place ≤ size → (cut_by r t (cut m ts e)).ending.place ≤ size
    go passed k = k
    go short k = let w = s.0 in omega arith
    go (asks q request) k = k

pub trail_inside : (m : List ℕ) (size p : ℕ) → Walking m size p → (trail m size p).ending.place ≤ size
unfolding trail
trail_inside m size p w = let s = walk_inside m size p w in cut_inside m size (walk_from m size p).tags (walk_from m size p).ending s.0 s.1
