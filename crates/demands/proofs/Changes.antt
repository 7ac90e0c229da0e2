-- What a call changes of a message.
use mathlib.Core.List.{List, [], ◌∷◌}
use mathlib.Core.Logic.{◌⊎◌, inl, inr}
use mathlib.Core.Path.{◌≡◌, refl, ◌∙◌}
use Prim.Native.Nat.{ℕ, ◌+◌, min}
use native.Mathlib.Omega.{arith}
use lib.ListN.{length, take, get_or, length-take}
use Rattle.words.proofs.Laws.Put.{length_put, put_before, put_after}
use Rattle.words.specs.Numbers.{le, word}
use Rattle.words.specs.Put.{put}
use Rattle.message.specs.Sizes.{header, tag_header, code_place}
use Rattle.message.specs.Walk.{word_place}
use Rattle.message.specs.declared.walk.Tag.{Tag}
use Rattle.answers.specs.Writing.{answered}
use Rattle.requests.proofs.Laws.Endings.{ending_outcome}
use Rattle.requests.specs.Requests.{WalkOutcome}
use Rattle.responder.proofs.Laws.Written.{writes_length}
use Rattle.responder.specs.Reply.{write_all, code_of, served, reply}
use Rattle.responder.specs.Turns.{Said, silent, says}
use Rattle.demands.proofs.Laws.Replied.{Replied, untouched, walked, replied, clash}
use Rattle.demands.specs.Changes.{RefusalOutcome, Numbered, NotAmong, InNoAnswer, Changes, SameLength, Untouched, Refusals}
use Rattle.demands.specs.Terms.{trail_of, answers_of}

-- ---- writes
put_outside : (p : ℕ) (bs m : List ℕ) (i n : ℕ) → length bs ≡ n → NotAmong i p n → get_or (put p bs m) i 0 ≡ get_or m i 0
put_outside p bs m i n e (inl h) = put_before p bs m i h
put_outside p bs m i n e (inr h) = put_after p bs m i (omega arith)

answered_outside : (at size : ℕ) (answer m : List ℕ) (i : ℕ) → NotAmong i (at + word_place) 4 → NotAmong i (at + tag_header) (min (length answer) size)
    → get_or (answered at size answer m) i 0 ≡ get_or m i 0
unfolding answered
answered_outside at size answer m i w v =
    let l : length (take size answer) ≡ min (length answer) size = simp length-take (omega arith) in
    put_outside (at + tag_header) (take size answer) (put (at + word_place) (le 4 (0x8000_0000 + length answer)) m) i (min (length answer) size) l v
    ∙ put_outside (at + word_place) (le 4 (0x8000_0000 + length answer)) m i 4 refl w

writes_outside : (ts : List Tag) (ss : List Said) (m : List ℕ) (i : ℕ) → InNoAnswer ts ss i → get_or (write_all ts ss m) i 0 ≡ get_or m i 0
writes_outside [] ss m i u = refl
writes_outside (t ∷ ts) [] m i u = refl
writes_outside (t ∷ ts) (silent ∷ ss) m i u = writes_outside ts ss m i u
writes_outside (t ∷ ts) (says answer ∷ ss) m i u =
    writes_outside ts ss (answered t.at t.size answer m) i u.2 ∙ answered_outside t.at t.size answer m i u.0 u.1

pub changes : Changes
unfolding served
changes b m i c u = go (replied b m)
  where
    go : Replied b m → get_or (reply b m).bytes i 0 ≡ get_or m i 0
    go (untouched o e f z) = rw e
    go (walked v g e) =
        rw e (put_outside code_place (le 4 (code_of (trail_of m).ending.outcome)) (write_all (trail_of m).tags (answers_of b m) m) i 4 refl c ∙
        writes_outside (trail_of m).tags (answers_of b m) m i u)

pub same_length : SameLength
unfolding served
same_length b m = go (replied b m)
  where
    go : Replied b m → length (reply b m).bytes ≡ length m
    go (untouched o e f z) = rw e
    go (walked v g e) =
        rw e (length_put code_place (le 4 (code_of (trail_of m).ending.outcome)) (write_all (trail_of m).tags (answers_of b m) m) ∙ writes_length
        (trail_of m).tags (answers_of b m) m)

pub refusals : Refusals
unfolding served
refusals b m o = go (replied b m)
  where
    go : Replied b m → Untouched b m
    go (untouched n e f z) = (e, f)
    go (walked v g e) =
        let s : (reply b m).answer.outcome ≡ (trail_of m).ending.outcome = rw e in
        absurd (clash (trail_of m).ending.outcome (ending_outcome m (word m 0) header) (rw s at o))

pub numbered : Numbered
unfolding served
numbered b m = go (replied b m)
  where
    go : Replied b m → WalkOutcome (reply b m).answer.outcome ⊎ RefusalOutcome (reply b m).answer.outcome
    go (untouched o e f z) = inr o
    go (walked v g e) = inl (rw e (ending_outcome m (word m 0) header))
