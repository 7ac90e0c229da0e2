-- The reader shows what the responder stored.
use mathlib.Core.Bool.{Bool, true, false, cond, true≢false}
use mathlib.Core.List.{List, [], ◌∷◌}
use mathlib.Core.Path.{◌≡◌, refl, sym, ap, ◌∙◌}
use Prim.Native.Nat.{ℕ, zero, suc, ◌+◌, ◌^◌, ◌≤◌, ◌<◌, min}
use native.Mathlib.Omega.{arith}
use lib.Dec.{eqb}
use lib.ListN.{length, take, drop, get_or}
use Rattle.std.specs.Prelude.{Ok}
use Rattle.words.proofs.Laws.Agree.{drop_later}
use Rattle.words.proofs.Laws.Put.{length_put, drop_put, number_put}
use Rattle.words.specs.Numbers.{le, word}
use Rattle.words.specs.Put.{put}
use Rattle.message.proofs.Laws.Follows.{follows, follows_walk}
use Rattle.message.proofs.Laws.Found.{response_done, response_fault, found_response, found_judged}
use Rattle.message.proofs.Laws.Opening.{GoodSize, opened_good}
use Rattle.message.proofs.Laws.Reader.{judged_not_answered}
use Rattle.message.specs.Opening.{opened}
use Rattle.message.specs.Outcomes.{done}
use Rattle.message.specs.Reader.{is_response, judged, found_in, found}
use Rattle.message.specs.Sizes.{header, tag_header, code_place}
use Rattle.message.specs.Walk.{walk_from}
use Rattle.board.specs.declared.record.Board.{Board}
use Rattle.responder.specs.Reply.{code_of, served, reply}
use Rattle.responder.specs.Turns.{Said, silent, says}
use Rattle.responder.proofs.Laws.Saids.{SaidFits, saids_fit}
use Rattle.responder.proofs.Laws.Turns.{Each}
use Rattle.responder.proofs.Laws.Written.{writes_length}
use Rattle.demands.proofs.Laws.ReadBack.{nth_at, judged_shows, judged_lacks, value_written}
use Rattle.demands.proofs.Laws.Sought.{sought_tag}
use Rattle.demands.proofs.Laws.Replied.{Replied, untouched, walked, replied, clash}
use Rattle.demands.proofs.Walked.{filled, code_bytes, reply_bytes, served_bytes, size_same, follows_reply}
use Rattle.demands.specs.Changes.{CodeWord}
use Rattle.demands.specs.ReadingBack.{occurrence_at, EveryTagSought, Reads, ReadingBack}
use Rattle.demands.specs.Terms.{walk_of, tag_of, trail_of, decision_of, answers_of, said_at}
use Rattle.demands.specs.Walked.{tag_after, tags_after}

-- ---- each answer fits
said_fits_at : (ss : List Said) (i : ℕ) {answer : List ℕ} → Each SaidFits ss → get_or ss i silent ≡ says answer → length answer < 2 ^ 31
said_fits_at [] i h e = absurd (true≢false cc)
said_fits_at (silent ∷ ss) zero h e = absurd (true≢false cc)
said_fits_at (says x ∷ ss) zero {answer} h e = let is : x ≡ answer = cc in rw is at h.0
said_fits_at (s ∷ ss) (suc i) h e = said_fits_at ss i h.1 e

pub answer_fits : (b : Board) (m : List ℕ) (i : ℕ) {answer : List ℕ} → said_at b m i ≡ says answer → length answer < 2 ^ 31
answer_fits b m i e = said_fits_at (answers_of b m) i (saids_fit (decision_of b m) b (trail_of m).requests) e

-- ---- what the responder left, to the reader
module _ (b : Board) (m : List ℕ) (g : GoodSize (word m 0) (length m)) where
  abbrev left : List ℕ
  left = reply_bytes b m g

  length_left : length left ≡ length m
  length_left = length_put code_place (code_bytes b m g) (filled b m g) ∙ writes_length (walk_of m).tags (answers_of b m) m

  pub opens : opened left ≡ Ok (record { size = word m 0 })
  opens =
      let z = size_same b m g in
      let n = length_left in
      let good : GoodSize (word left 0) (length left) = rw (z, n) g in
      opened_good left good ∙ ap (λ (x : ℕ). Ok (record { size = x })) z

  pub code_is : word left code_place ≡ code_of (trail_of m).ending.outcome
  code_is = go (eqb (trail_of m).ending.outcome done)
    where
      n : length (filled b m g) ≡ length m
      n = writes_length (walk_of m).tags (answers_of b m) m

      go : (c : Bool) → word (put code_place (le 4 (cond c 0x8000_0000 0x8000_0001)) (filled b m g)) code_place ≡ cond c 0x8000_0000 0x8000_0001
      go true = let q = n in number_put 4 code_place 0x8000_0000 (filled b m g) (omega arith) (omega arith)
      go false = let q = n in number_put 4 code_place 0x8000_0001 (filled b m g) (omega arith) (omega arith)

  pub response : is_response (word left code_place) ≡ true
  response = go (eqb (trail_of m).ending.outcome done) code_is
    where
      go : (c : Bool) → word left code_place ≡ cond c 0x8000_0000 0x8000_0001 → is_response (word left code_place) ≡ true
      go true e = response_done e
      go false e = response_fault e

  walk_left : walk_from left (word m 0) header ≡ record { tags = tags_after (walk_of m).tags (answers_of b m); ending = (walk_of m).ending }
  walk_left = follows_walk left (word m 0) header (tags_after (walk_of m).tags (answers_of b m)) (walk_of m).ending (follows_reply b m g)

  pub found_left : (id n wanted : ℕ)
      → found left id n wanted ≡ found_in id n wanted (record { tags = tags_after (walk_of m).tags (answers_of b m); ending = (walk_of m).ending })
  found_left id n wanted = found_response left opens response id n wanted ∙ ap (found_in id n wanted) walk_left

  judged_left : (i : ℕ) → i < length (walk_of m).tags → (wanted : ℕ)
      → found left (tag_of m i).id (occurrence_at m i) wanted ≡ judged (tag_after (tag_of m i) (said_at b m i)) wanted
  judged_left i l wanted =
      found_judged left opens response (tag_of m i).id (occurrence_at m i) wanted (tag_after (tag_of m i) (said_at b m i))
      (rw walk_left (nth_at (tag_of m i).id (walk_of m).tags (answers_of b m) i l refl))

  value_left : (i : ℕ) → i < length (walk_of m).tags → {answer : List ℕ} → said_at b m i ≡ says answer → (k : ℕ) → k ≤ min (length answer) (tag_of m i).size
      → take k (drop ((tag_of m i).at + tag_header) left) ≡ take k answer
  value_left i l e k q =
      ap (take k) (drop_later header ((tag_of m i).at + tag_header) left (filled b m g) (omega arith) (drop_put code_place (code_bytes b m g) (filled b m g)
      header (omega arith)))
      ∙ value_written m (word m 0) header (walk_of m).tags (answers_of b m) (walk_of m).ending (follows m (word m 0) header) g.within i l e k q

  module _ (is : (reply b m).bytes ≡ left) where
    pub reads_left : Reads b m
    reads_left = record {
      answer_read = λ i l answer e. record {
        shows = λ wanted q. ap (λ (x : List ℕ). found x (tag_of m i).id (occurrence_at m i) wanted) is ∙ judged_left i l wanted ∙ ap (λ (s : Said).
            judged (tag_after (tag_of m i) s) wanted) e
            ∙ judged_shows (tag_of m i) answer (answer_fits b m i e) wanted q;
        bytes = λ wanted q. ap (λ (x : List ℕ). take wanted (drop ((tag_of m i).at + tag_header) x)) is ∙ value_left i l e wanted q;
        fewer = λ wanted q. ap (λ (x : List ℕ). found x (tag_of m i).id (occurrence_at m i) wanted) is ∙ judged_left i l wanted ∙ ap (λ (s : Said).
            judged (tag_after (tag_of m i) s) wanted) e
            ∙ judged_lacks (tag_of m i) answer (answer_fits b m i e) wanted q;
      };
      unanswered_read = λ i l e w wanted.
          ap (λ (x : List ℕ). found x (tag_of m i).id (occurrence_at m i) wanted) is ∙ judged_left i l wanted
          ∙ ap (λ (s : Said). judged (tag_after (tag_of m i) s) wanted) e
          ∙ sym (judged_not_answered (tag_of m i) wanted w refl);
    }

pub reads : ReadingBack
reads b m w = go (replied b m)
  where
    go : Replied b m → Reads b m
    go (untouched o e f z) = absurd (clash (reply b m).answer.outcome w o)
    go (walked v g e) = reads_left b m g (ap (λ (r : _). r.bytes) e ∙ served_bytes b m g)

pub every_tag_sought : EveryTagSought
every_tag_sought m i l = sought_tag (walk_of m).tags i l

pub code_word : CodeWord
unfolding served
code_word b m w = go (replied b m)
  where
    go : Replied b m → word (reply b m).bytes code_place ≡ code_of (reply b m).answer.outcome
    go (untouched o e f z) = absurd (clash (reply b m).answer.outcome w o)
    go (walked v g e) =
        ap (λ (x : List ℕ). word x code_place) (ap (λ (r : _). r.bytes) e ∙ served_bytes b m g)
        ∙ code_is b m g ∙ sym (ap (λ (r : _). code_of r.answer.outcome) e)
