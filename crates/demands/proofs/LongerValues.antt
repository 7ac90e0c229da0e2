-- Two faultless requests alike but for longer value buffers in the second are served alike.
use mathlib.Core.Bool.{Bool, true, false, true≢false}
use mathlib.Core.List.{List, [], ◌∷◌}
use mathlib.Core.Logic.{inl}
use mathlib.Core.Path.{◌≡◌, refl, sym, ap, ◌∙◌}
use Prim.Native.Nat.{ℕ, zero, suc, ◌+◌, ◌≤◌, ◌<◌}
use native.Mathlib.Omega.{arith}
use borrow.Author.Tests.{ltb-true, ltb-false}
use lib.Dec.{ltb, leb}
use lib.ListN.{length, take, drop, get_or}
use lib.Seq.{take-take, length-take-le}
use Rattle.message.proofs.Laws.Found.{unmet_end}
use Rattle.message.proofs.Laws.Paired.{Paired, paired_found}
use Rattle.message.specs.Builder.{Call}
use Rattle.message.specs.Outcomes.{done, no_such_tag, not_answered}
use Rattle.message.specs.Reader.{unmet, is_answered, stored, judged_by, judged, with_id, found_in, found}
use Rattle.message.specs.Sizes.{tag_header}
use Rattle.message.specs.declared.reader.Reading.{Reading}
use Rattle.message.specs.declared.walk.Ending.{Ending}
use Rattle.message.specs.declared.walk.Tag.{Tag}
use Rattle.board.specs.Record.{with_display}
use Rattle.board.specs.declared.record.Board.{Board}
use Rattle.display.specs.declared.decision.Decision.{Decision}
use Rattle.requests.specs.Requests.{value_of, trail}
use Rattle.responder.specs.Answers.{group_decision, turn_of, after}
use Rattle.responder.specs.Reply.{served, reply}
use Rattle.responder.specs.Turns.{Said, silent, says, Turns, turns}
use Rattle.responder.specs.declared.respond.Served.{Served}
use Rattle.demands.proofs.AnsweredWhen.{answered_inside}
use Rattle.demands.proofs.Laws.Alike.{Alike, alike_by_index, requests_same, walk_done, SameHeader, paired_after, paired_words, alike_id}
use Rattle.demands.proofs.Laws.Alike.{alike_length, alike_occurrence}
use Rattle.demands.proofs.Laws.ReadBack.{stored_is}
use Rattle.demands.proofs.Laws.Replied.{Replied, untouched, walked, replied, clash}
use Rattle.demands.proofs.Laws.Sought.{sought_at}
use Rattle.demands.proofs.ReadingBack.{answer_fits, reads, found_left}
use Rattle.demands.proofs.Walked.{walked_is, served_bytes}
use Rattle.demands.specs.LongerValues.{tag_words, AlikeButLonger, stored_answer, Begins}
use Rattle.demands.specs.LongerValues.{ShownAlike, ReadAlike, ServedAlike, LongerValues}
use Rattle.demands.specs.ReadingBack.{reading_of, sought, reading_at, stored_count, ReadsAnswer}
use Rattle.demands.specs.Terms.{no_tag, walk_of, tag_of, trail_of, decision_of, answers_of, said_at}
use Rattle.demands.specs.Walked.{tag_after, tags_after}

-- ---- a faultless request
record ServedFaultless (b : Board) (m : List ℕ) : Type 0 where
  pub ending : (trail_of m).ending.outcome ≡ done
  pub board : (reply b m).answer.board ≡ with_display (after (decision_of b m) b (trail_of m).requests) (decision_of b m).display
  pub found_is : (id n wanted : ℕ)
      → found (reply b m).bytes id n wanted ≡ found_in id n wanted (record { tags = tags_after (walk_of m).tags (answers_of b m); ending = (walk_of m).ending })

served_faultless : (b : Board) (m : List ℕ) → (reply b m).answer.outcome ≡ done → ServedFaultless b m
unfolding served
served_faultless b m d = go (replied b m)
  where
    go : Replied b m → ServedFaultless b m
    go (untouched o e f z) = absurd (clash (reply b m).answer.outcome (inl d) o)
    go (walked v g e) = record {
      ending = sym (ap (λ (r : Call Served). r.answer.outcome) e) ∙ d;
      board = ap (λ (r : Call Served). r.answer.board) e;
      found_is = λ id n wanted. ap (λ (x : List ℕ). found x id n wanted) (ap (λ (r : Call Served). r.bytes) e ∙ served_bytes b m g) ∙ found_left b m g
          id n wanted;
    }

-- ---- the stored answer of an answered tag: the answer's first min(L, v) bytes
after_at : (ts : List Tag) (ss : List Said) (i : ℕ) → i < length ts → get_or (tags_after ts ss) i no_tag ≡ tag_after (get_or ts i no_tag) (get_or ss i silent)
after_at [] ss i l = absurd (omega arith)
after_at (t ∷ ts) [] zero l = refl
after_at (t ∷ ts) [] (suc i) l = refl
after_at (t ∷ ts) (s ∷ ss) zero l = refl
after_at (t ∷ ts) (s ∷ ss) (suc i) l = after_at ts ss i (omega arith)

module _ (b : Board) (m : List ℕ) (d : (reply b m).answer.outcome ≡ done) (i : ℕ) (l : i < length (walk_of m).tags) (answer : List ℕ)
    (e : said_at b m i ≡ says answer) where
  pub read_at : ReadsAnswer b m i answer
  read_at = (reads b m (inl d)).answer_read i l answer e

  tag_there : tag_of (reply b m).bytes i ≡ tag_after (tag_of m i) (says answer)
  tag_there = rw (walked_is b m (inl d)) (after_at (walk_of m).tags (answers_of b m) i l ∙ ap (tag_after (tag_of m i)) e)

  pub answer_stored : stored_answer (reply b m).bytes i ≡ take (stored_count m i answer) answer
  answer_stored =
      let n = stored_count m i answer in
      let left = (reply b m).bytes in
      ap (λ (t : Tag). take (stored t) (value_of left t)) tag_there
      ∙ ap (λ (k : ℕ). take k (value_of left (tag_of m i))) (sym (stored_is (tag_of m i) answer (answer_fits b m i e)))
      ∙ take-take n (tag_of m i).size (drop ((tag_of m i).at + tag_header) left) (omega arith)
      ∙ read_at.bytes n (omega arith)

begins_take : (n k : ℕ) (xs : List ℕ) → n ≤ k → n ≤ length xs → Begins (take n xs) (take k xs)
begins_take n k xs l h = ap (λ (x : ℕ). take x (take k xs)) (length-take-le n xs h) ∙ take-take n k xs l

-- ---- refusals of paired tags
record RefusedAlike (r r' : Reading) : Type 0 where
  pub not_there : r.outcome ≡ no_such_tag → r'.outcome ≡ no_such_tag
  pub no_answer : r.outcome ≡ not_answered → r'.outcome ≡ not_answered

judged_alike : (t u : Tag) (wanted : ℕ) → SameHeader t u → RefusedAlike (judged t wanted) (judged u wanted)
unfolding judged
judged_alike t u wanted p = go (is_answered t) (is_answered u) (ltb (stored t) wanted) (ap (leb 0x8000_0000) p.word)
  where
    go : (a c f : Bool) → a ≡ c → RefusedAlike (judged_by a f t wanted) (judged_by c (ltb (stored u) wanted) u wanted)
    go true c true e = record { not_there = λ z. absurd (omega arith); no_answer = λ z. absurd (omega arith) }
    go true c false e = record { not_there = λ z. absurd (omega arith); no_answer = λ z. absurd (omega arith) }
    go false true f e = absurd (true≢false cc)
    go false false f e = record { not_there = λ z. absurd (omega arith); no_answer = λ z. refl }

ends_alike : (e e' : Ending) → e.outcome ≡ done → e'.outcome ≡ done → RefusedAlike (unmet e) (unmet e')
ends_alike e e' d d' =
    rw (unmet_end e d, unmet_end e' d') (record { not_there = λ z. refl; no_answer = λ z. absurd (omega arith) })

-- ---- the claim
module _ (b : Board) (m m' : List ℕ) (p : AlikeButLonger b m m') where
  a : Alike m m' (walk_of m).tags (walk_of m').tags
  a = alike_by_index m m' (walk_of m).tags (walk_of m').tags p.same_ids p.words_before p.same_requests

  f : ServedFaultless b m
  f = served_faultless b m p.faultless

  f' : ServedFaultless b m'
  f' = served_faultless b m' p.faultless'

  asked_same : (trail_of m).requests ≡ (trail_of m').requests
  unfolding trail
  asked_same = requests_same m m' (walk_of m).tags (walk_of m').tags (walk_of m).ending (walk_of m').ending a f.ending f'.ending

  decision_same : decision_of b m ≡ decision_of b m'
  unfolding group_decision
  decision_same = rw (f.ending, f'.ending, asked_same)

  -- the turns of the two are the same
  turns_are : turns (turn_of (decision_of b m)) b (trail_of m).requests ≡ turns (turn_of (decision_of b m')) b (trail_of m').requests
  turns_are =
      ap (λ (g : Decision). turns (turn_of g) b (trail_of m).requests) decision_same ∙ ap (turns (turn_of (decision_of b m')) b) asked_same

  saids_same : answers_of b m ≡ answers_of b m'
  saids_same = ap (λ (x : Turns Board). x.saids) turns_are

  board_same : (reply b m).answer.board ≡ (reply b m').answer.board
  board_same =
      f.board
      ∙ ap (λ (x : Turns Board). with_display x.state (decision_of b m).display) turns_are
      ∙ ap (λ (g : Decision). with_display (after (decision_of b m') b (trail_of m').requests) g.display) decision_same
      ∙ sym f'.board

  paired : Paired SameHeader (tags_after (walk_of m).tags (answers_of b m)) (tags_after (walk_of m').tags (answers_of b m'))
  paired = rw (← saids_same) (paired_after m m' (walk_of m).tags (walk_of m').tags (answers_of b m) a)

  words_same : tag_words (reply b m).bytes ≡ tag_words (reply b m').bytes
  words_same = rw (walked_is b m (inl p.faultless), walked_is b m' (inl p.faultless')) (paired_words paired)

  refused_alike : (id n wanted : ℕ) → RefusedAlike (reading_of b m id n wanted) (reading_of b m' id n wanted)
  unfolding trail
  refused_alike id n wanted =
      rw (f.found_is id n wanted, f'.found_is id n wanted)
      (paired_found (λ t u q. q.id) RefusedAlike id n wanted wanted
      (record { tags = tags_after (walk_of m).tags (answers_of b m); ending = (walk_of m).ending }) (record {
        tags = tags_after (walk_of m').tags
            (answers_of b m');
        ending = (walk_of m').ending;
      })
      (λ t u q. judged_alike t u wanted q)
      (ends_alike (walk_of m).ending (walk_of m').ending (walk_done m (walk_of m).tags (walk_of m).ending f.ending) (walk_done m' (walk_of m').tags
      (walk_of m').ending f'.ending)) paired)

  -- an answered tag of the first
  module _ (i : ℕ) (l : i < length (walk_of m).tags) (answer : List ℕ) (e : said_at b m i ≡ says answer) where
    l' : i < length (walk_of m').tags
    l' = rw (← (alike_length m m' (walk_of m).tags (walk_of m').tags a)) l

    e' : said_at b m' i ≡ says answer
    e' = sym (ap (λ (ss : List Said). get_or ss i silent) saids_same) ∙ e

    longer : (n : ℕ) → n ≤ stored_count m i answer → n ≤ stored_count m' i answer
    longer n q = let s = p.longer i l in omega arith

    begins : Begins (stored_answer (reply b m).bytes i) (stored_answer (reply b m').bytes i)
    begins =
        let n = stored_count m i answer in
        rw (answer_stored b m p.faultless i l answer e, answer_stored b m' p.faultless' i l' answer e')
        (begins_take n (stored_count m' i answer) answer (longer n (omega arith)) (omega arith))

    shown_alike : (wanted : ℕ) → (reading_at b m i wanted).outcome ≡ done → ShownAlike b m m' wanted (reading_at b m i wanted) (reading_at b m' i wanted)
    shown_alike wanted z = go (ltb (stored_count m i answer) wanted) refl
      where
        read_first : ReadsAnswer b m i answer
        read_first = read_at b m p.faultless i l answer e

        read_second : ReadsAnswer b m' i answer
        read_second = read_at b m' p.faultless' i l' answer e'

        go : (c : Bool) → ltb (stored_count m i answer) wanted ≡ c → ShownAlike b m m' wanted (reading_at b m i wanted) (reading_at b m' i wanted)
        go true q = let k = ap (λ (r : Reading). r.outcome) (read_first.fewer wanted (ltb-true _ _ q)) in absurd (omega arith)
        go false q =
            let n = ltb-false _ _ q in
            rw (read_first.shows wanted n, read_second.shows wanted (longer wanted n)) (record {
              is_done = refl;
              as_many = refl;
              same_total = refl;
              same_bytes = read_second.bytes wanted (longer wanted n) ∙ sym (read_first.bytes wanted n);
            })

  -- the reader, by the tag that it seeks
  module _ (id n wanted : ℕ) where
    abbrev i : ℕ
    i = sought m id n

    seeks : (l : i < length (walk_of m).tags) → reading_of b m id n wanted ≡ reading_at b m i wanted
    seeks l =
        let s = sought_at id n (walk_of m).tags l in
        ap (λ (k : ℕ). reading_of b m id k wanted) (sym s.occurs)
        ∙ ap (λ (x : ℕ). reading_of b m x (length (with_id x (take i (walk_of m).tags))) wanted) (sym s.named)

    seeks' : (l : i < length (walk_of m).tags) → reading_of b m' id n wanted ≡ reading_at b m' i wanted
    seeks' l =
        let s = sought_at id n (walk_of m).tags l in
        ap (λ (k : ℕ). reading_of b m' id k wanted)
        (sym s.occurs ∙ alike_occurrence m m' (walk_of m).tags (walk_of m').tags id i a)
        ∙ ap (λ (x : ℕ). reading_of b m' x (length (with_id x (take i (walk_of m').tags))) wanted)
        (sym s.named ∙ alike_id m m' (walk_of m).tags (walk_of m').tags i a)

    read_alike : ReadAlike b m m' id n wanted
    read_alike = record {
      shown = λ w z. let l = answered_inside b m i w in
          rw (seeks l, seeks' l) (shown_alike i l w.1.0 w.1.1 wanted (rw (seeks l) at z));
      not_there = (refused_alike id n wanted).not_there;
      no_answer = (refused_alike id n wanted).no_answer;
    }

  pub served_alike : ServedAlike b m m'
  served_alike = record {
    same_board = board_same;
    leaves_tags = walked_is b m (inl p.faultless);
    leaves_tags' = walked_is b m' (inl p.faultless');
    words_after = words_same;
    begins = λ i w. begins i (answered_inside b m i w) w.1.0 w.1.1;
    read = read_alike;
  }

pub longer_values : LongerValues
longer_values b m m' p = served_alike b m m' p
