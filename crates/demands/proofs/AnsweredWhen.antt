-- Which tags are answered.
use mathlib.Core.Bool.{true≢false}
use mathlib.Core.List.{List, [], ◌∷◌}
use mathlib.Core.Logic.{◌⊎◌, inl, inr}
use mathlib.Core.Path.{◌≡◌, refl, sym, ◌∙◌}
use Prim.Native.Nat.{ℕ, zero, suc, ◌≤◌, ◌<◌}
use native.Mathlib.Omega.{arith}
use lib.ListN.{length, get_or}
use Rattle.words.specs.Numbers.{word}
use Rattle.message.specs.Outcomes.{done}
use Rattle.message.specs.Sizes.{header}
use Rattle.message.specs.declared.walk.Tag.{Tag}
use Rattle.board.specs.declared.record.Board.{Board}
use Rattle.table.specs.Table.{known, table, row_of}
use Rattle.table.specs.declared.kinds.Kind.{Kind}
use Rattle.requests.proofs.Laws.Endings.{ending_outcome}
use Rattle.requests.specs.Requests.{Request, passed, short, asks, value_of, request_bytes, request_of, WalkOutcome}
use Rattle.responder.specs.Answers.{turn_of}
use Rattle.responder.specs.Reply.{served, reply}
use Rattle.responder.specs.Turns.{says}
use Rattle.demands.proofs.Laws.Cuts.{row_same, has_asked, asks_unless_short, CutAt, cut_before, cut_behind, cut_none}
use Rattle.demands.proofs.Laws.Mixed.{answered_faultless, answered_unmixed, unmixed_answered}
use Rattle.demands.proofs.Laws.TurnAt.{TurnAt, turn_of_at, Speaks, answer_by, speaks, spoken, cut_there}
use Rattle.demands.proofs.Laws.Replied.{Replied, untouched, walked, replied, clash}
use Rattle.demands.specs.AnsweredWhen.{test_of, Answerable, AnsweredWhen}
use Rattle.demands.specs.Terms.{no_tag, walk_of, tag_of, trail_of, decision_of, Answered, Faultless}

-- no tag has the id 0
no_row : {k : Kind} {n : ℕ} → row_of 0 ≡ known k n → ⊥
unfolding row_of table
no_row e = true≢false cc

module _ (b : Board) (m : List ℕ) (i : ℕ) where
  abbrev t : Tag
  t = tag_of m i

  -- what it asks, as the trail has it
  abbrev r : Request
  r = get_or (trail_of m).requests i passed

  turn_there : TurnAt b m (λ (x : Board). Unit {0}) i
  turn_there = turn_of_at b m (λ (x : Board). Unit {0}) (λ x y p. tt) tt i

  there : CutAt m t (trail_of m) r
  there = cut_there m i

  -- ---- of a message that is walked
  module _ (is : reply b m ≡ served b m (word m 0)) where
    outcome_is : (reply b m).answer.outcome ≡ (trail_of m).ending.outcome
    unfolding served
    outcome_is = rw is

    place_is : (reply b m).answer.place ≡ (trail_of m).ending.place
    unfolding served
    place_is = rw is

    -- a tag that is answered has all that it takes
    speaks_has : Speaks (decision_of b m) r → Answerable b m t
    speaks_has s = go there
      where
        stands : ((trail_of m).ending.outcome ≡ done) ⊎ (t.at < (trail_of m).ending.place) → Faultless b m ⊎ (t.at < (reply b m).answer.place)
        stands (inl d) = inl (outcome_is ∙ d)
        stands (inr l) = inr (rw place_is l)

        from : (q : Request) → request_of m t ≡ q → Speaks (decision_of b m) q
            → ((trail_of m).ending.outcome ≡ done) ⊎ (t.at < (trail_of m).ending.place) → Answerable b m t
        from passed e x o = absurd x
        from short e x o = absurd x
        from (asks (Kind.Outside k) request) e x o =
            let h = has_asked m t e in
            record {
              known = (Kind.Outside k, h.least, h.row);
              bit_clear = h.clear;
              before = stands o;
              group = λ w. let z : Kind.Outside k ≡ Kind.Group w.0 = (row_same (sym h.row ∙ w.2)).0 in
                  absurd (true≢false cc);
            }
        from (asks (Kind.Group k) request) e x o =
            let h = has_asked m t e in
            record {
              known = (Kind.Group k, h.least, h.row);
              bit_clear = h.clear;
              before = stands o;
              group = λ w. (
                outcome_is ∙ answered_faultless b.display (trail_of m).ending (trail_of m).requests x,
                λ n. answered_unmixed b.display (trail_of m).ending (trail_of m).requests x n.0.0 n.1.0 n.0.1 n.1.1,
              );
            }

        go : CutAt m t (trail_of m) r → Answerable b m t
        go (cut_before q ns o) = from (request_of m t) refl (rw q at s) o
        go (cut_behind q nd l) = absurd (rw q at s)
        go (cut_none q z) = absurd (rw q at s)

    -- and one that has is answered
    has_says : (b' : Board) → Answerable b m t → (answer : List ℕ) × ((turn_of (decision_of b m) b' r).said ≡ says answer)
    has_says b' a = go there
      where
        asked : (k : Kind) (n : ℕ) → row_of t.id ≡ known k n → (request : List ℕ) → r ≡ asks k request → Speaks (decision_of b m) (asks k request)
        asked (Kind.Outside k) n row request e = tt
        asked (Kind.Group k) n row request e =
            let g = a.group (k, n, row) in
            unmixed_answered b.display (trail_of m).ending (trail_of m).requests (sym outcome_is ∙ g.0) (λ x y. g.1 (x, y)) (test_of k) i (rw e refl)

        late : Faultless b m ⊎ (t.at < (reply b m).answer.place) → ((trail_of m).ending.outcome ≡ done → ⊥) → (trail_of m).ending.place ≤ t.at → ⊥
        late (inl d) nd l = nd (sym outcome_is ∙ d)
        late (inr x) nd l = let p = place_is in omega arith

        go : CutAt m t (trail_of m) r → (answer : List ℕ) × ((turn_of (decision_of b m) b' r).said ≡ says answer)
        go (cut_before q ns o) =
            let k = a.known in
            let request = request_bytes k.0 k.1 t.size (value_of m t) in
            let e = q ∙ asks_unless_short m t k.2 a.bit_clear ns in (
              answer_by (decision_of b m) b' k.0 request,
              rw e (spoken (decision_of b m) b' k.0 request (asked k.0 k.1 k.2 request e)),
            )
        go (cut_behind q nd l) = absurd (late a.before nd l)
        go (cut_none q z) = let k = a.known in absurd (no_row (rw z at k.2))

  -- ---- of any message
  pub answered_has : Answered b m i → Answerable b m t
  answered_has a = go (replied b m)
    where
      go : Replied b m → Answerable b m t
      go (untouched o e f z) = absurd (clash (reply b m).answer.outcome a.0 o)
      go (walked v g e) = speaks_has e (speaks (decision_of b m) turn_there.board r (sym turn_there.said ∙ a.1.1))

  pub has_answered : Answerable b m t → Answered b m i
  has_answered a = go (replied b m)
    where
      early : Faultless b m ⊎ (t.at < (reply b m).answer.place) → (reply b m).answer.place ≡ 0 → WalkOutcome (reply b m).answer.outcome
      early (inl d) z = inl d
      early (inr l) z = absurd (omega arith)

      go : Replied b m → Answered b m i
      go (untouched o e f z) = absurd (clash (reply b m).answer.outcome (early a.before z) o)
      go (walked v g e) =
          let s = has_says e turn_there.board a in
          (rw (outcome_is e) (ending_outcome m (word m 0) header), (s.0, turn_there.said ∙ s.1))

pub answered_when : AnsweredWhen
answered_when b m i = (answered_has b m i, has_answered b m i)

-- an answered tag is one of the message
inside_by_id : (ts : List Tag) (i : ℕ) → ((get_or ts i no_tag).id ≡ 0 → ⊥) → i < length ts
inside_by_id [] i n = absurd (n refl)
inside_by_id (t ∷ ts) zero n = omega arith
inside_by_id (t ∷ ts) (suc i) n = let l = inside_by_id ts i n in omega arith

pub answered_inside : (b : Board) (m : List ℕ) (i : ℕ) → Answered b m i → i < length (walk_of m).tags
answered_inside b m i a = let k = (answered_has b m i a).known in inside_by_id (walk_of m).tags i (λ z. no_row (rw z at k.2))
