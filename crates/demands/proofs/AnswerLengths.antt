-- Every answer has the length of the table.
use mathlib.Core.Bool.{Bool, true, false, cond, true≢false}
use mathlib.Core.List.{List, [], ◌∷◌, map}
use mathlib.Core.Path.{◌≡◌, refl, sym, ap, ◌∙◌}
use Prim.Native.Nat.{ℕ}
use lib.Dec.{eqb}
use lib.ListN.{length, take, get_or, length-take}
use Rattle.board.specs.declared.facts.Facts.{Facts}
use Rattle.board.specs.declared.record.Board.{Board}
use Rattle.table.specs.Table.{known, Entry, table, find, row_of}
use Rattle.table.specs.declared.kinds.Kind.{Kind}
use Rattle.tags.proofs.Laws.Alone.{after_facts}
use Rattle.tags.specs.Fact.{fact_answer}
use Rattle.tags.specs.Outside.{outside_answer}
use Rattle.display.specs.Decision.{group_answer}
use Rattle.display.specs.declared.decision.Decision.{Decision}
use Rattle.requests.specs.Requests.{Request, passed, short, asks, request_of}
use Rattle.responder.specs.Answers.{turn_of}
use Rattle.responder.specs.Turns.{says}
use Rattle.demands.proofs.Laws.Cuts.{row_same, has_asked, CutAt, cut_before, cut_behind, cut_none}
use Rattle.demands.proofs.Laws.TurnAt.{TurnAt, turn_of_at, answer_by, speaks, spoken, cut_there}
use Rattle.demands.specs.AnswerLengths.{HasArrays, entry_length, length_in, AnswerLengths}
use Rattle.demands.specs.Terms.{tag_of, trail_of, decision_of}

-- ---- down the table
table_lengths : (g : Decision) (b : Board) (request : List ℕ) → HasArrays b
    → map (λ (e : Entry). length (answer_by g b e.kind request)) table ≡ map (entry_length b.facts.characters) table
unfolding table outside_answer fact_answer group_answer
table_lengths g b request a =
    let f = b.facts in
    rw (length-take 6 f.mac, a.mac, length-take f.characters (take 256 b.line), length-take 256 b.line, a.line)

-- and so of the entry that is found
found_length : (g : Decision) (b : Board) (request : List ℕ) (id : ℕ) (es : List Entry) {k : Kind} {n : ℕ}
    → map (λ (e : Entry). length (answer_by g b e.kind request)) es ≡ map (entry_length b.facts.characters) es → find id es ≡ known k n
    → length (answer_by g b k request) ≡ length_in b.facts.characters id es
found_length g b request id [] q r = absurd (true≢false cc)
found_length g b request id (e ∷ es) {k} {n} q r = go (eqb id e.id) r (λ x. found_length g b request id es later x)
  where
    here : length (answer_by g b e.kind request) ≡ entry_length b.facts.characters e
    here = cc

    later : map (λ (x : Entry). length (answer_by g b x.kind request)) es ≡ map (entry_length b.facts.characters) es
    later = cc

    go : (c : Bool) → cond c (known e.kind e.request) (find id es) ≡ known k n
        → (find id es ≡ known k n → length (answer_by g b k request) ≡ length_in b.facts.characters id es)
        → length (answer_by g b k request) ≡ cond c (entry_length b.facts.characters e) (length_in b.facts.characters id es)
    go true x h = let is : e.kind ≡ k = (row_same x).0 in rw (← is) here
    go false x h = h x

-- ---- no turn changes the facts or the command line
abbrev SameFacts : (b b' : Board) → Type 0
SameFacts b b' = (b'.facts ≡ b.facts) × (b'.line ≡ b.line)

turn_facts : (g : Decision) (b b' : Board) (r : Request) → SameFacts b b' → SameFacts b (turn_of g b' r).state
unfolding turn_of
turn_facts g b b' passed p = p
turn_facts g b b' short p = p
turn_facts g b b' (asks (Kind.Outside t) request) p = let q = after_facts t request b' in (q.0 ∙ p.0, q.1 ∙ p.1)
turn_facts g b b' (asks (Kind.Group t) request) p = p

-- ---- the answer of a turn
turn_answer : (g : Decision) (b : Board) (k : Kind) (request : List ℕ) {answer : List ℕ} → (turn_of g b (asks k request)).said ≡ says answer
    → answer_by g b k request ≡ answer
turn_answer g b k request {answer} e =
    let q : says (answer_by g b k request) ≡ says answer = sym (spoken g b k request (speaks g b (asks k request) e)) ∙ e in
    cc

pub answer_lengths : AnswerLengths
unfolding row_of
answer_lengths b m a i answer e = go (cut_there m i)
  where
    at : TurnAt b m (SameFacts b) i
    at = turn_of_at b m (SameFacts b) (λ x r p. turn_facts (decision_of b m) b x r p) (refl, refl) i

    arrays : HasArrays at.board
    arrays = record {
      mac = ap (λ (f : Facts). length f.mac) at.holds.0 ∙ a.mac;
      line = ap length at.holds.1 ∙ a.line;
    }

    says_so : {r : Request} → get_or (trail_of m).requests i passed ≡ r → (turn_of (decision_of b m) at.board r).said ≡ says answer
    says_so q = ap (λ (x : Request). (turn_of (decision_of b m) at.board x).said) (sym q) ∙ sym at.said ∙ e

    asked : (r : Request) → request_of m (tag_of m i) ≡ r → (turn_of (decision_of b m) at.board r).said ≡ says answer
        → length answer ≡ length_in b.facts.characters (tag_of m i).id table
    asked passed q s = absurd (speaks (decision_of b m) at.board passed s)
    asked short q s = absurd (speaks (decision_of b m) at.board short s)
    asked (asks k request) q s =
        ap length (sym (turn_answer (decision_of b m) at.board k request s))
        ∙ found_length (decision_of b m) at.board request (tag_of m i).id table (table_lengths (decision_of b m) at.board request arrays)
        (has_asked m (tag_of m i) q).row
        ∙ ap (λ (f : Facts). length_in f.characters (tag_of m i).id table) at.holds.0

    go : CutAt m (tag_of m i) (trail_of m) (get_or (trail_of m).requests i passed) → length answer ≡ length_in b.facts.characters (tag_of m i).id table
    go (cut_before q ns o) = asked (request_of m (tag_of m i)) refl (says_so q)
    go (cut_behind q nd l) = absurd (speaks (decision_of b m) at.board passed (says_so q))
    go (cut_none q z) = absurd (speaks (decision_of b m) at.board passed (says_so q))
