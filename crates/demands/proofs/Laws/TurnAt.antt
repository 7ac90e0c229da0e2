-- What the tag of an index says is its turn, on a record that the tags before it left.
use mathlib.Core.Bool.{Bool, true, false, cond, true≢false}
use mathlib.Core.List.{List, [], ◌∷◌}
use mathlib.Core.Path.{◌≡◌, refl, sym, ap}
use Prim.Native.Nat.{ℕ, zero, suc}
use lib.ListN.{get_or}
use Rattle.words.specs.Numbers.{word}
use Rattle.message.proofs.Laws.Follows.{follows}
use Rattle.message.specs.Sizes.{header}
use Rattle.board.specs.declared.record.Board.{Board}
use Rattle.table.specs.declared.kinds.Kind.{Kind}
use Rattle.tags.specs.Outside.{outside_answer}
use Rattle.display.specs.Decision.{group_answer}
use Rattle.display.specs.declared.decision.Decision.{Decision}
use Rattle.requests.specs.Requests.{Request, passed, short, asks, trail}
use Rattle.responder.specs.Answers.{turn_of}
use Rattle.responder.specs.Turns.{silent, says, Turn, turns}
use Rattle.demands.proofs.Laws.Cuts.{CutAt, cut_at}
use Rattle.demands.specs.Terms.{walk_of, tag_of, trail_of, decision_of, said_at}

-- what the tags before it keep of the record holds of that one
pub record TurnAt (b : Board) (m : List ℕ) (P : Board → Type 0) (i : ℕ) : Type 0 where
  pub board : Board
  pub holds : P board
  pub said : said_at b m i ≡ (turn_of (decision_of b m) board (get_or (trail_of m).requests i passed)).said

turn_at : {S : Type 0} (turn : S → Request → Turn S) → ((s : S) → (turn s passed).said ≡ silent) → (P : S → Type 0)
    → ((s : S) (r : Request) → P s → P (turn s r).state) → (s : S) → P s → (rs : List Request) (i : ℕ)
    → (s' : S) × P s' × (get_or (turns turn s rs).saids i silent ≡ (turn s' (get_or rs i passed)).said)
turn_at turn quiet P keep s p [] i = (s, p, sym (quiet s))
turn_at turn quiet P keep s p (r ∷ rs) zero = (s, p, refl)
turn_at turn quiet P keep s p (r ∷ rs) (suc i) = turn_at turn quiet P keep (turn s r).state (keep s r p) rs i

pub turn_of_at : (b : Board) (m : List ℕ) (P : Board → Type 0) → ((x : Board) (r : Request) → P x → P (turn_of (decision_of b m) x r).state) → P b → (i : ℕ)
    → TurnAt b m P i
unfolding turn_of
turn_of_at b m P keep p i =
    let t = turn_at (turn_of (decision_of b m)) (λ x. refl) P keep b p (trail_of m).requests i in
    record { board = t.0; holds = t.1; said = t.2 }

-- ---- what a turn says
-- which turns say something: outside the group every one, in it those of a group that is answered
abbrev pub Speaks : Decision → Request → Type 0
Speaks g passed = ⊥
Speaks g short = ⊥
Speaks g (asks (Kind.Outside t) request) = Unit {0}
Speaks g (asks (Kind.Group t) request) = g.answered ≡ true

-- and what they say
abbrev pub answer_by : Decision → Board → Kind → (request : List ℕ) → List ℕ
answer_by g b (Kind.Outside t) request = outside_answer t request b
answer_by g b (Kind.Group t) request = group_answer g t request

pub speaks : (g : Decision) (b : Board) (r : Request) {answer : List ℕ} → (turn_of g b r).said ≡ says answer → Speaks g r
unfolding turn_of
speaks g b passed e = true≢false cc
speaks g b short e = true≢false cc
speaks g b (asks (Kind.Outside t) request) e = tt
speaks g b (asks (Kind.Group t) request) {answer} e = go g.answered e
  where
    go : (c : Bool) → cond c (says (group_answer g t request)) silent ≡ says answer → c ≡ true
    go true q = refl
    go false q = absurd (true≢false cc)

pub spoken : (g : Decision) (b : Board) (k : Kind) (request : List ℕ) → Speaks g (asks k request)
    → (turn_of g b (asks k request)).said ≡ says (answer_by g b k request)
unfolding turn_of
spoken g b (Kind.Outside t) request s = refl
spoken g b (Kind.Group t) request s = ap (λ (c : Bool). cond c (says (group_answer g t request)) silent) s

-- ---- where the tag stands
-- before the first fault, at it or behind it, or nowhere
pub cut_there : (m : List ℕ) (i : ℕ) → CutAt m (tag_of m i) (trail_of m) (get_or (trail_of m).requests i passed)
unfolding trail
cut_there m i = cut_at m (word m 0) header (walk_of m).tags (walk_of m).ending (follows m (word m 0) header) i
