-- The cases of a reply: refused and untouched, or served.
use mathlib.Core.Bool.{Bool, true, false, cond, true≢false}
use mathlib.Core.List.{List}
use mathlib.Core.Logic.{inl, inr}
use mathlib.Core.Path.{◌≡◌, refl, sym, ap, ◌∙◌}
use Prim.Native.Nat.{ℕ}
use native.Mathlib.Omega.{arith}
use lib.Dec.{eqb, ltb}
use lib.ListN.{length}
use Rattle.std.specs.Prelude.{Result, Ok, Err}
use Rattle.words.specs.Numbers.{word}
use Rattle.message.proofs.Laws.Opening.{GoodSize, good_is, opened_size}
use Rattle.message.specs.Opening.{opened, good_size}
use Rattle.message.specs.Outcomes.{number_of, done, too_few_lent, bad_size, not_request, no_end, runs_over, short_request, invalid_board}
use Rattle.message.specs.Sizes.{smallest, code_place}
use Rattle.message.specs.declared.opening.Message.{Message}
use Rattle.message.specs.declared.outcome.Refusal.{Refusal}
use Rattle.message.specs.declared.outcome.Refusal.TheVariants.{TooFewLent, BadSize}
use Rattle.board.specs.Record.{valid}
use Rattle.board.specs.declared.record.Board.{Board}
use Rattle.requests.specs.Requests.{WalkOutcome}
use Rattle.responder.specs.Reply.{served, reply}
use Rattle.demands.specs.Changes.{RefusalOutcome}

-- no walk ends as a refusal does
not_refusal : (n x : ℕ) → n ≡ x → (x ≡ too_few_lent → ⊥) → (x ≡ bad_size → ⊥) → (x ≡ not_request → ⊥) → (x ≡ invalid_board → ⊥) → RefusalOutcome n → ⊥
not_refusal n x e a b c d (inl z) = a (sym e ∙ z)
not_refusal n x e a b c d (inr (inl z)) = b (sym e ∙ z)
not_refusal n x e a b c d (inr (inr (inl z))) = c (sym e ∙ z)
not_refusal n x e a b c d (inr (inr (inr z))) = d (sym e ∙ z)

pub clash : (n : ℕ) → WalkOutcome n → RefusalOutcome n → ⊥
clash n (inl z) = not_refusal n done z (λ e. omega arith) (λ e. omega arith) (λ e. omega arith) (λ e. omega arith)
clash n (inr (inl z)) = not_refusal n no_end z (λ e. omega arith) (λ e. omega arith) (λ e. omega arith) (λ e. omega arith)
clash n (inr (inr (inl z))) = not_refusal n runs_over z (λ e. omega arith) (λ e. omega arith) (λ e. omega arith) (λ e. omega arith)
clash n (inr (inr (inr z))) = not_refusal n short_request z (λ e. omega arith) (λ e. omega arith) (λ e. omega arith) (λ e. omega arith)

pub data Replied (b : Board) (m : List ℕ) : Type 0 where
  untouched : RefusalOutcome (reply b m).answer.outcome → (reply b m).bytes ≡ m → (reply b m).answer.board ≡ b → (reply b m).answer.place ≡ 0 → Replied b m
  walked : valid b ≡ true → GoodSize (word m 0) (length m) → reply b m ≡ served b m (word m 0) → Replied b m

-- what opening refuses with; and the size of what it opens
opened_refusal : (m : List ℕ) {refusal : Refusal} → opened m ≡ Err refusal → RefusalOutcome (number_of refusal)
unfolding opened
opened_refusal m {refusal} e = go (ltb (length m) smallest) (good_size (word m 0) (length m)) e
  where
    go : (few good : Bool)
        → cond {A = Result Message Refusal} few (Err TooFewLent) (cond good (Ok (record { size = word m 0 })) (Err BadSize)) ≡ Err refusal
        → RefusalOutcome (number_of refusal)
    go true good q = let is : TooFewLent ≡ refusal = cc in inl (sym (ap number_of is))
    go false true q = absurd (true≢false cc)
    go false false q = let is : BadSize ≡ refusal = cc in inr (inl (sym (ap number_of is)))

opened_sized : (m : List ℕ) {message : Message} → opened m ≡ Ok message → GoodSize (word m 0) (length m)
unfolding opened
opened_sized m {message} e = go (ltb (length m) smallest) (good_size (word m 0) (length m)) refl e
  where
    go : (few good : Bool) → good_size (word m 0) (length m) ≡ good
        → cond few (Err TooFewLent) (cond good (Ok (record { size = word m 0 })) (Err BadSize)) ≡ Ok message
        → GoodSize (word m 0) (length m)
    go true good g q = absurd (true≢false cc)
    go false true g q = good_is (word m 0) (length m) g
    go false false g q = absurd (true≢false cc)

pub replied : (b : Board) (m : List ℕ) → Replied b m
unfolding reply
replied b m = go_valid (valid b) refl
  where
    go_code : (c : Bool) (message : Message) → valid b ≡ true → opened m ≡ Ok message → eqb (word m code_place) 0 ≡ c → Replied b m
    go_code true message v o c = walked v (opened_sized m o) (rw (v, o, c, opened_size m o))
    go_code false message v o c = untouched (rw (v, o, c) (inr (inr (inl refl)))) (rw (v, o, c)) (rw (v, o, c)) (rw (v, o, c))

    go_opened : (o : Result Message Refusal) → valid b ≡ true → opened m ≡ o → Replied b m
    go_opened (Err refusal) v o = untouched (rw (v, o) (opened_refusal m o)) (rw (v, o)) (rw (v, o)) (rw (v, o))
    go_opened (Ok message) v o = go_code (eqb (word m code_place) 0) message v o refl

    go_valid : (v : Bool) → valid b ≡ v → Replied b m
    go_valid true v = go_opened (opened m) v refl
    go_valid false v = untouched (rw v (inr (inr (inr refl)))) (rw v) (rw v) (rw v)
