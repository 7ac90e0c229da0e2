-- One pass of the walk's loop: a law for each thing that a tag can ask.
use mathlib.Core.Bool.{Bool, true, false, cond, true≢false}
use mathlib.Core.List.{List, [], ◌∷◌}
use mathlib.Core.Path.{◌≡◌, refl, sym, ap, ◌∙◌, subst}
use Prim.Native.Nat.{ℕ, ◌+◌, ◌-◌, ◌≤◌, ◌<◌}
use native.Mathlib.Omega.{arith}
use denote.Enum.Declared.{tag_of}
use types.Run.{OneOf}
use lib.ListN.{length, take, drop}
use Rattle.words.proofs.Laws.Agree.{drop_later}
use Rattle.message.proofs.Laws.Steps.{StepFound, step_found, walking_on, step_same}
use Rattle.message.specs.contracts.walk.Step
use Rattle.message.specs.Builder.{leaves}
use Rattle.message.specs.Outcomes.{short_request}
use Rattle.message.specs.Sizes.{tag_header, largest}
use Rattle.message.specs.Helpers.{Walking, InMessage}
use Rattle.message.specs.Walk.{step, ending_of}
use Rattle.message.specs.declared.walk.Ending.{Ending}
use Rattle.message.specs.declared.walk.Step.{Step}
use Rattle.message.specs.declared.walk.Tag.{Tag}
use Rattle.board.specs.declared.record.Board.{Board}
use Rattle.table.specs.declared.kinds.FrameTag.{FrameTag}
use Rattle.table.specs.declared.kinds.Kind.{Kind}
use Rattle.table.specs.declared.kinds.OutsideTag.{OutsideTag}
use Rattle.answers.specs.Writing.{answered}
use Rattle.tags.proofs.Laws.Alone.{after_heap}
use Rattle.tags.proofs.Laws.ServesOutside.{Serves}
use Rattle.display.specs.Decision.{group_answer}
use Rattle.display.specs.Operation.{noted}
use Rattle.display.specs.GroupPut.{GroupPut}
use Rattle.display.specs.declared.decision.Decision.{Decision}
use Rattle.display.specs.declared.operation.Operation.{Operation}
use Rattle.requests.proofs.Laws.Asks.{WithRequest, pass_asked, short_asked, outside_asked, group_asked, request_within}
use Rattle.requests.proofs.Laws.Trails.{trail_stop, trail_tag, request_same, cut_on, in_message}
use Rattle.requests.specs.Ask.{ask_of}
use Rattle.requests.specs.Requests.{Request, passed, short, asks, request_of, Trail, ends, going_on, cut_by, trail}
use Rattle.requests.specs.declared.ask.Ask.{Ask}
use Rattle.responder.proofs.Laws.Written.{written_length, written_behind}
use Rattle.responder.specs.Answers.{note_by, turn_of}
use Rattle.responder.specs.Reply.{written}
use Rattle.responder.specs.Serve.{trail_served, walk_served}
use Rattle.responder.specs.Turns.{Said, silent, says}
use Rattle.responder.specs.declared.walk.TagsServed.{TagsServed}

-- ---- what a request comes to: what its tag says, the record that it leaves, and the operation with it
pub record Comes (g : Decision) (b : Board) (o : Operation) (r : Request) (s : Said) (b' : Board) (o' : Operation) : Type 0 where
  pub goes_on : r ≡ short → ⊥
  pub said : s ≡ (turn_of g b r).said
  pub left : b' ≡ (turn_of g b r).state
  pub noted : o' ≡ note_by r o

module _ (g : Decision) (b : Board) (o : Operation) where
  comes_pass : Comes g b o passed silent b o
  unfolding turn_of
  comes_pass = record { goes_on = λ z. true≢false cc; said = refl; left = refl; noted = refl }

  comes_outside : {k : OutsideTag} {request answer : List ℕ} {b' : Board} → Serves k request b answer b'
      → Comes g b o (asks (Kind.Outside k) request) (says answer) b' o
  unfolding turn_of
  comes_outside v = record { goes_on = λ z. true≢false cc; said = ap says v.says; left = v.left; noted = refl }

  comes_group : (k : FrameTag) (request : List ℕ)
      → Comes g b o (asks (Kind.Group k) request) (cond g.answered (says (group_answer g k request)) silent) b (noted k request o)
  unfolding turn_of
  comes_group k request = record { goes_on = λ z. true≢false cc; said = refl; left = refl; noted = refl }

-- no request changes the heap
pub turn_heap : (g : Decision) (b : Board) (r : Request) → (turn_of g b r).state.heap ≡ b.heap
unfolding turn_of
turn_heap g b passed = refl
turn_heap g b short = refl
turn_heap g b (asks (Kind.Outside t) request) = after_heap t request b
turn_heap g b (asks (Kind.Group t) request) = refl

-- ---- a walk with the group decided as g, of a message m₀ of `size` bytes on a record b₀
-- at p, with the present message, record and operation: what is ahead comes to what the whole message asks, and behind p the message is as it came
pub record Ahead (g : Decision) (m₀ : List ℕ) (size : ℕ) (b₀ : Board) (m : List ℕ) (b : Board) (o : Operation) (p : ℕ) : Type 0 where
  pub walking : Walking m size p
  pub same : length m ≡ length m₀
  pub rest : drop p m ≡ drop p m₀
  pub heap_same : b.heap ≡ b₀.heap
  pub serves : trail_served g b o (trail m₀ size p) m ≡ walk_served g b₀ m₀ size

module _ (g : Decision) (m₀ : List ℕ) (size : ℕ) (b₀ : Board) (m : List ℕ) (b : Board) (o : Operation) (p : ℕ) (h : Ahead g m₀ size b₀ m b o p) {st : Step}
    (es : st ≡ step m size p) where
  es₀ : step m₀ size p ≡ st
  es₀ = sym (step_same m m₀ size p h.rest) ∙ sym es

  -- where the trail ends, all is written
  ends_here : {e : Ending} → trail m₀ size p ≡ ends e → {r : TagsServed} → r ≡ record { ending = e; operation = o; board = b }
      → leaves m r ≡ walk_served g b₀ m₀ size
  ends_here e er = ap (leaves m) er ∙ ap (λ (x : Trail). trail_served g b o x m) (sym e) ∙ h.serves

  pub serve_stop : OneOf (1 ∷ 2 ∷ []) (tag_of Step.the_type st) → {e : Ending} → e ≡ ending_of st → {r : TagsServed}
      → r ≡ record { ending = e; operation = o; board = b } → leaves m r ≡ walk_served g b₀ m₀ size
  serve_stop k ee = ends_here (trail_stop m₀ size p st k es₀ ∙ ap ends (sym ee))

  module _ {t : Tag} {next : ℕ} (et : st ≡ Step.Tag t next) where
    here : StepFound m size p t next
    here = step_found m size p (sym es ∙ et)

    pub serve_less : size - next < size - p
    serve_less = let f = here in let w = h.walking in omega arith

    pub serve_in : InMessage (length m) t.at t.size
    serve_in = in_message m size p h.walking here

    pub serve_most : t.at + tag_header + t.size ≤ largest
    serve_most = let f = here in let w = h.walking in omega arith

    -- the first n bytes of the value, as they are lent, and that the value has them
    abbrev lent_part : (n : ℕ) → List ℕ
    lent_part n = take (t.at + tag_header + n - (t.at + tag_header)) (drop (t.at + tag_header) m)

    part_fits : {n : ℕ} → n ≤ t.size → (t.at + tag_header + n ≤ largest) × (t.at + tag_header + n ≤ length m)
    part_fits l = let i = serve_in in let k = serve_most in (omega arith, omega arith)

    module _ {q : Ask} (asked : q ≡ ask_of (request_of m t)) where
      -- the tag stands as it came
      request₀ : request_of m t ≡ request_of m₀ t
      request₀ = let f = here in request_same m m₀ t (subst (λ (x : ℕ). drop x m ≡ drop x m₀) (sym f.at) h.rest)

      pub serve_short : q ≡ Ask.Short → {e : Ending} → e ≡ record { outcome = short_request; place = p } → {r : TagsServed}
          → r ≡ record { ending = e; operation = o; board = b } → leaves m r ≡ walk_served g b₀ m₀ size
      serve_short e ee =
          let f = here in
          let r : request_of m₀ t ≡ short = sym request₀ ∙ short_asked (request_of m t) (sym e ∙ asked) in
          ends_here (trail_tag m₀ size p (es₀ ∙ et) ∙ ap (λ (x : Request). cut_by x t (trail m₀ size next)) r
          ∙ ap (λ (x : ℕ). ends (record { outcome = short_request; place = x })) f.at ∙ ap ends (sym ee))

      serve_on : {r : Request} {s : Said} {b' : Board} {o' : Operation} → request_of m t ≡ r → Comes g b o r s b' o' → {m' : List ℕ} → m' ≡ written t s m
          → Ahead g m₀ size b₀ m' b' o' next
      serve_on {r} {s} {b'} {o'} er c {m'} em =
          let f = here in
          let tr : trail m₀ size p ≡ going_on t r (trail m₀ size next) =
          trail_tag m₀ size p (es₀ ∙ et) ∙ ap (λ (x : Request). cut_by x t (trail m₀ size next)) (sym request₀ ∙ er) ∙ cut_on r t (trail m₀ size next)
          c.goes_on in
          let w : m' ≡ written t (turn_of g b r).said m = em ∙ ap (λ (x : Said). written t x m) c.said in
          let same : length m' ≡ length m = ap length em ∙ written_length t s m in
          record {
            walking = walking_on m m' size p h.walking f same;
            same = same ∙ h.same;
            heap_same = ap (λ (x : Board). x.heap) c.left ∙ turn_heap g b r ∙ h.heap_same;
            rest = ap (drop next) em ∙ written_behind t s m next (omega arith) ∙ drop_later p next m m₀ (omega arith) h.rest;
            serves = rw (w, c.left, c.noted) (ap (λ (x : Trail). trail_served g b o x m) (sym tr) ∙ h.serves);
          }

      -- ---- one law for each arm of the loop
      pub serve_pass : q ≡ Ask.Pass → Ahead g m₀ size b₀ m b o next
      serve_pass e = serve_on (pass_asked (request_of m t) (sym e ∙ asked)) (comes_pass g b o) refl

      -- what is lent of the value is the request
      part_is : {k : Kind} {n : ℕ} (i : WithRequest k n (request_of m t)) → (n ≤ t.size) × (lent_part n ≡ i.request)
      part_is {k} {n} i =
          let w = request_within m t i.is in
          let c = i.count in
          let z : t.at + tag_header + n - (t.at + tag_header) ≡ length i.request = omega arith in
          (omega (arith, w.fits), ap (λ (x : ℕ). take x (drop (t.at + tag_header) m)) z ∙ w.is)

      module _ {k : FrameTag} {n : ℕ} (e : q ≡ Ask.Group k n) where
        of_group : WithRequest (Kind.Group k) n (request_of m t)
        of_group = group_asked (request_of m t) (sym e ∙ asked)

        pub group_part : (t.at + tag_header + n ≤ largest) × (t.at + tag_header + n ≤ length m)
        group_part = part_fits (part_is of_group).0

        pub serve_group : {o' : Operation} → o' ≡ noted k (lent_part n) o → {m' : List ℕ} → GroupPut g k t.at t.size m m' → Ahead g m₀ size b₀ m' b o' next
        serve_group {o'} eo {m'} put =
            let er = of_group.is ∙ ap (asks (Kind.Group k)) (sym (part_is of_group).1) in
            rw eo (serve_on er (comes_group g b o k (lent_part n)) (put (lent_part n) ∙ either g.answered (group_answer g k (lent_part n))))
          where
            either : (y : Bool) (answer : List ℕ) → cond y (answered t.at t.size answer m) m ≡ written t (cond y (says answer) silent) m
            either true answer = refl
            either false answer = refl

      module _ {k : OutsideTag} {n : ℕ} (e : q ≡ Ask.Outside k n) where
        of_outside : WithRequest (Kind.Outside k) n (request_of m t)
        of_outside = outside_asked (request_of m t) (sym e ∙ asked)

        pub outside_part : (t.at + tag_header + n ≤ largest) × (t.at + tag_header + n ≤ length m)
        outside_part = part_fits (part_is of_outside).0

        pub serve_outside : {answer : List ℕ} {b' : Board} → Serves k (lent_part n) b answer b' → {m' : List ℕ} → m' ≡ answered t.at t.size answer m
            → Ahead g m₀ size b₀ m' b' o next
        serve_outside v em =
            let er = of_outside.is ∙ ap (asks (Kind.Outside k)) (sym (part_is of_outside).1) in
            serve_on er (comes_outside g b o v) em
