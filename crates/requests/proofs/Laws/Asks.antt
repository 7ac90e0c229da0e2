-- What a tag asks, case by case, and its request bytes.
use mathlib.Core.Bool.{Bool, true, false, cond, true≢false}
use mathlib.Core.List.{List}
use mathlib.Core.Path.{◌≡◌, refl, sym, ap, ◌∙◌}
use Prim.Native.Nat.{ℕ, ◌+◌, ◌-◌, ◌≤◌, ◌<◌}
use native.Mathlib.Omega.{arith}
use borrow.Author.Tests.{le-leb, lt-leb, lt-ltb, le-ltb}
use lib.Dec.{ltb}
use lib.ListN.{length, take, drop, length-take, length-drop}
use Rattle.std.proofs.lemmas.List.{take_min}
use lib.Seq.{take-take, length-take-le}
use Rattle.std.proofs.Common.{Option, Some, None}
use Rattle.message.specs.Helpers.{InMessage}
use Rattle.message.specs.Reader.{is_answered}
use Rattle.message.specs.Sizes.{tag_header}
use Rattle.message.specs.declared.walk.Tag.{Tag}
use Rattle.table.specs.Table.{row_of}
use Rattle.table.specs.declared.kinds.FrameTag.{FrameTag}
use Rattle.table.specs.declared.kinds.Kind.{Kind}
use Rattle.table.specs.declared.kinds.OutsideTag.{OutsideTag}
use Rattle.table.specs.declared.rows.Row.{Row}
use Rattle.requests.specs.Ask.{ask_of}
use Rattle.requests.specs.Requests.{Request, passed, short, asks, request_bytes, request_by, request_of, value_of}
use Rattle.requests.specs.declared.ask.Ask.{Ask}

-- request bytes are the first of the value
request_first : (k : Kind) (n size : ℕ) (value : List ℕ) → request_bytes k n size value ≡ take (length (request_bytes k n size value)) value
unfolding request_bytes
request_first k n size value = rw (length-take n value) (sym (take_min n value))

-- a request lies in the value of its tag
pub record InValue (m : List ℕ) (t : Tag) (request : List ℕ) : Type 0 where
  pub fits : length request ≤ t.size
  pub is : take (length request) (drop (t.at + tag_header) m) ≡ request

pub request_within : (m : List ℕ) (t : Tag) {k : Kind} {request : List ℕ} → request_of m t ≡ asks k request → InValue m t request
unfolding request_of request_by
request_within m t {k} {request} e = go (is_answered t) (row_of t.id) e
  where
    here : (k' : Kind) (n : ℕ) → request ≡ request_bytes k' n t.size (value_of m t) → InValue m t request
    here k' n q =
        let begins-value = q ∙ request_first k' n t.size (value_of m t) ∙ ap (λ (x : List ℕ). take (length x) (value_of m t)) (sym q) in
        let of-value = length-take t.size (drop (t.at + tag_header) m) in
        let l : length request ≤ t.size = omega (arith, ap length begins-value, length-take (length request) (value_of m t), of-value) in
        record { fits = l; is = sym (begins-value ∙ take-take (length request) t.size (drop (t.at + tag_header) m) l) }

    sized : (k' : Kind) (n : ℕ) (c : Bool) → cond c short (asks k' (request_bytes k' n t.size (value_of m t))) ≡ asks k request → InValue m t request
    sized k' n true q = absurd (true≢false cc)
    sized k' n false q = let r : request ≡ request_bytes k' n t.size (value_of m t) = cc in here k' n r

    go : (c : Bool) (row : Option Row) → request_by c row t.size (value_of m t) ≡ asks k request → InValue m t request
    go true row q = absurd (true≢false cc)
    go false None q = absurd (true≢false cc)
    go false (Some row) q = sized row.kind row.request (ltb t.size row.request) q

-- ---- what the tag at hand asks
module _ (m : List ℕ) (t : Tag) where
  pub ask_response : 0x8000_0000 ≤ t.word → Ask.Pass ≡ ask_of (request_of m t)
  unfolding request_of request_by ask_of
  ask_response h = rw (le-leb 0x8000_0000 t.word h)

  -- whatever its tag word is
  pub ask_unknown : {found : Option Row} → found ≡ row_of t.id → found ≡ None → Ask.Pass ≡ ask_of (request_of m t)
  unfolding request_of request_by ask_of
  ask_unknown er e = rw (← er, e) (of_word (is_answered t))
    where
      of_word : (answered : Bool) → Ask.Pass ≡ ask_of (request_by answered None t.size (value_of m t))
      of_word true = refl
      of_word false = refl

  module _ (h : t.word < 0x8000_0000) {found : Option Row} (er : found ≡ row_of t.id) {row : Row} (e : found ≡ Some row) where
    request_is : request_of m t ≡ request_by false (Some row) t.size (value_of m t)
    unfolding request_of
    request_is = rw (lt-leb 0x8000_0000 t.word h, ← er, e)

    pub ask_short : t.size < row.request → Ask.Short ≡ ask_of (request_of m t)
    unfolding request_by ask_of
    ask_short l = rw (request_is, lt-ltb t.size row.request l)

    -- the value as it is lent, and the length of its request
    abbrev lent_value : List ℕ
    lent_value = take (t.at + tag_header + t.size - (t.at + tag_header)) (drop (t.at + tag_header) m)

    module _ (l : row.request ≤ t.size) (i : InMessage (length m) t.at t.size) {count : ℕ}
        (ec : count ≡ length (request_bytes row.kind row.request (length lent_value) lent_value)) where
      abbrev request : List ℕ
      request = request_bytes row.kind row.request t.size (value_of m t)

      asks_known : request_of m t ≡ asks row.kind request
      unfolding request_by
      asks_known = rw (request_is, le-ltb t.size row.request l)

      count_is : count ≡ length request
      count_is =
          let z : t.at + tag_header + t.size - (t.at + tag_header) ≡ t.size = omega arith in
          let v : lent_value ≡ value_of m t = ap (λ (n : ℕ). take n (drop (t.at + tag_header) m)) z in
          let h : t.size ≤ length (drop (t.at + tag_header) m) = omega (arith, length-drop (t.at + tag_header) m, i.within) in
          let n : length (value_of m t) ≡ t.size = length-take-le t.size (drop (t.at + tag_header) m) h in
          ec ∙ ap (λ (x : List ℕ). length (request_bytes row.kind row.request (length x) x)) v
          ∙ ap (λ (x : ℕ). length (request_bytes row.kind row.request x (value_of m t))) n

      pub ask_outside : {k : OutsideTag} → row.kind ≡ Kind.Outside k → Ask.Outside k count ≡ ask_of (request_of m t)
      unfolding ask_of
      ask_outside {k} ek = ap (Ask.Outside k) count_is ∙ ap (λ (x : Kind). ask_of (asks x request)) (sym ek) ∙ ap ask_of (sym asks_known)

      pub ask_group : {k : FrameTag} → row.kind ≡ Kind.Group k → Ask.Group k count ≡ ask_of (request_of m t)
      unfolding ask_of
      ask_group {k} ek = ap (Ask.Group k) count_is ∙ ap (λ (x : Kind). ask_of (asks x request)) (sym ek) ∙ ap ask_of (sym asks_known)

-- ---- what is asked, from what the code has of it: the kind, and how many bytes the request has
pub record WithRequest (k : Kind) (n : ℕ) (r : Request) : Type 0 where
  pub request : List ℕ
  pub is : r ≡ asks k request
  pub count : n ≡ length request

pub pass_asked : (r : Request) → Ask.Pass ≡ ask_of r → r ≡ passed
unfolding ask_of
pass_asked passed e = refl
pass_asked short e = cc
pass_asked (asks (Kind.Outside t) request) e = cc
pass_asked (asks (Kind.Group t) request) e = cc

pub short_asked : (r : Request) → Ask.Short ≡ ask_of r → r ≡ short
unfolding ask_of
short_asked passed e = cc
short_asked short e = refl
short_asked (asks (Kind.Outside t) request) e = cc
short_asked (asks (Kind.Group t) request) e = cc

pub outside_asked : (r : Request) {k : OutsideTag} {n : ℕ} → Ask.Outside k n ≡ ask_of r → WithRequest (Kind.Outside k) n r
unfolding ask_of
outside_asked passed e = absurd (true≢false cc)
outside_asked short e = absurd (true≢false cc)
outside_asked (asks (Kind.Outside t) request) {k} {n} e =
    let ek : k ≡ t = cc in
    record { request = request; is = ap (λ (x : OutsideTag). asks (Kind.Outside x) request) (sym ek); count = cc }
outside_asked (asks (Kind.Group t) request) e = absurd (true≢false cc)

pub group_asked : (r : Request) {k : FrameTag} {n : ℕ} → Ask.Group k n ≡ ask_of r → WithRequest (Kind.Group k) n r
unfolding ask_of
group_asked passed e = absurd (true≢false cc)
group_asked short e = absurd (true≢false cc)
group_asked (asks (Kind.Outside t) request) e = absurd (true≢false cc)
group_asked (asks (Kind.Group t) request) {k} {n} e =
    let ek : k ≡ t = cc in
    record { request = request; is = ap (λ (x : FrameTag). asks (Kind.Group x) request) (sym ek); count = cc }
