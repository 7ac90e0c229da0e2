-- Thin functions over a record that is lent: such a function copies the record out, calls a function on it by value, and stores the record that came back.
-- No line depends on the record's fields. All that is known of the function called is that it meets its contract.
use mathlib.Core.Path.{◌≡◌, refl, sym, ap, subst}
use mathlib.Core.Option.{some as somewhere}
use Prim.Native.Nat.{ℕ, zero, ◌+◌}
use mathlib.Core.List.{List, [], ◌∷◌}
use lib.ListN.{length}
use lib.Dec.{T}
use seplogic.Ra.Ura.{Ura}
use base.Fraction.{full_share}
use mir.Syntax.{Callee, Width, Ty, Place, Body, Opd as Operand, Fn, named, erased, mut, unsigned, w8, w32, w64, ty_int, ty_ref, local, value_local}
use mir.Syntax.{place, field, deref, copy, rv_opd, op1, cast, addr_of, aggregate, seq, assign, call, return}
use mir.Val.{Val, vint, of_list, has_ty, WT, Fits}
use mir.Fields.{get_v}
use base.Logic.{ent, emp, id⊢}
use base.Fml.{Lft, Share, Fml, ftrue, fsep, flft, fobs, fauth, fbor, fobor, fat, fdies}
use prog.Memory.{field_at}
use prog.Model.{Model}
use prog.Routine.{Routine, Env as Routines}
use prog.Wp.{Env, Spot, spot_of, Calls, Loops, WpFn, Closed}
use types.Logic.{Logic}
use contract.Lifetimes.{Lfts}
use contract.Monad.{fact}
use contract.Running.{Running, tables, tables_of}
use types.Kit.{Item, Goal, Soaks, Post, Seq, Step, step, runs, lands, frees, nth, ‵, raw, some, later, ◌⊛◌, ◌$◌, ◌∵◌, !, qed, move, keep, drop}
use types.Kit.{use0, use1, split, split3, group, join, pick, rewrite, fsplit, fsplit3, fjoin, fjoin3, feq_l, feq_i, regoal, suffices, await, done}
use types.Run.{Opd, Opds, Walks as Reaches, look, init, store, forget, stop, hop, fld, from, load, addr, of_opd, un, and_then, no_more, assigns, land, returns}
use types.Run.{enter, alloc1, alloc0, params1, pass1, pass0, free1, free0}
use types.Part.{Part, agg, whole, sub, look_in}
use types.SemTy.{Arr, Body as Borrowed}
use types.Hole.{Holey}
use sound.WpLaws.{FmC, fm_of, WpFn-mono}
use denote.RattleType.{RattleType, flat, mirs}
use denote.Laws.{Is, Tells, Makes, valss, shows}
use denote.Memory.{mem, cell_at, pointee}
use denote.Plain.{UInt, uint_Tells, uint_Lawful, uint_Makes}
use denote.Builtin.{u8, u32}
use denote.Ref.{MutBor, MutRef, at_last, mut_vals, mut_Tells}
use denote.Slice.{slice_ty, slice_val, MutSlice, Room, finally, mut_slice_vals, mut_slice_Tells}
use denote.Signature.{Slot, plain, mut_ref_to, mut_slice_of}
use denote.Steps.{only, opens, closes, owned, facts, heard, nothing}
use denote.Struct.Struct.{to_tys, layout, Plains}
use denote.Struct.Steps.{spelt}
use denote.Struct.Declared.{Declared, fields, shape, row}
use denote.Struct.Laws as LL
use denote.Exit.{yes, Last}
use denote.Triple.Entry.{Args}
use denote.Triple.Spec.{triple_of}
use denote.Triple.Statement.{Contract, Triple}
use denote.Triple.Call.{calls_at}
use denote.Triple.Clauses.{Ended, Clauses, closing, lasts, at_exit}
use denote.Triple.Table.{entered, cited}
use denote.Triple.Walked.{Stays, AllGo, Walks, stay_ref, gave_slice, walk_of, Goes-ref, Goes-gave_slice, ends_at, walked, walk_Meets}

-- ---- plain data of one machine value: a number, or a struct of plain data
pub record Datum : Type 2 where
  pub row : RattleType
  pub ty : Ty
  pub one : row.mir ≡ ty ∷ []
  pub val : row.Denot → Val
  pub tells : Tells row (Is row) (λ x. val x ∷ [])
  pub typed : {M : Type 1} {𝓤 : Ura M} (𝓛 : Logic 𝓤) → (x : row.Denot) (v : Val) → Is row x (v ∷ []) → T (has_ty ty v) × WT v
  pub makes : {M : Type 1} {𝓤 : Ura M} (𝓛 : Logic 𝓤) → Makes 𝓛 row (Is row)

abbrev pub of_struct : (S : Declared) → LL.Laws S → Plains (fields S) → Datum
of_struct S L P = record {
  row = row S;
  ty = layout (shape S);
  one = refl;
  val = LL.val S L;
  tells = LL.tells S L;
  typed = λ 𝓛 x v is. ((LL.lawful S L 𝓛).typed x _ is).0;
  makes = λ 𝓛. LL.makes S P 𝓛;
}

abbrev pub of_width : Width → Datum
of_width w = record {
  row = UInt w;
  ty = ty_int w;
  one = refl;
  val = vint w;
  tells = uint_Tells w;
  typed = λ 𝓛 x v is. ((uint_Lawful 𝓛 w).typed x _ is).0;
  makes = λ 𝓛. uint_Makes 𝓛 w;
}

-- a member of a struct: what it is, its number and its offset
pub record Member (S : Declared) (L : LL.Laws S) (D : Datum) : Type 2 where
  pub of : S.D → D.row.Denot
  pub number : ℕ
  pub offset : ℕ
  pub lies : field_at zero (to_tys (mirs (fields S))) number ≡ somewhere (D.ty, offset)
  pub value : (r : S.D) → get_v (of_list (flat (fields S) (valss (fields S) (LL.spells S.parts L) (S.to r)))) number ≡ D.val (of r)
  pub is : (r : S.D) (v : Val) → Is (row S) r (v ∷ []) → Is D.row (of r) (D.val (of r) ∷ [])

-- what a reference points to, and what is left of its borrow while that is open
module _ {M : Type 1} {𝓤 : Ura M} (D : Datum) (x : MutBor D.row.Denot) where
  abbrev pub Cell : Val → Item 𝓤
  Cell v = ‵ (fat full_share D.ty x.ref_ptr.0 x.ref_ptr.1 v)

  abbrev pub Held-open : Lft → Share → Item 𝓤
  Held-open κ q =
      ‵ (fobor κ q (Borrowed (mem D.row) x.ref_ptr.0 x.ref_ptr.1 x.ghost_name)) ⊛ ‵ (fobs x.ghost_name (D.row.coded.code x.now))
      ⊛ ‵ (fauth x.ghost_name (D.row.coded.code x.now))

module _ {M : Type 1} {𝓤 : Ura M} {𝓛 : Logic 𝓤} {K : Type 0} {Γ : List (Item 𝓤)} where
  -- a `&mut` with its token is opened, and closed at another value, which lies there by then
  open 𝓛 use {H}

  module _ {G : Goal 𝓤 H} (t : K) (z : Soaks G) (D : Datum) {κ : Lft} {q : Share} (x : MutBor D.row.Denot) where
    pub opens_datum : {vs : List Val} → (Is D.row x.now (D.val x.now ∷ []) → Seq K 𝓛 (Cell D x (D.val x.now) ∷ Held-open D x κ q ∷ Γ) G)
        → Seq K 𝓛 (‵ ((MutRef erased κ D.row).own_val x vs) ∷ ‵ (flft κ q) ∷ Γ) G
    opens_datum k =
        fsplit3 t $ drop t $ opens t z D.row x.ref_ptr.0 x.ref_ptr.1 (λ us.
        spelt t D.row (Is D.row) (shows 𝓛 D.row) (λ y. D.val y ∷ []) D.tells full_share x.now us x.ref_ptr.0 x.ref_ptr.1 $
        rewrite t 0 (λ (τs : List Ty). ‵ (cell_at full_share τs (D.val x.now ∷ []) x.ref_ptr.0 x.ref_ptr.1)) D.one refl $
        use1 𝓛 (Cell D x (D.val x.now)) (𝓛.laws.raw_at full_share D.ty x.ref_ptr.0 x.ref_ptr.1 (D.val x.now)) $
        move t (2 ∷ 3 ∷ 4 ∷ []) $ group t 3 $ move t (2 ∷ []) $
        facts t D.row (Is D.row) (shows 𝓛 D.row) x.now (D.val x.now ∷ []) (λ is. move t (1 ∷ 0 ∷ []) $ k is))

    pub closes_datum : (y : D.row.Denot) (v : Val) → Is D.row y (v ∷ [])
        → Step K 𝓛 (‵ ((MutRef erased κ D.row).own_val (at_last x y) (mut_vals x)) ∷ ‵ (flft κ q) ∷ Γ) G (Cell D x v ∷ Held-open D x κ q ∷ Γ) G
    closes_datum y v is = step (λ s.
        use1 𝓛 (‵ (cell_at full_share (D.ty ∷ []) (v ∷ []) x.ref_ptr.0 x.ref_ptr.1)) (𝓛.laws.at_raw full_share D.ty x.ref_ptr.0 x.ref_ptr.1 v) $
        rewrite t 0 (λ (τs : List Ty). ‵ (cell_at full_share τs (v ∷ []) x.ref_ptr.0 x.ref_ptr.1)) (sym D.one) refl $ move t (1 ∷ []) $ split3 t $
        owned t D.row (Is D.row) (D.makes 𝓛) y (v ∷ []) is $ move t (4 ∷ 0 ∷ []) $
        closes t z D.row y (v ∷ []) x.ref_ptr.0 x.ref_ptr.1 $ feq_i t (List Val) (mut_vals x) (mut_vals x) refl $ fjoin3 t $ s)

  -- a member of the struct r, which the local i holds: it stands at entry n
  pub member : K → {S : Declared} {L : LL.Laws S} {D : Datum} (F : Member S L D) (n : ℕ) (r : S.D) {E : Env 𝓤 H} {i l : ℕ}
      → spot_of 𝓤 H E i ≡ (layout (shape S), l, zero) → nth 𝓛 n Γ ≡ ‵ (fat full_share (layout (shape S)) l zero (LL.val S L r))
      → Opd K 𝓛 Γ E (copy (place i (field F.number ∷ []))) (D.val (F.of r))
  member t {S} {L} {D} F n r {E} {i} {l} spot entry =
      subst (λ (v : Val). Opd K 𝓛 Γ E (copy (place i (field F.number ∷ []))) v) (F.value r) (load t
      (from t (subst (λ (sp : Spot 𝓤 H). Reaches K 𝓛 Γ E sp (field F.number ∷ []) (D.ty, l, zero + F.offset)) (sym spot)
      (fld t {τ = D.ty} {d = F.offset} F.lies (stop t)))) (look_in t n (sub t F.number {τ = D.ty} {d = F.offset} F.lies (subst
      (λ (j : Item 𝓤). Part K 𝓛 j full_share (layout (shape S)) l zero (LL.val S L r) (λ u. ‵ (fat full_share (layout (shape S)) l zero u)))
      (sym entry) (whole t)))))

  -- a local is freed, whatever it holds
  pub frees_held : K → {τ : Ty} {l : ℕ} {v : Val} {E : Env 𝓤 H} {G : Goal 𝓤 H}
      → Step K 𝓛 Γ (frees E G) (‵ (fat full_share τ l zero v) ∷ ‵ (fdies τ l) ∷ Γ) (frees ((τ, l) ∷ E) G)
  frees_held t = step (λ s. forget t 0 refl $ free1 t $ s)

-- ---- from a walk of its code to the contract of the function k, which calls the function g
module _ {M : Type 1} {𝓤 : Ura M} (𝓛 : Logic 𝓤) (𝓜 : Model 𝓤 𝓛.H) (𝓡 : Running 𝓤 𝓛.H 𝓜) (γ : Routines) where
  open 𝓛 use {H}

  pub caller_keeps : (k : Callee) (code : Fn) → Closed 𝓤 H (tables 𝓤 H 𝓜 𝓡 γ).C (tables 𝓤 H 𝓜 𝓡 γ).Λ k code
      → (g : Callee) (routine : Routine) → γ g ≡ routine → (told : Contract 𝓤) → Triple 𝓤 (𝓡.run routine) told
      → (T : Ended) (hs : Stays T.signature.params T.kept) → AllGo 𝓛 T.signature.lifetimes T.signature.params T.kept hs
      → (c : Clauses 𝓤 T) → ((C : Calls 𝓤 H) (Λ : Loops 𝓤 H) → FmC 𝓤 H 𝓛.laws C → Triple 𝓤 (C g) told → Walks 𝓛 T hs (WpFn 𝓤 H C Λ code) c)
      → Triple 𝓤 ((tables 𝓤 H 𝓜 𝓡 γ).C k) (triple_of 𝓛 T.signature (closing 𝓛 T c))
  unfolding tables_of
  caller_keeps k code closed g routine is told known T hs gs c walks =
      let 𝓣 = tables_of 𝓤 H 𝓜 (tables 𝓤 H 𝓜 𝓡 γ) in
      entered 𝓤 H (triple_of 𝓛 T.signature (closing 𝓛 T c)) 𝓣.C 𝓣.Λ k code closed
      (walk_Meets 𝓛 T hs gs c (WpFn 𝓤 H 𝓣.C 𝓣.Λ code) (WpFn-mono 𝓤 H 𝓛.laws 𝓣 code)
      (walks 𝓣.C 𝓣.Λ (fm_of 𝓤 H 𝓛.laws 𝓣) (cited 𝓤 H told 𝓜 𝓡 γ g routine is known)))

-- what is left of lent bytes that were given up, once they are zs
abbrev pub given_up : Lft → MutBor (List ℕ) → List ℕ → Fml
given_up κ y zs =
    fsep (finally u8 y.ghost_name zs) (fbor κ (Borrowed (Arr (Holey (mem u8)) (length y.now)) y.ref_ptr.0 y.ref_ptr.1 y.ghost_name))

-- a parameter or a result of plain data
abbrev pub slot : {n : ℕ} → RattleType → Slot n
slot R = plain (λ _. R)

-- ---- a function that takes a record of the type B and lent bytes by value, and returns a struct: φ is what it promises
module _ (B : Datum) (S : Declared) (L : LL.Laws S) (φ : B.row.Denot → List ℕ → S.D → List ℕ → Type 0) where
  abbrev by_value : Ended
  by_value = record {
    signature = record { lifetimes = 1; outlives = []; params = slot B.row ∷ mut_slice_of (0 ∷ []) tt (slot u8) ∷ []; result = slot (row S) };
    kept = (yes, (yes, tt));
  }

  module _ {M : Type 1} {𝓤 : Ura M} (𝓛 : Logic 𝓤) where
    abbrev pub Value : Contract 𝓤
    Value = triple_of 𝓛 by_value.signature (closing 𝓛 by_value (λ κs a.
        record { ghost = Unit; requires = λ _. emp 𝓤; ensures = λ _ r e. fact 𝓤 (φ a.0 a.1.0.now r e.1.0.now) }))

    -- what the contract binds outside: the record h, and the bytes y, which are lent for κ
    abbrev pub handed : Lft → Share → B.row.Denot → MutBor (List ℕ) → Val → Value.Ghost
    handed κ q h y s = (((κ, tt), (q, tt), tt, (h, (y, tt)), (B.val h ∷ [], (s ∷ [], tt))), tt)

  module _ {M : Type 1} {𝓤 : Ura M} {𝓛 : Logic 𝓤} {K : Type 0} {Γ : List (Item 𝓤)} {E : Env 𝓤 𝓛.H} {C : Calls 𝓤 𝓛.H} where
    -- a call, with the bytes' token and reference at the head: once it has returned the struct r, the bytes are zs
    open 𝓛 use {H}

    pub calls_value : K → FmC 𝓤 H 𝓛.laws C → {g : Callee} → Triple 𝓤 (C g) (Value 𝓛) → {κ : Lft} {q : Share} (h : B.row.Denot) (y : MutBor (List ℕ))
        → (s : Val) {Λ : Loops 𝓤 H} {end : Post 𝓤 H} {xs : List Operand} {to : Place} {rest : Body}
        → Is B.row h (B.val h ∷ []) → Opds K 𝓛 (raw ((Value 𝓛).pre (handed 𝓛 κ q h y s)) ∷ Γ) E xs (B.val h ∷ s ∷ [])
        → ((r : S.D) (zs : List ℕ) → φ h y.now r zs → length zs ≡ length y.now → Is (row S) r (LL.val S L r ∷ [])
        → Seq K 𝓛 (‵ (given_up κ y zs) ∷ ‵ (flft κ q) ∷ Γ) (lands C Λ E to (LL.val S L r) rest end))
        → Seq K 𝓛 (‵ (flft κ q) ∷ ‵ ((MutSlice erased κ u8).own_val y (s ∷ [])) ∷ Γ) (runs C Λ E (seq (call g xs to) rest) end)
    calls_value t fm known {κ} {q} h y s {Λ} {end} {xs} {to} {rest} is reads k =
        owned t B.row (Is B.row) (B.makes 𝓛) h (B.val h ∷ []) is $ nothing t $ nothing t $ nothing t $
        move t (4 ∷ 0 ∷ []) $ join t $ move t (3 ∷ 4 ∷ 1 ∷ []) $ group t 3 $ move t (1 ∷ 0 ∷ []) $ join t $ join t $
        use1 𝓛 (raw ((Value 𝓛).pre (handed 𝓛 κ q h y s))) (id⊢ 𝓤 _) $ calls_at t fm (Value 𝓛) known (handed 𝓛 κ q h y s) reads (λ w.
        use1 𝓛 (later (some (λ (r : S.D). ((‵ (flft κ q) ⊛ ‵ ftrue) ⊛ ‵ ((row S).own_val r (w ∷ []))) ⊛
        some (λ (zs : Last (B.row.exit yes) h × (List ℕ × Unit)). ‵ (lasts by_value (κ, tt) (h, (y, tt)) zs) ⊛ raw (fact 𝓤 (φ h y.now r zs.1.0))))))
        (id⊢ 𝓤 _) $ await t tt $ pick t (λ r. split t $ move t (1 ∷ []) $ pick t (λ zs. split t $ move t (1 ∷ []) $ heard t (φ h y.now r zs.1.0) (λ p.
        -- [what is said of the parameters; the token and the result; …]
        fsplit t $ drop t $ fsplit t $ fsplit t $ fsplit t $ move t (1 ∷ []) $ feq_l t (λ l. fjoin t $
        move t (2 ∷ []) $ split t $ split t $ move t (2 ∷ []) $
        facts t (row S) (Is (row S)) (shows 𝓛 (row S)) r (w ∷ []) (λ came. let same = LL.tells S L r (w ∷ []) came in
        regoal t (λ (v : Val). lands C Λ E to v rest end) (ap only same) refl $ move t (1 ∷ 3 ∷ 2 ∷ 0 ∷ []) $ drop t $ drop t $
        k r zs.1.0 p l (subst (Is (row S) r) same came)))))))

-- ---- the law, of this code over the function g, which promises φ
--     let before = *record;  let result = g(before, bytes);  *record = result.RETURNED;  *place = result.POSITION as u32;  result.OUTCOME
module _ (B : Datum) (S : Declared) (L : LL.Laws S) (returned : Member S L B) (position : Member S L (of_width w64)) (outcome : Member S L (of_width w32))
    (φ : B.row.Denot → List ℕ → S.D → List ℕ → Type 0)
    (fits : (h : B.row.Denot) (ys : List ℕ) (r : S.D) (zs : List ℕ) → φ h ys r zs → Fits w32 (position.of r)) (g : Callee) where
  abbrev code : Fn
  code = record {
    lifetimes = 3;
    outlives = [];
    ty_params = [];
    givens = 0;
    params = 3;
    locals = local (ty_int w32) value_local ∷ local (ty_ref (named 0) mut (pointee B.row.written)) value_local ∷
        local (slice_ty (ty_ref (named 1) mut (ty_int w8))) value_local ∷ local (ty_ref (named 2) mut (ty_int w32)) value_local ∷ local B.ty value_local ∷
        local (layout (shape S)) value_local ∷ local (ty_ref erased mut (ty_int w8)) value_local ∷
        local (slice_ty (ty_ref erased mut (ty_int w8))) value_local ∷ local B.ty value_local ∷ local (ty_int w32) value_local ∷ [];
    body = seq (assign (place 4 []) (rv_opd (copy (place 1 (deref B.ty ∷ [])))))
        (seq (assign (place 6 []) (addr_of (place 2 (field 0 ∷ deref (ty_int w8) ∷ []))))
        (seq (assign (place 7 []) (aggregate (copy (place 6 []) ∷ copy (place 2 (field 1 ∷ [])) ∷ [])))
        (seq (call g (copy (place 4 []) ∷ copy (place 7 []) ∷ []) (place 5 []))
        (seq (assign (place 8 []) (rv_opd (copy (place 5 (field returned.number ∷ [])))))
        (seq (assign (place 1 (deref B.ty ∷ [])) (rv_opd (copy (place 8 []))))
        (seq (assign (place 9 []) (op1 (cast unsigned unsigned w32) (copy (place 5 (field position.number ∷ [])))))
        (seq (assign (place 3 (deref (ty_int w32) ∷ [])) (rv_opd (copy (place 9 []))))
        (seq (assign (place 0 []) (rv_opd (copy (place 5 (field outcome.number ∷ []))))) return))))))));
  }

  abbrev on_loan : Ended
  on_loan = record {
    signature = record {
      lifetimes = 3;
      outlives = [];
      params = mut_ref_to (0 ∷ []) tt (slot B.row) ∷ mut_slice_of (1 ∷ []) tt (slot u8) ∷ mut_ref_to (2 ∷ []) tt (slot u32) ∷ [];
      result = slot u32;
    };
    kept = (yes, (yes, (yes, tt)));
  }

  abbrev stayed : Stays on_loan.signature.params on_loan.kept
  stayed = (stay_ref (0 ∷ []) tt (slot B.row), (gave_slice (1 ∷ []) tt (slot u8), (stay_ref (2 ∷ []) tt (slot u32), tt)))

  -- what the thin function promises follows from what g promised
  abbrev Promised : {M : Type 1} (𝓤 : Ura M) → Clauses 𝓤 on_loan → Type 1
  Promised 𝓤 c =
      (κs : Lfts 3) (a : Args on_loan.signature κs) (i : (c κs a).ghost) (r : S.D) (zs : List ℕ) → φ a.0.now a.1.0.now r zs
      → ent 𝓤 (emp 𝓤) ((c κs a).ensures i (outcome.of r) (at_exit on_loan κs a (returned.of r, (zs, (position.of r, tt)))))

  module _ {M : Type 1} {𝓤 : Ura M} (𝓛 : Logic 𝓤) (C : Calls 𝓤 𝓛.H) (Λ : Loops 𝓤 𝓛.H) (fm : FmC 𝓤 𝓛.H 𝓛.laws C)
      (known : Triple 𝓤 (C g) (Value B S L φ 𝓛)) (c : Clauses 𝓤 on_loan) (so : Promised 𝓤 c) where
    open 𝓛 use {H}

    abbrev Way : Contract 𝓤
    Way = walk_of 𝓛 on_loan stayed c

    module _ (κ κ' κ'' : Lft) (q q' q'' : Share) (x : MutBor B.row.Denot) (y : MutBor (List ℕ)) (z : MutBor ℕ)
        (i : (c (κ, (κ', (κ'', tt))) (x, (y, (z, tt)))).ghost) (room : Room u8 (length y.now)) where
      abbrev bound : Way.Ghost
      bound = (((κ, (κ', (κ'', tt))), (q, (q', (q'', tt))), tt, (x, (y, (z, tt))), (mut_vals x, (mut_slice_vals y, (mut_vals z, tt)))), i)

      code_walk : ent 𝓤 (Way.pre bound) (WpFn 𝓤 H C Λ code (Way.args bound) (Way.post bound))
      code_walk =
          qed 𝓛 (((‵ (flft κ q) ⊛ ‵ (flft κ' q') ⊛ ‵ (flft κ'' q'') ⊛ ‵ ftrue) ⊛ ‵ ((MutRef erased κ B.row).own_val x (mut_vals x))
          ⊛ ‵ ((MutSlice erased κ' u8).own_val y (mut_slice_vals y)) ⊛ ‵ ((MutRef erased κ'' u32).own_val z (mut_vals z)) ⊛ ‵ ftrue)
          ∷ raw ((c bound.0.0 bound.0.3).requires i) ∷ []) ∵ split ! $ split3 ! $ move ! (3 ∷ []) $ split3 ! $ move ! (2 ∷ []) $ split ! $
          move ! (6 ∷ []) $ split ! $ keep ! (4 ∷ 6 ∷ 5 ∷ 7 ∷ 2 ∷ 0 ∷ []) $ enter ! C Λ code (Way.args bound) (Way.post bound) $ alloc1 ! (λ l₀.
          alloc1 ! (λ l₁. alloc1 ! (λ l₂. alloc1 ! (λ l₃. alloc1 ! (λ l₄. alloc1 ! (λ l₅. alloc1 ! (λ l₆. alloc1 ! (λ l₇. alloc1 ! (λ l₈. alloc1 ! (λ l₉.
          alloc0 ! $ params1 ! $ pass1 ! (init ! 16 refl (tt, tt)) $ pass1 ! (init ! 14 refl (tt, (tt, (record { fits = room.0 }, tt)))) $
          -- [_9; …; _0; …; the record's reference; its token; the bytes' reference; its token; the place's; its token]
          pass1 ! (init ! 12 refl (tt, tt)) $ pass0 ! $ move ! (20 ∷ 21 ∷ []) $ opens_datum ! tt B x (λ is.
          -- [the record; its open borrow; _9; …; _0; …; the bytes' reference; its token; the place's; its token]
          assigns ! (of_opd ! (load ! (from ! (hop ! (look ! 18 refl) (stop !))) (look ! 0 refl))) (from ! (stop !)) (init ! 12 refl
          (B.typed 𝓛 x.now _ is)) $
          assigns ! (addr ! (from ! (fld ! refl (hop ! (look_in ! 16 (sub ! 0 refl (whole !))) (stop !))))) (from ! (stop !)) (init ! 8 refl (tt, tt)) $
          assigns ! (agg ! (and_then ! (load ! (from ! (stop !)) (look ! 8 refl)) (and_then ! (load ! (from ! (fld ! refl (stop !)))
          (look_in ! 16 (sub ! 1 refl (whole !)))) (no_more !)))) (from ! (stop !)) (init ! 6 refl (tt, (tt, (record { fits = room.0 }, tt)))) $
          move ! (23 ∷ 22 ∷ []) $ calls_value B S L φ ! fm known x.now y (slice_val y.ref_ptr (length y.now)) is
          (and_then ! (load ! (from ! (stop !)) (look ! 13 refl)) (and_then ! (load ! (from ! (stop !)) (look ! 7 refl)) (no_more !))) (λ r zs p l came.
          -- [the last bytes; their token; the record; its open borrow; _9; …; _0; …; the place's reference; its token]
          land ! (from ! (stop !)) (init ! 12 refl ((LL.lawful S L 𝓛).typed r _ came).0) $
          assigns ! (of_opd ! (member ! returned 12 r refl refl)) (from ! (stop !)) (init ! 6 refl
          (B.typed 𝓛 (returned.of r) _ (returned.is r _ came))) $
          assigns ! (of_opd ! (load ! (from ! (stop !)) (look ! 6 refl))) (from ! (hop ! (look ! 20 refl) (stop !))) (store ! 2 refl
          (B.typed 𝓛 (returned.of r) _ (returned.is r _ came))) $ move ! (2 ∷ 3 ∷ []) $
          closes_datum ! tt B x (returned.of r) _ (returned.is r _ came) $ move ! (24 ∷ 25 ∷ []) $ opens_datum ! tt (of_width w32) z (λ _.
          -- [the place; its open borrow; the record's reference; its token; the last bytes; their token; _9; …; _0; …]
          assigns ! (un ! (member ! position 14 r refl refl) (fits _ _ _ _ p)) (from ! (stop !)) (init ! 6 refl (tt, fits _ _ _ _ p)) $
          assigns ! (of_opd ! (load ! (from ! (stop !)) (look ! 6 refl))) (from ! (hop ! (look ! 18 refl) (stop !))) (store ! 0 refl (tt, fits _ _ _ _ p)) $
          closes_datum ! tt (of_width w32) z (position.of r) _ (refl, (fits _ _ _ _ p).fits) $
          assigns ! (of_opd ! (member ! outcome 14 r refl refl)) (from ! (stop !)) (init ! 24 refl
          ((of_width w32).typed 𝓛 (outcome.of r) _ (outcome.is r _ came))) $ returns ! (look ! 24 refl) $
          move ! (24 ∷ 25 ∷ 22 ∷ 23 ∷ 20 ∷ 21 ∷ 18 ∷ 19 ∷ 16 ∷ 17 ∷ 14 ∷ 15 ∷ 12 ∷ 13 ∷ 10 ∷ 11 ∷ 8 ∷ 9 ∷ 6 ∷ 7 ∷ []) $ frees_held ! $
          frees_held ! $ frees_held ! $ frees_held ! $ frees_held ! $ frees_held ! $ frees_held ! $ frees_held ! $ frees_held ! $ frees_held ! $ free0 ! $
          -- [the place's reference; its token; the record's reference; its token; the last bytes; their token]
          suffices ! _ (ends_at 𝓛 on_loan stayed c bound (vint w32 (outcome.of r)) (outcome.of r) (returned.of r, (zs, (position.of r, tt)))
          (tt, (l, (tt, tt)))) $ use0 𝓛 (raw ((c bound.0.0 bound.0.3).ensures i (outcome.of r)
          (at_exit on_loan bound.0.0 bound.0.3 (returned.of r, (zs, (position.of r, tt)))))) (so bound.0.0 bound.0.3 i r zs p) $
          owned ! u32 (Is u32) (uint_Makes 𝓛 w32) (outcome.of r) _ (outcome.is r _ came) $ nothing ! $ nothing ! $
          move ! (6 ∷ 8 ∷ 4 ∷ 0 ∷ []) $ group ! 4 $ move ! (0 ∷ 2 ∷ []) $ join ! $ move ! (4 ∷ 5 ∷ 3 ∷ 1 ∷ []) $ group ! 4 $ join ! $ done !)))))))))))))

  -- the thin function k keeps its promise where g keeps its own
  pub thin_keeps : {M : Type 1} {𝓤 : Ura M} (𝓛 : Logic 𝓤) (𝓜 : Model 𝓤 𝓛.H) (𝓡 : Running 𝓤 𝓛.H 𝓜) (γ : Routines) (k : Callee)
      → Closed 𝓤 𝓛.H (tables 𝓤 𝓛.H 𝓜 𝓡 γ).C (tables 𝓤 𝓛.H 𝓜 𝓡 γ).Λ k code → (routine : Routine) → γ g ≡ routine
      → Triple 𝓤 (𝓡.run routine) (Value B S L φ 𝓛) → (c : Clauses 𝓤 on_loan) → Promised 𝓤 c
      → Triple 𝓤 ((tables 𝓤 𝓛.H 𝓜 𝓡 γ).C k) (triple_of 𝓛 on_loan.signature (closing 𝓛 on_loan c))
  thin_keeps {𝓤 = 𝓤} 𝓛 𝓜 𝓡 γ k closed routine is known c so =
      caller_keeps 𝓛 𝓜 𝓡 γ k code closed g routine is (Value B S L φ 𝓛) known on_loan stayed
      (Goes-ref 𝓛 3 0 tt (slot B.row), (Goes-gave_slice 𝓛 3 1 tt (slot u8), (Goes-ref 𝓛 3 2 tt (slot u32), tt)))
      c (λ C Λ fm known. walked 𝓛 on_loan stayed c (WpFn 𝓤 𝓛.H C Λ code) (λ κs. (mut_vals, (mut_slice_vals, (mut_vals, tt))))
      (λ κs. (mut_Tells (named 0) κs.0 B.row, (mut_slice_Tells (named 1) κs.1.0 u8, (mut_Tells (named 2) κs.1.1.0 u32, tt))))
      (λ κs qs bounds a i are. code_walk 𝓛 C Λ fm known c so κs.0 κs.1.0 κs.1.1.0 qs.0 qs.1.0 qs.1.1.0
      a.0 a.1.0 a.1.1.0 i are.1.0.0.1))
