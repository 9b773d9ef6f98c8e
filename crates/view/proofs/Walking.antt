-- The steps that all walks of the crate take, whatever function they go through. They are for functions whose parameters end as they were
-- passed, and whose promise is a fact.
-- A walk runs a function's MIR step by step over a list of what is owned. The step that counts is a call: what the callee asks is made from the
-- tokens of the lifetimes and from what the caller can have once more, since a shared slice and a view are Copy; the result then stands there as
-- its machine value, and the callee's promise is a fact from there on (`asks`). At the end every local goes, nothing is kept of the parameters,
-- and the result with its promise is all that is owed (`exits`), which makes the walk a proof of the contract (`proves`).
--     with_number      what a number owns is had for nothing, and joins what stands at the head
--     field_of         out of a struct that is Copy: what a field owns, and the struct is kept
--     goes             a local goes, whatever it holds
--     asks_plain       a call, with what the callee asks at the head. Its promise is learned, and the result is its machine value, written out
--     asks, lent       a call where the callee asks for what the caller can have once more out of F, and for plain data: the caller keeps F
--     exits            how a walk ends: with the result, and the promise
--     proves           a walk of a function's MIR, over the routines that its calls mean, proves that it meets its contract
-- Assumes `Logic`, and of a call that the callee meets its contract.
use mathlib.Core.Path.{◌≡◌, refl, sym, ap, subst}
use Prim.Native.Nat.{ℕ, zero, ◌<◌, ◌^◌}
use mathlib.Core.List.{List, [], ◌∷◌}
use seplogic.Ra.Ura.{Ura}
use base.Fraction.{full_share}
use mir.Syntax.{Callee, Place, Opd as Operand, Body, Fn, Ty, Width, seq, call}
use mir.Val.{Val, vint, vstruct, bits}
use base.Logic.{SProp, ent, sep, emp, via, id⊢, fst∗, snd∗, ex_e, emp∗, mono∗, mono_r, assoc'}
use base.Fml.{Fml, fsep, fat, fdies}
use prog.Model.{Model}
use prog.Routine.{Env as Names}
use prog.Wp.{Env, Calls, Loops, Closed, WpFn, Tables}
use types.Logic.{Logic, sem}
use contract.Lifetimes.{Lfts, Shares, AllOutlive}
use contract.Monad.{fact}
use contract.Running.{Running, tables, tables_of}
use types.Kit.{Item, ‵, raw, ◌⊛◌, some, given, later, Goal, Post, runs, lands, frees, mean, ⋆, nth, del, pull, Seq, Step, step, ◌$◌, ◌∵◌, !, qed, by, move, drop, use0, use1, use2, split, join, learn, pick, fjoin, suffices, frame, await, done}
use types.Run.{Opds}
use sound.WpLaws.{FmC, fm_of, WpFn-mono}
use denote.RattleType.{RattleType, Denots, Valss, flat, owns}
use denote.Laws.{Is, Tells, Are, Ises, Spells, valss, Tellss, shows}
use denote.Plain.{UInt, uint_Makes}
use denote.Signature.{Slot, type_at, types_at}
use denote.Steps.{only, owned, peeks, heard}
use denote.Struct.At.{get_at, spelled}
use denote.Struct.Declared.{Declared, shape}
use denote.Struct.Laws.{Lawss, Copyables, copies}
use denote.Struct.Rest.{all_own, field_own, rest, own_open, own_out}
use denote.Struct.Struct.{Struct, struct_copy}
use denote.Struct.Values.{Values, intos}
use denote.Triple.Statement.{Contract, Triple}
use denote.Triple.Call.{calls_at}
use denote.Triple.End.{Kepts, Fins}
use denote.Triple.Entry.{Args, Res, alive, on_entry}
use denote.Triple.Spec.{triple_of}
use denote.Triple.Table.{entered}
use denote.Triple.Clauses.{Ended, Clauses, Lasts, AtExit, at_exit, lasts, ensured, closing}
use denote.Triple.Walked.{Stays, stay_dropped, fits_of, has_of, walk_of, ends_at, walked, walk_Meets, Silent, AllGo, Goes-dropped}

module _ {M : Type 1} {𝓤 : Ura M} {𝓛 : Logic 𝓤} {K : Type 0} {Γ : List (Item 𝓤)} where
  open 𝓛 use {H}

  pub with_number : K → (w : Width) (n : ℕ) → n < 2 ^ bits w → {P : Fml} {G : Goal 𝓤 H} → Step K 𝓛 (‵ (fsep ((UInt w).own_val n (vint w n ∷ [])) P) ∷ Γ) G (‵ P ∷ Γ) G
  with_number t w n fits = step (λ s. owned t (UInt w) (Is (UInt w)) (uint_Makes 𝓛 w) n (vint w n ∷ []) (refl, fits) $ fjoin t $ s)

  -- entry n is the local's cell, and the next entry frees it
  pub goes : K → (n : ℕ) {τ : Ty} {b : ℕ} {v : Val} {E : Env 𝓤 H} {g : Goal 𝓤 H} → nth 𝓛 n Γ ≡ ‵ (fat full_share τ b zero v) → nth 𝓛 n (del 𝓛 n Γ) ≡ ‵ (fdies τ b)
      → Step K 𝓛 (del 𝓛 n (del 𝓛 n Γ)) (frees E g) Γ (frees ((τ, b) ∷ E) g)
  goes t n {τ} {b} {v} cell dies =
      let rest : SProp 𝓤 = ⋆ 𝓛 (del 𝓛 n (del 𝓛 n Γ)) in
      step (λ s. by t
      (via 𝓤 (sep 𝓤 (H.at full_share τ b zero v) (⋆ 𝓛 (del 𝓛 n Γ))) (subst (λ (j : Item 𝓤). ent 𝓤 (⋆ 𝓛 Γ) (sep 𝓤 (mean 𝓛 j) (⋆ 𝓛 (del 𝓛 n Γ)))) cell (pull 𝓛 n Γ))
      (via 𝓤 (sep 𝓤 (H.room τ b zero) (sep 𝓤 (H.dies τ b) rest)) (mono∗ 𝓤 (𝓛.laws.at_room τ b zero v) (subst (λ (j : Item 𝓤). ent 𝓤 (⋆ 𝓛 (del 𝓛 n Γ)) (sep 𝓤 (mean 𝓛 j) rest)) dies (pull 𝓛 n (del 𝓛 n Γ))))
      (via 𝓤 (sep 𝓤 (sep 𝓤 (H.room τ b zero) (H.dies τ b)) rest) (assoc' 𝓤 (H.room τ b zero) (H.dies τ b) rest) (mono_r 𝓤 (sep 𝓤 (H.room τ b zero) (H.dies τ b)) s.prf)))))

pub field_of : {M : Type 1} {𝓤 : Ura M} (𝓛 : Logic 𝓤) → (N : Declared) (L : Lawss N.parts) → Copyables N.parts → (k : ℕ) (v : Values N.parts) (w : Val)
    → ent 𝓤 (sem 𝓛 ((Struct (shape N)).own_val (intos N.parts v) (w ∷ []))) (sep 𝓤 (sem 𝓛 (field_own N.parts L k (get_at N.parts k v))) (sem 𝓛 ((Struct (shape N)).own_val (intos N.parts v) (w ∷ []))))
field_of 𝓛 N L cs k v w =
    let F : Fml = (Struct (shape N)).own_val (intos N.parts v) (w ∷ []) in
    qed 𝓛 (‵ F ∷ []) ∵ use1 𝓛 (‵ F ⊛ ‵ F) ((struct_copy 𝓛 (shape N) (copies 𝓛 N.parts cs)).twice (intos N.parts v) (w ∷ [])) $ split ! $
    use1 𝓛 (given (w ∷ [] ≡ vstruct (spelled N.parts L v) ∷ []) (‵ (all_own N.parts L v))) (own_open 𝓛 N L v w) $ learn ! (λ _.
    use1 𝓛 (‵ (field_own N.parts L k (get_at N.parts k v)) ⊛ ‵ (rest N.parts L k v)) (own_out 𝓛 N.parts L k v) $ split ! $ move ! (1 ∷ []) $ drop ! $ frame ! $ done !)

-- ---- a call
module _ {M : Type 1} {𝓤 : Ura M} (𝓛 : Logic 𝓤) (T : Ended) (c : Clauses 𝓤 T) where
  -- what a callee promises
  abbrev pub Promise : Contract 𝓤
  Promise = triple_of 𝓛 T.signature (closing 𝓛 T c)

  -- the type of the callee's result
  abbrev pub Result : Promise.Ghost → RattleType
  Result y = type_at T.signature.result y.0.0

  -- the tokens of the lifetimes, which the callee gives back
  abbrev pub Alive : Promise.Ghost → SProp 𝓤
  Alive y = alive 𝓛 T.signature y.0.0 y.0.1

  -- whoever has the tokens and F has what the callee asks, and keeps F
  abbrev pub Asked : Promise.Ghost → Fml → Type 1
  Asked y F = ent 𝓤 (sep 𝓤 (Alive y) (sem 𝓛 F)) (sep 𝓤 (Promise.pre y) (sem 𝓛 F))

module _ {M : Type 1} {𝓤 : Ura M} {𝓛 : Logic 𝓤} {K : Type 0} {Γ : List (Item 𝓤)} {E : Env 𝓤 𝓛.H} {C : Calls 𝓤 𝓛.H} {f : Callee} {xs : List Operand} {Λ : Loops 𝓤 𝓛.H} {q : Post 𝓤 𝓛.H} {d : Place} {rest : Body} where
  open 𝓛 use {H}

  pub asks_plain : K → FmC 𝓤 H 𝓛.laws C → (T : Ended) (c : Clauses 𝓤 T) → Triple 𝓤 (C f) (Promise 𝓛 T c) → (y : (Promise 𝓛 T c).Ghost) (val : (Result 𝓛 T c y).Denot → Val) (φ : (Result 𝓛 T c y).Denot → Type 0)
      → Tells (Result 𝓛 T c y) (Is (Result 𝓛 T c y)) (λ r. val r ∷ []) → ((r : (Result 𝓛 T c y).Denot) (e : AtExit T y.0.0) → ent 𝓤 ((c y.0.0 y.0.3).ensures y.1 r e) (fact 𝓤 (φ r)))
      → Opds K 𝓛 (raw ((Promise 𝓛 T c).pre y) ∷ Γ) E xs ((Promise 𝓛 T c).args y)
      → ((r : (Result 𝓛 T c y).Denot) → φ r → Is (Result 𝓛 T c y) r (val r ∷ []) → Seq K 𝓛 (‵ ((Result 𝓛 T c y).own_val r (val r ∷ [])) ∷ raw (Alive 𝓛 T c y) ∷ Γ) (lands C Λ E d (val r) rest q))
      → Seq K 𝓛 (raw ((Promise 𝓛 T c).pre y) ∷ Γ) (runs C Λ E (seq (call f xs d) rest) q)
  asks_plain t fm T c known y val φ tells says os k =
      let R : RattleType = Result 𝓛 T c y in
      calls_at t fm (Promise 𝓛 T c) known y os (λ u.
      use1 𝓛 (later (some (λ (r : R.Denot). (raw (Alive 𝓛 T c y) ⊛ ‵ (R.own_val r (u ∷ []))) ⊛ raw (ensured 𝓛 T c y.0.0 y.0.3 y.1 r)))) (id⊢ 𝓤 _) $ await t tt $ pick t (λ r.
      split t $ move t (1 ∷ []) $ use1 𝓛 (raw (fact 𝓤 (φ r))) (ex_e 𝓤 _ (λ ws. via 𝓤 _ (snd∗ 𝓤 (sem 𝓛 (lasts T y.0.0 y.0.3 ws)) _) (says r (at_exit T y.0.0 y.0.3 ws)))) $ heard t (φ r) (λ e.
      split t $ move t (1 ∷ []) $ peeks t R (Is R) (shows 𝓛 R) r (u ∷ []) (λ is.
      subst (λ (v : Val). Seq K 𝓛 (‵ (R.own_val r (v ∷ [])) ∷ raw (Alive 𝓛 T c y) ∷ Γ) (lands C Λ E d v rest q)) (sym (ap only (tells r (u ∷ []) is))) (k r e (subst (Is R r) (tells r (u ∷ []) is) is))))))

module _ {M : Type 1} {𝓤 : Ura M} {𝓛 : Logic 𝓤} {K : Type 0} {Γ : List (Item 𝓤)} {E : Env 𝓤 𝓛.H} {C : Calls 𝓤 𝓛.H} {f : Callee} {xs : List Operand} {Λ : Loops 𝓤 𝓛.H} {q : Post 𝓤 𝓛.H} {d : Place} {rest : Body} where
  open 𝓛 use {H}

  pub asks : K → FmC 𝓤 H 𝓛.laws C → (T : Ended) (c : Clauses 𝓤 T) → Triple 𝓤 (C f) (Promise 𝓛 T c) → (y : (Promise 𝓛 T c).Ghost) (val : (Result 𝓛 T c y).Denot → Val) (φ : (Result 𝓛 T c y).Denot → Type 0) (F : Fml)
      → Tells (Result 𝓛 T c y) (Is (Result 𝓛 T c y)) (λ r. val r ∷ []) → ((r : (Result 𝓛 T c y).Denot) (e : AtExit T y.0.0) → ent 𝓤 ((c y.0.0 y.0.3).ensures y.1 r e) (fact 𝓤 (φ r)))
      → Asked 𝓛 T c y F → Opds K 𝓛 (raw ((Promise 𝓛 T c).pre y) ∷ ‵ F ∷ Γ) E xs ((Promise 𝓛 T c).args y)
      → ((r : (Result 𝓛 T c y).Denot) → φ r → Is (Result 𝓛 T c y) r (val r ∷ []) → Seq K 𝓛 (‵ ((Result 𝓛 T c y).own_val r (val r ∷ [])) ∷ raw (Alive 𝓛 T c y) ∷ ‵ F ∷ Γ) (lands C Λ E d (val r) rest q))
      → Seq K 𝓛 (raw (Alive 𝓛 T c y) ∷ ‵ F ∷ Γ) (runs C Λ E (seq (call f xs d) rest) q)
  asks t fm T c known y val φ F tells says asked os k = use2 𝓛 (raw ((Promise 𝓛 T c).pre y) ⊛ ‵ F) asked $ split t $ asks_plain t fm T c known y val φ tells says os k

-- what the callee asks, where the first parameter's part F₀ can be had out of F once more, and what the others own, P, and what is required are
-- had for nothing
pub lent : {M : Type 1} {𝓤 : Ura M} (𝓛 : Logic 𝓤) (T : Ended) (c : Clauses 𝓤 T) (y : (Promise 𝓛 T c).Ghost) {F₀ P : Fml} (F : Fml) → owns (types_at T.signature.params y.0.0) y.0.3 y.0.4 ≡ fsep F₀ P
    → ent 𝓤 (sem 𝓛 F) (sep 𝓤 (sem 𝓛 F₀) (sem 𝓛 F)) → ent 𝓤 (emp 𝓤) (sem 𝓛 P) → ent 𝓤 (emp 𝓤) ((c y.0.0 y.0.3).requires y.1)
    → Asked 𝓛 T c y F
lent {𝓤 = 𝓤} 𝓛 T c y {F₀} {P} F parts once others required =
    let S : SProp 𝓤 = Alive 𝓛 T c y in
    let R : SProp 𝓤 = (c y.0.0 y.0.3).requires y.1 in
    subst (λ (X : Fml). ent 𝓤 (sep 𝓤 S (sem 𝓛 F)) (sep 𝓤 (sep 𝓤 (sep 𝓤 S (sem 𝓛 X)) R) (sem 𝓛 F))) (sym parts)
    (qed 𝓛 (raw S ∷ ‵ F ∷ []) ∵ move ! (1 ∷ []) $ use1 𝓛 (‵ F₀ ⊛ ‵ F) once $ split ! $ use0 𝓛 (‵ P) others $ move ! (1 ∷ 0 ∷ []) $ join ! $ move ! (2 ∷ 0 ∷ []) $ join ! $ use0 𝓛 (raw R) required $ move ! (1 ∷ 0 ∷ []) $ join ! $ frame ! $ done !)

-- ---- the end. Nothing is kept of the parameters
module _ {n : ℕ} where
  abbrev pub unkept : (ss : List (Slot n)) (ks : Kepts ss) → Stays ss ks
  unkept [] ks = tt
  unkept (s ∷ ss) ks = (stay_dropped s ks.0, unkept ss ks.1)

  all_fit : (κs : Lfts n) (ss : List (Slot n)) (ks : Kepts ss) (a : Denots (types_at ss κs)) (ws : Fins κs ss ks a) → fits_of κs ss ks (unkept ss ks) a ws
  all_fit κs [] ks a ws = tt
  all_fit κs (s ∷ ss) ks a ws = (tt, all_fit κs ss ks.1 a.1 ws.1)

  module _ {M : Type 1} {𝓤 : Ura M} (𝓛 : Logic 𝓤) where
    had : (κs : Lfts n) (ss : List (Slot n)) (ks : Kepts ss) (a : Denots (types_at ss κs)) (ws : Fins κs ss ks a) (vss : Valss (types_at ss κs)) → ent 𝓤 (emp 𝓤) (sem 𝓛 (has_of κs ss ks (unkept ss ks) a ws vss))
    had κs [] ks a ws vss = id⊢ 𝓤 (emp 𝓤)
    had κs (s ∷ ss) ks a ws vss = via 𝓤 _ (had κs ss ks.1 a.1 ws.1 vss.1) (emp∗ 𝓤 _)

    module _ where
      abbrev pub Silents : (ss : List (Slot n)) → Kepts ss → Type 1
      Silents [] ks = Unit {1}
      Silents (s ∷ ss) ks = Silent 𝓛 n s ks.0 × Silents ss ks.1

      all_go : (ss : List (Slot n)) (ks : Kepts ss) → Silents ss ks → AllGo 𝓛 n ss ks (unkept ss ks)
      all_go [] ks hs = tt
      all_go (s ∷ ss) ks hs = (Goes-dropped 𝓛 n s ks.0 hs.0, all_go ss ks.1 hs.1)

module _ {M : Type 1} {𝓤 : Ura M} (𝓛 : Logic 𝓤) (T : Ended) (c : Clauses 𝓤 T) where
  -- where a walk ends
  abbrev pub Ends : Contract 𝓤
  Ends = walk_of 𝓛 T (unkept T.signature.params T.kept) c

  pub exits : (y : Ends.Ghost) (v : Val) (r : Res T.signature y.0.0) (ws : Lasts T y.0.0 y.0.3) → ent 𝓤 (emp 𝓤) ((c y.0.0 y.0.3).ensures y.1 r (at_exit T y.0.0 y.0.3 ws))
      → ent 𝓤 (sep 𝓤 (sem 𝓛 ((type_at T.signature.result y.0.0).own_val r (v ∷ []))) (alive 𝓛 T.signature y.0.0 y.0.1)) (Ends.post y v)
  exits y v r ws promised =
      qed 𝓛 (‵ ((type_at T.signature.result y.0.0).own_val r (v ∷ [])) ∷ raw (alive 𝓛 T.signature y.0.0 y.0.1) ∷ []) ∵
      suffices ! _ (ends_at 𝓛 T (unkept T.signature.params T.kept) c y v r ws (all_fit y.0.0 T.signature.params T.kept y.0.3 ws)) $
      use0 𝓛 (‵ (has_of y.0.0 T.signature.params T.kept (unkept T.signature.params T.kept) y.0.3 ws y.0.4)) (had 𝓛 y.0.0 T.signature.params T.kept y.0.3 ws y.0.4) $
      join ! $ move ! (1 ∷ 0 ∷ []) $ join ! $ use0 𝓛 (raw ((c y.0.0 y.0.3).ensures y.1 r (at_exit T y.0.0 y.0.3 ws))) promised $ move ! (1 ∷ 0 ∷ []) $ done !

-- `table` says which routine each call of the function's MIR means, and `name` is the function's own
module _ {M : Type 1} {𝓤 : Ura M} (𝓛 : Logic 𝓤) (𝓜 : Model 𝓤 𝓛.H) (𝓡 : Running 𝓤 𝓛.H 𝓜) (T : Ended) (c : Clauses 𝓤 T) (table : Names) where
  open 𝓛 use {H}

  abbrev Cs : Calls 𝓤 H
  Cs = (tables 𝓤 H 𝓜 𝓡 table).C

  abbrev Λs : Loops 𝓤 H
  Λs = (tables 𝓤 H 𝓜 𝓡 table).Λ

  abbrev passed : Lfts T.signature.lifetimes → List RattleType
  passed κs = types_at T.signature.params κs

  pub proves : (name : Callee) (fn : Fn) → Closed 𝓤 H Cs Λs name fn → Silents 𝓛 T.signature.params T.kept → (sp : (κs : Lfts T.signature.lifetimes) → Spells (passed κs)) → ((κs : Lfts T.signature.lifetimes) → Tellss (passed κs) (Ises (passed κs)) (sp κs))
      → (FmC 𝓤 H 𝓛.laws Cs → (κs : Lfts T.signature.lifetimes) (qs : Shares T.signature.lifetimes) (bounds : AllOutlive T.signature.lifetimes T.signature.outlives κs) (a : Args T.signature κs) (g : (c κs a).ghost) → Are (passed κs) (Ises (passed κs)) a (valss (passed κs) (sp κs) a)
      → ent 𝓤 (on_entry 𝓛 T.signature κs qs a (valss (passed κs) (sp κs) a)) (WpFn 𝓤 H Cs Λs fn (flat (passed κs) (valss (passed κs) (sp κs) a)) ((Ends 𝓛 T c).post ((κs, qs, bounds, a, valss (passed κs) (sp κs) a), g))))
      → Triple 𝓤 (Cs name) (Promise 𝓛 T c)
  unfolding tables_of
  proves name fn closed silents sp tl walk =
      let 𝓣 : Tables 𝓤 H = tables_of 𝓤 H 𝓜 (tables 𝓤 H 𝓜 𝓡 table) in
      let hs : Stays T.signature.params T.kept = unkept T.signature.params T.kept in
      entered 𝓤 H (Promise 𝓛 T c) Cs Λs name fn closed
      (walk_Meets 𝓛 T hs (all_go 𝓛 T.signature.params T.kept silents) c (WpFn 𝓤 H Cs Λs fn) (WpFn-mono 𝓤 H 𝓛.laws 𝓣 fn)
      (walked 𝓛 T hs c (WpFn 𝓤 H Cs Λs fn) sp tl (λ κs qs bounds a g are. via 𝓤 _ (fst∗ 𝓤 _ ((c κs a).requires g)) (walk (fm_of 𝓤 H 𝓛.laws 𝓣) κs qs bounds a g are))))
