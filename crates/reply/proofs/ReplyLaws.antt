-- A reply: what a call has written, or the line of its refusal, and how the code comes to it.
use Prim.Native.Nat.{ℕ, ◌≤◌, ◌<◌}
use mathlib.Core.Path.{◌≡◌, refl, sym, ap, subst, ◌∙◌}
use mathlib.Core.Logic.{◌≢◌}
use mathlib.Core.List.{List}
use lib.ListN.{length}
use lib.Dec.{eqb}
use mathlib.Core.Bool.{Bool, true, false}
use borrow.Author.Tests.{le-leb, lt-leb, eqb-true, eqb-false}
use Rattle.verdict.specs.declared.Verdict.{Verdict}
use Rattle.verdict.specs.Lent.{filled}
use Rattle.listing.specs.Endings.{Ending, writes, refuses, within, written}
use Rattle.output.specs.declared.Written.{Written}
use Rattle.output.specs.Writing.{written_of}
use Rattle.output.proofs.EndingLaws as call
use Rattle.reply.specs.Reply.{refusal_line, printed, limited, fitting, reply}
use Rattle.reply.proofs.LineLaws.{Says, fits}

-- ---- what the reply is

module _ (room : ℕ) (input : List ℕ) (e : Ending) where
  pub reply_too_long : 32768 < length input → reply room input e ≡ fitting room (refusal_line 20 32768)
  unfolding limited
  reply_too_long h = rw (lt-leb (length input) 32768 h)

  module _ (h : length input ≤ 32768) where
    as_it_ends : {x : Ending} → within room e ≡ x → reply room input e ≡ fitting room (printed x)
    unfolding limited
    as_it_ends i = rw (le-leb (length input) 32768 h) (ap (λ y. fitting room (printed y)) i)

    pub reply_refused : {v : Verdict} → within room e ≡ refuses v → reply room input e ≡ fitting room (refusal_line v.number v.place)
    reply_refused = as_it_ends

    pub reply_written : {bs : List ℕ} → e ≡ writes bs → length bs ≤ room → reply room input e ≡ bs
    reply_written {bs} i l = as_it_ends (call.roomy room i l) ∙ fits room bs l

-- ---- how the code comes to the reply

says_of : (old : List ℕ) {bs cs : List ℕ} → bs ≡ cs → {r : ℕ} {new : List ℕ} → Says cs old r new → Says bs old r new
says_of old i {r} {new} s = subst (λ x. Says x old r new) (sym i) s

module _ (input old : List ℕ) (e : Ending) where
  pub print_too_long : 32768 < length input → {r : ℕ} {new : List ℕ} → Says (fitting (length old) (refusal_line 20 32768)) old r new
      → Says (reply (length old) input e) old r new
  print_too_long h = says_of old (reply_too_long (length old) input e h)

  module _ (h : length input ≤ 32768) {w : Written} {mid : List ℕ} (told : call.Says e old w mid) where
    pub print_refused : w.verdict.number ≢ 0 → {r : ℕ} {new : List ℕ} → Says (fitting (length mid) (refusal_line w.verdict.number w.verdict.place)) mid r new
        → Says (reply (length old) input e) old r new
    print_refused n {r} {new} s = by (within (length old) e) refl
      where
        by : (x : Ending) → within (length old) e ≡ x → Says (reply (length old) input e) old r new
        by (writes bs) i = absurd (n (ap (λ (y : Written). y.verdict.number) (told.0 ∙ ap written_of i)))
        by (refuses v) i =
            let k = call.refused_untouched e old w mid told n in
            let g = told.0 ∙ ap written_of i in
            says_of old (reply_refused (length old) input e h i)
            (subst (λ (y : Written). Says (fitting (length old) (refusal_line y.verdict.number y.verdict.place)) old r new) g
            (subst (λ (o : List ℕ). Says (fitting (length o) (refusal_line w.verdict.number w.verdict.place)) o r new) k s))

    pub print_written : {bs : List ℕ} → e ≡ writes bs → length bs ≤ length old → Says (reply (length old) input e) old w.length mid
    print_written i l =
        let g = call.roomy (length old) i l in
        says_of old (reply_written (length old) input e h i l)
        (ap (λ (y : Written). y.length) (told.0 ∙ ap written_of g), told.1 ∙ ap (λ x. filled (written x) old) g)

    -- both ends of a call as they are printed: it has written what there was room for, exactly where its number is 0
    pub print_end : (w.verdict.number ≡ 0 → (bs : List ℕ) × (e ≡ writes bs) × (length bs ≤ length old)) → {r : ℕ} {new : List ℕ}
        → (w.verdict.number ≡ 0 → (r ≡ w.length) × (new ≡ mid))
        → (w.verdict.number ≢ 0 → Says (fitting (length mid) (refusal_line w.verdict.number w.verdict.place)) mid r new)
        → Says (reply (length old) input e) old r new
    print_end written {r} {new} accepted refused = by (eqb w.verdict.number 0) refl
      where
        by : (b : Bool) → eqb w.verdict.number 0 ≡ b → Says (reply (length old) input e) old r new
        by true i =
            let z = eqb-true w.verdict.number 0 i in
            let x = written z in
            let s = print_written x.1 x.2 in
            ((accepted z).0 ∙ s.0, (accepted z).1 ∙ s.1)
        by false i = let n = eqb-false w.verdict.number 0 i in print_refused n (refused n)
