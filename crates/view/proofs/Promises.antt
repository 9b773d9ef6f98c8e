-- What the statements of `make`, `hand`, `text_of` and `verdict_of` come to: a refusal gives no bytes, and which one it is; and of payment n of an
-- acceptable file the view has the whole file and the payment's start, and hands out the payment's own texts.
-- Each statement tells of a spot of `finder`, so each law is a law of that spot put into it: an empty one at 0 where it is refused
-- (`find_refuses`, `locate_refuses`), and what `payment_is` says where there is a payment n. The step between is that an accepted view has all
-- bytes of the file, so that what is sought in the view is sought in the file itself (`handed_as`, `sought_as`), and a view of no bytes is an
-- empty file, 1 at 0 (`no_bytes`).
use Prim.Native.Nat.{ℕ, ◌+◌, ◌-◌, ◌≤◌}
use native.Mathlib.Nat.{add-zero, sub-zero, add-sub_cancel_left}
use native.Mathlib.Omega.{arith}
use mathlib.Core.Path.{◌≡◌, refl, sym, ap, subst, ◌∙◌}
use mathlib.Core.Logic.{◌≢◌}
use mathlib.Core.Bool.{Bool, true, false}
use mathlib.Core.List.{List, [], ◌∷◌}
use mathlib.Core.Option.{none, some}
use lib.ListN.{length, take, drop, get_elem?}
use lib.Seq.{take_all}
use lib.Dec.{T}
use borrow.Author.Tests.{eqb-false, ne_eqb}
use denote.Ref.{Bor}
use Rattle.form.specs.Kind.{one_of}
use Rattle.verdict.specs.declared.Verdict.{Verdict}
use Rattle.verdict.specs.Verdicts.{accepting, refusing, is_accepted}
use Rattle.verdict.specs.Numbers.{of_view}
use Rattle.document.specs.Values.{Payment}
use Rattle.diskette.specs.Writing.{Acceptable}
use Rattle.diskette.specs.Answer.{answer, outcome}
use Rattle.diskette.specs.Cases.{given}
use Rattle.diskette.proofs.Promises.{RefusedFile, else_refused, zero_exactly}
use Rattle.finder.specs.declared.Wanted.{Wanted}
use Rattle.finder.specs.declared.Spot.{Spot}
use Rattle.finder.specs.Texts.{text_of, text_width, place_of}
use Rattle.finder.specs.Spots.{nowhere, standing, find_at, locating, locate_at}
use Rattle.finder.proofs.Promises.{nineteen, find_as_checked, find_refused_file, locate_refused_file, find_number, locate_number, find_refuses, locate_refuses, no_payment, start_of, PaymentIs, payment_is}
use Rattle.view.specs.declared.View.{View}
use Rattle.view.specs.declared.Made.{Made}
use Rattle.view.specs.declared.Handed.{Handed}
use Rattle.view.specs.Views.{IsMade, IsHanded, viewed, text_at, IsText, if_none, first_of, verdict_for}

-- ---- what a refusal gives back

-- in no bytes nothing is sought: an empty file is 1 at 0
no_bytes : (start : ℕ) (w : Wanted) → locate_at [] start w ≡ nowhere (refusing 1 0)
unfolding locate_at locating given
no_bytes start w = refl

-- a refused making gives a view of no bytes, with start 0
pub refused_view : (s : Bor (List ℕ)) (n : ℕ) (m : Made) → IsMade s (find_at s.now n) m → m.verdict.number ≢ 0
    → (m.view.file.now ≡ []) × (m.view.start ≡ 0)
refused_view s n m promised nonzero =
    let e = subst (λ z. IsMade s z m) (find_refuses s.now n (λ z. nonzero (ap (λ (v : Verdict). v.number) promised.2 ∙ z))) promised in
    (e.0.0, e.1)

-- a refused view hands nothing out: 1 at 0, whatever the making's refusal was
pub refused_view_hands : (s : Bor (List ℕ)) (n : ℕ) (m : Made) → IsMade s (find_at s.now n) m → m.verdict.number ≢ 0
    → (w : Wanted) (h : Handed) → IsHanded m.view.file (locate_at m.view.file.now m.view.start w) h
    → (h.verdict ≡ refusing 1 0) × (h.text.now ≡ [])
refused_view_hands s n m promised nonzero w h handed =
    let empty = (refused_view s n m promised nonzero).0 in
    let e = subst (λ z. IsHanded m.view.file z h) (ap (λ f. locate_at f m.view.start w) empty ∙ no_bytes m.view.start w) handed in
    (e.1, e.0.0)

-- a refused hand-out gives an empty text, whatever the view
pub refused_text : (v : View) (w : Wanted) (h : Handed) → IsHanded v.file (locate_at v.file.now v.start w) h → h.verdict.number ≢ 0 → h.text.now ≡ []
refused_text v w h promised nonzero =
    let r = locate_refuses v.file.now v.start w (λ z. nonzero (ap (λ (v : Verdict). v.number) promised.1 ∙ z)) in
    (subst (λ z. IsHanded v.file z h) r promised).0.0

-- `text_of` gives an empty text, whichever of making and hand-out is refused
pub no_text_of : (s : Bor (List ℕ)) (n : ℕ) (w : Wanted) (r : Bor (List ℕ)) → IsText s n w r → (verdict_for s.now n w).number ≢ 0 → r.now ≡ []
unfolding first_of
no_text_of s n w r promised nonzero = by (is_accepted (find_at s.now n).verdict) refl
  where
    by : (b : Bool) → is_accepted (find_at s.now n).verdict ≡ b → r.now ≡ []
    by true e =
        let why : (verdict_for s.now n w).number ≡ (text_at s.now n w).verdict.number
        = ap (λ b. (if_none b (find_at s.now n).verdict (text_at s.now n w).verdict).number) e in
        let p = locate_refuses (viewed s.now n) (find_at s.now n).from w (λ z. nonzero (why ∙ z)) in
        promised.0 ∙ ap (λ (z : Spot). take (z.to - z.from) (drop z.from s.now)) p
    by false e =
        let p = find_refuses s.now n (eqb-false (find_at s.now n).verdict.number 0 e) in
        let spot = ap (λ (z : Spot). locate_at (take z.to s.now) z.from w) p ∙ no_bytes 0 w in
        promised.0 ∙ ap (λ (z : Spot). take (z.to - z.from) (drop z.from s.now)) spot

-- ---- which verdict is given

-- a file that is not acceptable gets the number and the place of the field that is wrong
pub make_refused_file : (s : Bor (List ℕ)) (n : ℕ) (m : Made) → IsMade s (find_at s.now n) m → ¬ Acceptable s.now → RefusedFile s.now m.verdict
make_refused_file s n m promised not = subst (RefusedFile s.now) (sym promised.2) (find_refused_file s.now not n)

pub hand_refused_file : (v : View) (w : Wanted) (h : Handed) → IsHanded v.file (locate_at v.file.now v.start w) h → ¬ Acceptable v.file.now
    → RefusedFile v.file.now h.verdict
hand_refused_file v w h promised not = subst (RefusedFile v.file.now) (sym promised.1) (locate_refused_file v.file.now not v.start w)

-- 0, or one of the numbers of the view
abbrev Numbered : Verdict → Type 0
Numbered v = T (one_of (0 ∷ of_view) v.number)

pub make_number : (s : Bor (List ℕ)) (n : ℕ) (m : Made) → IsMade s (find_at s.now n) m → T (one_of (0 ∷ of_view) m.verdict.number)
make_number s n m promised = subst Numbered (sym promised.2) (find_number s.now n)

pub hand_number : (v : View) (w : Wanted) (h : Handed) → IsHanded v.file (locate_at v.file.now v.start w) h
    → T (one_of (0 ∷ of_view) h.verdict.number)
hand_number v w h promised = subst Numbered (sym promised.1) (locate_number v.file.now v.start w)

module _ (file : List ℕ) (n : ℕ) (w : Wanted) where
  -- the making's refusal goes before the hand-out's verdict
  making_first : {p : Spot} → find_at file n ≡ p → p.verdict.number ≢ 0 → verdict_for file n w ≡ p.verdict
  unfolding first_of
  making_first {p} e nonzero =
      let h = (text_at file n w).verdict in
      ap (λ (z : Spot). first_of z.verdict h) e ∙ ap (λ b. if_none b p.verdict h) (ne_eqb p.verdict.number 0 nonzero)

  -- where the file is not acceptable, the verdict is that of the check
  pub verdict_as_checked : ¬ Acceptable file → verdict_for file n w ≡ (outcome (answer file)).verdict
  verdict_as_checked not = making_first (find_as_checked file not n) (λ z. not ((zero_exactly file).0 z))

  pub verdict_refused_file : ¬ Acceptable file → RefusedFile file (verdict_for file n w)
  verdict_refused_file not = subst (RefusedFile file) (sym (verdict_as_checked not)) (else_refused file not)

  pub verdict_number : T (one_of (0 ∷ of_view) (verdict_for file n w).number)
  unfolding first_of
  verdict_number = by (is_accepted (find_at file n).verdict)
    where
      by : (b : Bool) → Numbered (if_none b (find_at file n).verdict (text_at file n w).verdict)
      by true = locate_number (viewed file n) (find_at file n).from w
      by false = find_number file n

  -- where an acceptable file has no payment n, the verdict is 19 at 0
  pub verdict_no_payment : (x : Acceptable file) → length x.0.payments ≤ n → verdict_for file n w ≡ refusing 19 0
  verdict_no_payment x h = making_first (no_payment file x n h) nineteen

-- ---- what is given back of payment n, where it is p

-- the stretch from 0 to the end is all of the bytes
whole : (f : List ℕ) → take (length f - 0) (drop 0 f) ≡ f
whole f = ap (λ n. take n f) (sub-zero (length f)) ∙ take_all (length f) f (omega arith)

module _ (s : Bor (List ℕ)) (x : Acceptable s.now) (n : ℕ) (p : Payment) (is : get_elem? x.0.payments n ≡ some p) where
  abbrev start : ℕ
  start = start_of s.now x n p is

  it : PaymentIs s.now x n p start
  it = payment_is s.now x n p is

  -- an accepted view, of the whole file itself, and with the payment's start
  pub record ViewIs (m : Made) : Type 0 where
    pub verdict : m.verdict ≡ accepting
    pub bytes : m.view.file.now ≡ s.now
    pub memory : m.view.file.ref_ptr.0 ≡ s.ref_ptr.0
    pub offset : m.view.file.ref_ptr.1 ≡ s.ref_ptr.1
    pub begins : m.view.start ≡ start

  pub view_is : (m : Made) → IsMade s (find_at s.now n) m → ViewIs m
  view_is m promised =
      let e = subst (λ z. IsMade s z m) it.found promised in
      record { verdict = e.2; bytes = e.0.0 ∙ whole s.now; memory = e.0.1; offset = e.0.2 ∙ add-zero s.ref_ptr.1; begins = e.1 }

  -- a hand-out of the view that was made is sought in the file itself, at the payment's start
  handed_as : (w : Wanted) (m : Made) → IsMade s (find_at s.now n) m → (h : Handed)
      → IsHanded m.view.file (locate_at m.view.file.now m.view.start w) h → IsHanded m.view.file (locate_at s.now start w) h
  handed_as w m made h handed =
      let v = view_is m made in
      subst (λ z. IsHanded m.view.file z h) (ap (λ f. locate_at f m.view.start w) v.bytes ∙ ap (λ q. locate_at s.now q w) v.begins) handed

  -- what `text_of` and `verdict_of` seek is sought in the file itself, at the payment's start
  sought_as : (w : Wanted) → text_at s.now n w ≡ locate_at s.now start w
  sought_as w =
      let all = take_all (length s.now) s.now (omega arith) in
      ap (λ (z : Spot). locate_at (take z.to s.now) z.from w) it.found ∙ ap (λ f. locate_at f start w) all

  -- r is the text t: its bytes, as that stretch of the file itself
  pub record TextIs (w : Wanted) (t : List ℕ) (r : Bor (List ℕ)) : Type 0 where
    pub bytes : r.now ≡ t
    pub memory : r.ref_ptr.0 ≡ s.ref_ptr.0
    pub offset : r.ref_ptr.1 ≡ s.ref_ptr.1 + (start + place_of w)

  module _ (w : Wanted) (t : List ℕ) (has : text_of w p ≡ some t) where
    cut : take (start + place_of w + text_width - (start + place_of w)) (drop (start + place_of w) s.now) ≡ t
    cut = ap (λ k. take k (drop (start + place_of w) s.now)) (add-sub_cancel_left (start + place_of w) text_width) ∙ it.text_bytes w t has

    -- a hand-out of the view that was made gives the text, with 0 at 0
    pub texts_are : (m : Made) → IsMade s (find_at s.now n) m → (h : Handed) → IsHanded m.view.file (locate_at m.view.file.now m.view.start w) h
        → (h.verdict ≡ accepting) × TextIs w t h.text
    texts_are m made h handed =
        let v = view_is m made in
        let e = subst (λ z. IsHanded m.view.file z h) (it.text w t has) (handed_as w m made h handed) in
        let at = start + place_of w in
        let bytes = e.0.0 ∙ ap (λ f. take (at + text_width - at) (drop at f)) v.bytes ∙ cut in
        (e.1, record { bytes = bytes; memory = e.0.1 ∙ v.memory; offset = e.0.2 ∙ ap (λ o. o + at) v.offset })

    spot_is : text_at s.now n w ≡ standing (start + place_of w) (start + place_of w + text_width)
    spot_is = sought_as w ∙ it.text w t has

    -- `text_of` gives the text
    pub text_is : (r : Bor (List ℕ)) → IsText s n w r → TextIs w t r
    text_is r e =
        let p = spot_is in
        let bytes = e.0 ∙ ap (λ (z : Spot). take (z.to - z.from) (drop z.from s.now)) p ∙ cut in
        record { bytes = bytes; memory = e.1; offset = e.2 ∙ ap (λ (z : Spot). s.ref_ptr.1 + z.from) p }

    pub not_refused : verdict_for s.now n w ≡ accepting
    unfolding first_of
    not_refused = let p = spot_is in λ j. first_of (it.found j).verdict (p j).verdict

  -- a text that the payment has not: 19 at 0, and an empty text
  module _ (w : Wanted) (lacks : text_of w p ≡ none) where
    pub no_text_handed : (m : Made) → IsMade s (find_at s.now n) m → (h : Handed)
        → IsHanded m.view.file (locate_at m.view.file.now m.view.start w) h → (h.verdict ≡ refusing 19 0) × (h.text.now ≡ [])
    no_text_handed m made h handed =
        let e = subst (λ z. IsHanded m.view.file z h) (it.no_text w lacks) (handed_as w m made h handed) in
        (e.1, e.0.0)

    pub verdict_no_text : verdict_for s.now n w ≡ refusing 19 0
    unfolding first_of
    verdict_no_text = let p = sought_as w ∙ it.no_text w lacks in λ j. first_of (it.found j).verdict (p j).verdict
