-- The lines of a listing, one after another: the lines of good payments are composed to them, and no other lines are composed.
-- The first goes by induction over the payments, the second by induction over the lines; both keep what the payments before come to and how many
-- may still come, which together are the most that there are. One line is the law of `PaymentLaws`, and what is asked of all payments is parted
-- into what is asked of the first and of the others, or joined again (`GoodLaws` of the diskette). Behind the last line end comes an empty piece,
-- and there at least one payment must have been told.
use Prim.Native.Nat.{ℕ, zero, suc, ◌+◌}
use native.Mathlib.Omega.{arith}
use mathlib.Core.Path.{◌≡◌, refl, sym, ap, ◌∙◌, subst}
use mathlib.Core.List.{List, [], ◌∷◌, ◌++◌}
use lib.ListN.{length}
use lib.Dec.{T, leb, leb→le, le→leb}
use Rattle.form.proofs.BoolLaws.{is_true}
use Rattle.verdict.specs.Verdicts.{refusing}
use Rattle.document.specs.Signs.{ascii}
use Rattle.document.specs.Values.{Payment, Totals, no_totals, adding}
use Rattle.document.specs.Rules.{most_payments}
use Rattle.diskette.proofs.EndSays.{Within}
use Rattle.diskette.proofs.GoodLaws.{GoodFrom, none_good, good_first, good_others, good_both, within_next}
use Rattle.listing.specs.Lines.{tab, line_end, behind_tabs, split, empty}
use Rattle.listing.specs.Listing.{payment_fields, payment_lines}
use Rattle.listing.specs.Composing.{made, and_then, compose_header, compose_payment, compose_payments, compose_lines}
use Rattle.listing.proofs.LineLaws.{Some, some, split_some, join, fields_parted, line_parted, line_joined}
use Rattle.listing.proofs.ComposingLaws.{made_or_denied, provided_made, and_then_made}
use Rattle.listing.proofs.PaymentLaws.{payment_clear, payment_composes, payment_heard}

-- ---- one line, where another piece follows it

pub payments_step : (kind : List ℕ) (t : Totals) (p : ℕ) (x : List ℕ) (xs : List (List ℕ)) → Some xs
    → compose_payments kind t p (x ∷ xs)
    ≡ and_then (compose_payment kind t p (split tab x)) (λ q.
    and_then (compose_payments kind (adding t q) (p + suc (length x)) xs) (λ qs. made (q ∷ qs)))
unfolding compose_payments
payments_step kind t p x xs (some y ys) = refl

pub lines_step : (x : List ℕ) (xs : List (List ℕ)) → Some xs
    → compose_lines (x ∷ xs)
    ≡ and_then (compose_header (split tab x)) (λ h.
    and_then (compose_payments h.file_kind no_totals (suc (length x)) xs) (λ ps. made (record { header = h; payments = ps })))
unfolding compose_lines
lines_step x xs (some y ys) = refl

-- ---- the payments' lines

-- the lines of payments that are good after payments which come to t; left: how many may still come
pub payments_compose : (left : ℕ) (kind : List ℕ) (t : Totals) (p : ℕ) (qs : List Payment) → t.count + left ≡ most_payments
    → GoodFrom left kind t qs → compose_payments kind t p (split line_end (payment_lines qs)) ≡ made qs
unfolding compose_payments split
payments_compose left kind t p [] c g = rw (is_true (leb 1 t.count) (le→leb 1 t.count (omega (arith, g.some))))
payments_compose zero kind t p (q ∷ qs) c g = absurd (omega (arith, g.count))
payments_compose (suc left) kind t p (q ∷ qs) c g =
    let first = good_first left kind t q qs g in
    let clear = payment_clear kind q first.legal in
    let x = ascii "C" ++ behind_tabs (payment_fields q) in
    let next = payments_compose left kind (adding t q) (p + suc (length x)) qs (omega arith) (good_others left kind t q qs g) in
    ap (compose_payments kind t p) (line_parted (ascii "C") (payment_fields q) (payment_lines qs) (tt, clear.1))
    ∙ payments_step kind t p x (split line_end (payment_lines qs)) (split_some line_end (payment_lines qs))
    ∙ rw (fields_parted (ascii "C") (payment_fields q) (tt, clear.0), payment_composes kind t p q (omega arith) first, next)

empty_is : (x : List ℕ) → T (empty x) → x ≡ []
empty_is [] t = refl
empty_is (b ∷ bs) t = absurd t

pub payments_heard : (left : ℕ) (kind : List ℕ) (t : Totals) (p : ℕ) (xs : List (List ℕ)) (qs : List Payment) → t.count + left ≡ most_payments
    → Within t → compose_payments kind t p xs ≡ made qs → GoodFrom left kind t qs × (join line_end xs ≡ payment_lines qs)
unfolding compose_payments
payments_heard left kind t p [] qs c w e = absurd (made_or_denied (sym e))
payments_heard left kind t p (x ∷ []) qs c w e =
    let a = provided_made (empty x) (refusing 17 p) _ qs e in
    let b = provided_made (leb 1 t.count) (refusing 18 p) _ qs a.1 in
    let none : [] ≡ qs = cc in
    rw (← none, empty_is x a.0) (none_good left kind t (leb→le 1 t.count b.0) w, refl)
payments_heard zero kind t p (x ∷ y ∷ ys) qs c w e =
    let a = and_then_made (compose_payment kind t p (split tab x)) _ qs e in
    absurd (omega (arith, (payment_heard kind t p (split tab x) a.0 a.1).may))
payments_heard (suc left) kind t p (x ∷ y ∷ ys) qs c w e =
    let a = and_then_made (compose_payment kind t p (split tab x)) _ qs e in
    let q = a.0 in
    let h = payment_heard kind t p (split tab x) q a.1 in
    let b = and_then_made (compose_payments kind (adding t q) (p + suc (length x)) (y ∷ ys)) _ qs a.2 in
    let g = h.good in
    let i = payments_heard left kind (adding t q) (p + suc (length x)) (y ∷ ys) b.0 (omega arith) (within_next g) b.1 in
    let all : q ∷ b.0 ≡ qs = cc in
    subst (λ (z : List Payment). GoodFrom (suc left) kind t z × (join line_end (x ∷ y ∷ ys) ≡ payment_lines z)) all (
      good_both left kind t q b.0 g.legal i.0,
      line_joined x (ascii "C") (payment_fields q) (join line_end (y ∷ ys)) (payment_lines b.0) h.fields i.1,
    )
