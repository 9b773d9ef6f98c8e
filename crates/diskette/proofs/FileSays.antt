-- The fields of a whole file say what the rules say: a filled form is a legal document written out, and the other way round.
-- The proof goes by induction over the payments that can still come, after payments that come to t: `GoodFrom` says what the rules ask of those
-- that come, and `rest t` is how they and E are written (`payments_says`). At each first field the file ends, with just the totals t in E
-- (`ends_fill`, `ends_told`), or a payment comes, and what is asked of it and of the others is parted or joined by `GoodLaws`. The whole file
-- is A, and then the payments after none.
use Prim.Native.Nat.{ℕ, zero, suc, ◌+◌, ◌^◌, ◌≤◌}
use native.Mathlib.Omega.{arith}
use mathlib.Core.Path.{◌≡◌, sym, ap, ◌∙◌}
use mathlib.Core.Bool.{not}
use mathlib.Core.List.{List, [], ◌∷◌, ◌++◌, append_assoc, append-nil}
use lib.ListN.{length}
use lib.Dec.{T, eqb, lt→ltb, eqb→eq}
use borrow.Author.Tests.{ne_eqb}
use Rattle.form.specs.Kind.{numeral}
use Rattle.form.specs.Form.{Holds, Form, ret, fork, ◌>>=◌, Filled, value, bytes}
use Rattle.form.proofs.RulesLaws.{Filling, Told, Says, then_fill, then_told, fork_no, fork_see}
use Rattle.document.specs.Values.{Header, Payment, Document, Totals, no_totals, adding, totals, together}
use Rattle.document.specs.Rules.{most_payments, LegalHeader, Legal}
use Rattle.diskette.specs.Writing.{length_of, write_header, write_body, write_payments, write_figures, write_end, write}
use Rattle.diskette.specs.Fields.{Name, header, payment, end, first_field, payments, behind_header, document}
use Rattle.diskette.proofs.HeaderSays.{header_says}
use Rattle.diskette.proofs.PaymentSays.{GoodPayment, few_parts, payment_says}
use Rattle.diskette.proofs.EndSays.{Within, end_fill, end_told, end_begins, payment_begins, end_some, must_end}
use Rattle.diskette.proofs.GoodLaws.{GoodFrom, none_good, good_first, good_others, good_both, within_next, below_top, within_none, legal_good, good_legal}
use Rattle.document.proofs.SumLaws.{together_none, together_nothing, together_more}

-- ---- the payments still to come, after payments that come to t

-- how they are written, and E behind them
abbrev rest : Totals → List Payment → List ℕ
rest t ps = write_payments ps ++ write_end (together t (totals ps))

rest_none : (t : Totals) (x : List ℕ) → x ≡ write_figures t → numeral 4 128 ++ x ≡ rest t []
rest_none t x e = rw e (ap write_end (sym (together_nothing t)))

regroup : (a b c d : List ℕ) → a ++ (b ++ ((c ++ d) ++ [])) ≡ ((a ++ b) ++ c) ++ d
regroup a b c d = simp (append_assoc, append-nil)

rest_more : (t : Totals) (p : Payment) (ps : List Payment) (l : ℕ) (x y : List ℕ) → length_of (length p.parts) ≡ l → x ≡ write_body p ++ y
    → y ≡ rest (adding t p) ps ++ [] → numeral 4 l ++ x ≡ rest t (p ∷ ps)
rest_more t p ps l x y k d e =
    rw (← k, d, e) (regroup (numeral 4 (length_of (length p.parts))) (write_body p) (write_payments ps) _)
    ∙ ap (λ (u : Totals). write_payments (p ∷ ps) ++ write_end u) (sym (together_more t p ps))

-- no payment follows: E is filled in with the totals so far
ends_fill : (t : Totals) → t.count ≤ most_payments → Within t → (r : Filled (end t)) × (value (end t) r ≡ []) × (numeral 4 128 ++ bytes (end t) r ≡ rest t [])
ends_fill t h w = let e = end_fill t h w in (e.0, e.1, rest_none t (bytes (end t) e.0) e.2)

ends_told : (left : ℕ) (kind : List ℕ) (t : Totals) (l : ℕ) → l ≡ 128 → Holds (first_field t l) → Within t → (r : Filled (end t))
    → Told (GoodFrom left kind t) (rest t) (value (end t) r) (numeral 4 l ++ bytes (end t) r)
ends_told left kind t l i f w r =
    let e = end_told t r in
    ([], none_good left kind t (end_some t l i f) w, e.0, rw i (rest_none t (bytes (end t) r) e.1))

-- where no payment can come, the file ends
no_more_says : (kind : List ℕ) (t : Totals) → t.count ≡ most_payments → Within t → Says (payments zero kind t) (GoodFrom zero kind t) (rest t)
unfolding payments
no_more_says kind t h w = record { fill = fill; told = told }
  where
    fill : (ps : List Payment) → GoodFrom zero kind t ps → Filling (payments zero kind t) ps (rest t ps)
    fill [] g = let e = ends_fill t (omega arith) w in (((128, tt, end_begins t (omega (arith, g.some))), e.0), e.1, e.2)
    fill (p ∷ ps) g = absurd (omega (arith, g.count))

    told : (r : Filled (payments zero kind t)) → Told (GoodFrom zero kind t) (rest t) (value (payments zero kind t) r) (bytes (payments zero kind t) r)
    told r = ends_told zero kind t r.0.0 (must_end t r.0.0 (omega arith) r.0.2) r.0.2 w r.1

-- one payment, and those that come after it
module _ (left : ℕ) (kind : List ℕ) (t : Totals) (h : t.count + suc left ≡ most_payments) (w : Within t)
    (says : (p : Payment) → Within (adding t p) → Says (payments left kind (adding t p)) (GoodFrom left kind (adding t p)) (rest (adding t p))) where
  abbrev cons : Payment → List Payment → Form Name (List Payment)
  cons p ps = ret (p ∷ ps)

  abbrev onward : Payment → Form Name (List Payment)
  onward p = payments left kind (adding t p) >>= cons p

  abbrev more : ℕ → Unit {0} → Form Name (List Payment)
  more l u = payment kind t l >>= onward

  -- the payments behind p fill in what follows p
  others_fill : (p : Payment) (ps : List Payment) → Within (adding t p) → GoodFrom left kind (adding t p) ps
      → Filling (onward p) (p ∷ ps) (rest (adding t p) ps ++ [])
  others_fill p ps i g = then_fill (payments left kind (adding t p)) (GoodFrom left kind (adding t p)) (rest (adding t p)) (says p i) (cons p) ps g tt

  -- p and the payments behind it fill in what follows the length of p
  more_fill : (l : ℕ) (p : Payment) (ps : List Payment) → GoodPayment kind t l p → (s : Filled (onward p)) → value (onward p) s ≡ p ∷ ps
      → bytes (onward p) s ≡ rest (adding t p) ps ++ [] → T (not (eqb l 128))
      → (r : Filled (fork (eqb l 128) (end t) (more l))) × (value (fork (eqb l 128) (end t) (more l)) r ≡ p ∷ ps)
      × (numeral 4 l ++ bytes (fork (eqb l 128) (end t) (more l)) r ≡ rest t (p ∷ ps))
  more_fill l p ps g s v b c =
      let a = then_fill (payment kind t l) (GoodPayment kind t l) write_body (payment_says kind t l) onward p g s in
      let f = fork_no (eqb l 128) (end t) (more l) c a.0 in
      (f.0, f.1 ∙ a.1 ∙ v, rest_more t p ps l (bytes (fork (eqb l 128) (end t) (more l)) f.0) (bytes (onward p) s) g.long (f.2 ∙ a.2) b)

  -- what follows a length of C tells a payment and those behind it, which may come after payments that come to t
  more_told : (l : ℕ) (s : Filled (more l tt))
      → Told (GoodFrom (suc left) kind t) (rest t) (value (more l tt) s) (numeral 4 l ++ bytes (more l tt) s)
  more_told l s =
      let d = then_told (payment kind t l) (GoodPayment kind t l) write_body (payment_says kind t l) onward s in
      others_told l d.0 d.1 d.2 (value (more l tt) s) (bytes (more l tt) s) d.3 d.4
    where
      others_told : (l : ℕ) (p : Payment) → GoodPayment kind t l p → (s : Filled (onward p)) (v : List Payment) (b : List ℕ)
          → v ≡ value (onward p) s → b ≡ write_body p ++ bytes (onward p) s
          → Told (GoodFrom (suc left) kind t) (rest t) v (numeral 4 l ++ b)
      others_told l p g s v b x y =
          let e = then_told (payments left kind (adding t p)) (GoodFrom left kind (adding t p)) (rest (adding t p)) (says p (within_next g)) (cons p) s in
          (p ∷ e.0, good_both left kind t p e.0 g.legal e.1, x ∙ e.3, rest_more t p e.0 l b (bytes (onward p) s) g.long y e.4)

  some_says : Says (payments (suc left) kind t) (GoodFrom (suc left) kind t) (rest t)
  unfolding payments
  some_says = record { fill = fill; told = told }
    where
      fill : (ps : List Payment) → GoodFrom (suc left) kind t ps → Filling (payments (suc left) kind t) ps (rest t ps)
      fill [] g = let e = ends_fill t (omega arith) w in (((128, tt, end_begins t (omega (arith, g.some))), e.0), e.1, e.2)
      fill (p ∷ ps) g =
          let i = few_parts kind p g.legal.0 in
          let l : ℕ = length_of (length p.parts) in
          let q = good_first left kind t p ps g in
          let s = others_fill p ps (within_next q) (good_others left kind t p ps g) in
          let f = more_fill l p ps q s.0 s.1 s.2 (rw (ne_eqb l 128 (omega arith)) tt) in
          let c = payment_begins t (length p.parts) i (omega arith) (below_top q) in
          (((l, lt→ltb l (10 ^ 4) (omega arith), c), f.0), f.1, f.2)

      told : (r : Filled (payments (suc left) kind t)) → Told (GoodFrom (suc left) kind t) (rest t) (value (payments (suc left) kind t) r) (bytes (payments (suc left) kind t) r)
      told r =
          let l : ℕ = r.0.0 in
          fork_see (eqb l 128) (end t) (more l) (λ v bs. Told (GoodFrom (suc left) kind t) (rest t) v (numeral 4 l ++ bs))
          (λ x s. ends_told (suc left) kind t l (eqb→eq l 128 x) r.0.2 w s) (λ x s. more_told l s) r.1

pub payments_says : (left : ℕ) (kind : List ℕ) (t : Totals) → t.count + left ≡ most_payments → Within t → Says (payments left kind t) (GoodFrom left kind t) (rest t)
payments_says zero kind t h w = no_more_says kind t (omega arith) w
payments_says (suc left) kind t h w = some_says left kind t h w (λ p i. payments_says left kind (adding t p) (omega arith) i)

-- ---- the file

rest_all : (ps : List Payment) → rest no_totals ps ++ [] ≡ write_payments ps ++ (write_end (totals ps) ++ [])
rest_all ps =
    append_assoc (write_payments ps) (write_end (together no_totals (totals ps))) []
    ∙ ap (λ (u : Totals). write_payments ps ++ (write_end u ++ [])) (together_none (totals ps))

whole : (h : Header) (ps : List Payment) (x y : List ℕ) → x ≡ write_header h ++ y → y ≡ rest no_totals ps ++ [] → x ≡ write (record { header = h; payments = ps })
whole h ps x y d e = rw (d, e, rest_all ps)

pub document_says : Says document Legal write
unfolding document
document_says = record { fill = fill; told = told }
  where
    close : Header → List Payment → Form Name Document
    close h ps = ret (record { header = h; payments = ps })

    all : (kind : List ℕ) → Says (payments most_payments kind no_totals) (GoodFrom most_payments kind no_totals) (rest no_totals)
    all kind = payments_says most_payments kind no_totals (omega arith) within_none

    fill : (d : Document) → Legal d → Filling document d (write d)
    fill d g =
        let h = d.header in
        let ps = d.payments in
        let kind = h.file_kind in
        let t = then_fill (payments most_payments kind no_totals) (GoodFrom most_payments kind no_totals) (rest no_totals) (all kind) (close h) ps (legal_good d g) tt in
        let s = then_fill header LegalHeader write_header header_says behind_header h g.header t.0 in
        (s.0, s.1 ∙ t.1, whole h ps (bytes document s.0) (bytes (behind_header h) t.0) s.2 t.2)

    told : (r : Filled document) → Told Legal write (value document r) (bytes document r)
    told r =
        let x = then_told header LegalHeader write_header header_says behind_header r in
        let h = x.0 in
        let kind = h.file_kind in
        let y = then_told (payments most_payments kind no_totals) (GoodFrom most_payments kind no_totals) (rest no_totals) (all kind) (close h) x.2 in
        let d : Document = record { header = h; payments = y.0 } in
        (d, good_legal d x.1 y.1, x.3 ∙ y.3, whole h y.0 (bytes document r) (bytes (behind_header h) x.2) x.4 y.4)
