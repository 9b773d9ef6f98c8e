-- What a refused listing is given: one of the numbers of a listing, and a place in it or at its end. The records that its lines stand for are
-- whole, so 1 is not among them; C1 is made from the number of parts, so 5 is not; and no E is read, so 14 and 15 are not.
-- What stops the reading of a whole record is the bytes of a field or a rule of the record (`stopped`), and at C1 only the two limits are left
-- (`first_stops`). The place goes by induction over the lines: a refusal in a line lies in that line (`in_line_lem`), and each line with its end
-- lies ahead of the listing's end (`Given`).
use Prim.Native.Nat.{ℕ, suc, ◌+◌, ◌^◌, ◌≤◌}
use native.Mathlib.Omega.{arith}
use mathlib.Core.Path.{◌≡◌, refl, sym, ap, ◌∙◌, subst}
use mathlib.Core.Logic.{◌≢◌}
use mathlib.Core.Bool.{Bool, true, false, ◌&&◌, ◌||◌, cond}
use mathlib.Core.List.{List, [], ◌∷◌}
use lib.ListN.{length, take, drop, length-append}
use lib.Dec.{T, leb, ltb, eqb, lt→ltb}
use borrow.Author.Tests.{le-leb}
use Rattle.form.specs.Kind.{digits, numeral, one_of, same}
use Rattle.form.specs.Form.{Form, rule}
use Rattle.form.specs.Reader.{Reason, Refusal, Look, has, lacks, judge, obey, if_whole, ◌then◌}
use Rattle.form.specs.Place.{Read, done, halt, go_on, look_at, read_at}
use Rattle.form.proofs.BoolLaws.{and_both, is_true, or_right}
use Rattle.form.proofs.KindLaws.{same_eq, numeral_length, judge_spell}
use Rattle.form.proofs.ReaderLaws.{obey_has}
use Rattle.form.proofs.WholeLaws.{Stopped, rule_stops, same_halt, stopped}
use Rattle.verdict.specs.declared.Verdict.{Verdict}
use Rattle.verdict.specs.Verdicts.{refusing, number_of}
use Rattle.verdict.proofs.NumberLaws.{stopped_number}
use Rattle.verdict.specs.Numbers.{of_listing}
use Rattle.document.specs.Signs.{ascii}
use Rattle.document.specs.Values.{Document, Totals, no_totals, adding}
use Rattle.document.specs.Rules.{most_payments, most_cents}
use Rattle.diskette.specs.Writing.{length_of}
use Rattle.diskette.specs.Fields.{Name, c1_or_e1, header, payment, is_length, first_field}
use Rattle.diskette.proofs.EndSays.{length_is}
use Rattle.diskette.proofs.Numbers.{of_header, of_payment, header_numbers, payment_numbers}
use Rattle.listing.specs.Lines.{tab, line_end, behind_tabs, split, empty}
use Rattle.listing.specs.Records.{Piece, record_a, record_c, parts_of, lay, Cell, cells, in_line, formed}
use Rattle.listing.specs.Composing.{Composed, made, denied, and_then, provided, heard, compose_line, compose_header, whole_payment, compose_payment, compose_payments, compose_lines, compose}
use Rattle.listing.proofs.LineLaws.{join, join_split, line_from}
use Rattle.listing.proofs.RecordLaws.{span, lay_length, lay_first}
use Rattle.listing.proofs.WholeLaws.{header_ends, payment_ends}

-- ---- what stops the reading of a record that is whole

-- a refused field has one of the numbers of a listing
abbrev Listed : Refusal Name → Type 0
Listed r = T (one_of of_listing (number_of r.reason))

header_number : (ts : List (List ℕ)) (r : Refusal Name) → read_at header (lay record_a ts) 0 ≡ halt r → Listed r
header_number ts r e =
    stopped_number of_header of_listing tt tt
    (stopped (one_of of_header) (lay record_a ts) header 0 (span record_a) r header_numbers header_ends (omega (arith, lay_length record_a ts)) e)

module _ (kind : List ℕ) (t : Totals) (k : ℕ) (few : k ≤ 15) (ts : List (List ℕ)) where
  abbrev l : ℕ
  l = length_of k

  abbrev laid : List ℕ
  laid = lay (record_c k) ts

  -- the record of a payment with k parts begins with the length that k parts have
  length_there : look_at (digits 4) laid 0 ≡ has l
  unfolding look_at
  length_there =
      let whole : leb 4 (length laid) ≡ true = le-leb 4 (length laid) (omega (arith, lay_length (record_c k) ts, numeral_length 4 l)) in
      let bytes : take 4 laid ≡ numeral 4 l = lay_first 4 (numeral 4 l) (drop 1 (record_c k)) ts (numeral_length 4 l) in
      ap (λ b. if_whole b (judge (digits 4) (take 4 laid))) whole ∙ ap (judge (digits 4)) bytes
      ∙ judge_spell (digits 4) l (lt→ltb l (10 ^ 4) (omega arith))

  -- the length that k parts have is a length of C: only the limits, 6 and 9, can stop the reading there
  first_stops : (z : Reason) → obey (first_field t l) l ≡ lacks z → Stopped (one_of (6 ∷ 9 ∷ [])) z
  first_stops z e =
      let test = (eqb l 128 && leb 1 t.count) || is_length l in
      let others = rule 6 (eqb l 128 || ltb t.count most_payments) ∷ rule 9 (eqb l 128 || ltb t.cents most_cents) ∷ [] in
      let holds : test ≡ true = is_true test (or_right (eqb l 128 && leb 1 t.count) (is_length l) (length_is k few)) in
      rule_stops (one_of (6 ∷ 9 ∷ [])) others l z (tt, (tt, tt)) (sym (ap (λ b. obey (rule 5 b ∷ others) l) holds) ∙ e)

  payment_number : (r : Refusal Name) → read_at (whole_payment kind t) laid 0 ≡ halt r → Listed r
  unfolding read_at
  payment_number r e =
      by (obey (first_field t l) l) refl
      (sym (ap (λ x. go_on c1_or_e1 0 4 (◌then◌ x (λ v. obey (first_field t v) v)) (λ v. read_at (payment kind t v) laid 4)) length_there) ∙ e)
    where
      by : (x : Look ℕ) → obey (first_field t l) l ≡ x → go_on c1_or_e1 0 4 x (λ v. read_at (payment kind t v) laid 4) ≡ halt r → Listed r
      by (has v) i e =
          let same : l ≡ v = (obey_has (first_field t l) l v i).1 in
          stopped_number of_payment of_listing tt tt
          (stopped (one_of of_payment) laid (payment kind t l) 4 (4 + span (drop 1 (record_c k))) r (payment_numbers kind t l) (payment_ends kind t k)
          (omega (arith, lay_length (record_c k) ts, numeral_length 4 l))
          (ap (λ n. read_at (payment kind t n) laid 4) same ∙ e))
      by (lacks z) i e =
          let g : z ≡ r.reason = ap (λ (x : Refusal Name). x.reason) (same_halt _ r e) in
          stopped_number (6 ∷ 9 ∷ []) of_listing tt tt (subst (Stopped _) g (first_stops z i))

-- ---- one line after another

-- a refusal has a number of a listing, and its place is at most `end`
abbrev Given : {A : Type 0} → ℕ → Composed A → Type 0
Given end (made a) = Unit {0}
Given end (denied v) = T (one_of of_listing v.number) × (v.place ≤ end)

given_provided : {A : Type 0} (end : ℕ) (b : Bool) (v : Verdict) (c : Composed A) → T (one_of of_listing v.number) × (v.place ≤ end) → (T b → Given end c)
    → Given end (provided b v c)
given_provided end true v c g h = h tt
given_provided end false v c g h = g

given_then : {A B : Type 0} (end : ℕ) (c : Composed A) (k : A → Composed B) → Given end c → ((a : A) → Given end (k a)) → Given end (and_then c k)
given_then end (made a) k g h = h a
given_then end (denied v) k g h = g

-- ---- one line

-- where a refused field stands in a line: at most at the end of the line
pub in_line_lem : (cs : List Cell) (ts : List (List ℕ)) (q p : ℕ) → in_line cs ts q p ≤ q + length (behind_tabs ts)
in_line_lem [] ts q p = omega arith
in_line_lem (c ∷ cs) [] q p = omega arith
in_line_lem (c ∷ cs) (t ∷ ts) q p = by (eqb p c.place) (in_line_lem cs ts (q + suc (length t)) p)
  where
    by : (b : Bool) → in_line cs ts (q + suc (length t)) p ≤ q + suc (length t) + length (behind_tabs ts)
        → cond b q (in_line cs ts (q + suc (length t)) p) ≤ q + length (behind_tabs (t ∷ ts))
    by true h = omega arith
    by false h = omega (arith, length-append t (behind_tabs ts))

-- a line x with one letter, which ends before `end`
line_given : {A : Type 0} (m : Form Name A) (letter : List ℕ) (ps : List Piece) (p end : ℕ) (x : List ℕ)
    → ((ts : List (List ℕ)) (r : Refusal Name) → read_at m (lay ps ts) 0 ≡ halt r → Listed r)
    → length letter ≡ 1 → p + suc (length x) ≤ end → Given end (compose_line m letter ps p (split tab x))
line_given {A} m letter ps p end x numbers one h = by (split tab x) refl
  where
    there : (t : List ℕ) (ts : List (List ℕ)) → split tab x ≡ t ∷ ts → letter ≡ t → (a : ℕ) → p + in_line (cells 0 ps) ts 2 a ≤ end
    there t ts e l a =
        let wide : length t ≡ 1 = ap length (sym l) ∙ one in
        let long : length t + length (behind_tabs ts) ≡ length x = sym (length-append t (behind_tabs ts)) ∙ ap length (line_from x t ts e) in
        omega (arith, in_line_lem (cells 0 ps) ts 2 a)

    read : (t : List ℕ) (ts : List (List ℕ)) → split tab x ≡ t ∷ ts → letter ≡ t → (r : Read Name A) → read_at m (lay ps ts) 0 ≡ r
        → Given end (heard ps ts p r)
    read t ts e l (done a q) i = tt
    read t ts e l (halt r) i = (numbers ts r i, there t ts e l r.place)

    by : (us : List (List ℕ)) → split tab x ≡ us → Given end (compose_line m letter ps p us)
    by [] e = (tt, omega arith)
    by (t ∷ ts) e =
        given_provided end (same letter t && formed (cells 0 ps) ts) (refusing 17 p) _ (tt, omega arith) (λ s.
        let l = same_eq letter t (and_both (same letter t) (formed (cells 0 ps) ts) s).0 in
        read t ts e l (read_at m (lay ps ts) 0) refl)

header_given : (end : ℕ) (x : List ℕ) → suc (length x) ≤ end → Given end (compose_header (split tab x))
unfolding compose_header
header_given end x h = line_given header (ascii "A") record_a 0 end x header_number refl (omega arith)

payment_given : (kind : List ℕ) (t : Totals) (p end : ℕ) (x : List ℕ) → p + suc (length x) ≤ end → Given end (compose_payment kind t p (split tab x))
unfolding compose_payment
payment_given kind t p end x h =
    let k = parts_of (length (split tab x)) in
    line_given (whole_payment kind t) (ascii "C") (record_c k) p end x (payment_number kind t k (omega arith)) refl h

-- ---- the lines, from p on

payments_given : (kind : List ℕ) (t : Totals) (p end : ℕ) (xs : List (List ℕ)) → p + length (join line_end xs) ≤ end
    → Given end (compose_payments kind t p xs)
unfolding compose_payments
payments_given kind t p end [] h = (tt, omega arith)
payments_given kind t p end (x ∷ []) h =
    given_provided end (empty x) (refusing 17 p) _ (tt, omega arith) (λ e.
    given_provided end (leb 1 t.count) (refusing 18 p) (made []) (tt, omega arith) (λ s. tt))
payments_given kind t p end (x ∷ y ∷ ys) h =
    let rest = join line_end (y ∷ ys) in
    let long : p + (length x + suc (length rest)) ≤ end = rw (← length-append x (line_end ∷ rest)) h in
    given_then end (compose_payment kind t p (split tab x)) _ (payment_given kind t p end x (omega arith)) (λ q.
    given_then end (compose_payments kind (adding t q) (p + suc (length x)) (y ∷ ys)) _
    (payments_given kind (adding t q) (p + suc (length x)) end (y ∷ ys) (omega arith)) (λ qs. tt))

lines_given : (end : ℕ) (xs : List (List ℕ)) → length (join line_end xs) ≤ end → Given end (compose_lines xs)
unfolding compose_lines
lines_given end [] h = (tt, omega arith)
lines_given end (x ∷ []) h = given_provided end (empty x) (refusing 17 0) _ (tt, omega arith) (λ e. (tt, omega arith))
lines_given end (x ∷ y ∷ ys) h =
    let rest = join line_end (y ∷ ys) in
    let long : length x + suc (length rest) ≤ end = rw (← length-append x (line_end ∷ rest)) h in
    given_then end (compose_header (split tab x)) _ (header_given end x (omega arith)) (λ a.
    given_then end (compose_payments a.file_kind no_totals (suc (length x)) (y ∷ ys)) _
    (payments_given a.file_kind no_totals (suc (length x)) end (y ∷ ys) (omega arith)) (λ qs. tt))

-- ---- the listing

module _ (l : List ℕ) (v : Verdict) (e : compose l ≡ denied v) where
  given : T (one_of of_listing v.number) × (v.place ≤ length l)
  unfolding compose
  given = subst (λ (c : Composed Document). Given (length l) c) e (lines_given (length l) (split line_end l) (rw (join_split line_end l) (omega arith)))

  pub number_listed : T (one_of of_listing v.number)
  number_listed = given.0

  pub never_zero : v.number ≢ 0
  never_zero z = subst (λ n. T (one_of of_listing n)) z number_listed

  pub place_inside : v.place ≤ length l
  place_inside = given.1
