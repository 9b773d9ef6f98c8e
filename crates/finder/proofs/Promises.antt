-- What `find` and `locate` come to, for every file: one that is not acceptable is refused as the check refuses it; what is not there is 19 at 0;
-- and payment n of an acceptable file is found, and so is each of its texts.
-- Each law goes by the cases of the form's answer: refused, the file is not acceptable; accepted, its payments are those of the one reading
-- (`accepted_exactly`, `accepted_reading`). Payment n of that reading begins behind A and the payments before it (`start_there`,
-- `begun_at_start`), and its bytes and texts stand there (`stands_at`, `text_stands`): that is `payment_is`. That nothing else is found is the
-- way back from the number 0: every other case has a refusal's number (`finds_exactly`, `locates_exactly`).
use Prim.Native.Nat.{ℕ, ◌+◌, ◌≤◌}
use native.Mathlib.Omega.{arith}
use mathlib.Core.Path.{◌≡◌, refl, sym, ap, subst, ◌∙◌}
use mathlib.Core.Logic.{◌↔◌, ◌≢◌}
use mathlib.Core.List.{List, ◌∷◌, ◌++◌}
use mathlib.Core.Option.{Option, none, some}
use lib.ListN.{length, take, drop, get_elem?}
use lib.Dec.{T}
use Rattle.form.specs.Kind.{one_of}
use Rattle.form.specs.Reader.{Answer, accepted, refused}
use Rattle.form.proofs.NumberLaws.{one_within}
use Rattle.verdict.specs.Numbers.{of_file, of_view}
use Rattle.document.specs.Values.{Payment, Document}
use Rattle.diskette.specs.Writing.{write_header, write_payment, write_payments, Acceptable}
use Rattle.diskette.specs.Fields.{Name}
use Rattle.diskette.specs.Answer.{answer, outcome, payments_of}
use Rattle.diskette.proofs.LayoutLaws.{header_length}
use Rattle.diskette.proofs.Promises.{RefusedFile, else_refused, zero_exactly, accepted_exactly, accepted_reading}
use Rattle.diskette.proofs.Promises as form
use Rattle.layout.specs.Steps.{first_payment}
use Rattle.layout.proofs.CellLaws.{beyond}
use Rattle.loader.specs.Columns.{starts}
use Rattle.loader.proofs.FillLaws.{length_starts}
use Rattle.loader.proofs.RowLaws.{start_there, stands_at}
use Rattle.finder.specs.declared.Wanted.{Wanted}
use Rattle.finder.specs.declared.Spot.{Spot}
use Rattle.finder.specs.Texts.{text_of, text_width, place_of, begun_at}
use Rattle.finder.specs.Spots.{nowhere, standing, no_such, from_start, finding, find_at, if_text, if_begun, locating, locate_at}
use Rattle.finder.proofs.BegunLaws.{begun_at_start, start_begun, none_at, begun_there}
use Rattle.finder.proofs.TextLaws.{text_stands}

-- ---- where things stand

module _ (file : List ℕ) where
  -- a file that is not acceptable is refused as the check refuses it, whatever is sought
  pub find_as_checked : ¬ Acceptable file → (n : ℕ) → find_at file n ≡ nowhere (outcome (answer file)).verdict
  unfolding find_at finding
  find_as_checked not n = by (answer file) refl
    where
      by : (a : Answer Name Document) → answer file ≡ a → finding a n (length file) ≡ nowhere (outcome a).verdict
      by (accepted d) e = absurd (not ((accepted_exactly file).0 (d, e)))
      by (refused r) e = refl

  pub locate_as_checked : ¬ Acceptable file → (start : ℕ) (w : Wanted) → locate_at file start w ≡ nowhere (outcome (answer file)).verdict
  unfolding locate_at locating
  locate_as_checked not start w = by (answer file) refl
    where
      by : (a : Answer Name Document) → answer file ≡ a → locating a start w ≡ nowhere (outcome a).verdict
      by (accepted d) e = absurd (not ((accepted_exactly file).0 (d, e)))
      by (refused r) e = refl

  -- a file that is not acceptable gets the number and the place of the field that is wrong
  pub find_refused_file : ¬ Acceptable file → (n : ℕ) → RefusedFile file (find_at file n).verdict
  find_refused_file not n = subst (RefusedFile file) (sym (ap (λ (p : Spot). p.verdict) (find_as_checked not n))) (else_refused file not)

  pub locate_refused_file : ¬ Acceptable file → (start : ℕ) (w : Wanted) → RefusedFile file (locate_at file start w).verdict
  locate_refused_file not start w = subst (RefusedFile file) (sym (ap (λ (p : Spot). p.verdict) (locate_as_checked not start w))) (else_refused file not)

  -- the number of a file's own verdict is 0 or one of those of the view
  of_file_lem : (a : Answer Name Document) → answer file ≡ a → T (one_of (0 ∷ of_view) (outcome a).verdict.number)
  of_file_lem a e =
      one_within (0 ∷ of_file) (0 ∷ of_view) (outcome a).verdict.number tt
      (subst (λ b. T (one_of (0 ∷ of_file) (outcome b).verdict.number)) e (form.number_listed file))

  pub find_number : (n : ℕ) → T (one_of (0 ∷ of_view) (find_at file n).verdict.number)
  unfolding find_at finding
  find_number n = by (answer file) refl
    where
      begun : (o : Option ℕ) → T (one_of (0 ∷ of_view) (from_start o (length file)).verdict.number)
      begun none = tt
      begun (some q) = tt

      by : (a : Answer Name Document) → answer file ≡ a → T (one_of (0 ∷ of_view) (finding a n (length file)).verdict.number)
      by (accepted d) e = begun (get_elem? (starts d.payments) n)
      by (refused r) e = of_file_lem (refused r) e

  pub locate_number : (start : ℕ) (w : Wanted) → T (one_of (0 ∷ of_view) (locate_at file start w).verdict.number)
  unfolding locate_at locating
  locate_number start w = by (answer file) refl
    where
      there : (o : Option (List ℕ)) → T (one_of (0 ∷ of_view) (if_text o (start + place_of w)).verdict.number)
      there none = tt
      there (some t) = tt

      begun : (o : Option Payment) → T (one_of (0 ∷ of_view) (if_begun o start w).verdict.number)
      begun none = tt
      begun (some y) = there (text_of w y)

      by : (a : Answer Name Document) → answer file ≡ a → T (one_of (0 ∷ of_view) (locating a start w).verdict.number)
      by (accepted d) e = begun (begun_at start d.payments)
      by (refused r) e = of_file_lem (refused r) e

  -- a refusal has an empty stretch
  pub find_refuses : (n : ℕ) → (find_at file n).verdict.number ≢ 0 → find_at file n ≡ nowhere (find_at file n).verdict
  unfolding find_at finding
  find_refuses n nonzero = by (answer file) nonzero
    where
      begun : (o : Option ℕ) → (from_start o (length file)).verdict.number ≢ 0
          → from_start o (length file) ≡ nowhere (from_start o (length file)).verdict
      begun none nz = refl
      begun (some q) nz = absurd (nz refl)

      by : (a : Answer Name Document) → (finding a n (length file)).verdict.number ≢ 0
          → finding a n (length file) ≡ nowhere (finding a n (length file)).verdict
      by (refused r) nz = refl
      by (accepted d) nz = begun (get_elem? (starts d.payments) n) nz

  pub locate_refuses : (start : ℕ) (w : Wanted) → (locate_at file start w).verdict.number ≢ 0
      → locate_at file start w ≡ nowhere (locate_at file start w).verdict
  unfolding locate_at locating
  locate_refuses start w nonzero = by (answer file) nonzero
    where
      there : (o : Option (List ℕ)) (q : ℕ) → (if_text o q).verdict.number ≢ 0 → if_text o q ≡ nowhere (if_text o q).verdict
      there none q nz = refl
      there (some t) q nz = absurd (nz refl)

      begun : (o : Option Payment) → (if_begun o start w).verdict.number ≢ 0 → if_begun o start w ≡ nowhere (if_begun o start w).verdict
      begun none nz = refl
      begun (some y) nz = there (text_of w y) (start + place_of w) nz

      by : (a : Answer Name Document) → (locating a start w).verdict.number ≢ 0 → locating a start w ≡ nowhere (locating a start w).verdict
      by (refused r) nz = refl
      by (accepted d) nz = begun (begun_at start d.payments) nz

  module _ (x : Acceptable file) where
    abbrev ps : List Payment
    ps = x.0.payments

    found_as : (n : ℕ) → find_at file n ≡ from_start (get_elem? (starts ps) n) (length file)
    unfolding find_at finding
    found_as n = ap (λ a. finding a n (length file)) (accepted_reading file x)

    located_as : (start : ℕ) (w : Wanted) → locate_at file start w ≡ if_begun (begun_at start ps) start w
    unfolding locate_at locating
    located_as start w = ap (λ a. locating a start w) (accepted_reading file x)

    -- the file has no payment n
    pub no_payment : (n : ℕ) → length ps ≤ n → find_at file n ≡ no_such
    no_payment n h = found_as n ∙ ap (λ o. from_start o (length file)) (beyond (starts ps) n (omega (arith, length_starts first_payment ps)))

    -- no payment begins at the start
    pub no_start : (start : ℕ) → ((n : ℕ) → get_elem? (starts ps) n ≡ some start → ⊥) → (w : Wanted) → locate_at file start w ≡ no_such
    unfolding begun_at
    no_start start not w = located_as start w ∙ ap (λ o. if_begun o start w) (none_at first_payment ps start not)

    -- payment n, where it is p: A and the payments before it end where it begins, and its bytes stand there; it is found, and so is each of its
    -- texts, all 27 bytes; a text that it has not is 19
    pub record PaymentIs (n : ℕ) (p : Payment) (start : ℕ) : Type 0 where
      pub ahead : take start file ≡ write_header x.0.header ++ write_payments (take n ps)
      pub bytes : take (length (write_payment p)) (drop start file) ≡ write_payment p
      pub found : find_at file n ≡ standing start (length file)
      pub text : (w : Wanted) (t : List ℕ) → text_of w p ≡ some t → locate_at file start w ≡ standing (start + place_of w) (start + place_of w + text_width)
      pub text_bytes : (w : Wanted) (t : List ℕ) → text_of w p ≡ some t → take text_width (drop (start + place_of w) file) ≡ t
      pub no_text : (w : Wanted) → text_of w p ≡ none → locate_at file start w ≡ no_such

    module _ (n : ℕ) (p : Payment) (is : get_elem? ps n ≡ some p) where
      -- payment n begins behind A and the payments before it
      abbrev pub start_of : ℕ
      start_of = first_payment + length (write_payments (take n ps))

      begun : begun_at start_of ps ≡ some p
      unfolding begun_at
      begun = begun_at_start first_payment ps n start_of p (start_there p first_payment ps n is) is

      located : (w : Wanted) → locate_at file start_of w ≡ if_text (text_of w p) (start_of + place_of w)
      located w = located_as start_of w ∙ ap (λ o. if_begun o start_of w) begun

      pub payment_is : PaymentIs n p start_of
      unfolding payments_of
      payment_is =
          let h = header_length x.0.header x.1.header in
          let s = stands_at x.0 file x.2 n p is start_of (ap (λ a. a + length (write_payments (take n ps))) (sym h)) in
          let b = begun_there file start_of p (ap (λ a. begun_at start_of (payments_of a)) (accepted_reading file x) ∙ begun) in
          record {
            ahead = s.0;
            bytes = s.1;
            found = found_as n ∙ ap (λ o. from_start o (length file)) (start_there p first_payment ps n is);
            text = λ w t e. located w ∙ ap (λ o. if_text o (start_of + place_of w)) e;
            text_bytes = λ w t e. (text_stands b w t e).bytes;
            no_text = λ w e. located w ∙ ap (λ o. if_text o (start_of + place_of w)) e;
          }

-- ---- when something is found

pub nineteen : ◌≡◌ {A = ℕ} 19 0 → ⊥
nineteen e = omega arith

module _ (file : List ℕ) where
  -- payment n is found exactly in acceptable files that have it
  pub finds_exactly : (n : ℕ) → ((find_at file n).verdict.number ≡ 0) ↔ ((x : Acceptable file) × (q : ℕ) × (get_elem? (starts x.0.payments) n ≡ some q))
  unfolding find_at finding
  finds_exactly n = (λ z. let x = by (answer file) refl z in begun x _ refl z, λ y. ap (λ (p : Spot). p.verdict.number) (found_as file y.0 n ∙ ap (λ o. from_start o (length file)) y.2))
    where
      by : (a : Answer Name Document) → answer file ≡ a → (finding a n (length file)).verdict.number ≡ 0 → Acceptable file
      by (accepted d) i z = (accepted_exactly file).0 (d, i)
      by (refused r) i z = (zero_exactly file).0 (ap (λ a. (outcome a).verdict.number) i ∙ z)

      begun : (x : Acceptable file) (o : Option ℕ) → get_elem? (starts x.0.payments) n ≡ o → (find_at file n).verdict.number ≡ 0
          → (x : Acceptable file) × (q : ℕ) × (get_elem? (starts x.0.payments) n ≡ some q)
      begun x none e z = absurd (nineteen (sym (ap (λ (p : Spot). p.verdict.number) (found_as file x n ∙ ap (λ o. from_start o (length file)) e)) ∙ z))
      begun x (some q) e z = (x, q, e)

  -- a text is there: the file is acceptable, and payment n, for some n, begins at the start and has it
  pub record TextThere (start : ℕ) (w : Wanted) : Type 0 where
    pub acceptable : Acceptable file
    pub n : ℕ
    pub payment : Payment
    pub text : List ℕ
    pub is : get_elem? acceptable.0.payments n ≡ some payment
    pub begins : get_elem? (starts acceptable.0.payments) n ≡ some start
    pub has : text_of w payment ≡ some text

  pub locates_exactly : (start : ℕ) (w : Wanted) → ((locate_at file start w).verdict.number ≡ 0) ↔ TextThere start w
  unfolding locate_at locating begun_at
  locates_exactly start w = (
    λ z. let x = by (answer file) refl z in begun x _ refl z,
    λ y. let b = begun_at_start first_payment y.acceptable.0.payments y.n start y.payment y.begins y.is in ap (λ (p : Spot). p.verdict.number) (as_begun y.acceptable b ∙ ap (λ o. if_text o (start + place_of w)) y.has),
  )
    where
      by : (a : Answer Name Document) → answer file ≡ a → (locating a start w).verdict.number ≡ 0 → Acceptable file
      by (accepted d) i z = (accepted_exactly file).0 (d, i)
      by (refused r) i z = (zero_exactly file).0 (ap (λ a. (outcome a).verdict.number) i ∙ z)

      as_begun : (x : Acceptable file) {o : Option Payment} → begun_at start x.0.payments ≡ o → locate_at file start w ≡ if_begun o start w
      as_begun x e = located_as file x start w ∙ ap (λ o. if_begun o start w) e

      there : (x : Acceptable file) (p : Payment) → begun_at start x.0.payments ≡ some p → (o : Option (List ℕ)) → text_of w p ≡ o
          → (locate_at file start w).verdict.number ≡ 0 → TextThere start w
      there x p b none e z = absurd (nineteen (sym (ap (λ (p : Spot). p.verdict.number) (as_begun x b ∙ ap (λ o. if_text o (start + place_of w)) e)) ∙ z))
      there x p b (some t) e z =
          let i = start_begun first_payment x.0.payments start p b in
          record { acceptable = x; n = i.0; payment = p; text = t; is = i.2; begins = i.1; has = e }

      begun : (x : Acceptable file) (o : Option Payment) → begun_at start x.0.payments ≡ o → (locate_at file start w).verdict.number ≡ 0 → TextThere start w
      begun x none e z = absurd (nineteen (sym (ap (λ (p : Spot). p.verdict.number) (as_begun x e)) ∙ z))
      begun x (some p) e z = there x p e (text_of w p) refl z
