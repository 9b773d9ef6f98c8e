-- Fields as a line prints them: each has the form of its kind, and no tab and no line end in it.
-- A number is printed in digits and a text in permitted signs, and neither tab nor line end is one of those (`avoids`). No field ends in a
-- blank: a digit is none, and a text has lost its trailing ones (`trim_ends`). The four words for the kind of file are tried one by one
-- (`among_every`).
use Prim.Native.Nat.{ℕ, ◌^◌, ◌<◌, ◌≤◌}
use native.Mathlib.Omega.{arith}
use mathlib.Core.Path.{◌≡◌, refl, ap, ◌∙◌, subst}
use mathlib.Core.Bool.{Bool, true, false, not}
use mathlib.Core.List.{List, [], ◌∷◌}
use lib.ListN.{length}
use lib.Dec.{T, leb, eqb, le→leb, eqb→eq, eqb_refl}
use Rattle.form.specs.Kind.{Kind, digits, maybe, choice, numeral, every, among, digit}
use Rattle.form.proofs.BoolLaws.{T_of, and_both, and_of, or_right}
use Rattle.form.proofs.KindLaws.{among_every, numeral_length, numeral_digits}
use Rattle.document.specs.Signs.{sign}
use Rattle.document.specs.Rules.{Text, file_kinds}
use Rattle.diskette.specs.Fields.{text27}
use Rattle.listing.specs.Lines.{tab, line_end, trim, ends_in_blank}
use Rattle.listing.specs.Records.{pad, Cell, wide, field_formed, formed}
use Rattle.listing.proofs.LineLaws.{clear, Clear, pad_whole, length_trim, trim_ends, trim_every}

pub record Printed (κ : Kind) (t : List ℕ) : Type 0 where
  pub form : T (field_formed κ t)
  pub no_tab : T (clear tab t)
  pub no_end : T (clear line_end t)

-- each field of a line is printed as the kind of its cell asks
abbrev pub AllPrinted : List Cell → List (List ℕ) → Type 0
AllPrinted [] [] = Unit {0}
AllPrinted [] (t ∷ ts) = ⊥
AllPrinted (c ∷ cs) [] = ⊥
AllPrinted (c ∷ cs) (t ∷ ts) = Printed c.kind t × AllPrinted cs ts

pub printed_formed : (cs : List Cell) (ts : List (List ℕ)) → AllPrinted cs ts → T (formed cs ts)
printed_formed [] [] a = tt
printed_formed [] (t ∷ ts) a = absurd a
printed_formed (c ∷ cs) [] a = absurd a
printed_formed (c ∷ cs) (t ∷ ts) a = and_of (field_formed c.kind t) (formed cs ts) a.0.form (printed_formed cs ts a.1)

pub printed_clear : (cs : List Cell) (ts : List (List ℕ)) → AllPrinted cs ts → Clear tab ts × Clear line_end ts
printed_clear [] [] a = (tt, tt)
printed_clear [] (t ∷ ts) a = absurd a
printed_clear (c ∷ cs) [] a = absurd a
printed_clear (c ∷ cs) (t ∷ ts) a = let i = printed_clear cs ts a.1 in ((a.0.no_tab, i.0), (a.0.no_end, i.1))

-- ---- the kinds of field

-- a byte that is not so stands in no row of bytes that are so
avoids : (z : ℕ) (p : ℕ → Bool) → p z ≡ false → (s : List ℕ) → T (every p s) → T (clear z s)
avoids z p e [] t = tt
avoids z p e (b ∷ bs) t =
    let h = and_both (p b) (every p bs) t in
    and_of (not (eqb b z)) (clear z bs) (by (eqb b z) refl h.0) (avoids z p e bs h.1)
  where
    by : (x : Bool) → eqb b z ≡ x → T (p b) → T (not x)
    by true q t = absurd (subst T (ap p (eqb→eq b z (T_of q)) ∙ e) t)
    by false q t = tt

no_blank : (s : List ℕ) → T (clear 0x20 s) → T (not (ends_in_blank s))
no_blank [] c = tt
no_blank (b ∷ []) c = (and_both (not (eqb b 0x20)) true c).0
no_blank (b ∷ d ∷ bs) c = no_blank (d ∷ bs) (and_both (not (eqb b 0x20)) (clear 0x20 (d ∷ bs)) c).1

pub pad_number : (w n : ℕ) → pad w (numeral w n) ≡ numeral w n
pad_number w n = pad_whole w (numeral w n) (numeral_length w n)

pub number_printed : (w n : ℕ) → n < 10 ^ w → Printed (digits w) (numeral w n)
number_printed w n h =
    let t = numeral w n in
    let d = numeral_digits w n h in
    record {
      form = and_of (eqb (length t) w) (not (ends_in_blank t)) (rw (numeral_length w n) (eqb_refl w)) (no_blank t (avoids 0x20 digit refl t d));
      no_tab = avoids tab digit refl t d;
      no_end = avoids line_end digit refl t d;
    }

-- a date in a field that may also be empty
pub date_printed : (w n : ℕ) → n < 10 ^ w → Printed (maybe w) (numeral w n)
date_printed w n h =
    let t = numeral w n in
    let p = number_printed w n h in
    let b = and_both (eqb (length t) w) (not (ends_in_blank t)) p.form in
    record {
      form = and_of (wide (maybe w) (length t)) (not (ends_in_blank t)) (or_right (eqb (length t) 0) (eqb (length t) w) b.0) b.1;
      no_tab = p.no_tab;
      no_end = p.no_end;
    }

pub absent_printed : (w : ℕ) → Printed (maybe w) []
absent_printed w = record { form = tt; no_tab = tt; no_end = tt }

pub text_printed : (s : List ℕ) → Text s → Printed text27 (trim s)
text_printed s l =
    let t = trim s in
    let e = trim_every sign s l.signs in
    let room : length t ≤ 27 = omega (arith, length_trim s, l.long) in
    record {
      form = and_of (leb (length t) 27) (not (ends_in_blank t)) (le→leb (length t) 27 room) (trim_ends s);
      no_tab = avoids tab sign refl t e;
      no_end = avoids line_end sign refl t e;
    }

pub kind_printed : (v : List ℕ) → T (among file_kinds v) → Printed (choice 2 file_kinds) v
kind_printed v t =
    let κ : Kind = choice 2 file_kinds in
    record {
      form = among_every (field_formed κ) file_kinds v tt t;
      no_tab = among_every (clear tab) file_kinds v tt t;
      no_end = among_every (clear line_end) file_kinds v tt t;
    }
