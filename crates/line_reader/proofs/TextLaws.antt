-- A text of a line: where it ends; made as wide as in its record a legal text, which a line prints as it stands here; and that a legal text
-- stands where it is printed.
-- What was seen has at most 27 bytes, all of them signs, and does not end in a blank: filled up with blanks it is a legal text, and trimmed
-- again it is what was seen (`text_legal`, `text_printed`, by `trim_pad`). The other way, a printed text is all signs, and what stands behind
-- it, a tab or the line's end, is none, so the signs end where the text does (`no_sign`, `text_there`).
use Prim.Native.Nat.{ℕ, zero, suc, ◌+◌, ◌-◌, ◌≤◌, ◌<◌}
use native.Mathlib.Omega.{arith}
use mathlib.Core.Path.{◌≡◌, refl, sym, ap, ◌∙◌, subst}
use mathlib.Core.Bool.{Bool, true, false, not}
use mathlib.Core.List.{List, [], ◌∷◌, ◌++◌}
use lib.ListN.{length, take, drop, get_or, length-drop}
use lib.Seq.{length-take-le, take_at}
use lib.Dec.{T, eqb}
use Rattle.form.specs.Kind.{every, blanks}
use Rattle.form.proofs.BoolLaws.{is_true, T_of, and_both, and_of}
use Rattle.document.specs.Signs.{sign, not_all_blank}
use Rattle.document.specs.Rules.{Text}
use Rattle.listing.specs.Lines.{tab, line_end, behind_tabs, trim, ends_in_blank}
use Rattle.listing.specs.Records.{pad}
use Rattle.listing.proofs.LineLaws.{length_trim, trim_ends, trim_every, pad_length, pad_nothing, pad_trim, trim_pad}
use Rattle.line_reader.specs.Lines.{signs_ahead, signs_end, behind_tab, Text as TextThere}
use Rattle.line_reader.proofs.SignsLaws.{every_append, signs_few, signs_end_inside, signs_are, signs_printed}
use Rattle.line_reader.proofs.FieldLaws.{byte_there, bytes_there, Fields, one_field, first_inside, first_tab, first_bytes}

every_take : (t : ℕ → Bool) (n : ℕ) (s : List ℕ) → T (every t s) → T (every t (take n s))
every_take t zero s h = tt
every_take t (suc n) [] h = tt
every_take t (suc n) (x ∷ xs) h =
    let k = and_both (t x) (every t xs) h in
    and_of (t x) (every t (take n xs)) k.0 (every_take t n xs k.1)

blank_signs : (n : ℕ) → T (every sign (blanks n))
blank_signs zero = tt
blank_signs (suc n) = blank_signs n

-- blanks alone are trimmed away
all_blank : (s : List ℕ) → T (every (λ b. eqb b 0x20) s) → trim s ≡ []
unfolding trim
all_blank [] h = refl
all_blank (b ∷ bs) h =
    let k = and_both (eqb b 0x20) (every (λ b. eqb b 0x20) bs) h in
    rw (is_true (eqb b 0x20) k.0, all_blank bs k.1)

-- the text between q and e, as it stands in the record
abbrev pub wide : List ℕ → ℕ → ℕ → List ℕ
wide l q e = pad 27 (behind_tab l q e)

-- how many bytes a text has that ends with the signs behind its tab
pub text_long : (l : List ℕ) (q e : ℕ) → q < length l → e ≡ signs_end l (q + 1) → length (behind_tab l q e) ≡ e - (q + 1)
text_long l q e inside to =
    let h = signs_end_inside l (q + 1) (omega arith) in
    length-take-le (e - (q + 1)) (drop (q + 1) l) (simp length-drop (omega arith))

module _ {l : List ℕ} {q e : ℕ} (t : TextThere l q e) where
  pub text_on : q < e
  text_on = omega (arith, t.to)

  text_few : e ≤ q + 28
  text_few = omega (arith, t.to, signs_few 27 (drop (q + 1) l))

  pub text_inside : e ≤ length l
  text_inside = let inside = t.inside in omega (arith, t.to, signs_end_inside l (q + 1) (omega arith))

  text_signs : T (every sign (behind_tab l q e))
  text_signs =
      let n : e - (q + 1) ≡ signs_ahead 27 (drop (q + 1) l) = omega (arith, t.to) in
      rw n (signs_are 27 (drop (q + 1) l))

  -- a tab has one text behind it
  pub text_once : {f : ℕ} → TextThere l q f → e ≡ f
  text_once u = t.to ∙ sym u.to

  long : length (behind_tab l q e) ≡ e - (q + 1)
  long = text_long l q e t.inside t.to

  text_printed : trim (wide l q e) ≡ behind_tab l q e
  text_printed = let few = text_few in let n = long in trim_pad 27 (behind_tab l q e) t.ends (omega arith)

  pub text_legal : Text (wide l q e)
  text_legal =
      record {
        long = pad_length 27 (behind_tab l q e);
        signs = every_take sign 27 (behind_tab l q e ++ blanks 27) (every_append sign (behind_tab l q e) (blanks 27) text_signs (blank_signs 27));
      }

  pub text_some : q + 2 ≤ e → T (not_all_blank (wide l q e))
  text_some h = by (every (λ b. eqb b 0x20) (wide l q e)) refl
    where
      none : every (λ b. eqb b 0x20) (wide l q e) ≡ true → ⊥
      none i =
          let empty : behind_tab l q e ≡ [] = sym text_printed ∙ all_blank (wide l q e) (T_of i) in
          let n = long in
          let z : length (behind_tab l q e) ≡ 0 = ap length empty in
          omega arith

      by : (b : Bool) → every (λ b. eqb b 0x20) (wide l q e) ≡ b → T (not b)
      by true i = absurd (none i)
      by false i = tt

  pub text_field : {s : ℕ} {ts : List (List ℕ)} → Fields l e ts s → Fields l q (trim (wide l q e) ∷ ts) s
  text_field f =
      let on = text_on in
      rw text_printed (one_field l q e (behind_tab l q e) t.inside t.tab (bytes_there l (q + 1) (e - (q + 1)) e (omega arith)) f)

-- ---- a text that is printed

-- what stands behind a field is no sign
no_sign : (l : List ℕ) (s : ℕ) (ts : List (List ℕ)) → s < length l → get_or l s 0 ≡ line_end
    → (b : ℕ) × (bs : List ℕ) × (behind_tabs ts ++ drop s l ≡ b ∷ bs) × (sign b ≡ false)
no_sign l s [] inside end = (line_end, drop (s + 1) l, byte_there l s line_end inside end, refl)
no_sign l s (t ∷ ts) inside end = (tab, (t ++ behind_tabs ts) ++ drop s l, refl, refl)

module _ (x : List ℕ) (legal : Text x) where
  pub text_there : {l : List ℕ} {q s : ℕ} {ts : List (List ℕ)} → Fields l q (trim x ∷ ts) s → s < length l → get_or l s 0 ≡ line_end
      → TextThere l q (q + 1 + length (trim x))
  text_there {l} {q} {s} {ts} f inside end =
      let t = trim x in
      let b = no_sign l s ts inside end in
      let bytes : drop (q + 1) l ≡ t ++ (b.0 ∷ b.1) = first_bytes f ∙ ap (λ (y : List ℕ). t ++ y) b.2 in
      let few : length t ≤ 27 = omega (arith, length_trim x, legal.long) in
      let signs : signs_ahead 27 (drop (q + 1) l) ≡ length t = ap (signs_ahead 27) bytes ∙ signs_printed 27 t b.0 b.1 (trim_every sign x legal.signs) few b.3 in
      let n : q + 1 + length t - (q + 1) ≡ length t = omega arith in
      let same : behind_tab l q (q + 1 + length t) ≡ t
      = ap (λ (m : ℕ). take m (drop (q + 1) l)) n ∙ ap (take (length t)) bytes ∙ take_at t (b.0 ∷ b.1) (length t) refl in
      record {
        inside = first_inside f;
        tab = first_tab f;
        to = ap (λ (m : ℕ). q + 1 + m) (sym signs);
        ends = subst (λ (y : List ℕ). T (not (ends_in_blank y))) (sym same) (trim_ends x);
      }

  -- a text that is not all blank is not printed empty
  pub printed_some : T (not_all_blank x) → 0 < length (trim x)
  printed_some some = by (trim x) refl
    where
      by : (t : List ℕ) → trim x ≡ t → 0 < length t
      by [] e = absurd (subst (λ (y : List ℕ). T (not_all_blank y)) (sym (pad_trim 27 x legal.long) ∙ ap (pad 27) e ∙ pad_nothing 27) some)
      by (b ∷ bs) e = omega arith
