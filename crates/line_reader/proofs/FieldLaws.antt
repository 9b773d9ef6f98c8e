-- Fields of a line as they stand in the listing, one behind the other, a tab and a field each: put together from what was seen, and taken apart
-- to see it.
-- `Fields l q ts s` says that the listing from q on is these fields, each behind a tab, and then what stands from s on. A field is put ahead of
-- such a stretch by its tab and its bytes (`one_field`), and taken off it again, which gives its tab, its bytes and the stretch behind it
-- (`first_bytes`, `behind_first`). Bytes and values are joined by the laws of the form: a number that was read stands there spelled
-- (`number_field`), and one that stands there spelled is read (`number_there`).
use Prim.Native.Nat.{ℕ, suc, ◌+◌, ◌^◌, ◌≤◌, ◌<◌}
use native.Mathlib.Numerals.{add-one}
use native.Mathlib.Omega.{arith}
use mathlib.Core.Path.{◌≡◌, refl, sym, ap, ◌∙◌, subst}
use mathlib.Core.List.{List, [], ◌∷◌, ◌++◌, append_assoc}
use lib.ListN.{length, take, drop, get_or, take-append-drop, length-append, length-drop}
use lib.Seq.{drop-cons, drop-drop, take_at, drop_at}
use lib.Dec.{leb, ltb→lt, lt→ltb, le→leb}
use Rattle.form.specs.Kind.{Kind, digits, Value, width, spell, numeral}
use Rattle.form.specs.Form.{Rule, Holds, Content}
use Rattle.form.specs.Reader.{Look, has, lacks, ◌then◌, obey}
use Rattle.form.specs.Place.{look_at, field_at}
use Rattle.form.proofs.AnswerLaws.{has_or_lacks}
use Rattle.form.proofs.BoolLaws.{is_true}
use Rattle.form.proofs.KindLaws.{numeral_length, spell_length}
use Rattle.form.proofs.ReaderLaws.{obey_has, settle_content}
use Rattle.form.proofs.PlaceLaws.{look_place, field_inside}
use Rattle.form.proofs.FilledLaws.{field_content, field_spelled}
use Rattle.listing.specs.Lines.{tab, behind_tabs}

-- the byte b at q
pub byte_there : (l : List ℕ) (q b : ℕ) → q < length l → get_or l q 0 ≡ b → drop q l ≡ b ∷ drop (q + 1) l
byte_there l q b h e = rw (add-one) (drop-cons l q 0 h ∙ ap (λ (x : ℕ). x ∷ drop (suc q) l) e)

-- the bytes from q to e
pub bytes_there : (l : List ℕ) (q n e : ℕ) → e ≡ q + n → drop q l ≡ take n (drop q l) ++ drop e l
bytes_there l q n e i = rw (i, ← drop-drop n q l) (sym (take-append-drop n (drop q l)))

-- from q to s these fields, each behind a tab
pub record Fields (l : List ℕ) (q : ℕ) (ts : List (List ℕ)) (s : ℕ) : Type 0 where
  pub stand : drop q l ≡ behind_tabs ts ++ drop s l

pub no_field : (l : List ℕ) (q : ℕ) → Fields l q [] q
no_field l q = record { stand = refl }

pub one_field : (l : List ℕ) (q r : ℕ) (t : List ℕ) {ts : List (List ℕ)} {s : ℕ} → q < length l → get_or l q 0 ≡ tab
    → drop (q + 1) l ≡ t ++ drop r l → Fields l r ts s → Fields l q (t ∷ ts) s
one_field l q r t {ts} {s} h e i f =
    record {
      stand =
          byte_there l q tab h e
          ∙ ap (λ (x : List ℕ). tab ∷ x) (i ∙ ap (λ (x : List ℕ). t ++ x) f.stand ∙ sym (append_assoc t (behind_tabs ts) (drop s l)));
    }

-- ---- a number

-- a field with no rule of its own
pub no_rules : (l : List ℕ) (p w v : ℕ) → look_at (digits w) l p ≡ has v → field_at (digits w) (λ u. []) l p ≡ has v
no_rules l p w v e = ap (λ x. ◌then◌ x (λ u. has u)) e

-- a field that keeps its rules is read, and has no other content
module _ (κ : Kind) (rs : Value κ → List Rule) (l : List ℕ) (q : ℕ) {v : Value κ} (there : field_at κ rs l q ≡ has v) where
  pub looked : look_at κ l q ≡ has v
  looked = by (look_at κ l q) refl there
    where
      by : (x : Look (Value κ)) → look_at κ l q ≡ x → ◌then◌ x (λ u. obey (rs u) u) ≡ has v → look_at κ l q ≡ has v
      by (has u) i e = i ∙ ap has (obey_has (rs u) u v e).1
      by (lacks z) i e = absurd (has_or_lacks (sym e))

  pub keeps : {u : Value κ} → look_at κ l q ≡ has u → Holds (rs u)
  keeps {u} e =
      let i = looked in
      let same : v ≡ u = cc in
      subst (λ (x : Value κ). Holds (rs x)) same (field_content κ rs l q v there).1

module _ (l : List ℕ) (at w v : ℕ) (rs : ℕ → List Rule) (there : field_at (digits w) rs l at ≡ has v) where
  pub number_fits : v < 10 ^ w
  number_fits = ltb→lt v (10 ^ w) (field_content (digits w) rs l at v there).0

  pub number_holds : Holds (rs v)
  number_holds = (field_content (digits w) rs l at v there).1

  -- a number that was read is, behind its tab, the first of the fields
  pub number_field : {q r s : ℕ} {ts : List (List ℕ)} → get_or l q 0 ≡ tab → at ≡ q + 1 → r ≡ at + w → Fields l r ts s
      → Fields l q (numeral w v ∷ ts) s
  number_field {q} {r} e a b f =
      let inside = field_inside (digits w) rs l at v there in
      one_field l q r (numeral w v) (omega arith) e
      (ap (λ (n : ℕ). drop n l) (sym a) ∙ bytes_there l at w r b ∙ ap (λ (x : List ℕ). x ++ drop r l) (sym (field_spelled (digits w) rs l at v there)))
      f

-- ---- fields taken apart

-- a byte with which the listing goes on at q
pub byte_here : (l : List ℕ) (q : ℕ) {b : ℕ} {bs : List ℕ} → drop q l ≡ b ∷ bs → (q < length l) × (get_or l q 0 ≡ b) × (drop (q + 1) l ≡ bs)
byte_here l q {b} {bs} e =
    let n = length-drop q l in
    let m = ap length e in
    let h : q < length l = omega arith in
    let c = drop-cons l q 0 h in
    (h, cc, rw (add-one q) cc)

module _ {l : List ℕ} {q : ℕ} {t : List ℕ} {ts : List (List ℕ)} {s : ℕ} (f : Fields l q (t ∷ ts) s) where
  first : (q < length l) × (get_or l q 0 ≡ tab) × (drop (q + 1) l ≡ t ++ (behind_tabs ts ++ drop s l))
  first = byte_here l q (f.stand ∙ ap (λ (x : List ℕ). tab ∷ x) (append_assoc t (behind_tabs ts) (drop s l)))

  pub first_inside : q < length l
  first_inside = first.0

  pub first_tab : get_or l q 0 ≡ tab
  first_tab = first.1

  pub first_bytes : drop (q + 1) l ≡ t ++ (behind_tabs ts ++ drop s l)
  first_bytes = first.2

  pub behind_first : {r : ℕ} → r ≡ q + 1 + length t → Fields l r ts s
  behind_first e =
      record {
        stand =
            ap (λ (n : ℕ). drop n l) e ∙ sym (drop-drop (length t) (q + 1) l) ∙ ap (drop (length t)) first_bytes
            ∙ drop_at t (behind_tabs ts ++ drop s l) (length t) refl;
      }

-- behind the last field the stretch is over
pub fields_over : {l : List ℕ} {q s : ℕ} → Fields l q [] s → s < length l → q ≡ s
fields_over {l} {q} {s} f h = omega (arith, ap length f.stand, length-drop q l, length-drop s l)

-- a field is read where its content is spelled
field_stands : (κ : Kind) (rs : Value κ → List Rule) (l : List ℕ) (p : ℕ) (c : Content κ rs) (rest : List ℕ) → p ≤ length l → drop p l ≡ spell κ c.0 ++ rest
    → field_at κ rs l p ≡ has c.0
field_stands κ rs l p c rest h e =
    let word = spell κ c.0 in
    let w = spell_length κ c.0 c.1 in
    let n = length-append word rest in
    sym (look_place κ rs l p h)
    ∙ rw (e, is_true (leb (width κ) (length (word ++ rest))) (le→leb (width κ) (length (word ++ rest)) (omega arith)), take_at word rest (width κ) w) (settle_content κ rs c)

module _ {l : List ℕ} {q : ℕ} (w v : ℕ) {ts : List (List ℕ)} {s : ℕ} (f : Fields l q (numeral w v ∷ ts) s) where
  pub number_there : (rs : ℕ → List Rule) → v < 10 ^ w → Holds (rs v) → {at : ℕ} → at ≡ q + 1 → field_at (digits w) rs l at ≡ has v
  number_there rs fits holds e =
      let inside = first_inside f in
      ap (field_at (digits w) rs l) e
      ∙ field_stands (digits w) rs l (q + 1) (v, lt→ltb v (10 ^ w) fits, holds) (behind_tabs ts ++ drop s l) (omega arith) (first_bytes f)

  pub behind_number : {r : ℕ} → r ≡ q + 1 + w → Fields l r ts s
  behind_number e = behind_first f (e ∙ ap (λ (n : ℕ). q + 1 + n) (sym (numeral_length w v)))
