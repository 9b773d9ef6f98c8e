-- What the answers of leaves and readers tell: a number with the place behind it, a place alone, a kind of file, blanks or a number.
use Rattle.std.proofs.Common.{◌≡◌, ℕ, List, Option, Some, None, Ok, Err, sym, ap, ap₂, ◌∙◌}
use Rattle.std.proofs.Math.Option as math
use Rattle.form.specs.Reader.{Look, has}
use Rattle.form.specs.Place.{Read, done}
use Rattle.fields.specs.declared.Refusal.{Refusal}
use Rattle.fields.specs.declared.FileKind.{FileKind}
use Rattle.fields.specs.Answers.{Reading, of_field, of_read, passings, numbers, or_none, maybe_numbers, kind_of, kinds}
use Rattle.fields.proofs.WalkLaws.{Fails, fails, stands, reads}

-- the content of a field that was passed, and the place behind it
module _ {X : Type 0} {a : Reading ℕ} (p n : ℕ) (l : Look X) (told : a ≡ of_field passings p n l) where
  pub passed_to : {q : ℕ} → a ≡ Ok q → (v : X) × (l ≡ has v) × (q ≡ n)
  passed_to given = let s = stands passings p n l told given in (s.value, s.content, s.given)

module _ {a : Reading (ℕ × ℕ)} (p n : ℕ) (l : Look ℕ) (told : a ≡ of_field numbers p n l) where
  pub number_is : {v q : ℕ} → a ≡ Ok (v, q) → (l ≡ has v) × (q ≡ n)
  number_is given =
      let s = stands numbers p n l told given in
      (s.content ∙ ap has (sym (ap (λ (x : ℕ × ℕ). x.0) s.given)), ap (λ (x : ℕ × ℕ). x.1) s.given)

module _ {a : Reading (FileKind × ℕ)} (p n : ℕ) (l : Look (List ℕ)) (told : a ≡ of_field kinds p n l) where
  pub kind_is : {k : FileKind} {q : ℕ} → a ≡ Ok (k, q) → (letters : List ℕ) × (l ≡ has letters) × (q ≡ n) × (k ≡ kind_of letters)
  kind_is given =
      let s = stands kinds p n l told given in
      (s.value, s.content, ap (λ (x : FileKind × ℕ). x.1) s.given, ap (λ (x : FileKind × ℕ). x.0) s.given)

-- the answer to a field that holds blanks or a number
module _ {a : Reading (Option ℕ × ℕ)} (p n : ℕ) (l : Look (math.Option ℕ)) (told : a ≡ of_field maybe_numbers p n l) where
  pub blank_is : {q : ℕ} → a ≡ Ok (None, q) → (l ≡ has math.none) × (q ≡ n)
  blank_is {q} given = let s = stands maybe_numbers p n l told given in by s.value s.content s.given
    where
      by : (v : math.Option ℕ) → l ≡ has v → ◌≡◌ {A = Option ℕ × ℕ} (None, q) (or_none v, n) → (l ≡ has math.none) × (q ≡ n)
      by math.none e g = (e, ap (λ (x : Option ℕ × ℕ). x.1) g)
      by (math.some v) e g = let i : None ≡ Some v = ap (λ (x : Option ℕ × ℕ). x.0) g in absurd cc

  pub some_is : {v q : ℕ} → a ≡ Ok (Some v, q) → (l ≡ has (math.some v)) × (q ≡ n)
  some_is {v} {q} given = let s = stands maybe_numbers p n l told given in by s.value s.content s.given
    where
      by : (u : math.Option ℕ) → l ≡ has u → ◌≡◌ {A = Option ℕ × ℕ} (Some v, q) (or_none u, n) → (l ≡ has (math.some v)) × (q ≡ n)
      by math.none e g = let i : Some v ≡ None = ap (λ (x : Option ℕ × ℕ). x.0) g in absurd cc
      by (math.some u) e g =
          let i : Some v ≡ Some u = ap (λ (x : Option ℕ × ℕ). x.0) g in
          let j : v ≡ u = cc in
          (rw j e, ap (λ (x : Option ℕ × ℕ). x.1) g)

  pub maybe_fails : {x : Refusal} → a ≡ Err x → Fails l p x
  maybe_fails given = fails maybe_numbers p n l told given

-- another reader keeps nothing of the form: the form was read up to its place
pub passed_form : {B N : Type 0} {a : Reading ℕ} (x : Read N B) → a ≡ of_read passings x → {q : ℕ} → a ≡ Ok q → (b : B) × (x ≡ done b q)
passed_form x told given = let s = reads passings x told given in (s.value, s.done ∙ ap (done s.value) (sym s.given))

-- the form says a number: it was read with the number and the place that the other reader gives
pub number_form : {N : Type 0} (x : Read N ℕ) {a : Reading (ℕ × ℕ)} → a ≡ of_read numbers x → {v q : ℕ} → a ≡ Ok (v, q) → x ≡ done v q
number_form x told given =
    let s = reads numbers x told given in
    s.done ∙ ap₂ done (sym (ap (λ (y : ℕ × ℕ). y.0) s.given)) (sym (ap (λ (y : ℕ × ℕ). y.1) s.given))
