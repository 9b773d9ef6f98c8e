-- The letters of A3 and the kind of file that they tell, and that a header that was read is legal.
-- The code keeps two facts in the place of the letters: that nothing is lost either way is tried for the four words and for the four kinds
-- (`letters_among`, `kind_back`), and so a rule of the letters can be asked of the kind (`sending_test`). A header that was read fills in the form
-- of A, which says the legal headers (`header_says`).
use Rattle.std.proofs.Common.{◌≡◌, ℕ, Bool, true, false, ◌&&◌, ◌||◌, not, eqb, T, List, length, Ok, refl, sym, ap, ◌∙◌, subst}
use Rattle.form.specs.Kind.{choice, same, among}
use Rattle.form.specs.Reader.{has}
use Rattle.form.specs.Place.{look_at, Read, done, halt, read_at}
use Rattle.form.proofs.BoolLaws.{and_both}
use Rattle.form.proofs.KindLaws.{same_eq, among_every}
use Rattle.form.proofs.FilledLaws.{look_fits, read_filled}
use Rattle.document.specs.Values as values
use Rattle.document.specs.Rules.{file_kinds, sending_bank_ok, LegalHeader}
use Rattle.diskette.specs.Fields.{Name, header}
use Rattle.diskette.proofs.HeaderSays.{header_says}
use Rattle.fields.specs.declared.FileKind.{FileKind}
use Rattle.fields.specs.Answers.{Reading, of_read, kind_of, letters_of}
use Rattle.header.specs.declared.Header.{Header}
use Rattle.header.specs.Heading.{header_of, headers}

-- ---- the letters of A3

-- the kind that two letters tell has these letters
pub letters_among : (letters : List ℕ) → T (among file_kinds letters) → letters_of (kind_of letters) ≡ letters
letters_among letters t =
    same_eq (letters_of (kind_of letters)) letters (among_every (λ w. same (letters_of (kind_of w)) w) file_kinds letters tt t)

pub letters_back : (letters f : List ℕ) (p : ℕ) → look_at (choice 2 file_kinds) f p ≡ has letters → letters_of (kind_of letters) ≡ letters
letters_back letters f p e =
    letters_among letters (and_both (eqb (length letters) 2) (among file_kinds letters) (look_fits (choice 2 file_kinds) f p letters e)).1

-- the letters of a kind of file tell that kind
pub kind_back : (k : FileKind) → kind_of (letters_of k) ≡ k
kind_back k = by k.credit k.customer
  where
    by : (credit customer : Bool)
        → ◌≡◌ {A = FileKind} (kind_of (letters_of (record { credit = credit; customer = customer }))) (record { credit = credit; customer = customer })
    by true true = refl
    by true false = refl
    by false true = refl
    by false false = refl

-- ---- A5

implies : (a b : Bool) → not a || b ≡ not (a && not b)
implies true true = refl
implies true false = refl
implies false b = refl

-- the code's test of A5 is the rule's
pub sending_test : (k : FileKind) (v : ℕ) {t : Bool} → k.customer && not (eqb v 0) ≡ t → sending_bank_ok (letters_of k) v ≡ not t
sending_test k v e = rw (ap (λ (x : FileKind). x.customer) (kind_back k)) (implies k.customer (eqb v 0) ∙ ap not e)

-- ---- the answer

-- a header that is answered was read
pub header_is : {a : Reading (Header × ℕ)} (x : Read Name values.Header) → a ≡ of_read headers x → {h : Header} {q : ℕ} → a ≡ Ok (h, q)
    → (v : values.Header) × (x ≡ done v q) × (h ≡ header_of v)
unfolding of_read
header_is (done v n) told {h} {q} given =
    let e : ◌≡◌ {A = Header × ℕ} (h, q) (header_of v, n) = cc in
    (v, ap (done v) (sym (ap (λ (x : Header × ℕ). x.1) e)), ap (λ (x : Header × ℕ). x.0) e)
header_is (halt r) told given = absurd cc

-- ---- the form of A

-- a header that was read is legal
pub header_legal : (f : List ℕ) (p q : ℕ) (v : values.Header) → read_at header f p ≡ done v q → LegalHeader v
header_legal f p q v e =
    let r = read_filled header f p q v e in
    let d = header_says.told r.0 in
    subst LegalHeader (sym d.2 ∙ r.1) d.1

-- the kind that the code keeps of a header that was read has the letters of its A3
pub header_letters : (f : List ℕ) (p q : ℕ) (v : values.Header) → read_at header f p ≡ done v q
    → letters_of (kind_of v.file_kind) ≡ v.file_kind
header_letters f p q v e = letters_among v.file_kind (header_legal f p q v e).A3
