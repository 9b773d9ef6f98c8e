-- Composing: the document that a listing tells, or the verdict on its first fault. Line by line: its form; then the record that it
-- stands for is read as in a file, with the rules and numbers of a file.
use Rattle.std.specs.Prelude.{ℕ, suc, ◌+◌, Bool, true, false, ◌&&◌, List, [], ◌∷◌, length, leb}
use Rattle.form.specs.Kind.{digits, same}
use Rattle.form.specs.Form.{Form, get, ◌>>=◌}
use Rattle.form.specs.Place.{Read, done, halt, read_at}
use Rattle.verdict.specs.declared.Verdict.{Verdict}
use Rattle.verdict.specs.Verdicts.{refusing, number_of}
use Rattle.document.specs.Signs.{ascii}
use Rattle.document.specs.Values.{Header, Payment, Document, Totals, no_totals, adding}
use Rattle.diskette.specs.Fields.{Name, c1_or_e1, header, payment, first_field}
use Rattle.listing.specs.Lines.{tab, line_end, split, empty}
use Rattle.listing.specs.Records.{Piece, record_a, record_c, parts_of, lay, cells, in_line, formed}

pub data Composed (A : Type 0) : Type 0 where
  made : A → Composed A
  denied : Verdict → Composed A

abbrev pub and_then : {A B : Type 0} → Composed A → (A → Composed B) → Composed B
and_then (made a) k = k a
and_then (denied v) k = denied v

abbrev pub provided : {A : Type 0} → Bool → Verdict → Composed A → Composed A
provided true v c = c
provided false v c = denied v

-- ---- a line that begins at place p of the listing

-- a refused field is named where it stands in the line
abbrev pub heard : {A : Type 0} → List Piece → List (List ℕ) → ℕ → Read Name A → Composed A
heard ps ts p (done a q) = made a
heard ps ts p (halt r) = denied (refusing (number_of r.reason) (p + in_line (cells 0 ps) ts 2 r.place))

-- a line: its form, which is the letter, the number of fields and each of them; then the record that the line stands for
abbrev pub compose_line : {A : Type 0} → Form Name A → List ℕ → List Piece → ℕ → List (List ℕ) → Composed A
compose_line m letter ps p [] = denied (refusing 17 p)
compose_line m letter ps p (t ∷ ts) = provided (same letter t && formed (cells 0 ps) ts) (refusing 17 p) (heard ps ts p (read_at m (lay ps ts) 0))

unfoldable pub compose_header : List (List ℕ) → Composed Header
compose_header ts = compose_line header (ascii "A") record_a 0 ts

-- C with its length, after payments that come to t: whether it may begin is a rule of its first field
abbrev pub whole_payment : List ℕ → Totals → Form Name Payment
whole_payment kind t = get c1_or_e1 (digits 4) (first_field t) >>= payment kind t

unfoldable pub compose_payment : List ℕ → Totals → ℕ → List (List ℕ) → Composed Payment
compose_payment kind t p ts = compose_line (whole_payment kind t) (ascii "C") (record_c (parts_of (length ts))) p ts

-- ---- the listing

-- the lines from p on, after payments that come to t; the last piece is what follows the last line's end
unfoldable pub compose_payments : List ℕ → Totals → ℕ → List (List ℕ) → Composed (List Payment)
compose_payments kind t p [] = denied (refusing 18 p)
compose_payments kind t p (x ∷ []) = provided (empty x) (refusing 17 p) (provided (leb 1 t.count) (refusing 18 p) (made []))
compose_payments kind t p (x ∷ y ∷ ys) =
    and_then (compose_payment kind t p (split tab x)) (λ q.
    and_then (compose_payments kind (adding t q) (p + suc (length x)) (y ∷ ys)) (λ qs. made (q ∷ qs)))

unfoldable pub compose_lines : List (List ℕ) → Composed Document
compose_lines [] = denied (refusing 18 0)
compose_lines (x ∷ []) = provided (empty x) (refusing 17 0) (denied (refusing 18 0))
compose_lines (x ∷ y ∷ ys) =
    and_then (compose_header (split tab x)) (λ h.
    and_then (compose_payments h.file_kind no_totals (suc (length x)) (y ∷ ys)) (λ ps. made (record { header = h; payments = ps })))

unfoldable pub compose : List ℕ → Composed Document
compose l = compose_lines (split line_end l)
