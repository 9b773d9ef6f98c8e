-- What private functions go by, and no public promise cites: what they answer of a line and of lines, given what composing makes of them.
use Rattle.std.specs.Prelude.{ℕ, ◌+◌, ◌-◌, ◌≤◌, ◌<◌, ◌≡◌, ◌≢◌, Bool, true, false, ◌&&◌, ◌||◌, not, List, [], ◌∷◌, length, take, drop, leb, eqb, Option, Some, None, Ok, Err}
use Rattle.form.specs.Kind.{same}
use Rattle.document.specs.Values.{Header, Payment, Document, Totals, totals, together}
use Rattle.diskette.specs.Writing.{write_payment, write_payments}
use Rattle.fields.specs.declared.FileKind.{FileKind}
use Rattle.fields.specs.Answers.{Reading, refusal_of, kind_of}
use Rattle.payment.specs.Adding.{with_payment}
use Rattle.sums.specs.declared.Sums.{Sums}
use Rattle.sums.specs.Sums.{sums_of}
use Rattle.listing.specs.Lines.{tab, line_end, split, ends_in_blank}
use Rattle.listing.specs.Records.{fields_with, parts_of, formed, in_line}
use Rattle.listing.specs.Composing.{Composed, made, denied, compose_payment}
use Rattle.layout.specs.declared.Cell.{Cell}
use Rattle.layout.specs.Lines as line
use Rattle.layout.specs.Cells.{letter_of, cells_of}
use Rattle.line_reader.specs.Reaching.{reach}
use Rattle.line_reader.specs.declared.SeenLine.{SeenLine}
use Rattle.composer.specs.declared.Listed.{Listed}

-- ---- a line by its fields

-- a field has the form that its cell asks for
abbrev pub wide_as : Cell → ℕ → Bool
wide_as c n = eqb n c.width || ((c.text && leb n c.width) || (c.optional && eqb n 0))

abbrev pub formed_as : Cell → List ℕ → Bool
formed_as c t = wide_as c (length t) && not (ends_in_blank t)

-- the letter, and n fields behind it, each of its form
abbrev pub line_formed : Bool → ℕ → List (List ℕ) → Bool
line_formed head n [] = false
line_formed head n (t ∷ ts) = same (letter_of head) t && formed (take n (cells_of head)) ts

abbrev pub behind_letter : List (List ℕ) → List (List ℕ)
behind_letter [] = []
behind_letter (t ∷ ts) = ts

-- a line of the form of A, or of a C, with n fields behind its letter, at least one
abbrev pub FormedLine : Bool → ℕ → List ℕ → Type 0
FormedLine head n x = (0 < n) × ((n ≤ length (cells_of head)) × (line_formed head n (split tab x) ≡ true))

-- how many parts a payment's line tells
abbrev pub lines_parts : List ℕ → ℕ
lines_parts x = parts_of (length (split tab x))

abbrev pub PaymentLine : List ℕ → Type 0
PaymentLine x = FormedLine false (fields_with (lines_parts x)) x

-- where in the line the field of the record at place p stands
abbrev pub place_in : Bool → ℕ → List (List ℕ) → ℕ → ℕ
place_in head n ts p = in_line (take n (cells_of head)) (behind_letter ts) line.first p

-- ---- what is told of what is composed

abbrev pub tells : {A T : Type 0} → (A → T) → Composed A → Reading T
tells keep (made a) = Ok (keep a)
tells keep (denied v) = Err (refusal_of v.number v.place)

-- what is told of A: its kind
abbrev pub head_told : Composed Header → Reading FileKind
head_told c = tells (λ h. kind_of h.file_kind) c

-- what is told of a payment: the sums with it, and its bytes in the file
abbrev pub payment_told : Sums → Composed Payment → Reading (Sums × ℕ)
payment_told sums c = tells (λ p. (with_payment sums p, length (write_payment p))) c

-- what is told of the line that begins at p, whose end is at e
pub record LineEnded (l : List ℕ) (p : ℕ) (letters : List ℕ) (t : Totals) (sums : Sums) (a : Reading (Sums × ℕ)) (e : ℕ) : Type 0 where
  pub ends : e ≡ p + reach line_end (drop p l)
  pub more : e ≢ length l
  pub told : a ≡ payment_told sums (compose_payment letters t p (split tab (take (e - p) (drop p l))))

-- what is told of the line that begins at p, after payments that come to t
abbrev pub LineTold : List ℕ → ℕ → List ℕ → Totals → Sums → Reading (Option SeenLine) → Type 0
LineTold l p letters t sums (Ok None) = p + reach line_end (drop p l) ≡ length l
LineTold l p letters t sums (Ok (Some line)) = (e : ℕ) × LineEnded l p letters t sums (Ok (line.sums, line.bytes)) e × (line.next ≡ e + 1)
LineTold l p letters t sums (Err r) = (e : ℕ) × LineEnded l p letters t sums (Err r) e

-- payments that come to t, and take so many bytes
abbrev pub listed_of : Totals → ℕ → Listed
listed_of t size = record { count = t.count; sums = sums_of t; size = size }

-- what is told of payments after others that come to t: what all come to, and these payments' bytes added to so many
abbrev pub payments_told : Totals → ℕ → Composed (List Payment) → Reading Listed
payments_told t size c = tells (λ ps. listed_of (together t (totals ps)) (size + length (write_payments ps))) c

-- what is told of a listing: what its payments come to, and their bytes
abbrev pub listing_told : Composed Document → Reading Listed
listing_told c = tells (λ d. listed_of (totals d.payments) (length (write_payments d.payments))) c
