-- Which numbers the diskette form gives: its rules give 5 to 14 and 21 to 23, each record its own, so that a refused file has one of the numbers
-- of a file, and a medium one of those of a medium.
-- Field by field the number of each rule is looked up in the list of its record, which computes; the parts and the payments go by induction over
-- those that are left. The lists of the records are then taken together (`numbered_within`), and what is broken is a rule of the form by
-- `number_given`. The reasons that are no rule have their numbers by `number_of`. What halts the reading of a file, wherever it stands, is never
-- that bytes follow (`halt_reason`).
use Prim.Native.Nat.{ℕ, zero, suc}
use mathlib.Core.Path.{◌≡◌, refl}
use mathlib.Core.Option.{Option, none, some}
use mathlib.Core.List.{List, [], ◌∷◌, ◌++◌}
use lib.Dec.{T, eqb}
use Rattle.form.specs.Kind.{one_of}
use Rattle.form.specs.Reader.{Reason, short, not_fixed, not_digit, not_sign, breaks, surplus, Refusal, refused, run}
use Rattle.form.proofs.RulesLaws.{◌▸◌}
use Rattle.form.specs.Place.{halt, read_at}
use Rattle.form.proofs.WholeLaws.{Halts, for_want, for_content, halt_reason}
use Rattle.form.proofs.NumberLaws.{one_within, NumberedRules, Numbered, numbered_bind, numbered_fork, numbered_within, number_given}
use Rattle.verdict.specs.Verdicts.{number_of}
use Rattle.verdict.specs.Numbers.{of_medium, of_file}
use Rattle.verdict.proofs.NumberLaws.{stopped_number}
use Rattle.document.specs.Calendar.{Day}
use Rattle.document.specs.Values.{Totals, no_totals, adding}
use Rattle.document.specs.Rules.{most_payments}
use Rattle.document.specs.Marks.{room_after}
use Rattle.diskette.specs.Writing.{section, to_section_end, to_next_part}
use Rattle.diskette.specs.Fields.{Name, execution_of, execution_rules, header, closing_blanks, parts, payment, end, payments, behind_header, document}

-- ---- the rules of each record

abbrev pub of_header : List ℕ
of_header = 10 ∷ 11 ∷ 22 ∷ 23 ∷ []

-- the numbers of the first field after A or a C
abbrev pub of_first : List ℕ
of_first = 5 ∷ 6 ∷ 9 ∷ []

abbrev pub of_payment : List ℕ
of_payment = 7 ∷ 8 ∷ 9 ∷ 11 ∷ 12 ∷ 13 ∷ 21 ∷ []

abbrev of_end : List ℕ
of_end = 14 ∷ []

abbrev pub of_rules : List ℕ
of_rules = of_header ++ (of_first ++ (of_payment ++ of_end))

execution_numbers : (made : Day) (n : Option ℕ) → NumberedRules (one_of of_header) (execution_rules made (execution_of n))
execution_numbers made none = tt
execution_numbers made (some n) = (tt, (tt, (tt, tt)))

pub header_numbers : Numbered (one_of of_header) header
header_numbers =
    λ v.
    tt ▸ λ v.
    tt ▸ λ v.
    tt ▸ λ v.
    tt ▸ λ v.
    (tt, tt) ▸ λ v.
    tt ▸ λ v.
    (tt, tt) ▸ λ v.
    tt ▸ λ v.
    tt ▸ λ v.
    tt ▸ λ v.
    tt ▸ λ v.
    execution_numbers _ v ▸ λ v.
    tt ▸ λ v.
    tt ▸ tt

closing_numbers : (s n : ℕ) → Numbered (one_of of_payment) (closing_blanks s n)
closing_numbers s zero = tt
closing_numbers s (suc n) = λ v. tt ▸ tt

parts_numbers : (left i room : ℕ) → Numbered (one_of of_payment) (parts left i room)
unfolding parts
parts_numbers zero i room = numbered_bind (one_of of_payment) (closing_blanks (section i) (to_section_end i)) _ (closing_numbers (section i) (to_section_end i)) (λ u. tt)
parts_numbers (suc left) i room =
    numbered_bind (one_of of_payment) (closing_blanks (section i) (to_next_part i)) _ (closing_numbers (section i) (to_next_part i)) (λ u.
    λ m. (tt, (tt, tt)) ▸ λ t. tt ▸ numbered_bind (one_of of_payment) (parts left (suc i) (room_after m room)) _ (parts_numbers left (suc i) (room_after m room)) (λ ps. tt))

pub payment_numbers : (kind : List ℕ) (t : Totals) (l : ℕ) → Numbered (one_of of_payment) (payment kind t l)
payment_numbers kind t l =
    λ v.
    tt ▸ λ v.
    tt ▸ λ v.
    (tt, (tt, tt)) ▸ λ v.
    (tt, (tt, tt)) ▸ λ v.
    (tt, tt) ▸ λ v.
    (tt, tt) ▸ λ v.
    (tt, tt) ▸ λ v.
    tt ▸ λ v.
    tt ▸ λ v.
    (tt, tt) ▸ λ v.
    (tt, tt) ▸ λ v.
    (tt, (tt, tt)) ▸ λ v.
    tt ▸ λ v.
    (tt, tt) ▸ λ v.
    tt ▸ λ v.
    (tt, tt) ▸ λ v.
    tt ▸ λ v.
    tt ▸ λ v.
    tt ▸ λ v.
    (tt, tt) ▸ numbered_bind (one_of of_payment) (parts v 0 15) _ (parts_numbers v 0 15) (λ ps. tt)

end_numbers : (t : Totals) → Numbered (one_of of_end) (end t)
end_numbers t =
    λ v.
    tt ▸ λ v.
    tt ▸ λ v.
    (tt, tt) ▸ λ v.
    tt ▸ λ v.
    (tt, tt) ▸ λ v.
    (tt, tt) ▸ λ v.
    (tt, tt) ▸ λ v.
    tt ▸ tt

-- ---- all records

payments_numbers : (left : ℕ) (kind : List ℕ) (t : Totals) → Numbered (one_of of_rules) (payments left kind t)
unfolding payments
payments_numbers zero kind t = λ l. (tt, (tt, (tt, tt))) ▸ numbered_within of_end of_rules tt (end t) (end_numbers t)
payments_numbers (suc left) kind t =
    λ l.
    (tt, (tt, (tt, tt))) ▸
    numbered_fork (one_of of_rules) (eqb l 128) (end t) _ (numbered_within of_end of_rules tt (end t) (end_numbers t))
    (numbered_bind (one_of of_rules) (payment kind t l) _ (numbered_within of_payment of_rules tt (payment kind t l) (payment_numbers kind t l)) (λ p.
    numbered_bind (one_of of_rules) (payments left kind (adding t p)) _ (payments_numbers left kind (adding t p)) (λ ps. tt)))

document_numbers : Numbered (one_of of_rules) document
unfolding document
document_numbers =
    numbered_bind (one_of of_rules) header behind_header (numbered_within of_header of_rules tt header header_numbers) (λ h.
    numbered_bind (one_of of_rules) (payments most_payments h.file_kind no_totals) _ (payments_numbers most_payments h.file_kind no_totals) (λ ps. tt))

-- a refused file has one of the numbers of a file
pub file_number : (f : List ℕ) (r : Refusal Name) → run document f ≡ refused r → T (one_of of_file (number_of r.reason))
unfolding number_of
file_number f r e = by r.reason refl
  where
    by : (z : Reason) → r.reason ≡ z → T (one_of of_file (number_of z))
    by short i = tt
    by not_fixed i = tt
    by not_digit i = tt
    by not_sign i = tt
    by (breaks n) i = one_within of_rules of_file n tt (number_given (one_of of_rules) document f r document_numbers e n i)
    by surplus i = tt

-- what halts a file has one of the numbers of a medium
reason_number : {z : Reason} → Halts (one_of of_rules) z → T (one_of of_medium (number_of z))
unfolding number_of
reason_number for_want = tt
reason_number (for_content stopped) = stopped_number of_rules of_medium tt tt stopped

-- a file that is refused where it stands, whatever follows it, has one of the numbers of a medium
pub halt_number : (f : List ℕ) (p : ℕ) (r : Refusal Name) → read_at document f p ≡ halt r → T (one_of of_medium (number_of r.reason))
halt_number f p r e = reason_number (halt_reason (one_of of_rules) f document p r document_numbers e)
