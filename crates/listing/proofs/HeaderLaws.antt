-- The line of A: the fields of a legal header are composed to it, and a line that is composed to a header has its fields.
use Prim.Native.Nat.{ℕ}
use mathlib.Core.Path.{◌≡◌, refl, sym, ap, ◌∙◌}
use mathlib.Core.Option.{Option, none, some}
use mathlib.Core.List.{List, ◌∷◌, ◌++◌}
use lib.Dec.{T}
use Rattle.form.specs.Kind.{maybe}
use Rattle.form.proofs.RulesLaws.{◌▸◌}
use Rattle.document.specs.Signs.{ascii}
use Rattle.document.specs.Calendar.{Day, to_ddmmyy, to_ddmmyyyy}
use Rattle.document.specs.Values.{Header}
use Rattle.document.specs.Rules.{LegalExecution, LegalHeader}
use Rattle.diskette.specs.Writing.{write_execution, write_header}
use Rattle.diskette.specs.Fields.{header}
use Rattle.document.proofs.CalendarLaws.{see_day}
use Rattle.document.proofs.DateLaws.{short_fits, long_fits}
use Rattle.document.proofs.FieldLaws.{kind_length}
use Rattle.diskette.proofs.HeaderSays.{header_says}
use Rattle.listing.specs.Lines.{tab, line_end}
use Rattle.listing.specs.Listing.{print_execution, header_fields}
use Rattle.listing.specs.Records.{record_a, pad, lay, cells, formed}
use Rattle.listing.specs.Composing.{made, compose_header}
use Rattle.listing.proofs.LineLaws.{Clear, pad_nothing, pad_whole, pad_trim}
use Rattle.listing.proofs.RecordLaws.{span, lay_begins}
use Rattle.listing.proofs.ComposingLaws.{line_composes, line_heard}
use Rattle.listing.proofs.PrintedLaws.{Printed, AllPrinted, printed_formed, printed_clear, pad_number, number_printed, date_printed, absent_printed, text_printed, kind_printed}

pub span_a : span record_a ≡ 128
span_a = refl

-- ---- the fields

execution_laid : (e : Option Day) → pad 8 (print_execution e) ≡ write_execution e
execution_laid none = pad_nothing 8
execution_laid (some d) = pad_number 8 (to_ddmmyyyy d)

-- the printed fields of a legal header, made wide, are its record
pub header_laid : (h : Header) → LegalHeader h → lay record_a (header_fields h) ≡ write_header h
header_laid h l =
    rw (
      pad_whole 2 h.file_kind (kind_length h.file_kind l.A3),
      pad_number 8 h.bank_code,
      pad_number 8 h.sending_bank,
      pad_trim 27 h.file_sender l.A6.long,
      pad_number 6 (to_ddmmyy h.made),
      pad_number 10 h.account,
      pad_number 10 h.reference,
      execution_laid h.execution,
    )

execution_printed : (start : Day) (e : Option Day) → LegalExecution start e → Printed (maybe 8) (print_execution e)
execution_printed start none l = absent_printed 8
execution_printed start (some d) l = date_printed 8 (to_ddmmyyyy d) (long_fits d (see_day d l.0))

header_printed : (h : Header) → LegalHeader h → AllPrinted (cells 0 record_a) (header_fields h)
header_printed h l =
    kind_printed h.file_kind l.A3
    ▸ number_printed 8 h.bank_code l.A4
    ▸ number_printed 8 h.sending_bank l.A5
    ▸ text_printed h.file_sender l.A6
    ▸ number_printed 6 (to_ddmmyy h.made) (short_fits h.made (see_day h.made l.A7))
    ▸ number_printed 10 h.account l.A9
    ▸ number_printed 10 h.reference l.A10
    ▸ execution_printed h.made h.execution l.A11b
    ▸ tt

pub header_formed : (h : Header) → LegalHeader h → T (formed (cells 0 record_a) (header_fields h))
header_formed h l = printed_formed (cells 0 record_a) (header_fields h) (header_printed h l)

pub header_clear : (h : Header) → LegalHeader h → Clear tab (header_fields h) × Clear line_end (header_fields h)
header_clear h l = printed_clear (cells 0 record_a) (header_fields h) (header_printed h l)

-- ---- the line

pub header_composes : (h : Header) → LegalHeader h → compose_header (ascii "A" ∷ header_fields h) ≡ made h
unfolding compose_header
header_composes h l =
    line_composes header LegalHeader write_header header_says (ascii "A") record_a 0 (header_fields h) h (header_formed h l) l (header_laid h l)

pub header_heard : (ts : List (List ℕ)) (h : Header) → compose_header ts ≡ made h → LegalHeader h × (ts ≡ ascii "A" ∷ header_fields h)
unfolding compose_header
header_heard ts h e =
    let x = line_heard header LegalHeader write_header header_says (ascii "A") record_a 0 ts h e in
    let l = x.legal in
    let laid : lay record_a x.fields ≡ lay record_a (header_fields h) ++ x.rest
    = x.laid ∙ ap (λ (b : List ℕ). b ++ x.rest) (sym (header_laid h l)) in
    let same = lay_begins record_a x.fields (header_fields h) x.rest x.formed (header_formed h l) laid in
    (l, x.line ∙ ap (λ (us : List (List ℕ)). ascii "A" ∷ us) same)
