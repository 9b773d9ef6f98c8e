-- The fields of A say what the rules say: a filled A is a legal header written out, and the other way round.
-- Both directions list the fields in order, and all but the two dates have in the form the conditions that they have in the rules. The dates are
-- numbers in the form and days in the rules: DDMMYY and DDMMYYYY are taken there and back by the laws of `DateLaws`. The span is counted in the
-- form and stepped through in the rules; `span_counted` joins them, since the year of A7 lies below 9999 (`short_year`).
use Prim.Native.Nat.{ℕ, ◌^◌, ◌<◌}
use mathlib.Core.Path.{◌≡◌, refl, sym, ap, subst}
use mathlib.Core.Option.{Option, none, some}
use lib.ListN.{length}
use lib.Dec.{T, eqb, ltb→lt, lt→ltb}
use Rattle.form.specs.Kind.{maybe, fits, spell, among}
use Rattle.form.specs.Form.{Holds, Filled, value, bytes}
use Rattle.form.proofs.BoolLaws.{and_both, and_of}
use Rattle.form.proofs.RulesLaws.{◌▸◌, ok, Filling, Told, Says}
use Rattle.document.specs.Calendar.{Day, is_day, not_too_early, not_too_late, of_ddmmyy, to_ddmmyy, to_ddmmyyyy, of_ddmmyyyy}
use Rattle.document.specs.Values.{Header}
use Rattle.document.specs.Rules.{file_kinds, LegalExecution, LegalHeader}
use Rattle.diskette.specs.Writing.{write_execution, write_header}
use Rattle.diskette.specs.Fields.{execution_of, execution_rules, header}
use Rattle.document.proofs.CalendarLaws.{IsDay, see_day, span_counted}
use Rattle.document.proofs.DateLaws.{short_fits, short_back, short_there, short_year, long_fits, long_back, long_there}
use Rattle.document.proofs.FieldLaws.{text_fits, fits_text, kind_fits}

-- ---- A11b

-- a legal execution date, and the content of the field that says it
record Executes (made : Day) (e : Option Day) : Type 0 where
  number : Option ℕ
  fits : T (fits (maybe 8) number)
  holds : Holds (execution_rules made (execution_of number))
  says : execution_of number ≡ e
  spelled : spell (maybe 8) number ≡ write_execution e

executes : (made : Day) (e : Option Day) → IsDay made → made.year < 9999 → LegalExecution made e → Executes made e
executes made none h y l = record { number = none; fits = tt; holds = tt; says = refl; spelled = refl }
executes made (some d) h y l =
    let i = see_day d l.0 in
    let back = long_back d i in
    let span = and_both (not_too_early made d) (not_too_late made d) ((span_counted made d h y i).0 l.1) in
    record {
      number = some (to_ddmmyyyy d);
      fits = lt→ltb (to_ddmmyyyy d) (10 ^ 8) (long_fits d i);
      holds = rw back (l.0, (span.0, (span.1, tt)));
      says = ap {B = Option Day} some back;
      spelled = refl;
    }

-- a content of A11b that keeps the rules of the form says a legal execution date
execution_legal : (made : Day) (n : Option ℕ) → IsDay made → made.year < 9999 → Holds (execution_rules made (execution_of n)) → LegalExecution made (execution_of n)
execution_legal made none h y l = tt
execution_legal made (some n) h y l =
    let d = of_ddmmyyyy n in
    (l.0, (span_counted made d h y (see_day d l.0)).1 (and_of (not_too_early made d) (not_too_late made d) l.1.0 l.1.1.0))

execution_spelled : (n : Option ℕ) → spell (maybe 8) n ≡ write_execution (execution_of n)
execution_spelled none = refl
execution_spelled (some n) = rw (long_there n)

-- ---- A

same_header : (h : Header) (made : Day) (e : Option Day) → made ≡ h.made → e ≡ h.execution
    → ◌≡◌ {A = Header} (record {
      file_kind = h.file_kind;
      bank_code = h.bank_code;
      sending_bank = h.sending_bank;
      file_sender = h.file_sender;
      made = made;
      account = h.account;
      reference = h.reference;
      execution = e;
    }) h
same_header h made e p q = rw (p, q)

-- a legal header fills in A; n is what A7 holds
from_number : (h : Header) (l : LegalHeader h) (n : ℕ) → n ≡ to_ddmmyy h.made → of_ddmmyy n ≡ h.made → n < 10 ^ 6 → T (is_day (of_ddmmyy n))
    → Executes (of_ddmmyy n) h.execution → Filling header h (write_header h)
from_number h l n e back small day x = (
  ok
      ▸ ok
      ▸ (h.file_kind, kind_fits h.file_kind l.A3, tt)
      ▸ (h.bank_code, lt→ltb h.bank_code (10 ^ 8) l.A4, tt)
      ▸ (h.sending_bank, lt→ltb h.sending_bank (10 ^ 8) l.A5, (l.a5_zero, tt))
      ▸ (h.file_sender, text_fits h.file_sender l.A6, tt)
      ▸ (n, lt→ltb n (10 ^ 6) small, (day, tt))
      ▸ ok
      ▸ (h.account, lt→ltb h.account (10 ^ 10) l.A9, tt)
      ▸ (h.reference, lt→ltb h.reference (10 ^ 10) l.A10, tt)
      ▸ ok
      ▸ (x.number, x.fits, x.holds)
      ▸ ok
      ▸ ok
      ▸ tt,
  same_header h (of_ddmmyy n) (execution_of x.number) back x.says,
  rw (x.spelled, e),
)

pub header_says : Says header LegalHeader write_header
header_says = record { fill = fill; told = told }
  where
    fill : (h : Header) → LegalHeader h → Filling header h (write_header h)
    fill h l =
        let i = see_day h.made l.A7 in
        let n : ℕ = to_ddmmyy h.made in
        let back = short_back h.made i l.a7_year in
        let early = subst (λ (d : Day). d.year < 9999) back (short_year n).0 in
        let x = executes h.made h.execution i early l.A11b in
        from_number h l n refl back (short_fits h.made i) (rw back l.A7) (subst (λ (d : Day). Executes d h.execution) (sym back) x)

    told : (r : Filled header) → Told LegalHeader write_header (value header r) (bytes header r)
    told r =
        let kind = r.1.1 in
        let bank_code = kind.1 in
        let sending_bank = bank_code.1 in
        let file_sender = sending_bank.1 in
        let made = file_sender.1 in
        let account = made.1.1 in
        let reference = account.1 in
        let execution = reference.1.1 in
        let n : ℕ = made.0.0 in
        let i = see_day (of_ddmmyy n) made.0.2.0 in (
          value header r,
          record {
            A3 = (and_both (eqb (length kind.0.0) 2) (among file_kinds kind.0.0) kind.0.1).1;
            A4 = ltb→lt bank_code.0.0 (10 ^ 8) bank_code.0.1;
            A5 = ltb→lt sending_bank.0.0 (10 ^ 8) sending_bank.0.1;
            a5_zero = sending_bank.0.2.0;
            A6 = fits_text file_sender.0.0 file_sender.0.1;
            A7 = made.0.2.0;
            a7_year = (short_year n).1;
            A9 = ltb→lt account.0.0 (10 ^ 10) account.0.1;
            A10 = ltb→lt reference.0.0 (10 ^ 10) reference.0.1;
            A11b = execution_legal (of_ddmmyy n) execution.0.0 i (short_year n).0 execution.0.2;
          },
          refl,
          rw (short_there n, ← (execution_spelled execution.0.0)),
        )
