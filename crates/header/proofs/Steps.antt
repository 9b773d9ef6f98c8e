-- The two stretches of A and the whole header as the steps in which the code reads them: a leaf's answer for each field, and what follows it.
-- Of A3 the form goes on with the letters, and the code with the kind of file: since the letters are among the four words, they are those of the
-- kind (`step_kind`), and the rule of A5 asks them.
use Rattle.std.proofs.Common.{◌≡◌, ℕ, ◌+◌, List, [], Ok, Err, sym, refl, ◌∙◌}
use Rattle.form.specs.Kind.{fixed, digits, maybe, choice, blanks}
use Rattle.form.specs.Form.{Form, field, ret}
use Rattle.form.specs.Place.{look_at, field_at, read_at}
use Rattle.document.specs.Signs.{ascii}
use Rattle.document.specs.Calendar as calendar
use Rattle.document.specs.Rules.{file_kinds}
use Rattle.diskette.specs.Fields.{Name, A3, text27, rules_a5, rules_a7, rules_a11b, header}
use Rattle.calendar.specs.Days.{day_of}
use Rattle.fields.specs.declared.FileKind.{FileKind}
use Rattle.fields.specs.Answers.{Reading, Telling, of_field, of_read, passings, numbers, kind_of, letters_of, kinds}
use Rattle.fields.proofs.AnswerLaws.{kind_is}
use Rattle.fields.proofs.WalkLaws.{start, past, stop}
use Rattle.fields.proofs.StepLaws.{Gives, at_end, onward, step, step_part, step_ruled}
use Rattle.dates.specs.Dates.{days, executions}
use Rattle.header.specs.declared.Header.{Header}
use Rattle.header.specs.declared.Opening as opened
use Rattle.header.specs.declared.Order as ordered
use Rattle.header.specs.Heading.{opening, openings, order, orders, joined, behind_opening, headers}
use Rattle.header.proofs.Laws.{letters_back}

-- ---- A1 to A7

-- A3: the letters that were read are those of the kind that is kept
module _ {A T : Type 0} {t : Telling A T} {f : List ℕ} {next : List ℕ → Form Name A} {p : ℕ} (k : FileKind × ℕ → Reading T)
    (follows : (letters : List ℕ) → letters_of (kind_of letters) ≡ letters → Gives t f (next letters) (p + 2) (k (kind_of letters, p + 2))) where
  step_kind : Gives t f (field A3 (choice 2 file_kinds) (λ v. []) next) p (onward (of_field kinds p (p + 2) (look_at (choice 2 file_kinds) f p)) k)
  step_kind = record { is = by (of_field kinds p (p + 2) (look_at (choice 2 file_kinds) f p)) refl }
    where
      by : (a : Reading (FileKind × ℕ)) → a ≡ of_field kinds p (p + 2) (look_at (choice 2 file_kinds) f p)
          → of_read t (read_at (field A3 (choice 2 file_kinds) (λ v. []) next) f p) ≡ onward a k
      by (Ok (x, q)) told =
          let i = kind_is p (p + 2) (look_at (choice 2 file_kinds) f p) told refl in
          rw (i.2, i.3) ((past (start (field A3 (choice 2 file_kinds) (λ v. []) next) p) (i.1, refl)).owed ∙ (follows i.0 (letters_back i.0 f p i.1)).is)
      by (Err r) told = sym (stop kinds (p + 2) (start (field A3 (choice 2 file_kinds) (λ v. []) next) p) told refl)

-- what the code answers, step by step
abbrev pub opening_told : List ℕ → ℕ → Reading (opened.Opening × ℕ)
opening_told s p =
    onward (of_field (passings {X = Unit {0}}) p (p + 4) (look_at (fixed (ascii "0128")) s p)) (λ p2.
    onward (of_field (passings {X = Unit {0}}) p2 (p2 + 1) (look_at (fixed (ascii "A")) s p2)) (λ p3.
    onward (of_field kinds p3 (p3 + 2) (look_at (choice 2 file_kinds) s p3)) (λ a3.
    onward (of_field numbers a3.1 (a3.1 + 8) (look_at (digits 8) s a3.1)) (λ a4.
    onward (of_field numbers a4.1 (a4.1 + 8) (field_at (digits 8) (rules_a5 (letters_of a3.0)) s a4.1)) (λ a5.
    onward (of_field (passings {X = List ℕ}) a5.1 (a5.1 + 27) (look_at text27 s a5.1)) (λ p7.
    onward (of_field days p7 (p7 + 6) (field_at (digits 6) rules_a7 s p7)) (λ a7.
    Ok (record { kind = a3.0; bank_code = a4.0; sending_bank = a5.0; made = a7.0 }, a7.1))))))))

opening_gives : (s : List ℕ) (p : ℕ) → Gives openings s opening p (opening_told s p)
opening_gives s p =
    step passings _ (λ v. step passings _ (λ v. step_kind _ (λ letters e. step numbers _ (λ bank_code. rw e (
    step_ruled numbers _ (λ sending_bank. step passings _ (λ v. step_ruled days _ (λ made. at_end))))))))

pub opening_steps : (s : List ℕ) (p : ℕ) → of_read openings (read_at opening s p) ≡ opening_told s p
opening_steps s p = (opening_gives s p).is

-- ---- A8 to A12

abbrev pub order_told : calendar.Day → List ℕ → ℕ → Reading (ordered.Order × ℕ)
order_told made s p =
    onward (of_field (passings {X = Unit {0}}) p (p + 4) (look_at (fixed (blanks 4)) s p)) (λ p9.
    onward (of_field numbers p9 (p9 + 10) (look_at (digits 10) s p9)) (λ a9.
    onward (of_field numbers a9.1 (a9.1 + 10) (look_at (digits 10) s a9.1)) (λ a10.
    onward (of_field (passings {X = Unit {0}}) a10.1 (a10.1 + 15) (look_at (fixed (blanks 15)) s a10.1)) (λ p11b.
    onward (of_field executions p11b (p11b + 8) (field_at (maybe 8) (rules_a11b made) s p11b)) (λ a11b.
    onward (of_field (passings {X = Unit {0}}) a11b.1 (a11b.1 + 24) (look_at (fixed (blanks 24)) s a11b.1)) (λ p12.
    onward (of_field (passings {X = Unit {0}}) p12 (p12 + 1) (look_at (fixed (ascii "1")) s p12)) (λ q.
    Ok (record { account = a9.0; reference = a10.0; execution = a11b.0 }, q))))))))

order_gives : (made : calendar.Day) (s : List ℕ) (p : ℕ) → Gives orders s (order made) p (order_told made s p)
unfolding order
order_gives made s p =
    step passings _ (λ v. step numbers _ (λ account. step numbers _ (λ reference. step passings _ (λ v. step_ruled executions _ (λ execution.
    step passings _ (λ v. step passings _ (λ v. at_end)))))))

pub order_steps : (made : calendar.Day) (s : List ℕ) (p : ℕ) → of_read orders (read_at (order made) s p) ≡ order_told made s p
order_steps made s p = (order_gives made s p).is

-- ---- the whole header

abbrev pub header_told : List ℕ → ℕ → Reading (Header × ℕ)
header_told s p =
    onward (of_read openings (read_at opening s p)) (λ a.
    onward (of_read orders (read_at (order (day_of a.0.made)) s a.1)) (λ b.
    Ok (
      record {
        kind = a.0.kind;
        bank_code = a.0.bank_code;
        sending_bank = a.0.sending_bank;
        made = a.0.made;
        account = b.0.account;
        reference = b.0.reference;
        execution = b.0.execution;
      },
      b.1,
    )))

header_gives : (s : List ℕ) (p : ℕ) → Gives headers s header p (header_told s p)
unfolding order
header_gives s p =
    step_part opening behind_opening openings _ (λ o q e. step_part (order o.made) (λ x. ret (joined o x)) orders _ (λ x r i. at_end))

pub header_steps : (s : List ℕ) (p : ℕ) → of_read headers (read_at header s p) ≡ header_told s p
header_steps s p = (header_gives s p).is
