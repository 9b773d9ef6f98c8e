-- The record E as the steps in which the code reads it: a leaf's answer for each field, and what follows it.
use Rattle.std.proofs.Common.{◌≡◌, ℕ, ◌+◌, List}
use Rattle.form.specs.Kind.{fixed, digits, blanks}
use Rattle.form.specs.Place.{look_at, field_at, read_at}
use Rattle.document.specs.Signs.{ascii, zeros}
use Rattle.document.specs.Values.{Totals}
use Rattle.diskette.specs.Fields.{end, figure}
use Rattle.fields.specs.Answers.{Reading, of_field, of_read, passings}
use Rattle.fields.proofs.StepLaws.{Gives, at_end, last, onward, step, step_ruled}

-- what the code answers, step by step
abbrev pub told : Totals → List ℕ → ℕ → Reading ℕ
told t s p =
    onward (of_field (passings {X = Unit {0}}) p (p + 1) (look_at (fixed (ascii "E")) s p)) (λ p3.
    onward (of_field (passings {X = Unit {0}}) p3 (p3 + 5) (look_at (fixed (blanks 5)) s p3)) (λ p4.
    onward (of_field (passings {X = ℕ}) p4 (p4 + 7) (field_at (digits 7) (figure t.count) s p4)) (λ p5.
    onward (of_field (passings {X = Unit {0}}) p5 (p5 + 13) (look_at (fixed (zeros 13)) s p5)) (λ p6.
    onward (of_field (passings {X = ℕ}) p6 (p6 + 17) (field_at (digits 17) (figure t.accounts) s p6)) (λ p7.
    onward (of_field (passings {X = ℕ}) p7 (p7 + 17) (field_at (digits 17) (figure t.bank_codes) s p7)) (λ p8.
    onward (of_field (passings {X = ℕ}) p8 (p8 + 13) (field_at (digits 13) (figure t.cents) s p8)) (λ p9.
    of_field (passings {X = Unit {0}}) p9 (p9 + 51) (look_at (fixed (blanks 51)) s p9))))))))

steps : (t : Totals) (s : List ℕ) (p : ℕ) → Gives passings s (end t) p (told t s p)
steps t s p =
    step passings _ (λ v. step passings _ (λ v. step_ruled passings _ (λ v. step passings _ (λ v. step_ruled passings _ (λ v. step_ruled passings _ (λ v.
    step_ruled passings _ (λ v. last passings (λ v. at_end))))))))

pub end_steps : (t : Totals) (s : List ℕ) (p : ℕ) → of_read passings (read_at (end t) s p) ≡ told t s p
end_steps t s p = (steps t s p).is
