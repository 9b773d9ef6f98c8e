-- composer::payment_line meets its contract: the line's form, then its record, laid out and read.
-- There is no loop, and each return is a law of ToldLaws: `payment_denied`, `payment_refuses`, `payment_accepts`. They ask for three facts that
-- are gathered on the way: k is the number of parts that the line tells (`parts`), the line has its form behind the test (`formed`), and what
-- was read is the record laid out from the line (`read`). The last is the long one: the front part of the lent space that is written is the one
-- that is read, since it is as long when it has been written (`laid_long`).
use Prim.Native.Nat.{ℕ, ◌≤◌}
use native.Mathlib.Omega.{arith}
use mathlib.Core.Path.{◌≡◌, sym, ap, ◌∙◌}
use mathlib.Core.Bool.{false}
use mathlib.Core.List.{List}
use lib.ListN.{length, drop}
use lib.Seq.{take_at}
use borrow.Author.Tests.{not-false, not-true}
use Rattle.form.specs.Place.{read_at}
use Rattle.document.specs.Marks.{most_parts}
use Rattle.fields.specs.Answers.{Reading, of_read, letters_of}
use Rattle.sums.specs.declared.Sums.{Sums}
use Rattle.sums.specs.Sums.{totals_of}
use Rattle.payment.specs.Adding.{payments_on}
use Rattle.listing.specs.Lines.{tab, split}
use Rattle.listing.specs.Records.{record_c, fields_with, parts_of, lay}
use Rattle.listing.specs.Composing.{whole_payment}
use Rattle.composer.specs.Telling.{FormedLine, behind_letter}
use Rattle.composer.proofs.ToldLaws.{few, payment_denied, payment_refuses, payment_accepts}
use Rattle.composer.proofs.payment_line.Goals as goal
use Rattle.composer.proofs.payment_line.Goals.{Else-not-formed, After-lay_payment, After-payment_record}

-- ---- once the line has its form

parts : (c : Else-not-formed) → c.parts_of-k.result ≡ parts_of (length (split tab c.args.x.now))
parts c = c.parts_of-k.ensures ∙ ap parts_of c.count_fields.ensures

few_parts : (c : Else-not-formed) → c.parts_of-k.result ≤ most_parts
few_parts c = omega (arith, parts c, few (length (split tab c.args.x.now)))

formed : (c : Else-not-formed) → FormedLine false (fields_with c.parts_of-k.result) c.args.x.now
formed c = let h = few_parts c in (omega arith, (omega arith, sym c.formed.ensures ∙ not-false _ c.if-not-formed.false-raw))

-- ---- once its record is laid out

laid_long : (c : After-lay_payment) → length c.lay_payment.new.out ≡ c.bytes_of-bytes.result
laid_long c = omega arith

pub returns-then-not-formed : goal.returns-then-not-formed
returns-then-not-formed c =
    let told : c.parts_of-k.result ≡ parts_of (length (split tab c.args.x.now)) = c.parts_of-k.ensures ∙ ap parts_of c.count_fields.ensures in
    payment_denied _ _ _ _ _ told c.refuse.ensures (sym c.formed.ensures ∙ not-true _ c.if-not-formed.true-raw)

-- what was read is the record laid out from the line
abbrev record_told : (c : After-payment_record) → List ℕ → Reading (Sums × ℕ)
record_told c f = of_read (payments_on c.args.sums) (read_at (whole_payment (letters_of c.args.kind) (totals_of c.args.count c.args.sums)) f 0)

read : (c : After-payment_record) → c.payment_record.result ≡ record_told c (lay (record_c c.parts_of-k.result) (behind_letter (split tab c.args.x.now)))
read c =
    let laid = (goal.at.After-payment_record c).After-lay_payment in
    c.payment_record.ensures
    ∙ ap (record_told c) (take_at c.lay_payment.new.out (drop c.bytes_of-bytes.result c.args.space.now) _ (laid_long laid) ∙ c.lay_payment.ensures)

pub returns-in-Err : goal.returns-in-Err
returns-in-Err c =
    let f = (goal.at.returns-in-Err c).Else-not-formed in
    payment_refuses _ _ _ _ _ (parts f) (formed f).1.1 (read (goal.at.returns-in-Err c).After-payment_record) c.in-Err.is c.refused_in.ensures

pub returns-in-Ok : goal.returns-in-Ok
returns-in-Ok c =
    let f = (goal.at.returns-in-Ok c).Else-not-formed in
    payment_accepts _ _ _ _ _ (parts f) (formed f).1.1 (read (goal.at.returns-in-Ok c).After-payment_record) c.in-Ok.is c.bytes_of-bytes.ensures
