-- composer::header_line meets its contract: the line's form, then its record, laid out and read.
use native.Mathlib.Omega.{arith}
use mathlib.Core.Path.{sym, ap, ◌∙◌}
use mathlib.Core.Bool.{true}
use borrow.Author.Tests.{not-false, not-true}
use Rattle.form.specs.Place.{read_at}
use Rattle.diskette.specs.Fields.{header}
use Rattle.fields.specs.Answers.{of_read}
use Rattle.header.specs.Heading.{headers}
use Rattle.listing.specs.Records.{fields_of_header_line}
use Rattle.composer.specs.Telling.{FormedLine}
use Rattle.composer.proofs.ToldLaws.{header_denied, header_refuses, header_accepts}
use Rattle.composer.proofs.header_line.Goals as goal

pub returns-then-not-formed : goal.returns-then-not-formed
returns-then-not-formed c = header_denied _ c.refuse.ensures (sym c.formed.ensures ∙ not-true _ c.if-not-formed.true-raw)

pub returns-in-Err : goal.returns-in-Err
returns-in-Err c =
    let formed : FormedLine true fields_of_header_line c.args.x.now = (omega arith, (omega arith, sym c.formed.ensures ∙ not-false _ c.if-not-formed.false-raw)) in
    header_refuses _ formed.1.1
    (c.header_at.ensures ∙ ap (λ f. of_read headers (read_at header f 0)) c.lay_header.ensures)
    c.in-Err.is c.refused_in.ensures

pub returns-in-Ok : goal.returns-in-Ok
returns-in-Ok c =
    let formed : FormedLine true fields_of_header_line c.args.x.now = (omega arith, (omega arith, sym c.formed.ensures ∙ not-false _ c.if-not-formed.false-raw)) in
    header_accepts _ formed.1.1
    (c.header_at.ensures ∙ ap (λ f. of_read headers (read_at header f 0)) c.lay_header.ensures)
    c.in-Ok.is
