-- composer::line::count_fields meets its contract: a field stands ahead of the first tab, and one behind each.
use native.Mathlib.Omega.{arith}
use mathlib.Core.Path.{◌≡◌}
use lib.Dec.{eqb}
use borrow.Author.Rules.{rules}
use Rattle.std.specs.List.{count_by}
use Rattle.listing.specs.Lines.{tab}
use Rattle.composer.proofs.ByteLaws.{fields_by_tabs}
use Rattle.composer.proofs.line.count_fields.Goals as goal

pub returns : goal.returns
returns c =
    let tabs : c.count.result ≡ count_by (λ b. eqb b tab) c.args.x.now = search rules in
    omega (arith, fields_by_tabs tab c.args.x.now)
