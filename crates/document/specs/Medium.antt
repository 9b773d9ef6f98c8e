-- What a medium says: one file or more, one after another.
use Rattle.std.specs.Prelude.{List, [], ◌∷◌, ◌++◌}
use Rattle.form.specs.Files.{LegalFiles}
use Rattle.document.specs.Values.{Payment, Document}
use Rattle.document.specs.Rules.{Legal}

-- one file at least, and each of them legal: so the limits hold for each file by itself
abbrev pub LegalMedium : List Document → Type 0
LegalMedium ds = LegalFiles Legal ds

-- the payments of all files, in order
abbrev pub all_payments : List Document → List Payment
all_payments [] = []
all_payments (d ∷ ds) = d.payments ++ all_payments ds
