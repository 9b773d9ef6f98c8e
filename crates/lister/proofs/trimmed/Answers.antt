-- lister::trimmed meets its contract: behind the place of the last byte that is no blank there are only blanks.
use Rattle.std.proofs.Common.{rules}
use Rattle.std.proofs.iter.runs.Made.{chains}
use Rattle.lister.proofs.TrimLaws.{trims_to, trims_all}
use Rattle.lister.proofs.trimmed.Goals as goal

pub returns-in-Some : goal.returns-in-Some
returns-in-Some c = trims_to _ _ (search (rules, chains)) (search (rules, chains)) (search (rules, chains))

pub returns-in-None : goal.returns-in-None
returns-in-None c = trims_all _ (search (rules, chains))
