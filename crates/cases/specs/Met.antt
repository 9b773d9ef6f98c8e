-- That each number of a file is met by a worked case.
use Rattle.std.specs.Prelude.{ℕ, List, ◌++◌, map, T}
use Rattle.form.specs.Kind.{every, one_of}
use Rattle.verdict.specs.Verdicts.{number_of}
use Rattle.verdict.specs.Numbers.{of_file}
use Rattle.diskette.specs.Cases.{Case}
use Rattle.diskette.specs.Limits.{Limit, limits}
use Rattle.cases.specs.Starred.{starred}
use Rattle.cases.specs.Others.{others}
use Rattle.cases.specs.Damaged.{Damage, damaged}

-- the numbers that worked files are given
abbrev pub met : List ℕ
met = map (λ (c : Case). c.number) (starred ++ others) ++ map (λ (d : Damage). number_of d.refusal.reason) damaged

-- the numbers that bytes behind payments with given totals are given: no file that can be written down here reaches 6, and none at all 7 and 8
abbrev pub met_after : List ℕ
met_after = map (λ (l : Limit). l.number) limits

pub numbers_met : T (every (one_of (met ++ met_after)) of_file)
unfolding starred others damaged limits number_of
numbers_met = tt
