-- The columns of payments: three numbers of each, and the byte where it begins.
use Rattle.std.specs.Prelude.{ℕ, ◌+◌, List, [], ◌∷◌, map, length}
use Rattle.document.specs.Values.{Payment}
use Rattle.diskette.specs.Writing.{write_payment}
use Rattle.layout.specs.Steps.{first_payment}

-- C4
abbrev pub bank_codes : List Payment → List ℕ
bank_codes ps = map (λ (x : Payment). x.bank_code) ps

-- C5
abbrev pub accounts : List Payment → List ℕ
accounts ps = map (λ (x : Payment). x.account) ps

-- C12
abbrev pub cents : List Payment → List ℕ
cents ps = map (λ (x : Payment). x.cents) ps

-- where payments begin that are written out one after another, the first at p
abbrev pub starts_from : ℕ → List Payment → List ℕ
starts_from p [] = []
starts_from p (x ∷ xs) = p ∷ starts_from (p + length (write_payment x)) xs

-- where the payments of a file begin: the first behind A
abbrev pub starts : List Payment → List ℕ
starts ps = starts_from first_payment ps

-- where the payments begin of a file that itself begins at p
abbrev pub starts_in : ℕ → List Payment → List ℕ
starts_in p ps = starts_from (p + first_payment) ps
