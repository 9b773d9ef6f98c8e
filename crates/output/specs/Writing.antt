-- What a lent output holds after bytes were written into it, and what a call that writes gives back.
use Rattle.std.specs.Prelude.{ℕ, ◌+◌, cond, List, ◌++◌, length, take, drop, leb}
use Rattle.verdict.specs.Verdicts.{accepting}
use Rattle.listing.specs.Endings.{Ending, writes, refuses}
use Rattle.output.specs.declared.Written.{Written}

-- an output with bytes written from place p on, and around them what was there
abbrev pub over : ℕ → List ℕ → List ℕ → List ℕ
over p bytes old = take p old ++ (bytes ++ drop (p + length bytes) old)

-- an output with bytes written from place p on; nothing is written where there is not room for all of them
unfoldable pub over_if_room : ℕ → List ℕ → List ℕ → List ℕ
over_if_room p bytes old = cond (leb (p + length bytes) (length old)) (over p bytes old) old

-- what a call that ends so gives back; a refused call has written nothing
abbrev pub written_of : Ending → Written
written_of (writes bytes) = record { verdict = accepting; length = length bytes }
written_of (refuses v) = record { verdict = v; length = 0 }
