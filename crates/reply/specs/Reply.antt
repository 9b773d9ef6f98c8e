-- What the programs print: what the call has written, or one line with the number and the place of the refusal.
use Rattle.std.specs.Prelude.{ℕ, zero, suc, ◌/◌, cond, List, [], ◌∷◌, ◌++◌, length, leb, ltb}
use Rattle.form.specs.Kind.{numeral}
use Rattle.verdict.specs.Verdicts.{refusing}
use Rattle.diskette.specs.Answer.{answer}
use Rattle.listing.specs.Lines.{tab, line_end}
use Rattle.listing.specs.Composing.{compose}
use Rattle.listing.specs.Endings.{Ending, writes, refuses, listed, composed, within}

-- how many digits v has, where n suffice, and never more than n; 0 has one
unfoldable pub digits_within : ℕ → ℕ → ℕ
digits_within zero v = 0
digits_within (suc n) v = cond (ltb v 10) 1 (suc (digits_within n (v / 10)))

-- a number in decimal, with no zero ahead; for a number of 64 bits 20 digits suffice
abbrev pub decimal : ℕ → List ℕ
decimal v = numeral (digits_within 20 v) v

abbrev pub refusal_line : ℕ → ℕ → List ℕ
refusal_line number place = decimal number ++ (tab ∷ (decimal place ++ (line_end ∷ [])))

abbrev pub printed : Ending → List ℕ
printed (writes bytes) = bytes
printed (refuses v) = refusal_line v.number v.place

-- the programs take at most 32,768 bytes; that comes before all else
unfoldable pub limited : List ℕ → Ending → Ending
limited input end = cond (leb (length input) 32768) end (refuses (refusing 20 32768))

-- bytes that there is room for; where there is not room for all of them, nothing
unfoldable pub fitting : ℕ → List ℕ → List ℕ
fitting room bytes = cond (leb (length bytes) room) bytes []

-- the reply to an input, where `end` is how the call would end with room enough
abbrev pub reply : ℕ → List ℕ → Ending → List ℕ
reply room input end = fitting room (printed (limited input (within room end)))

-- what dtlist prints for an input, with an output of so much room
abbrev pub list_reply : ℕ → List ℕ → List ℕ
list_reply room file = reply room file (listed (answer file))

-- what dtmake prints for an input, with an output of so much room
abbrev pub make_reply : ℕ → List ℕ → List ℕ
make_reply room lines = reply room lines (composed (compose lines))
