-- What the walk along a payment's line tells: what composing makes of the line, and no where it makes no payment of it.
use Rattle.std.specs.Prelude.{ℕ, suc, Option, Some, None, ◌+◌, List, [], ◌∷◌, length}
use Rattle.document.specs.Values.{Payment, Totals}
use Rattle.diskette.specs.Writing.{write_payment}
use Rattle.sums.specs.declared.Sums.{Sums}
use Rattle.payment.specs.Adding.{with_payment}
use Rattle.listing.specs.Lines.{tab, split}
use Rattle.listing.specs.Composing.{Composed, made, denied, compose_payment}
use Rattle.line_reader.specs.declared.SeenLine.{SeenLine}

-- what is told of a payment that is made: the sums with it, its bytes in the file, and the place behind its line
abbrev pub payment_seen : Sums → ℕ → Composed Payment → Option SeenLine
payment_seen sums next (made q) = Some (record { sums = with_payment sums q; bytes = length (write_payment q); next = next })
payment_seen sums next (denied v) = None

-- what is told of the first of the lines from p on, after payments that come to t; the last piece is no line, since nothing ends it
unfoldable pub line_seen : List ℕ → Totals → Sums → ℕ → List (List ℕ) → Option SeenLine
line_seen kind t sums p [] = None
line_seen kind t sums p (x ∷ []) = None
line_seen kind t sums p (x ∷ y ∷ ys) = payment_seen sums (p + suc (length x)) (compose_payment kind t p (split tab x))
