-- One line after another: where the line at a place of the listing ends, what follows it, and that a payment seen in one walk is told as by its
-- record.
-- Either no line end follows p, and what stands there is the last piece (`last_piece`); or the listing from p on parts into the line and the
-- lines behind it (`lines`). Then composing the payments, and what the walk tells of them, are each unfolded by that one line (`step`,
-- `seen_here`). The walk tells what composing makes of the line, and only of a line that is ended, so what it has seen is what the record tells
-- (`seen_told`).
use Rattle.std.specs.declared.option.Option.TheVariants as option
use Rattle.std.specs.Prelude.{Ok}
use Prim.Native.Nat.{ℕ, suc, ◌+◌, ◌-◌, ◌^◌, ◌≤◌, ◌<◌}
use native.Mathlib.Omega.{arith}
use native.Mathlib.Decide.{dec_le}
use mathlib.Core.Path.{◌≡◌, refl, ap, ◌∙◌}
use mathlib.Core.Logic.{◌≢◌}
use mathlib.Core.Bool.{false}
use mathlib.Core.List.{List, [], ◌∷◌}
use lib.ListN.{length, take, drop, length-drop}
use lib.Seq.{length-take-le, take_all}
use Rattle.document.specs.Values.{Payment, Totals, adding}
use Rattle.diskette.specs.Writing.{write_payment}
use Rattle.fields.specs.Answers.{Reading}
use Rattle.listing.specs.Lines.{tab, line_end, split, empty}
use Rattle.listing.specs.Composing.{Composed, made, denied, and_then, compose_payment, compose_payments}
use Rattle.listing.proofs.LineLaws.{split_some}
use Rattle.listing.proofs.LinesLaws.{payments_step}
use Rattle.line_reader.specs.Reaching.{reach}
use Rattle.line_reader.proofs.ReachLaws.{reach_le, pieces_more, pieces_last}
use Rattle.line_reader.specs.declared.SeenLine.{SeenLine}
use Rattle.line_reader.specs.Told.{payment_seen, line_seen}
use Rattle.line_reader.proofs.ToldLaws.{first_line}
use Rattle.payment.specs.Adding.{with_payment}
use Rattle.sums.specs.declared.Sums.{Sums}
use Rattle.composer.specs.Telling.{payment_told, LineTold}

pub not_empty : (x : List ℕ) → 0 < length x → empty x ≡ false
not_empty [] h = absurd (omega arith)
not_empty (b ∷ bs) h = refl

-- the line that stands at p, and ends at e
abbrev pub line_to : List ℕ → ℕ → ℕ → List ℕ
line_to l p e = take (e - p) (drop p l)

-- places in a line are no larger than where it ends, so that they fit into 64 bits
pub line_short : (l : List ℕ) (p e : ℕ) → p ≤ e → e ≤ length l → e + 1 < 2 ^ 64 → p + length (line_to l p e) + 1 < 2 ^ 64
line_short l p e h i g = let n : length (line_to l p e) ≡ e - p = length-take-le (e - p) (drop p l) (omega (arith, length-drop p l)) in omega arith

module _ (l : List ℕ) (p e : ℕ) (inside : p ≤ length l) (ends : e ≡ p + reach line_end (drop p l)) where
  pub line_inside : (p ≤ e) × (e ≤ length l)
  line_inside = let h = reach_le line_end (drop p l) in let d = length-drop p l in (omega arith, omega arith)

  far : e - p ≡ reach line_end (drop p l)
  far = omega arith

  -- no further line is ended
  pub last_piece : e ≡ length l → split line_end (drop p l) ≡ drop p l ∷ []
  last_piece last =
      let i = line_inside in
      let d = length-drop p l in
      pieces_last line_end l p (e - p) far (omega arith) ∙ ap (λ x. x ∷ []) (take_all (e - p) (drop p l) (omega arith))

  module _ (more : e ≢ length l) where
    pub line_within : e < length l
    line_within = let h = line_inside in omega (arith, more)

    -- the line, and the lines behind it
    lines : split line_end (drop p l) ≡ line_to l p e ∷ split line_end (drop (e + 1) l)
    lines =
        let i = line_inside in
        let w = line_within in
        let n : p + suc (e - p) ≡ e + 1 = omega arith in
        pieces_more line_end l p (e - p) far (omega arith) ∙ ap (λ m. line_to l p e ∷ split line_end (drop m l)) n

    behind : p + suc (length (line_to l p e)) ≡ e + 1
    behind =
        let i = line_inside in
        let long : length (line_to l p e) ≡ e - p = length-take-le (e - p) (drop p l) (omega (arith, length-drop p l)) in
        omega arith

    module _ (letters : List ℕ) (t : Totals) where
      -- what follows the line of a payment, where the next line's place is m
      abbrev following : ℕ → Payment → Composed (List Payment)
      following m q = and_then (compose_payments letters (adding t q) m (split line_end (drop (e + 1) l))) (λ qs. made (q ∷ qs))

      abbrev pub onward : Composed Payment → Composed (List Payment)
      onward c = and_then c (following (e + 1))

      abbrev pub here : Composed Payment
      here = compose_payment letters t p (split tab (line_to l p e))

      pub step : compose_payments letters t p (split line_end (drop p l)) ≡ onward here
      step =
          ap (compose_payments letters t p) lines
          ∙ payments_step letters t p (line_to l p e) (split line_end (drop (e + 1) l)) (split_some line_end (drop (e + 1) l))
          ∙ ap (λ m. and_then here (following m)) behind

      -- what is seen of the line in one walk
      seen_here : (sums : Sums) → line_seen letters t sums p (split line_end (drop p l)) ≡ payment_seen sums (e + 1) here
      seen_here sums =
          ap (line_seen letters t sums p) lines
          ∙ first_line letters t sums p (line_to l p e) (split line_end (drop (e + 1) l)) (split_some line_end (drop (e + 1) l))
          ∙ ap (λ m. payment_seen sums m here) behind

-- a payment that was seen, as it is told
told_so : (sums : Sums) (n : ℕ) (c : Composed Payment) {s : SeenLine} → option.Some s ≡ payment_seen sums n c
    → (◌≡◌ {A = Reading (Sums × ℕ)} (Ok (s.sums, s.bytes)) (payment_told sums c)) × (s.next ≡ n)
told_so sums n (made q) {s} i =
    let same : s ≡ record { sums = with_payment sums q; bytes = length (write_payment q); next = n } = cc in
    (ap (λ (x : SeenLine). Ok (x.sums, x.bytes)) same, ap (λ (x : SeenLine). x.next) same)
told_so sums n (denied v) i = absurd cc

-- a line of which a payment was seen is ended, and is told as by its record
pub seen_told : (l : List ℕ) (p : ℕ) (letters : List ℕ) (t : Totals) (sums : Sums) (s : SeenLine) → p ≤ length l
    → option.Some s ≡ line_seen letters t sums p (split line_end (drop p l)) → LineTold l p letters t sums (Ok (option.Some s))
unfolding line_seen
seen_told l p letters t sums s inside is = by (dec_le (length l) e)
  where
    e : ℕ
    e = p + reach line_end (drop p l)

    by : Dec (length l ≤ e) → LineTold l p letters t sums (Ok (option.Some s))
    by (yes h) =
        let last = last_piece l p e inside refl (omega (arith, line_inside l p e inside refl)) in
        let i = is ∙ ap (line_seen letters t sums p) last in absurd cc
    by (no h) =
        let more : e ≢ length l = λ i. omega (arith, i) in
        let told = told_so sums (e + 1) (here l p e inside refl more letters t) (is ∙ seen_here l p e inside refl more letters t sums) in
        (e, record { ends = refl; more = more; told = told.0 }, told.1)
