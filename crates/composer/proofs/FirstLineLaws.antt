-- The first line of a listing, and the lines behind it.
-- Where no line is ended the listing is one piece, and composing denies it with 18 or 17 (`one_piece`). Where the first line is ended, composing
-- is unfolded once: A of that line, and then the payments of the lines behind it (`step`). What the code has told of A is either the refusal of
-- the whole listing (`listing_refused`), or leaves what is owed of the payments' lines (`listing_read`); there the kind of file that the code
-- keeps has the letters of A3. `made_lines` takes the same step for a listing that is accepted, and gives back both pieces.
use Prim.Native.Nat.{ℕ, suc, ◌+◌, ◌≤◌, ◌<◌}
use native.Mathlib.Decide.{dec_lt}
use native.Mathlib.Omega.{arith}
use native.Mathlib.Nat.{zero-add}
use mathlib.Core.Path.{◌≡◌, refl, sym, ap, ap₂, ◌∙◌, subst}
use mathlib.Core.Logic.{◌≢◌}
use mathlib.Core.List.{List, [], ◌∷◌}
use Rattle.std.specs.Prelude.{Ok, Err}
use lib.ListN.{length, take, drop}
use lib.Seq.{length-take-le}
use Rattle.form.proofs.KindLaws.{length_zero}
use Rattle.verdict.specs.Verdicts.{refusing}
use Rattle.document.specs.Values.{Header, Payment, Document, Totals, no_totals, totals}
use Rattle.diskette.specs.Writing.{write_payments}
use Rattle.fields.specs.declared.Refusal.{Refusal}
use Rattle.fields.specs.declared.FileKind.{FileKind}
use Rattle.fields.specs.Answers.{Reading, refusal_of, kind_of, letters_of}
use Rattle.header.proofs.Laws.{letters_among}
use Rattle.document.proofs.SumLaws.{together_none}
use Rattle.listing.specs.Lines.{tab, line_end, split, empty}
use Rattle.listing.specs.Composing.{Composed, made, denied, and_then, compose_header, compose_payments, compose_lines, compose}
use Rattle.listing.proofs.LineLaws.{split_some}
use Rattle.listing.proofs.ComposingLaws.{made_or_denied, provided_made, and_then_made}
use Rattle.listing.proofs.HeaderLaws.{header_heard}
use Rattle.listing.proofs.LinesLaws.{lines_step}
use Rattle.line_reader.specs.Reaching.{reach}
use Rattle.line_reader.proofs.ReachLaws.{reach_le, split_more, split_last}
use Rattle.composer.specs.declared.Listed.{Listed}
use Rattle.composer.specs.Telling.{listed_of, head_told, payments_told, listing_told}
use Rattle.composer.proofs.StepLaws.{not_empty}
use Rattle.composer.proofs.ReadingLaws.{owed}

same_refusal : {x y : Refusal} → ◌≡◌ {A = Reading FileKind} (Err x) (Err y) → ◌≡◌ {A = Reading Listed} (Err x) (Err y)
same_refusal {x} {y} e = let i : x ≡ y = cc in ap (λ z. Err z) i

told_of : (h : Header) (c : Composed (List Payment)) → listing_told (and_then c (λ ps. made (record { header = h; payments = ps }))) ≡ payments_told no_totals 0 c
told_of h (made ps) = ap₂ (λ (u : Totals) (n : ℕ). Ok (listed_of u n)) (sym (together_none (totals ps))) (sym (zero-add (length (write_payments ps))))
told_of h (denied v) = refl

module _ (l : List ℕ) (e : ℕ) (ends : e ≡ 0 + reach line_end l) where
  pub first_inside : e ≤ length l
  first_inside = omega (arith, reach_le line_end l)

  -- no line is ended
  module _ (last : e ≡ length l) where
    one_piece : split line_end l ≡ l ∷ []
    one_piece = split_last line_end l (omega arith)

    pub listing_none : e ≡ 0 → {r : Refusal} → r ≡ refusal_of 18 0 → Err r ≡ listing_told (compose l)
    unfolding compose compose_lines
    listing_none n w = ap (λ x. Err x) w ∙ sym (ap (λ xs. listing_told (compose_lines xs)) (one_piece ∙ ap (λ x. x ∷ []) (length_zero l (omega arith))))

    pub listing_cut : e ≢ 0 → {r : Refusal} → r ≡ refusal_of 17 0 → Err r ≡ listing_told (compose l)
    unfolding compose compose_lines
    listing_cut n w = ap (λ x. Err x) w ∙ sym (ap (λ xs. listing_told (compose_lines xs)) one_piece ∙ rw (not_empty l (omega (arith, n))))

    no_document : (d : Document) → compose l ≡ made d → ⊥
    unfolding compose compose_lines
    no_document d all =
        let f : compose_lines (l ∷ []) ≡ made d = ap compose_lines (sym one_piece) ∙ all in
        let g = provided_made (empty l) (refusing 17 0) (denied (refusing 18 0)) d f in
        made_or_denied (sym g.1)

  module _ (more : e ≢ length l) where
    pub first_within : e < length l
    first_within = omega (arith, first_inside, more)

    -- what follows the line of A; the next line's place is m in the listing, and n in its bytes
    abbrev following : ℕ → ℕ → Header → Composed Document
    following m n h = and_then (compose_payments h.file_kind no_totals m (split line_end (drop n l))) (λ ps. made (record { header = h; payments = ps }))

    abbrev onward : Composed Header → ℕ → ℕ → Composed Document
    onward c m n = and_then c (following m n)

    abbrev here : Composed Header
    here = compose_header (split tab (take e l))

    step : compose l ≡ onward here (e + 1) (e + 1)
    unfolding compose
    step =
        let w = first_within in
        let r : reach line_end l ≡ e = omega arith in
        let long : length (take e l) ≡ e = length-take-le e l (omega arith) in
        let a : suc (length (take e l)) ≡ e + 1 = omega arith in
        let b : suc e ≡ e + 1 = omega arith in
        ap compose_lines (split_more line_end l (omega arith) ∙ ap (λ n. take n l ∷ split line_end (drop (suc n) l)) r)
        ∙ lines_step (take e l) (split line_end (drop (suc e) l)) (split_some line_end (drop (suc e) l))
        ∙ ap₂ (onward here) a b

    module _ {a : Reading FileKind} (told : a ≡ head_told here) where
      -- A is refused
      pub listing_refused : {r : Refusal} → a ≡ Err r → Err r ≡ listing_told (compose l)
      listing_refused {r} given = by here refl (sym told ∙ given)
        where
          by : (c : Composed Header) → here ≡ c → head_told c ≡ Err r → Err r ≡ listing_told (compose l)
          by (made h) i g = absurd cc
          by (denied v) i g = same_refusal (sym g) ∙ sym (ap listing_told (step ∙ ap (λ c. onward c (e + 1) (e + 1)) i))

      -- A is read
      pub listing_read : {k : FileKind} → a ≡ Ok k → {r : Reading Listed} → r ≡ owed l (letters_of k) no_totals 0 (e + 1) → r ≡ listing_told (compose l)
      listing_read {k} given {r} w = by here refl (sym told ∙ given)
        where
          by : (c : Composed Header) → here ≡ c → head_told c ≡ Ok k → r ≡ listing_told (compose l)
          by (made h) i g =
              let m : k ≡ kind_of h.file_kind = cc in
              let letters : letters_of k ≡ h.file_kind = ap letters_of m ∙ letters_among h.file_kind (header_heard (split tab (take e l)) h i).0.A3 in
              w ∙ ap (λ y. owed l y no_totals 0 (e + 1)) letters
              ∙ sym (ap listing_told (step ∙ ap (λ c. onward c (e + 1) (e + 1)) i) ∙ told_of h (compose_payments h.file_kind no_totals (e + 1) (split line_end (drop (e + 1) l))))
          by (denied v) i g = absurd cc

-- ---- a listing that is accepted

pub record MadeLines (l : List ℕ) (d : Document) : Type 0 where
  pub within : reach line_end l < length l
  pub head : compose_header (split tab (take (reach line_end l) l)) ≡ made d.header
  pub rest : compose_payments d.header.file_kind no_totals (reach line_end l + 1) (split line_end (drop (reach line_end l + 1) l)) ≡ made d.payments

made_same : {c d : Document} → ◌≡◌ {A = Composed Document} (made c) (made d) → c ≡ d
made_same e = cc

pub made_lines : (l : List ℕ) (d : Document) → compose l ≡ made d → MadeLines l d
made_lines l d all = elim (dec_lt e (length l)) [ yes w ↦ lines_are (omega arith) | no w ↦ absurd (no_document l e ends (omega (arith, first_inside l e ends)) d all) ]
  where
    e : ℕ
    e = reach line_end l

    ends : e ≡ 0 + reach line_end l
    ends = sym (zero-add (reach line_end l))

    lines_are : e ≢ length l → MadeLines l d
    lines_are more =
        let a = and_then_made (here l e ends more) _ d (sym (step l e ends more) ∙ all) in
        let b = and_then_made (compose_payments a.0.file_kind no_totals (e + 1) (split line_end (drop (e + 1) l))) _ d a.2 in
        subst (MadeLines l) (made_same b.2) (record { within = first_within l e ends more; head = a.1; rest = b.1 })
