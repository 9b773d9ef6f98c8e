-- What the walk tells of a line is what composing makes of it: what was seen is a payment's line, and where nothing was seen there is none.
use Rattle.std.specs.declared.option.Option.TheVariants as option
use Prim.Native.Nat.{ℕ, suc, ◌+◌}
use native.Mathlib.Omega.{arith}
use mathlib.Core.Path.{◌≡◌, refl, sym, ap, ap₂, ◌∙◌}
use mathlib.Core.List.{List, [], ◌∷◌, ◌++◌}
use lib.ListN.{length, drop, length-append, length-drop}
use Rattle.document.specs.Signs.{ascii}
use Rattle.document.specs.Values.{Payment, Totals}
use Rattle.sums.specs.declared.Sums.{Sums}
use Rattle.sums.specs.Sums.{totals_of}
use Rattle.listing.specs.Lines.{tab, line_end, behind_tabs, split}
use Rattle.listing.specs.Listing.{payment_fields}
use Rattle.listing.specs.Composing.{Composed, made, denied, compose_payment}
use Rattle.listing.proofs.LineLaws.{Some, some, split_some, join, join_split, fields_parted, line_ended, line_parted}
use Rattle.listing.proofs.PaymentLaws.{payment_clear}
use Rattle.line_reader.specs.Told.{payment_seen, line_seen}
use Rattle.line_reader.proofs.PaymentLaws.{LineOf, Seen}
use Rattle.line_reader.proofs.CompleteLaws.{all_seen}

-- what is told of a line that another piece follows
pub first_line : (letters : List ℕ) (t : Totals) (sums : Sums) (p : ℕ) (x : List ℕ) (xs : List (List ℕ)) → Some xs
    → line_seen letters t sums p (x ∷ xs) ≡ payment_seen sums (p + suc (length x)) (compose_payment letters t p (split tab x))
unfolding line_seen
first_line letters t sums p x xs (some y ys) = refl

-- ---- a payment's line

module _ {l : List ℕ} {p : ℕ} {letters : List ℕ} {t : Totals} {sums new : Sums} {bytes next : ℕ} (line : LineOf l p letters t sums new bytes next) where
  abbrev fields : List (List ℕ)
  fields = payment_fields line.payment

  -- the line without its end
  abbrev front : List ℕ
  front = ascii "C" ++ behind_tabs fields

  behind : p + suc (length front) ≡ next
  behind =
      let inside = line.inside in
      let long = ap length (line.line ∙ line_ended (ascii "C") fields (drop next l)) ∙ length-append front (line_end ∷ drop next l) in
      omega (arith, length-drop p l, length-drop next l)

  pub told_is : option.Some (record { sums = new; bytes = bytes; next = next }) ≡ line_seen letters t sums p (split line_end (drop p l))
  told_is =
      let clear = payment_clear letters line.payment line.legal in
      let lines : split line_end (drop p l) ≡ front ∷ split line_end (drop next l)
      = ap (split line_end) line.line ∙ line_parted (ascii "C") fields (drop next l) (tt, clear.1) in
      let composed : compose_payment letters t p (split tab front) ≡ made line.payment
      = ap (compose_payment letters t p) (fields_parted (ascii "C") fields (tt, clear.0)) ∙ line.composed in
      ap₂ (λ (s : Sums) (n : ℕ). option.Some (record { sums = s; bytes = n; next = next })) line.added line.size
      ∙ sym (
      ap (line_seen letters t sums p) lines ∙ first_line letters t sums p front (split line_end (drop next l)) (split_some line_end (drop next l))
      ∙ ap₂ (payment_seen sums) behind composed
      )

-- ---- no payment's line

module _ (letters : List ℕ) (count : ℕ) (sums : Sums) (l : List ℕ) (p : ℕ) where
  abbrev t : Totals
  t = totals_of count sums

  pub told_no : ((new : Sums) (k e : ℕ) → Seen l p letters count sums new k e → ⊥) → option.None ≡ line_seen letters t sums p (split line_end (drop p l))
  unfolding line_seen
  told_no none = by (split line_end (drop p l)) refl
    where
      composed : (x y : List ℕ) (ys : List (List ℕ)) → split line_end (drop p l) ≡ x ∷ y ∷ ys → (c : Composed Payment) → compose_payment letters t p (split tab x) ≡ c
          → option.None ≡ payment_seen sums (p + suc (length x)) c
      composed x y ys e (made q) i =
          absurd (none _ _ _ (all_seen letters count sums l p x (join line_end (y ∷ ys)) q (sym (join_split line_end (drop p l)) ∙ ap (join line_end) e) i))
      composed x y ys e (denied v) i = refl

      by : (xs : List (List ℕ)) → split line_end (drop p l) ≡ xs → option.None ≡ line_seen letters t sums p xs
      by [] e = refl
      by (x ∷ []) e = refl
      by (x ∷ y ∷ ys) e = composed x y ys e (compose_payment letters t p (split tab x)) refl
