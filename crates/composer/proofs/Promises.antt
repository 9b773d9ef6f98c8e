-- What the statement of `compose` comes to: it admits one answer; a refused call leaves the output as it was; after any other, the output begins
-- with the one file whose listing was given, and is behind it as it was. The listing of an accepted file gives that file back.
use Prim.Native.Nat.{ℕ, ◌≤◌, ◌<◌}
use mathlib.Core.Path.{◌≡◌, refl, sym, ap, subst, ◌∙◌}
use mathlib.Core.Logic.{◌↔◌, ◌≢◌}
use mathlib.Core.List.{List, ◌∷◌}
use lib.ListN.{length, take, drop}
use lib.Dec.{T}
use Rattle.form.specs.Kind.{one_of}
use Rattle.form.specs.Reader.{accepted}
use Rattle.form.proofs.NumberLaws.{one_within}
use Rattle.verdict.specs.declared.Verdict.{Verdict}
use Rattle.verdict.specs.Verdicts.{accepting, refusing}
use Rattle.verdict.specs.Numbers.{of_listing, of_compose}
use Rattle.document.specs.Values.{Document}
use Rattle.document.specs.Rules.{Legal}
use Rattle.diskette.specs.Writing.{write, Acceptable}
use Rattle.diskette.specs.Answer.{answer}
use Rattle.listing.specs.Listing.{listing}
use Rattle.listing.specs.Composing.{Composed, made, denied, compose}
use Rattle.listing.specs.Endings.{composed}
use Rattle.listing.proofs.NumberLaws.{number_listed as listing_number, never_zero}
use Rattle.listing.proofs.Promises.{listing_composes, composes_exactly, listing_round}
use Rattle.output.specs.declared.Written.{Written}
use Rattle.output.proofs.EndingLaws as endings
use Rattle.composer.proofs.CallLaws.{made_ends, denied_ends}

-- what `compose` ensures of its result and of the output, for the listing and what the output held before
abbrev pub Says : List ℕ → List ℕ → Written → List ℕ → Type 0
Says l old r new = endings.Says (composed (compose l)) old r new

-- a listing is refused with a number of composing
pub composed_number : (l : List ℕ) → endings.RefusedWith (0 ∷ of_compose) (composed (compose l))
unfolding composed
composed_number l = by (compose l) refl
  where
    by : (c : Composed Document) → compose l ≡ c → endings.RefusedWith (0 ∷ of_compose) (composed c)
    by (made d) e = tt
    by (denied v) e = one_within of_listing (0 ∷ of_compose) v.number tt (listing_number l v e)

module _ (l old : List ℕ) where
  pub one_answer : (r s : Written) (a b : List ℕ) → Says l old r a → Says l old s b → (r ≡ s) × (a ≡ b)
  one_answer = endings.one_answer (composed (compose l)) old

  module _ (r : Written) (new : List ℕ) (says : Says l old r new) where
    -- the number is 0 or one of those of composing
    pub number_listed : T (one_of (0 ∷ of_compose) r.verdict.number)
    number_listed = endings.number_listed (composed (compose l)) old r new says (0 ∷ of_compose) tt tt (composed_number l)

    -- a refused call leaves the output as it was
    pub refused_untouched : r.verdict.number ≢ 0 → new ≡ old
    refused_untouched = endings.refused_untouched (composed (compose l)) old r new says

    -- the output past the length given is as it was
    pub tail_is : drop r.length new ≡ drop r.length old
    tail_is = endings.tail_is (composed (compose l)) old r new says

    -- a refused listing is given its verdict
    pub refused_as_lem : (v : Verdict) → compose l ≡ denied v → r ≡ record { verdict = v; length = 0 }
    refused_as_lem v e = endings.refused_as_lem (composed (compose l)) old r new says (denied_ends e)

    module _ (d : Document) (e : compose l ≡ made d) where
      -- an accepted listing is answered 16 at 0 where the output is shorter than the file
      pub no_room_as : length old < length (write d) → r ≡ record { verdict = refusing 16 0; length = 0 }
      no_room_as = endings.no_room_as (composed (compose l)) old r new says (made_ends e)

      -- where the output has room for the file, the length given is that of the file, and the output begins with it
      pub file_is : length (write d) ≤ length old → (r ≡ record { verdict = accepting; length = length (write d) }) × (take r.length new ≡ write d)
      file_is = endings.written_as (composed (compose l)) old r new says (made_ends e)

    -- 0 exactly for the listings of legal documents whose file the output has room for
    pub composes_exactly_where : (r.verdict.number ≡ 0) ↔ ((d : Document) × Legal d × (listing d ≡ l) × (length (write d) ≤ length old))
    composes_exactly_where = (zero_needs (compose l) refl, λ y. ap (λ (w : Written). w.verdict.number) (file_is y.0 ((composes_exactly l y.0).1 (y.1, y.2)) y.3).0)
      where
        zero_needs : (c : Composed Document) → compose l ≡ c → r.verdict.number ≡ 0 → (d : Document) × Legal d × (listing d ≡ l) × (length (write d) ≤ length old)
        zero_needs (made d) e z =
            let x = (composes_exactly l d).0 e in
            (d, x.0, x.1, endings.has_room (composed (compose l)) old r new says (made_ends e) z)
        zero_needs (denied v) e z = absurd (never_zero l v e (sym (ap (λ (w : Written). w.verdict.number) (refused_as_lem v e)) ∙ z))

    -- what was written is a file that the check accepts, and its listing is the one that was given
    pub written_lists : r.verdict.number ≡ 0 → (d : Document) × (answer (take r.length new) ≡ accepted d) × (listing d ≡ l)
    written_lists z =
        let y = composes_exactly_where.0 z in
        let e = (composes_exactly l y.0).1 (y.1, y.2) in
        let f = (file_is y.0 e y.3).1 in
        (y.0, ap answer f ∙ (listing_round l y.0 e).0, y.2)

-- the listing of an acceptable file composes to that file, byte for byte
pub file_comes_back : (file : List ℕ) (x : Acceptable file) (old : List ℕ) (r : Written) (new : List ℕ) → Says (listing x.0) old r new
    → length file ≤ length old → (r ≡ record { verdict = accepting; length = length file }) × (take r.length new ≡ file)
file_comes_back file x old r new says h =
    subst (λ f. (r ≡ record { verdict = accepting; length = length f }) × (take r.length new ≡ f)) x.2
    (file_is (listing x.0) old r new says x.0 (listing_composes x.0 x.1) (subst (λ f. length f ≤ length old) (sym x.2) h))
