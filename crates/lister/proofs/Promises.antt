-- What the statement of `list` comes to: it admits one answer; a refused call leaves the output as it was; after any other, the output begins with
-- the listing of the file's document, and is behind it as it was.
use Prim.Native.Nat.{ℕ, ◌≤◌, ◌<◌}
use mathlib.Core.Path.{◌≡◌, sym, ap, subst, ◌∙◌}
use mathlib.Core.Logic.{◌↔◌, ◌≢◌, ⊎_elim}
use mathlib.Core.List.{List, ◌∷◌}
use lib.ListN.{length, take, drop}
use lib.Dec.{T}
use Rattle.form.specs.Kind.{one_of}
use Rattle.verdict.specs.Verdicts.{accepting, refusing}
use Rattle.verdict.specs.Numbers.{of_list}
use Rattle.diskette.specs.Writing.{Acceptable}
use Rattle.diskette.specs.Answer.{answer, outcome}
use Rattle.diskette.proofs.Promises.{RefusedFile, zero_exactly}
use Rattle.diskette.proofs.Promises as form
use Rattle.listing.specs.Listing.{listing}
use Rattle.listing.specs.Endings.{Ending, listed}
use Rattle.output.specs.declared.Written.{Written}
use Rattle.output.proofs.EndingLaws as endings
use Rattle.lister.proofs.ListingLaws.{listed_as}
use Rattle.lister.proofs.ListLaws.{Says, acceptable_or_refused, else_refused, listed_number}

module _ (file old : List ℕ) where
  -- how the call ends with room enough
  abbrev end : Ending
  end = listed (answer file)

  pub one_answer : (r s : Written) (a b : List ℕ) → Says file old r a → Says file old s b → (r ≡ s) × (a ≡ b)
  one_answer = endings.one_answer end old

  module _ (r : Written) (new : List ℕ) (says : Says file old r new) where
    -- a file that is not acceptable is refused with the verdict of the check
    pub refused_as_checked : ¬ Acceptable file → r ≡ record { verdict = (outcome (answer file)).verdict; length = 0 }
    refused_as_checked n = endings.refused_as_lem end old r new says (else_refused file n)

    -- a file that is not acceptable gets the number and the place of the field that is wrong
    pub refused_file : ¬ Acceptable file → RefusedFile file r.verdict
    refused_file n = subst (RefusedFile file) (sym (ap (λ (w : Written). w.verdict) (refused_as_checked n))) (form.else_refused file n)

    -- the number is 0 or one of those of a listing call
    pub number_listed : T (one_of (0 ∷ of_list) r.verdict.number)
    number_listed = endings.number_listed end old r new says (0 ∷ of_list) tt tt (listed_number file)

    -- a refused call leaves the output as it was
    pub refused_untouched : r.verdict.number ≢ 0 → new ≡ old
    refused_untouched = endings.refused_untouched end old r new says

    -- any call leaves the output as it was past the length given
    pub tail_is : drop r.length new ≡ drop r.length old
    tail_is = endings.tail_is end old r new says

    module _ (x : Acceptable file) where
      abbrev lines : List ℕ
      lines = listing x.0

      -- an acceptable file is answered 16 at 0 where the output is shorter than the listing
      pub no_room_as : length old < length lines → r ≡ record { verdict = refusing 16 0; length = 0 }
      no_room_as = endings.no_room_as end old r new says (listed_as file x)

      has_room : r.verdict.number ≡ 0 → length lines ≤ length old
      has_room = endings.has_room end old r new says (listed_as file x)

      -- with 0, the length given is that of the listing, and the output begins with it
      pub listing_is : r.verdict.number ≡ 0 → (r ≡ record { verdict = accepting; length = length lines }) × (take r.length new ≡ lines)
      listing_is z = endings.written_as end old r new says (listed_as file x) (has_room z)

    -- 0 exactly for acceptable files whose listing the output has room for
    pub lists_exactly : (r.verdict.number ≡ 0) ↔ ((x : Acceptable file) × (length (listing x.0) ≤ length old))
    lists_exactly = (
      λ z. let x = acceptable z in (x, has_room x z),
      λ y. ap (λ (w : Written). w.verdict.number) (endings.written_as end old r new says (listed_as file y.0) y.1).0,
    )
      where
        acceptable : r.verdict.number ≡ 0 → Acceptable file
        acceptable z =
            ⊎_elim (λ x. x) (λ e. (zero_exactly file).0 (sym (ap (λ (w : Written). w.verdict.number) (endings.refused_as_lem end old r new says e)) ∙ z))
            (acceptable_or_refused file)
