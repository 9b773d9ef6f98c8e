-- What the statements of the six calls on a file or a listing come to: each admits one answer; a result without room is 16, and nothing is written;
-- a result with room begins with the figures and is behind them as it was, and the statement is that of the call beneath.
-- Each statement is an equation with how the call ends, and that is decided by the room in the result. Without room it is the call's own law
-- of a short result; with room the definition falls back to that of the call beneath (`written_is`, `placed_is`), so that all that is proved of
-- that call holds.
use Prim.Native.Nat.{ℕ, ◌≤◌, ◌<◌}
use mathlib.Core.Path.{◌≡◌, refl, sym, ap, ◌∙◌}
use mathlib.Core.Logic.{◌≢◌}
use mathlib.Core.List.{List, [], ◌∷◌}
use lib.ListN.{length, take, drop}
use lib.Dec.{leb}
use borrow.Author.Tests.{le-leb, ne_eqb}
use Rattle.verdict.specs.Lent.{filled}
use Rattle.verdict.proofs.LentLaws.{filled_first, filled_behind}
use Rattle.diskette.specs.Answer.{answer, outcome, Outcome}
use Rattle.listing.specs.Composing.{compose}
use Rattle.listing.specs.Endings.{Ending, writes, refuses, listed, composed, within, written}
use Rattle.output.specs.Writing.{written_of}
use Rattle.output.proofs.EndingLaws as endings
use Rattle.checker.specs.Checking.{checked_of}
use Rattle.loader.specs.Columns.{bank_codes, accounts, cents, starts}
use Rattle.loader.specs.Loading.{if_room, loading}
use Rattle.loader.proofs.LoadLaws as columns
use Rattle.finder.specs.declared.Spot.{Spot}
use Rattle.finder.specs.Spots.{find_at, locate_at}
use Rattle.dtaus.specs.Figures.{outcome_figures, written_figures, spot_figures, told}
use Rattle.dtaus.specs.Calls.{text_named, checking, loading_with, rows_of, if_told, listing_with, composing_with, if_placed, finding_with, locating_with}
use Rattle.dtaus.proofs.TellingLaws.{all_told}
use Rattle.dtaus.proofs.CallLaws.{SaysOutcome, SaysWritten, SaysSpot, SaysLoaded, check_short, load_short, list_short, compose_short, find_short, text_short}

-- ---- one answer

pub one_outcome : (o : Outcome) (result : List ℕ) (r s : ℕ) (a b : List ℕ) → SaysOutcome o result r a → SaysOutcome o result s b → (r ≡ s) × (a ≡ b)
one_outcome o result r s a b x y = (x.0 ∙ sym y.0, x.1 ∙ sym y.1)

pub one_written : (e : Ending) (output result : List ℕ) (r s : ℕ) (a b c d : List ℕ) → SaysWritten e output result r a c
    → SaysWritten e output result s b d → (r ≡ s) × ((a ≡ b) × (c ≡ d))
one_written e output result r s a b c d x y = (x.0 ∙ sym y.0, (x.1.0 ∙ sym y.1.0, x.1.1 ∙ sym y.1.1))

pub one_spot : (t : Spot) (result : List ℕ) (r s : ℕ) (a b : List ℕ) → SaysSpot t result r a → SaysSpot t result s b → (r ≡ s) × (a ≡ b)
one_spot t result r s a b x y = (x.0 ∙ sym y.0, x.1 ∙ sym y.1)

pub one_loaded : (file c4 c5 c12 start result : List ℕ) (r s : ℕ) (a₁ a₂ a₃ a₄ a b₁ b₂ b₃ b₄ b : List ℕ)
    → SaysLoaded file c4 c5 c12 start result r a₁ a₂ a₃ a₄ a → SaysLoaded file c4 c5 c12 start result s b₁ b₂ b₃ b₄ b
    → (r ≡ s) × ((a₁ ≡ b₁) × ((a₂ ≡ b₂) × ((a₃ ≡ b₃) × ((a₄ ≡ b₄) × (a ≡ b)))))
one_loaded file c4 c5 c12 start result r s a₁ a₂ a₃ a₄ a b₁ b₂ b₃ b₄ b x y =
    let same : r ≡ s = x.0 ∙ sym y.0 in (
      same,
      (
        x.1.0 ∙ ap (λ n. filled (bank_codes (rows_of n file)) c4) same ∙ sym y.1.0,
        (
          x.1.1.0 ∙ ap (λ n. filled (accounts (rows_of n file)) c5) same ∙ sym y.1.1.0,
          (
            x.1.1.1.0 ∙ ap (λ n. filled (cents (rows_of n file)) c12) same ∙ sym y.1.1.1.0,
            (x.1.1.1.1.0 ∙ ap (λ n. filled (starts (rows_of n file)) start) same ∙ sym y.1.1.1.1.0, x.1.1.1.1.1 ∙ sym y.1.1.1.1.1),
          ),
        ),
      ),
    )

-- ---- the result

-- a result begins with the figures, and is behind them as it was
pub record Begins (figures result new : List ℕ) : Type 0 where
  pub first : take (length figures) new ≡ figures
  pub behind : drop (length figures) new ≡ drop (length figures) result

pub begins : (figures result : List ℕ) {new : List ℕ} → length figures ≤ length result → new ≡ told figures result → Begins figures result new
begins figures result h e =
    let f = e ∙ sym (all_told figures result h) in
    record { first = filled_first figures result refl f; behind = filled_behind figures result refl f }

module _ (result : List ℕ) (r : ℕ) (new : List ℕ) where
  -- ---- a check

  module _ (file : List ℕ) (says : SaysOutcome (checking result file) result r new) where
    -- a result without room is as it was, and 16 is returned
    pub check_no_room : length result < 6 → (r ≡ 16) × (new ≡ result)
    check_no_room h = one_outcome _ result r 16 new result says (check_short result file h)

    -- a result with room gets the figures of the answer to the file
    pub check_is : 6 ≤ length result → let o = outcome (answer file) in (r ≡ o.verdict.number) × Begins (outcome_figures o) result new
    unfolding checking
    check_is h =
        let e = ap (λ b. if_room b (outcome (answer file))) (le-leb 6 (length result) h) in
        (says.0 ∙ ap (λ (o : Outcome). o.verdict.number) e, begins _ result h (says.1 ∙ ap (λ o. told (outcome_figures o) result) e))

  -- ---- a stretch of the file

  module _ (s : Spot) where
    placed_is : 4 ≤ length result → SaysSpot (if_placed (leb 4 (length result)) s) result r new → (r ≡ s.verdict.number) × Begins (spot_figures s) result new
    placed_is h says =
        let e = ap (λ b. if_placed b s) (le-leb 4 (length result) h) in
        (says.0 ∙ ap (λ (t : Spot). t.verdict.number) e, begins _ result h (says.1 ∙ ap (λ t. told (spot_figures t) result) e))

  module _ (file : List ℕ) (n : ℕ) (says : SaysSpot (finding_with result file n) result r new) where
    pub find_no_room : length result < 4 → (r ≡ 16) × (new ≡ result)
    find_no_room h = one_spot _ result r 16 new result says (find_short result file n h)

    -- the figures are those of `finder::find`
    pub find_is : 4 ≤ length result → (r ≡ (find_at file n).verdict.number) × Begins (spot_figures (find_at file n)) result new
    unfolding finding_with
    find_is h = placed_is (find_at file n) h says

  module _ (file : List ℕ) (start wanted : ℕ) (says : SaysSpot (locating_with result file start wanted) result r new) where
    pub text_no_room : length result < 4 → (r ≡ 16) × (new ≡ result)
    text_no_room h = one_spot _ result r 16 new result says (text_short result file start wanted h)

    -- the figures are those of `finder::locate`
    pub text_is : 4 ≤ length result → let s = locate_at file start (text_named wanted) in (r ≡ s.verdict.number) × Begins (spot_figures s) result new
    unfolding locating_with
    text_is h = placed_is (locate_at file start (text_named wanted)) h says

  -- ---- a listing and a composing

  module _ (output bytes : List ℕ) where
    -- a refused call leaves the output as it was
    pub refused_untouched : (e : Ending) → SaysWritten e output result r bytes new → r ≢ 0 → bytes ≡ output
    refused_untouched e says n = by e refl
      where
        by : (x : Ending) → e ≡ x → bytes ≡ output
        by (writes bs) i = absurd (n (says.0 ∙ ap (λ y. (written_of y).verdict.number) i))
        by (refuses v) i = says.1.0 ∙ ap (λ y. filled (written y) output) i

    module _ (e : Ending) where
      written_is : 3 ≤ length result → SaysWritten (if_told (leb 3 (length result)) e) output result r bytes new
          → (r ≡ (written_of e).verdict.number) × ((bytes ≡ filled (written e) output) × Begins (written_figures (written_of e)) result new)
      written_is h says =
          let i = ap (λ b. if_told b e) (le-leb 3 (length result) h) in (
            says.0 ∙ ap (λ y. (written_of y).verdict.number) i,
            (
              says.1.0 ∙ ap (λ y. filled (written y) output) i,
              begins _ result h (says.1.1 ∙ ap (λ y. told (written_figures (written_of y)) result) i),
            ),
          )

    module _ (file : List ℕ) (says : SaysWritten (listing_with (length output) result file) output result r bytes new) where
      pub list_no_room : length result < 3 → (r ≡ 16) × ((bytes ≡ output) × (new ≡ result))
      list_no_room h = one_written (listing_with (length output) result file) output result r 16 bytes output new result says (list_short result file output h)

      -- the statement is that of `lister::list`
      pub list_is : 3 ≤ length result → let w = written_of (within (length output) (listed (answer file))) in
          endings.Says (listed (answer file)) output w bytes × ((r ≡ w.verdict.number) × Begins (written_figures w) result new)
      unfolding listing_with
      list_is h = let t = written_is (within (length output) (listed (answer file))) h says in ((refl, t.1.0), (t.0, t.1.1))

    module _ (lines : List ℕ) (says : SaysWritten (composing_with (length output) result lines) output result r bytes new) where
      pub compose_no_room : length result < 3 → (r ≡ 16) × ((bytes ≡ output) × (new ≡ result))
      compose_no_room h = one_written (composing_with (length output) result lines) output result r 16 bytes output new result says (compose_short result lines output h)

      -- the statement is that of `composer::compose`
      pub compose_is : 3 ≤ length result → let w = written_of (within (length output) (composed (compose lines))) in
          endings.Says (composed (compose lines)) output w bytes × ((r ≡ w.verdict.number) × Begins (written_figures w) result new)
      unfolding composing_with
      compose_is h = let t = written_is (within (length output) (composed (compose lines))) h says in ((refl, t.1.0), (t.0, t.1.1))

  -- ---- a load

  module _ (file c4 c5 c12 start c4' c5' c12' start' : List ℕ) (says : SaysLoaded file c4 c5 c12 start result r c4' c5' c12' start' new) where
    abbrev lent : List (List ℕ)
    lent = c4 ∷ c5 ∷ c12 ∷ start ∷ []

    -- a refused call leaves every column as it was
    pub refused_columns : r ≢ 0 → (c4' ≡ c4) × ((c5' ≡ c5) × ((c12' ≡ c12) × (start' ≡ start)))
    refused_columns n =
        let none : rows_of r file ≡ [] = rw (ne_eqb r 0 n) in (
          says.1.0 ∙ ap (λ ps. filled (bank_codes ps) c4) none,
          (
            says.1.1.0 ∙ ap (λ ps. filled (accounts ps) c5) none,
            (says.1.1.1.0 ∙ ap (λ ps. filled (cents ps) c12) none, says.1.1.1.1.0 ∙ ap (λ ps. filled (starts ps) start) none),
          ),
        )

    pub load_no_room : length result < 6 → (r ≡ 16) × ((c4' ≡ c4) × ((c5' ≡ c5) × ((c12' ≡ c12) × ((start' ≡ start) × (new ≡ result)))))
    load_no_room h =
        one_loaded file c4 c5 c12 start result r 16 c4' c5' c12' start' new c4 c5 c12 start result says (load_short result file c4 c5 c12 start h)

    -- the statement is that of `loader::load`
    pub load_is : 6 ≤ length result → let o = loading lent (answer file) in
        columns.Says file c4 c5 c12 start (checked_of o) c4' c5' c12' start' × ((r ≡ o.verdict.number) × Begins (outcome_figures o) result new)
    unfolding loading_with
    load_is h =
        let o = loading lent (answer file) in
        let e = ap (λ b. if_room b o) (le-leb 6 (length result) h) in
        let n : r ≡ o.verdict.number = says.0 ∙ ap (λ (x : Outcome). x.verdict.number) e in (
          (
            refl,
            (
              says.1.0 ∙ ap (λ m. filled (bank_codes (rows_of m file)) c4) n,
              (
                says.1.1.0 ∙ ap (λ m. filled (accounts (rows_of m file)) c5) n,
                (says.1.1.1.0 ∙ ap (λ m. filled (cents (rows_of m file)) c12) n, says.1.1.1.1.0 ∙ ap (λ m. filled (starts (rows_of m file)) start) n),
              ),
            ),
          ),
          (n, begins _ result h (says.1.1.1.1.1 ∙ ap (λ x. told (outcome_figures x) result) e)),
        )
