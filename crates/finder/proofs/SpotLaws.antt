-- A payment or a text sought in a file, once the check has answered: the file's refusal, 19, or where it stands.
-- The check's number tells the case of `find_at` and `locate_at`: any but 0 is the file's own refusal, with 0 the payments are those of the one
-- reading. Then n is held against the count, and of a text it is asked whether a payment begins at the start and has it: the k that C18 tells
-- there is the number of the payment's parts (`parts_there`), and the parts tell the texts (`text_told`). That every spot lies within the file
-- rests on where the starts and the texts of the payments stand (`start_inside`, `text_stands`).
use Prim.Native.Nat.{ℕ, ◌+◌, ◌≤◌}
use native.Mathlib.Omega.{arith}
use mathlib.Core.Path.{◌≡◌, refl, sym, ap, ◌∙◌}
use mathlib.Core.Logic.{◌≢◌}
use mathlib.Core.Bool.{true, false}
use mathlib.Core.List.{List}
use mathlib.Core.Option.{Option, none, some}
use lib.ListN.{length, get_elem?}
use Rattle.form.specs.Reader.{Answer, Refusal, accepted, refused}
use Rattle.document.specs.Values.{Payment, Document}
use Rattle.document.specs.Marks.{most_parts}
use Rattle.diskette.specs.Fields.{Name}
use Rattle.diskette.specs.Answer.{answer, outcome, payments_of}
use Rattle.layout.specs.Steps.{first_payment, parts_at}
use Rattle.layout.proofs.CellLaws.{beyond}
use Rattle.layout.proofs.PaymentLaws.{Begun, few as few_there, parts_there}
use Rattle.layout.proofs.StepLaws.{payments_coming}
use Rattle.checker.specs.declared.Checked.{Checked}
use Rattle.checker.specs.Checking.{checked_of}
use Rattle.loader.specs.Columns.{starts}
use Rattle.loader.proofs.FillLaws.{length_starts}
use Rattle.loader.proofs.LoadLaws.{accepted_as, count_is}
use Rattle.finder.specs.declared.Wanted.{Wanted}
use Rattle.finder.specs.declared.Spot.{Spot}
use Rattle.finder.specs.Texts.{text_of, text_width, place_of, begun_at}
use Rattle.finder.specs.Seeking.{found, has_text}
use Rattle.finder.specs.Spots.{nowhere, standing, no_such, from_start, finding, find_at, if_text, if_begun, locating, locate_at}
use Rattle.finder.proofs.BegunLaws.{start_inside, begun_there, found_some, found_none, text_told}
use Rattle.finder.proofs.PlaceLaws.{longest_has}
use Rattle.finder.proofs.TextLaws.{text_stands}

-- ---- within the file

abbrev pub Within : List ℕ → Spot → Type 0
Within s r = (r.from ≤ r.to) × (r.to ≤ length s)

abbrev payments : List ℕ → List Payment
payments f = payments_of (answer f)

start_within : (f : List ℕ) (o : Option ℕ) (n : ℕ) → get_elem? (starts (payments f)) n ≡ o → Within f (from_start o (length f))
start_within f none n e = (omega arith, omega arith)
start_within f (some p) n e = (start_inside f first_payment (payments f) (payments_coming f) n p e, omega arith)

text_within : (f : List ℕ) (start : ℕ) (w : Wanted) (x : Payment) → Begun f start x → (o : Option (List ℕ)) → text_of w x ≡ o
    → Within f (if_text o (start + place_of w))
text_within f start w x b none e = (omega arith, omega arith)
text_within f start w x b (some t) e = (omega arith, (text_stands b w t e).inside)

begun_within : (f : List ℕ) (start : ℕ) (w : Wanted) (o : Option Payment) → begun_at start (payments f) ≡ o → Within f (if_begun o start w)
begun_within f start w none e = (omega arith, omega arith)
begun_within f start w (some x) e = text_within f start w x (begun_there f start x e) (text_of w x) refl

pub find_within : (f : List ℕ) (n : ℕ) → Within f (find_at f n)
unfolding find_at finding payments_of
find_within f n = by (answer f) refl
  where
    by : (a : Answer Name Document) → answer f ≡ a → Within f (finding a n (length f))
    by (refused r) e = (omega arith, omega arith)
    by (accepted d) e = start_within f (get_elem? (starts d.payments) n) n (ap (λ a. get_elem? (starts (payments_of a)) n) e)

pub locate_within : (f : List ℕ) (start : ℕ) (w : Wanted) → Within f (locate_at f start w)
unfolding locate_at locating payments_of
locate_within f start w = by (answer f) refl
  where
    by : (a : Answer Name Document) → answer f ≡ a → Within f (locating a start w)
    by (refused r) e = (omega arith, omega arith)
    by (accepted d) e = begun_within f start w (begun_at start d.payments) (ap (λ a. begun_at start (payments_of a)) e)

-- ---- once the check has answered

-- the text stands in the file: its place is asked for by a text that the longest payment has, and it ends in the file
pub record Located (f : List ℕ) (start : ℕ) (w : Wanted) : Type 0 where
  pub longest : has_text w most_parts ≡ true
  pub ends : start + place_of w + text_width ≤ length f
  pub is : standing (start + place_of w) (start + place_of w + text_width) ≡ locate_at f start w

module _ (f : List ℕ) {c : Checked} (told : c ≡ checked_of (outcome (answer f))) where
  -- the file is refused
  module _ (nonzero : c.verdict.number ≢ 0) where
    refused_with_lem : (r : Refusal Name) × (answer f ≡ refused r)
    unfolding outcome
    refused_with_lem = by (answer f) refl
      where
        by : (a : Answer Name Document) → answer f ≡ a → (r : Refusal Name) × (answer f ≡ refused r)
        by (refused r) e = (r, e)
        by (accepted d) e = absurd (nonzero (ap (λ (x : Checked). x.verdict.number) told ∙ ap (λ a. (outcome a).verdict.number) e))

    as_checked : nowhere c.verdict ≡ nowhere (outcome (answer f)).verdict
    as_checked = ap (λ (x : Checked). nowhere x.verdict) told

    pub find_refused : (n : ℕ) → nowhere c.verdict ≡ find_at f n
    unfolding find_at finding
    find_refused n = let e = refused_with_lem.1 in as_checked ∙ rw e

    pub locate_refused : (start : ℕ) (w : Wanted) → nowhere c.verdict ≡ locate_at f start w
    unfolding locate_at locating
    locate_refused start w = let e = refused_with_lem.1 in as_checked ∙ rw e

  -- the file is accepted
  module _ (zero : c.verdict.number ≡ 0) where
    find_accepted : (n : ℕ) → find_at f n ≡ from_start (get_elem? (starts (payments f)) n) (length f)
    unfolding find_at finding payments_of
    find_accepted n = let e = (accepted_as f told zero).1 in rw e

    pub find_none : (n : ℕ) → c.count ≤ n → no_such ≡ find_at f n
    find_none n h =
        let none-there = beyond (starts (payments f)) n (omega (arith, length_starts first_payment (payments f), count_is f told zero)) in
        sym (find_accepted n ∙ ap (λ o. from_start o (length f)) none-there)

    pub find_some : (n p : ℕ) → get_elem? (starts (payments f)) n ≡ some p → standing p (length f) ≡ find_at f n
    find_some n p e = sym (find_accepted n ∙ ap (λ o. from_start o (length f)) e)

    module _ (start : ℕ) (w : Wanted) where
      locate_accepted : locate_at f start w ≡ if_begun (begun_at start (payments f)) start w
      unfolding locate_at locating payments_of
      locate_accepted = let e = (accepted_as f told zero).1 in rw e

      -- no payment begins at the start
      pub locate_none : found (begun_at start (payments f)) ≡ false → no_such ≡ locate_at f start w
      locate_none e = sym (locate_accepted ∙ ap (λ o. if_begun o start w) (found_none (begun_at start (payments f)) e))

      -- a payment begins at the start, and k is the number of parts that its C18 tells
      module _ (begun : found (begun_at start (payments f)) ≡ true) {k : ℕ} (parts : k ≡ parts_at f start) where
        abbrev here : (x : Payment) × (begun_at start (payments f) ≡ some x)
        here = found_some (begun_at start (payments f)) begun

        stands : Begun f start here.0
        stands = begun_there f start here.0 here.1

        of_text : locate_at f start w ≡ if_text (text_of w here.0) (start + place_of w)
        of_text = locate_accepted ∙ ap (λ o. if_begun o start w) here.1

        has_it : found (text_of w here.0) ≡ has_text w k
        has_it = text_told w here.0 ∙ ap (has_text w) (sym (parts ∙ parts_there stands))

        few : k ≤ most_parts
        few = omega (arith, few_there stands, parts ∙ parts_there stands)

        pub locate_no_text : has_text w k ≡ false → no_such ≡ locate_at f start w
        locate_no_text e = sym (of_text ∙ ap (λ o. if_text o (start + place_of w)) (found_none (text_of w here.0) (has_it ∙ e)))

        -- the payment has the text
        pub located : has_text w k ≡ true → Located f start w
        located e =
            let t = found_some (text_of w here.0) (has_it ∙ e) in
            record {
              longest = longest_has w k few e;
              ends = (text_stands stands w t.0 t.1).inside;
              is = sym (of_text ∙ ap (λ o. if_text o (start + place_of w)) t.1);
            }

        pub locate_text : has_text w k ≡ true → standing (start + place_of w) (start + place_of w + text_width) ≡ locate_at f start w
        locate_text e = (located e).is
