-- The two ways through an accepted file: one counts the bytes of its listing, the other prints them.
-- Both keep `Standing`, and beside it what they have: the one the length of the lines so far (`Measuring`), the other these lines in the output,
-- behind that of A (`Listing`). A turn adds the line of the payment that stands at p (`line_more`). What there is so far is never longer than
-- the whole listing (`done_within`): so the output has room for the next line (`line_room`), and the count stays within the file's length and
-- does not wrap (`measure_room`).
use Prim.Native.Nat.{ℕ, ◌+◌, ◌≤◌, ◌<◌}
use native.Mathlib.Omega.{arith}
use mathlib.Core.Path.{◌≡◌, refl, sym, ap, ap₂, ◌∙◌}
use mathlib.Core.Bool.{false}
use mathlib.Core.List.{List, ◌++◌}
use lib.ListN.{length, length-append}
use Rattle.verdict.specs.Lent.{filled}
use Rattle.listing.specs.Records.{fields_with}
use Rattle.output.specs.Writing.{over}
use Rattle.output.proofs.OverLaws.{over_length, over_nothing, over_first}
use Rattle.layout.specs.Steps.{parts_at}
use Rattle.layout.proofs.StepLaws.{Passing}
use Rattle.lister.specs.declared.Pen.{Pen}
use Rattle.lister.specs.Printing.{line_at, AcceptedFile, HasRoom, Wrote}
use Rattle.lister.proofs.PrintLaws.{stretch, wrote_on}
use Rattle.lister.proofs.ListingLaws.{listing_of, line_of_a, lines_to, listing_short, done_within}
use Rattle.lister.proofs.ListingLaws.{FromRow, Standing, stand_ends, line_more}

-- ---- counting

-- m bytes: the line of A and the lines of `row` payments
pub record Measuring (f : List ℕ) (n m p row : ℕ) : Type 0 where
  pub standing : Standing f n p row
  pub long : m ≡ length (line_of_a f) + length (lines_to f row)

pub measure_start : {f : List ℕ} {n m p : ℕ} → AcceptedFile n f → Passing f (FromRow f) 0 p → m ≡ length (line_of_a f) → Measuring f n m p 0
measure_start a w e = record { standing = record { accepted = a; passing = w }; long = omega arith }

module _ {f : List ℕ} {n m p row : ℕ} (s : Measuring f n m p row) where
  module _ (h : row < n) {k : ℕ} (told : k ≡ parts_at f p) {r : ℕ} (l : r ≡ length (line_at false (fields_with k) f p)) where
    longer : m + r ≡ length (line_of_a f) + length (lines_to f (row + 1))
    longer =
        let e = ap length (line_more s.standing h told) ∙ length-append (lines_to f row) (line_at false (fields_with k) f p) in
        omega (arith, s.long)

    -- the line of the payment at p is counted, and the next payment stands at q
    pub measure_more : {q : ℕ} → Passing f (FromRow f) (row + 1) q → Measuring f n (m + r) q (row + 1)
    measure_more w = record { standing = record { accepted = s.standing.accepted; passing = w }; long = longer }

    -- what is counted is no longer than the file
    pub measure_room : m + r ≤ length f
    measure_room = let a = s.standing.accepted in omega (arith, longer, done_within n f a (row + 1), listing_short n f a)

  pub measure_ends : n ≤ row → m ≡ length (listing_of f)
  measure_ends h = s.long ∙ sym (ap length (stand_ends s.standing h) ∙ length-append (line_of_a f) (lines_to f row))

-- ---- printing

-- behind the line of A the pen `old` has printed the lines of `row` payments, and is `new`; there is room for the others
pub record Listing (f : List ℕ) (n : ℕ) (old new : Pen) (p row : ℕ) : Type 0 where
  pub standing : Standing f n p row
  pub first : old.at ≡ length (line_of_a f)
  pub room : length (listing_of f) ≤ length old.out.now
  pub wrote : Wrote (lines_to f row) old new

-- there is room for the line of A
pub a_room : (n : ℕ) (f : List ℕ) → AcceptedFile n f → (start : Pen) → start.at ≡ 0 → length (listing_of f) ≤ length start.out.now → HasRoom (line_of_a f) start
a_room n f x start zero h = omega (arith, done_within n f x 0)

-- the line of A is printed
module _ (n : ℕ) (f : List ℕ) (x : AcceptedFile n f) {start old : Pen} (t : Wrote (line_of_a f) start old) (zero : start.at ≡ 0)
    (h : length (listing_of f) ≤ length start.out.now) where
  pub list_start : {p : ℕ} → Passing f (FromRow f) 0 p → Listing f n old old p 0
  list_start w = record {
    standing = record { accepted = x; passing = w };
    first = omega (arith, t.place);
    room = omega (arith, ap length t.out, over_length start.at (line_of_a f) start.out.now (a_room n f x start zero h));
    wrote = record { same_reference = refl; place = omega arith; out = sym (over_nothing old.at old.out.now) };
  }

  -- behind the last line the whole listing is printed
  pub list_ends : {new : Pen} {p row : ℕ} → Listing f n old new p row → n ≤ row
      → (new.at ≡ length (listing_of f)) × (new.out.now ≡ filled (listing_of f) start.out.now) × (new.out.ghost_name ≡ start.out.ghost_name)
  list_ends {new} {p} {row} s e =
      let w = stand_ends s.standing e in
      let fits : HasRoom (line_of_a f ++ lines_to f row) start = omega (arith, ap length w) in
      let all = wrote_on (line_of_a f) (lines_to f row) fits t s.wrote in (
        omega (arith, all.place, ap length w),
        all.out ∙ ap₂ (λ j bs. over j bs start.out.now) zero (sym w) ∙ over_first (listing_of f) start.out.now,
        all.same_reference,
      )

module _ {f : List ℕ} {n : ℕ} {old new : Pen} {p row : ℕ} (s : Listing f n old new p row) (h : row < n) {k : ℕ} (told : k ≡ parts_at f p) where
  abbrev fresh : List ℕ
  fresh = line_at false (fields_with k) f p

  next_fits : HasRoom (lines_to f row ++ fresh) old
  next_fits = omega (arith, s.room, s.first, done_within n f s.standing.accepted (row + 1), ap length (line_more s.standing h told))

  pub line_room : HasRoom fresh new
  line_room = (stretch (lines_to f row) fresh next_fits s.wrote).0

  -- the line of the payment at p is printed, and the next payment stands at p'
  pub list_more : {new' : Pen} {p' : ℕ} → Wrote fresh new new' → Passing f (FromRow f) (row + 1) p' → Listing f n old new' p' (row + 1)
  list_more t w = record {
    standing = record { accepted = s.standing.accepted; passing = w };
    first = s.first;
    room = s.room;
    wrote = rw (line_more s.standing h told) (wrote_on (lines_to f row) fresh next_fits s.wrote t);
  }
