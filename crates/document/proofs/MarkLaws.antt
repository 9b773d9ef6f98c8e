-- The marks: walked through one by one, with the room that is left, they are exactly those that the rules of order and number allow.
-- What joins the two is `LegalFrom room`, the rules for the marks from some part on: the room tells how many of 01, of 02 and of 03 may still
-- come, and with the room 15 these are the rules' own numbers. Both directions go by induction over the marks, with one case for each mark: a
-- mark that may stand leaves a room from which the rest is legal (`legal_more`); and of legal marks the first may stand, because those behind it
-- are no smaller and there are as many as of the three marks together (`allowed_first`, `tally`).
use Prim.Native.Nat.{ℕ, zero, suc, ◌+◌, ◌-◌, ◌≤◌, ◌<◌, min}
use native.Mathlib.Omega.{arith}
use native.Mathlib.Decide.{dec_le}
use mathlib.Core.Path.{◌≡◌, refl}
use mathlib.Core.Logic.{◌⊎◌, inl, inr}
use mathlib.Core.Bool.{false, ◌&&◌, ◌||◌}
use mathlib.Core.List.{List, [], ◌∷◌}
use lib.ListN.{length}
use lib.Dec.{T, leb, ltb, eqb, leb→le, le→leb, eqb→eq}
use borrow.Author.Tests.{ne_eqb}
use Rattle.form.proofs.BoolLaws.{and_both, or_cases, or_left}
use Rattle.document.specs.Rules.{All, how_many, NeverDescending, LegalMarks}
use Rattle.document.specs.Marks.{room_after, mark_ok}

-- ---- one mark

-- a mark that may stand: the room ahead of it, how many parts follow, the mark
pub data Allowed : ℕ → ℕ → ℕ → Type 0 where
  beneficiary : {left : ℕ} → left ≤ 14 → Allowed 15 left 1
  purpose : {room left : ℕ} → 2 ≤ room → left ≤ min room 14 - 1 → Allowed room left 2
  sender : {room : ℕ} → 1 ≤ room → Allowed room 0 3

pub see_mark : (room left m : ℕ) → T (mark_ok room m) → left ≤ room_after m room → Allowed room left m
see_mark room left m t l = by (or_cases (eqb m 1 && eqb room 15) _ t)
  where
    by_other : T (eqb m 2 && leb 2 room) ⊎ T (eqb m 3 && leb 1 room) → Allowed room left m
    by_other (inl p) =
        let a = and_both (eqb m 2) (leb 2 room) p in
        let e = eqb→eq m 2 a.0 in
        rw e (purpose (leb→le 2 room a.1) (rw e at l))
    by_other (inr p) =
        let a = and_both (eqb m 3) (leb 1 room) p in
        let e = eqb→eq m 3 a.0 in
        let none : left ≡ 0 = let h : left ≤ 0 = rw e at l in omega arith in
        rw (e, none) (sender (leb→le 1 room a.1))

    by : T (eqb m 1 && eqb room 15) ⊎ T ((eqb m 2 && leb 2 room) || (eqb m 3 && leb 1 room)) → Allowed room left m
    by (inl p) =
        let a = and_both (eqb m 1) (eqb room 15) p in
        let e = eqb→eq m 1 a.0 in
        rw (e, eqb→eq room 15 a.1) (beneficiary (rw e at l))
    by (inr p) = by_other (or_cases (eqb m 2 && leb 2 room) _ p)

pub show_mark : {room left m : ℕ} → Allowed room left m → T (mark_ok room m) × (left ≤ room_after m room)
show_mark (beneficiary h) = (tt, h)
show_mark (purpose {room = r} h k) = (or_left (leb 2 r) false (le→leb 2 r h), k)
show_mark (sender {room = r} h) = (le→leb 1 r h, omega arith)

pub mark_fits : {room left m : ℕ} → Allowed room left m → T (ltb m 100)
mark_fits (beneficiary h) = tt
mark_fits (purpose h k) = tt
mark_fits (sender h) = tt

-- a mark that may stand leaves room for all parts that follow it
pub room_left : {room left m : ℕ} → room ≤ 15 → Allowed room left m → (room_after m room ≤ 15) × (left ≤ room_after m room)
room_left h (beneficiary k) = (omega arith, k)
room_left h (purpose k l) = (omega arith, l)
room_left h (sender k) = (omega arith, omega arith)

-- where there is room for a part and all that follow it, some mark may stand
pub some_mark : (room left : ℕ) → room ≤ 15 → suc left ≤ room → (m : ℕ) × Allowed room left m
some_mark room left h l = by (dec_le 15 room) (dec_le 2 room)
  where
    by : Dec (15 ≤ room) → Dec (2 ≤ room) → (m : ℕ) × Allowed room left m
    by (yes a) d = let e : room ≡ 15 = omega arith in rw e (1, beneficiary {left = left} (omega arith))
    by (no a) (yes b) = (2, purpose {room = room} {left = left} b (omega arith))
    by (no a) (no b) = let e : left ≡ 0 = omega arith in rw e (3, sender {room = room} (omega arith))

-- ---- a row of marks

abbrev pub Walked : ℕ → List ℕ → Type 0
Walked room [] = Unit {0}
Walked room (m ∷ ms) = Allowed room (length ms) m × Walked (room_after m room) ms

-- what the rules say of the marks from a room on
record LegalFrom (room : ℕ) (ms : List ℕ) : Type 0 where
  each : All (λ m. (1 ≤ m) × (m ≤ 3)) ms
  order : NeverDescending ms
  once_01 : how_many 1 ms ≤ room - 14
  times_02 : how_many 2 ms ≤ min room 14 - 1
  once_03 : how_many 3 ms ≤ min room 1

data OneOfThree : ℕ → Type 0 where
  one : OneOfThree 1
  two : OneOfThree 2
  three : OneOfThree 3

see_three : (m : ℕ) → (1 ≤ m) × (m ≤ 3) → OneOfThree m
see_three zero h = absurd (omega arith)
see_three (suc zero) h = one
see_three (suc (suc zero)) h = two
see_three (suc (suc (suc zero))) h = three
see_three (suc (suc (suc (suc m)))) h = absurd (omega arith)

all_map : {A : Type 0} {P Q : A → Type 0} (xs : List A) → ((x : A) → P x → Q x) → All P xs → All Q xs
all_map [] f h = tt
all_map (x ∷ xs) f h = (f x h.0, all_map xs f h.1)

-- there are as many marks as of the three together
tally : (ms : List ℕ) → All (λ m. (1 ≤ m) × (m ≤ 3)) ms → length ms ≡ how_many 1 ms + how_many 2 ms + how_many 3 ms
tally [] h = refl
tally (m ∷ ms) h = by m (see_three m h.0) (tally ms h.1)
  where
    by : (m : ℕ) → OneOfThree m → length ms ≡ how_many 1 ms + how_many 2 ms + how_many 3 ms
        → suc (length ms) ≡ how_many 1 (m ∷ ms) + how_many 2 (m ∷ ms) + how_many 3 (m ∷ ms)
    by m one e = omega arith
    by m two e = omega arith
    by m three e = omega arith

-- of marks that all are n or above, none is an m below n
none_below : (m n : ℕ) (ms : List ℕ) → m < n → All (λ x. n ≤ x) ms → how_many m ms ≡ 0
none_below m n [] h a = refl
none_below m n (x ∷ xs) h a = let i = none_below m n xs h a.1 in let l = a.0 in rw (ne_eqb x m (omega arith)) i

above_1 : (ms : List ℕ) → All (λ m. (1 ≤ m) × (m ≤ 3)) ms → how_many 1 ms ≤ 0 → All (λ x. 2 ≤ x) ms
above_1 [] h e = tt
above_1 (m ∷ ms) h e = let b = by m (see_three m h.0) e in (b.0, above_1 ms h.1 b.1)
  where
    by : (m : ℕ) → OneOfThree m → how_many 1 (m ∷ ms) ≤ 0 → (2 ≤ m) × (how_many 1 ms ≤ 0)
    by m one e = omega arith
    by m two e = omega arith
    by m three e = omega arith

none_left : (ms : List ℕ) → length ms ≡ 0 → All (λ x. 3 ≤ x) ms
none_left [] e = tt
none_left (m ∷ ms) e = absurd (omega arith)

-- numbers of marks behind a purpose, each fact by itself: `omega` makes at most six splits for `-` and `min`
no_more_01 : (room n : ℕ) → n ≤ (min room 14 - 1) - 14 → n ≤ 0
no_more_01 room n h = omega arith

one_more_02 : (room n : ℕ) → 2 ≤ room → n ≤ min (min room 14 - 1) 14 - 1 → suc n ≤ min room 14 - 1
one_more_02 room n h k = omega arith

still_03 : (room n : ℕ) → 2 ≤ room → n ≤ min (min room 14 - 1) 1 → n ≤ min room 1
still_03 room n h k = omega arith

-- ---- walked through, they are legal

legal_more : {room left m : ℕ} (ms : List ℕ) → length ms ≡ left → room ≤ 15 → Allowed room left m → LegalFrom (room_after m room) ms → LegalFrom room (m ∷ ms)
legal_more ms e h (beneficiary k) f =
    record { each = ((omega arith, omega arith), f.each); order = (all_map ms (λ m b. b.0) f.each, f.order); once_01 = omega arith; times_02 = omega arith; once_03 = omega arith }
legal_more ms e h (purpose {room = r} k l) f =
    let none = no_more_01 r (how_many 1 ms) f.once_01 in
    record {
      each = ((omega arith, omega arith), f.each);
      order = (above_1 ms f.each none, f.order);
      once_01 = omega arith;
      times_02 = one_more_02 r (how_many 2 ms) k f.times_02;
      once_03 = still_03 r (how_many 3 ms) k f.once_03;
    }
legal_more ms e h (sender k) f =
    record { each = ((omega arith, omega arith), f.each); order = (none_left ms e, f.order); once_01 = omega arith; times_02 = omega arith; once_03 = omega arith }

legal_from : (room : ℕ) (ms : List ℕ) → room ≤ 15 → Walked room ms → LegalFrom room ms
legal_from room [] h w = record { each = tt; order = tt; once_01 = omega arith; times_02 = omega arith; once_03 = omega arith }
legal_from room (m ∷ ms) h w = legal_more ms refl h w.0 (legal_from (room_after m room) ms (room_left h w.0).0 w.1)

pub walked_legal : (ms : List ℕ) → Walked 15 ms → LegalMarks ms
walked_legal ms w =
    let f = legal_from 15 ms (omega arith) w in
    record { each = f.each; order = f.order; once_01 = omega arith; times_02 = omega arith; once_03 = omega arith }

-- ---- legal, they can be walked through

allowed_first : (m : ℕ) → OneOfThree m → (room : ℕ) (ms : List ℕ) → room ≤ 15 → LegalFrom room (m ∷ ms) → Allowed room (length ms) m × LegalFrom (room_after m room) ms
allowed_first m one room ms h f =
    let t = tally ms f.each.1 in
    let e : room ≡ 15 = omega arith in
    (rw e (beneficiary {left = length ms} (omega arith)), record { each = f.each.1; order = f.order.1; once_01 = omega arith; times_02 = omega arith; once_03 = omega arith })
allowed_first m two room ms h f =
    let t = tally ms f.each.1 in
    let n = none_below 1 2 ms (omega arith) f.order.0 in
    (purpose {room = room} {left = length ms} (omega arith) (omega arith), record { each = f.each.1; order = f.order.1; once_01 = omega arith; times_02 = omega arith; once_03 = omega arith })
allowed_first m three room ms h f =
    let t = tally ms f.each.1 in
    let n = none_below 1 3 ms (omega arith) f.order.0 in
    let k = none_below 2 3 ms (omega arith) f.order.0 in
    let e : length ms ≡ 0 = omega arith in
    (rw e (sender {room = room} (omega arith)), record { each = f.each.1; order = f.order.1; once_01 = omega arith; times_02 = omega arith; once_03 = omega arith })

walked_from : (room : ℕ) (ms : List ℕ) → room ≤ 15 → LegalFrom room ms → Walked room ms
walked_from room [] h f = tt
walked_from room (m ∷ ms) h f =
    let s = allowed_first m (see_three m f.each.0) room ms h f in
    (s.0, walked_from (room_after m room) ms (room_left h s.0).0 s.1)

pub legal_walked : (ms : List ℕ) → LegalMarks ms → Walked 15 ms
legal_walked ms l =
    walked_from 15 ms (omega arith) (record { each = l.each; order = l.order; once_01 = omega arith; times_02 = omega arith; once_03 = omega arith })

-- legal marks are at most 15
pub legal_length : (ms : List ℕ) → LegalMarks ms → length ms ≤ 15
legal_length ms l = let t = tally ms l.each in omega arith
