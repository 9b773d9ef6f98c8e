-- A flag carried through a stretch of bytes: the flag, and what the bytes still to come say, say what the whole stretch says.
-- That is the invariant, `Flag`. What the bytes from i on say is what byte i says and what those from i + 1 on say, so one byte takes the flag
-- on (`flag_more`), and at the end it says all (`flag_end`). A text of 27 bytes is tested in two halves that share five: a byte that is asked
-- twice says nothing new (`in_two`, by induction over the bytes).
use Rattle.std.proofs.Common.{◌≡◌, ℕ, zero, suc, ◌+◌, ◌<◌, ◌≤◌, Bool, true, false, ◌&&◌, eqb, List, [], ◌∷◌, length, get_or, take, drop, sym, refl, ap, ◌∙◌, add_comm, add-one, arith, length-drop, drop_of_length-le, length-take-le, get_or-drop, drop-cons, get_or-take}
use mathlib.Core.Bool.{and_assoc, and-true}
use Rattle.form.specs.Kind.{every, same}

-- S i: what the bytes from i on say; the flag a stands for the bytes before i
pub record Flag (S : ℕ → Bool) (a : Bool) (i : ℕ) : Type 0 where
  pub all : a && S i ≡ S 0

module _ {S : ℕ → Bool} {a : Bool} {i : ℕ} where
  pub flag_more : (x : Bool) → Flag S a i → S i ≡ x && S (i + 1) → Flag S (a && x) (i + 1)
  flag_more x h e = record { all = and_assoc a x (S (i + 1)) ∙ ap (λ b. a && b) (sym e) ∙ h.all }

  pub flag_end : Flag S a i → S i ≡ true → a ≡ S 0
  flag_end h e = sym (and-true a) ∙ ap (λ b. a && b) (sym e) ∙ h.all

-- every byte passes a test
abbrev pub Every : (ℕ → Bool) → List ℕ → ℕ → Bool
Every t f i = every t (drop i f)

module _ (t : ℕ → Bool) (f : List ℕ) (i : ℕ) where
  pub every_more : i < length f → Every t f i ≡ t (get_or f i 0) && Every t f (i + 1)
  every_more h = rw (add-one, drop-cons f i 0)

  pub every_end : length f ≤ i → Every t f i ≡ true
  every_end h = rw (drop_of_length-le f h)

-- two stretches have the same bytes
abbrev pub Same : List ℕ → List ℕ → ℕ → Bool
Same f g i = same (drop i f) (drop i g)

module _ (f g : List ℕ) (i : ℕ) where
  pub same_more : i < length f → i < length g → Same f g i ≡ eqb (get_or f i 0) (get_or g i 0) && Same f g (i + 1)
  same_more h j = rw (add-one, drop-cons f i 0, drop-cons g i 0)

  pub same_end : length f ≤ i → length g ≤ i → Same f g i ≡ true
  same_end h j = rw (drop_of_length-le f h, drop_of_length-le g j)

-- ---- a text of 27 bytes in two halves of 16, which share five

and_pairs : (a b c d : Bool) → (a && b) && (c && d) ≡ (a && c) && (b && d)
and_pairs true b true d = refl
and_pairs true true false d = refl
and_pairs true false false d = refl
and_pairs false b c d = refl

-- the first bytes say nothing that all do not say
first_too : (t : ℕ → Bool) (n : ℕ) (f : List ℕ) → every t (take n f) && every t f ≡ every t f
first_too t zero f = refl
first_too t (suc n) [] = refl
first_too t (suc n) (x ∷ xs) = by (t x) (first_too t n xs)
  where
    by : (b : Bool) → every t (take n xs) && every t xs ≡ every t xs → (b && every t (take n xs)) && (b && every t xs) ≡ b && every t xs
    by true e = e
    by false e = refl

-- the first b bytes and those from a on, which meet or overlap, say what all bytes say
pub in_two : (t : ℕ → Bool) (a b : ℕ) (f : List ℕ) → a ≤ b → every t (take b f) && every t (drop a f) ≡ every t f
in_two t zero b f h = first_too t b f
in_two t (suc a) zero f h = absurd (omega arith)
in_two t (suc a) (suc b) [] h = refl
in_two t (suc a) (suc b) (x ∷ xs) h = by (t x) (in_two t a b xs (omega arith))
  where
    by : (c : Bool) → every t (take b xs) && every t (drop a xs) ≡ every t xs → (c && every t (take b xs)) && every t (drop a xs) ≡ c && every t xs
    by true e = e
    by false e = refl

-- the two halves from their i-th bytes on
abbrev pub Halves : (ℕ → Bool) → List ℕ → ℕ → Bool
Halves t f i = Every t (take 16 f) i && Every t (drop 11 f) i

module _ (t : ℕ → Bool) (f : List ℕ) (long : length f ≡ 27) where
  first_long : length (take 16 f) ≡ 16
  first_long = length-take-le 16 f (omega arith)

  second_long : length (drop 11 f) ≡ 16
  second_long = rw (length-drop 11 f, long)

  pub halves_more : (i : ℕ) → i < 16 → Halves t f i ≡ (t (get_or f i 0) && t (get_or f (i + 11) 0)) && Halves t f (i + 1)
  halves_more i h =
      let one = every_more t (take 16 f) i (rw first_long h) in
      let two = every_more t (drop 11 f) i (rw second_long h) in
      rw (one, two, get_or-take 16 f i 0 h, get_or-drop 11 f i 0, add_comm 11 i) (and_pairs (t (get_or f i 0)) (Every t (take 16 f) (i + 1)) (t (get_or f (i + 11) 0)) (Every t (drop 11 f) (i + 1)))

  pub halves_end : (i : ℕ) → 16 ≤ i → Halves t f i ≡ true
  halves_end i h = rw (every_end t (take 16 f) i (rw first_long h), every_end t (drop 11 f) i (rw second_long h))

  pub halves_all : Halves t f 0 ≡ every t f
  halves_all = in_two t 11 16 f (omega arith)
