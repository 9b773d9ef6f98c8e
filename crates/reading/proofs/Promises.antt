-- What the statements of `read_full` and `read_up_to` come to where the reader's bytes are known: it admits one answer. That is how much there is of the input,
-- as far as the buffer goes; the buffer begins with it, and the reader has what is behind it left.
use Rattle.std.proofs.Common.{◌≡◌, ℕ, ◌≤◌, List, ◌++◌, length, min, take, drop, refl, sym, ap, ◌∙◌, length-take-le, drop_at}
use Rattle.std.proofs.lemmas.List.{length-take}

module _ (input : List ℕ) (room : ℕ) where
  -- n bytes at the start of the buffer are those that the input begins with, and the rest is left
  pub record Says (n : ℕ) (buf rest : List ℕ) : Type 0 where
    pub within : n ≤ length buf
    pub start : take n buf ≡ take room input
    pub left : input ≡ take n buf ++ rest

  pub read_count : (n : ℕ) (buf rest : List ℕ) → Says n buf rest → n ≡ min room (length input)
  read_count n buf rest says = sym (length-take-le n buf says.within) ∙ ap length says.start ∙ length-take room input

  pub read_rest : (n : ℕ) (buf rest : List ℕ) → Says n buf rest → rest ≡ drop n input
  read_rest n buf rest says = sym (ap (drop n) says.left ∙ drop_at (take n buf) rest n (length-take-le n buf says.within))

  pub one_reading : (n m : ℕ) (a b p q : List ℕ) → Says n a p → Says m b q → (n ≡ m) × (take n a ≡ take m b) × (p ≡ q)
  one_reading n m a b p q first second =
      let same = read_count n a p first ∙ sym (read_count m b q second) in
      (same, first.start ∙ sym second.start, read_rest n a p first ∙ ap (λ k. drop k input) same ∙ sym (read_rest m b q second))

  -- the bytes that are handed out are those that the input begins with, and the rest is left
  pub record Hands (read rest : List ℕ) : Type 0 where
    pub start : read ≡ take room input
    pub left : input ≡ read ++ rest

  handed_rest : (read rest : List ℕ) → Hands read rest → rest ≡ drop (length read) input
  handed_rest read rest hands = sym (ap (drop (length read)) hands.left ∙ drop_at read rest (length read) refl)

  pub one_handing : (a b p q : List ℕ) → Hands a p → Hands b q → (a ≡ b) × (p ≡ q)
  one_handing a b p q first second =
      let same = first.start ∙ sym second.start in
      (same, handed_rest a p first ∙ ap (λ read. drop (length read) input) same ∙ sym (handed_rest b q second))
