-- Bytes written one by one from a place on, and the bytes of a field made wide.
use Prim.Native.Nat.{ℕ, ◌+◌, ◌-◌, ◌≤◌, ◌<◌, min}
use borrow.Rule.Slice.PartMut.{put_mid}
use native.Mathlib.Numerals.{add-one}
use native.Mathlib.Omega.{arith}
use native.Mathlib.Decide.{dec_lt}
use mathlib.Core.Path.{◌≡◌, refl, sym, ap, ap₂, ◌∙◌}
use mathlib.Core.List.{List, ◌++◌, append-nil}
use lib.ListN.{length-replicate, length, take, get_or, set, length-set}
use lib.Seq.{take-append-add, take-suc, take_all, length-take-le}
use Rattle.std.proofs.lemmas.List.{take-append-le, take-replicate}
use Rattle.form.specs.Kind.{blanks}
use Rattle.listing.specs.Records.{pad}
use Rattle.output.specs.Writing.{over}
use Rattle.output.proofs.OverLaws.{over_nothing, over_more, over_next, part_over}

-- ---- byte by byte

-- i of the bytes stand in the output, from p on
pub record Writing (old : List ℕ) (p : ℕ) (bytes out : List ℕ) (i : ℕ) : Type 0 where
  pub room : p + length bytes ≤ length old
  pub inside : i ≤ length bytes
  pub long : length out ≡ length old
  pub holds : out ≡ over p (take i bytes) old

pub writing_start : (old : List ℕ) (p : ℕ) (bytes : List ℕ) → p + length bytes ≤ length old → Writing old p bytes old 0
writing_start old p bytes h = record { room = h; inside = omega arith; long = refl; holds = sym (over_nothing p old) }

-- the next byte, at its place q
pub writing_more : {old bytes out : List ℕ} {p i : ℕ} (q b : ℕ) → Writing old p bytes out i → i < length bytes → q ≡ p + i → b ≡ get_or bytes i 0
    → Writing old p bytes (set out q b) (i + 1)
writing_more {old} {bytes} {out} {p} {i} q b w h e f =
    let l = length-take-le i bytes w.inside in
    let m : q ≡ p + length (take i bytes) = omega arith in
    record {
      room = w.room;
      inside = omega arith;
      long = length-set out q b ∙ w.long;
      holds = rw (w.holds, m, f, add-one i, take-suc bytes i 0 h) (over_more p (get_or bytes i 0) (take i bytes) old (omega arith));
    }

pub writing_end : {old bytes out : List ℕ} {p i : ℕ} → Writing old p bytes out i → length bytes ≤ i → out ≡ over p bytes old
writing_end {bytes = bytes} {i = i} w h = w.holds ∙ rw (take_all i bytes h)

-- ---- a field made w wide

-- the first n of its bytes are the text's own, where n is the lesser of the text's length and w, and behind them stand blanks
pad_parts : (w n : ℕ) (t : List ℕ) → n ≡ min (length t) w → pad w t ≡ take n t ++ blanks (w - n)
pad_parts w n t e = by (dec_lt w (length t))
  where
    by : Dec (w < length t) → pad w t ≡ take n t ++ blanks (w - n)
    by (yes h) =
        let whole : n ≡ w = omega arith in
        let none : w - w ≡ 0 = omega arith in
        rw (whole, none, append-nil) (take-append-le w t (blanks w) (omega arith))
    by (no h) =
        let all : n ≡ length t = omega arith in
        let k = w - length t in
        let f : w ≡ length t + k = omega arith in
        rw (all, take_all (length t) t (omega arith))
        (ap (λ (m : ℕ). take m (t ++ blanks w)) f ∙ take-append-add t (blanks w) k ∙ ap (λ (l : List ℕ). t ++ l) (take-replicate k w 0x20 (omega arith)))

-- the two parts written one behind the other
pub pad_over : (p w n : ℕ) (t text rest old : List ℕ) → n ≡ min (length t) w → text ≡ take n t → rest ≡ blanks (w - n) → p + w ≤ length old
    → put_mid (p + n) (p + w - (p + n)) (put_mid p (p + n - p) old text) rest ≡ over p (pad w t) old
pad_over p w n t text rest old e f g h =
    let l : length text ≡ n = ap length f ∙ length-take-le n t (omega arith) in
    let m : length rest ≡ w - n = ap length g ∙ length-replicate (w - n) 0x20 in
    let place : p + n ≡ p + length text = omega arith in
    part_over (p + n) (p + w) rest _ (omega arith)
    ∙ ap₂ (λ (q : ℕ) (o : List ℕ). over q rest o) place (part_over p (p + n) text old place)
    ∙ over_next p text rest old (omega arith)
    ∙ ap (λ (bs : List ℕ). over p bs old) (ap₂ (λ (a b : List ℕ). a ++ b) f g ∙ sym (pad_parts w n t e))
