-- What the code has seen, put together: a text from its tab and its signs, parts one after another. Each of them stands at a place once, so
-- that what was not seen is not there.
-- The hard half are the answers no, which deny every text or part at a place. A tab has one text behind it, which ends where the signs end
-- (`text_once`): so three texts, or parts, that stood there would begin with those that the code has seen, and where the code then said no they
-- cannot go on (`none_behind_first`, `names_seen`, `behind_part`). The loop over the parts keeps both halves in `Followed`: what follows at q
-- makes all parts with the k before it, and whatever all parts are, they go on at q.
use Rattle.std.specs.Prelude.{Option, Some, None}
use Prim.Native.Nat.{ℕ, suc, ◌+◌, ◌-◌, ◌≤◌, ◌<◌}
use native.Mathlib.Omega.{arith}
use native.Mathlib.Decide.{dec_le}
use mathlib.Core.Path.{◌≡◌, sym, ap, ◌∙◌, subst}
use mathlib.Core.Bool.{true, false, not}
use mathlib.Core.List.{List, [], ◌∷◌}
use lib.ListN.{length, drop, get_or}
use lib.Seq.{get_or-take, get_or-drop}
use lib.Dec.{T}
use borrow.Author.Tests.{eq-eqb, ne_eqb}
use Rattle.form.specs.Kind.{digits}
use Rattle.form.specs.Reader.{has}
use Rattle.form.specs.Place.{look_at}
use Rattle.document.specs.Marks.{room_after, mark_ok}
use Rattle.std.specs.Prelude.{Ok}
use Rattle.fields.specs.Answers as answers
use Rattle.fields.proofs.AnswerLaws.{number_is}
use Rattle.listing.specs.Lines.{tab, line_end, ends_in_blank}
use Rattle.line_reader.specs.Lines.{signs_end, behind_tab, Text, Texts, ThreeTexts, Names, Part, PartsTo, ended, more}
use Rattle.line_reader.proofs.TextLaws.{text_long, text_once}

-- ---- a text

-- bytes of which the last, if there is one, is no blank do not end in a blank
ends_well : (x : List ℕ) → (0 < length x → get_or x (length x - 1) 0 ≡ 0x20 → ⊥) → T (not (ends_in_blank x))
ends_well [] h = tt
ends_well (b ∷ []) h = rw (ne_eqb b 0x20 (h (omega arith))) tt
ends_well (b ∷ c ∷ bs) h =
    let n : suc (suc (length bs)) - 1 ≡ suc (length (c ∷ bs) - 1) = omega arith in
    ends_well (c ∷ bs) (λ p e. h (omega arith) (ap (λ m. get_or (b ∷ c ∷ bs) m 0) n ∙ e))

-- of bytes that do not end in a blank the last is no blank
last_no_blank : (x : List ℕ) → T (not (ends_in_blank x)) → 0 < length x → get_or x (length x - 1) 0 ≡ 0x20 → ⊥
last_no_blank [] t h e = omega arith
last_no_blank (b ∷ []) t h e = subst (λ c. T (not c)) (eq-eqb b 0x20 e) t
last_no_blank (b ∷ c ∷ bs) t h e =
    let n : suc (suc (length bs)) - 1 ≡ suc (length (c ∷ bs) - 1) = omega arith in
    last_no_blank (c ∷ bs) t (omega arith) (sym (ap (λ m. get_or (b ∷ c ∷ bs) m 0) n) ∙ e)

module _ (l : List ℕ) (q e : ℕ) (inside : q < length l) (to : e ≡ signs_end l (q + 1)) where
  -- the last byte of what stands behind the tab, where there is one
  last_byte : 0 < length (behind_tab l q e) → get_or (behind_tab l q e) (length (behind_tab l q e) - 1) 0 ≡ get_or l (e - 1) 0
  last_byte some =
      let m = e - (q + 1) in
      let k = text_long l q e inside to in
      let there : q + 1 + (m - 1) ≡ e - 1 = omega arith in
      ap (λ j. get_or (behind_tab l q e) (j - 1) 0) k
      ∙ get_or-take m (drop (q + 1) l) (m - 1) 0 (omega arith)
      ∙ get_or-drop (q + 1) l (m - 1) 0
      ∙ ap (λ j. get_or l j 0) there

  pub text_seen : get_or l q 0 ≡ tab → (get_or l (e - 1) 0 ≡ 0x20 → ⊥) → Text l q e
  text_seen t n =
      record { inside = inside; tab = t; to = to; ends = ends_well (behind_tab l q e) (λ some blank. n (sym (last_byte some) ∙ blank)) }

  -- where the byte ahead of e is a blank, no text stands behind the tab
  pub no_text : get_or l (e - 1) 0 ≡ 0x20 → (f : ℕ) → Text l q f → ⊥
  no_text blank f t = by (dec_le (q + 2) e)
    where
      by : Dec (q + 2 ≤ e) → ⊥
      by (yes h) =
          let k = text_long l q e inside to in
          let some : 0 < length (behind_tab l q e) = omega arith in
          let ends = subst (λ g. T (not (ends_in_blank (behind_tab l q g)))) (t.to ∙ sym to) t.ends in
          last_no_blank (behind_tab l q e) ends some (last_byte some ∙ blank)
      by (no h) =
          let n : e - 1 ≡ q = omega (arith, to) in
          let here : get_or l q 0 ≡ 0x20 = sym (ap (λ j. get_or l j 0) n) ∙ blank in
          omega (arith, here, t.tab)

-- ---- three texts

-- the first of three texts was seen
module _ {l : List ℕ} {q first : ℕ} (a : Text l q first) where
  names_first : {e : ℕ} (t : ThreeTexts l q e) → t.first ≡ first
  names_first t = text_once t.C14a a

  pub none_first : first < q + 2 → (e : ℕ) → ThreeTexts l q e → ⊥
  none_first h e t = omega (arith, names_first t, t.c14a_some)

  -- the second stands behind the first that was seen
  names_behind : {e : ℕ} (t : ThreeTexts l q e) → Text l first t.second
  names_behind t = subst (λ n. Text l n t.second) (names_first t) t.C15

  pub none_behind_first : ((e : ℕ) → Text l first e → ⊥) → (e : ℕ) → ThreeTexts l q e → ⊥
  none_behind_first none e t = none t.second (names_behind t)

  -- the second of three texts was seen too
  module _ {second : ℕ} (b : Text l first second) where
    names_second : {e : ℕ} (t : ThreeTexts l q e) → t.second ≡ second
    names_second t = text_once (names_behind t) b

    pub none_second : second < first + 2 → (e : ℕ) → ThreeTexts l q e → ⊥
    none_second h e t = omega (arith, names_first t, names_second t, t.c15_some)

    names_last : {e : ℕ} (t : ThreeTexts l q e) → Text l second e
    names_last {e} t = subst (λ n. Text l n e) (names_second t) t.C16

    pub names_seen : q + 2 ≤ first → first + 2 ≤ second → (a : Option ℕ) → Texts l second a → Names l q a
    names_seen m n None none = λ e t. none e (names_last t)
    names_seen m n (Some e) c =
        record { first = first; second = second; C14a = a; c14a_some = m; C15 = b; c15_some = n; C16 = c }

-- three texts stand at a place once
pub names_once : {l : List ℕ} {q e f : ℕ} → ThreeTexts l q e → ThreeTexts l q f → e ≡ f
names_once t u = text_once (names_last u.C14a u.C15 t) u.C16

-- ---- a part

-- the number of a mark was read behind the tab at q
module _ (l : List ℕ) (q : ℕ) {mark behind : ℕ} {a : answers.Reading (ℕ × ℕ)} (told : a ≡ answers.of_field answers.numbers (q + 1) (q + 1 + 2) (look_at (digits 2) l (q + 1)))
    (given : a ≡ Ok (mark, behind)) where
  read : (look_at (digits 2) l (q + 1) ≡ has mark) × (behind ≡ q + 1 + 2)
  read = number_is (q + 1) (q + 1 + 2) (look_at (digits 2) l (q + 1)) told given

  here : behind ≡ q + 3
  here = omega (arith, read.1)

  pub part_seen : {room e : ℕ} → get_or l q 0 ≡ tab → mark_ok room mark ≡ true → Text l behind e → Part l q room mark e
  part_seen {e = e} t may seen =
      record { tab = t; number = read.0; may = may; text = subst (λ (p : ℕ). Text l p e) here seen }

  pub part_not_so : {room : ℕ} → mark_ok room mark ≡ false → (part : ℕ × ℕ) → Part l q room part.0 part.1 → ⊥
  part_not_so {room} other part p =
      let i = read.0 in
      let j = p.number in
      let same : part.0 ≡ mark = cc in
      subst T (sym p.may ∙ ap (mark_ok room) same ∙ other) tt

  pub part_no_text : {room : ℕ} → ((e : ℕ) → Text l behind e → ⊥) → (part : ℕ × ℕ) → Part l q room part.0 part.1 → ⊥
  part_no_text none part p = none part.1 (subst (λ (n : ℕ). Text l n part.1) (sym here) p.text)

-- ---- parts

-- parts that stand at q begin with the part there
behind_part : {l : List ℕ} {q room mark r : ℕ} → Part l q room mark r → {k e : ℕ} → PartsTo l q room k e → (j : ℕ) × PartsTo l r (room_after mark room) j e
behind_part p (ended h i) = absurd (omega (arith, p.tab, i))
behind_part {l} {q} {room} {mark} {r} p {e = e} (more {mark = m} {r = s} {k = k} other ps) =
    let i = p.number in
    let j = other.number in
    let same : m ≡ mark = cc in
    let to : s ≡ r = text_once other.text p.text in
    (k, subst (λ (n : ℕ). PartsTo l n (room_after mark room) k e) to (subst (λ (n : ℕ). PartsTo l s (room_after n room) k e) same ps))

-- what follows at q, behind k parts from a start on: together with them it is all parts, and all parts go on with it
pub record Followed (l : List ℕ) (start q k room : ℕ) : Type 0 where
  pub all : (j e : ℕ) → PartsTo l q room j e → PartsTo l start 15 (k + j) e
  pub only : (n e : ℕ) → PartsTo l start 15 n e → (j : ℕ) × PartsTo l q room j e

pub followed_first : (l : List ℕ) (start : ℕ) → Followed l start start 0 15
followed_first l start = record { all = λ j e ps. let n : 0 + j ≡ j = omega arith in rw n ps; only = λ n e ps. (n, ps) }

module _ {l : List ℕ} {start q k room : ℕ} (f : Followed l start q k room) where
  pub followed_more : {mark r : ℕ} → Part l q room mark r → Followed l start r (k + 1) (room_after mark room)
  followed_more p =
      record {
        all =
            λ j e ps. let n : k + suc j ≡ k + 1 + j = omega arith in
            subst (λ (i : ℕ). PartsTo l start 15 i e) n (f.all (suc j) e (more p ps));
        only = λ n e ps. behind_part p (f.only n e ps).1;
      }

  pub followed_last : q < length l → get_or l q 0 ≡ line_end → PartsTo l start 15 k q
  followed_last h i =
      let n : k + 0 ≡ k = omega arith in
      subst (λ (i : ℕ). PartsTo l start 15 i q) n (f.all 0 q (ended h i))

  -- neither the line's end nor a part stands at q
  pub followed_none : (get_or l q 0 ≡ line_end → ⊥) → ((part : ℕ × ℕ) → Part l q room part.0 part.1 → ⊥) → (parts : ℕ × ℕ) → PartsTo l start 15 parts.0 parts.1 → ⊥
  followed_none end none parts ps = by (f.only _ _ ps).1
    where
      by : {j e : ℕ} → PartsTo l q room j e → ⊥
      by (ended h i) = end i
      by (more p others) = none _ p

  -- the listing is over at q
  pub followed_over : length l ≤ q → (parts : ℕ × ℕ) → PartsTo l start 15 parts.0 parts.1 → ⊥
  followed_over h parts ps = by (f.only _ _ ps).1
    where
      by : {j e : ℕ} → PartsTo l q room j e → ⊥
      by (ended g i) = omega arith
      by (more p others) = omega (arith, p.text.inside)
