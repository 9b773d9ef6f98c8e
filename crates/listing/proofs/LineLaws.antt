-- Lines and fields: rows of bytes are parted at a sign and joined again, and trailing blanks are taken away and put back.
-- Parting and trimming go by induction over the row, with two cases for its first byte: whether it is the sign, or whether it is a blank with
-- nothing left behind it. Pieces that have not the sign in them are parted as they were joined (`split_sign`, `split_end`), and every row joins
-- up again from its pieces (`join_split`); for lines of fields and for listings of lines both directions follow from that. A text of full width
-- is its trimmed form filled up with blanks, and a field that does not end in a blank is its wide form trimmed (`pad_trim`, `trim_pad`).
use Prim.Native.Nat.{ℕ, zero, suc, ◌+◌, ◌-◌, ◌≤◌}
use native.Mathlib.Omega.{arith}
use mathlib.Core.Path.{◌≡◌, refl, sym, ap, ap₂, ◌∙◌}
use mathlib.Core.Bool.{Bool, true, false, ◌&&◌, not, cond, and-false}
use mathlib.Core.List.{List, [], ◌∷◌, ◌++◌, append_assoc, append-nil}
use lib.ListN.{length, take, length-append, length-replicate, replicate-append-replicate}
use lib.Seq.{length-take-le, take_all, take_at, take-append_seam}
use lib.Dec.{T, eqb, eqb→eq, eqb_refl}
use Rattle.form.specs.Kind.{every, blanks}
use Rattle.form.proofs.BoolLaws.{is_true, T_of, and_both, and_of}
use Rattle.document.specs.Rules.{All}
use Rattle.listing.specs.Lines.{tab, line_end, behind_tabs, line, onto, split, empty, trim, ends_in_blank}
use Rattle.listing.specs.Records.{pad}

is_false : (b : Bool) → T (not b) → b ≡ false
is_false true t = absurd t
is_false false t = refl

not_so : (b : Bool) → b ≡ false → T (not b)
not_so b e = rw e tt

-- ---- pieces between signs

-- z is none of the bytes
abbrev pub clear : ℕ → List ℕ → Bool
clear z bs = every (λ b. not (eqb b z)) bs

abbrev pub Clear : ℕ → List (List ℕ) → Type 0
Clear z xs = All (λ x. T (clear z x)) xs

-- one piece at least
pub data Some : List (List ℕ) → Type 0 where
  some : (x : List ℕ) (xs : List (List ℕ)) → Some (x ∷ xs)

pub split_some : (z : ℕ) (bs : List ℕ) → Some (split z bs)
unfolding split
split_some z [] = some [] []
split_some z (b ∷ bs) = by (eqb b z) (split z bs)
  where
    by : (e : Bool) (r : List (List ℕ)) → Some (cond e ([] ∷ r) (onto b r))
    by true r = some [] r
    by false [] = some (b ∷ []) []
    by false (x ∷ xs) = some (b ∷ x) xs

-- a piece ends at the sign
pub split_sign : (z : ℕ) (x rest : List ℕ) → T (clear z x) → split z (x ++ (z ∷ rest)) ≡ x ∷ split z rest
unfolding split
split_sign z [] rest t = rw (is_true (eqb z z) (eqb_refl z))
split_sign z (b ∷ bs) rest t =
    let h = and_both (not (eqb b z)) (clear z bs) t in
    rw (is_false (eqb b z) h.0, split_sign z bs rest h.1)

-- the last piece ends where the bytes end
pub split_end : (z : ℕ) (x : List ℕ) → T (clear z x) → split z x ≡ x ∷ []
unfolding split
split_end z [] t = refl
split_end z (b ∷ bs) t =
    let h = and_both (not (eqb b z)) (clear z bs) t in
    rw (is_false (eqb b z) h.0, split_end z bs h.1)

-- no piece has the sign in it
pub split_clear : (z : ℕ) (bs : List ℕ) → Clear z (split z bs)
unfolding split
split_clear z [] = (tt, tt)
split_clear z (b ∷ bs) = by (eqb b z) refl (split z bs) (split_clear z bs)
  where
    by : (e : Bool) → eqb b z ≡ e → (r : List (List ℕ)) → Clear z r → Clear z (cond e ([] ∷ r) (onto b r))
    by true p r h = (tt, h)
    by false p [] h = (and_of (not (eqb b z)) true (not_so (eqb b z) p) tt, tt)
    by false p (x ∷ xs) h = (and_of (not (eqb b z)) (clear z x) (not_so (eqb b z) p) h.0, h.1)

-- the pieces with the sign between them
abbrev pub join : ℕ → List (List ℕ) → List ℕ
join z [] = []
join z (x ∷ []) = x
join z (x ∷ y ∷ ys) = x ++ (z ∷ join z (y ∷ ys))

join_onto : (z b : ℕ) (r : List (List ℕ)) → Some r → join z (onto b r) ≡ b ∷ join z r
join_onto z b r (some x []) = refl
join_onto z b r (some x (y ∷ ys)) = refl

join_sign : (z : ℕ) (r : List (List ℕ)) → Some r → join z ([] ∷ r) ≡ z ∷ join z r
join_sign z r (some x xs) = refl

-- the pieces of a row, joined again, are the row
pub join_split : (z : ℕ) (bs : List ℕ) → join z (split z bs) ≡ bs
unfolding split
join_split z [] = refl
join_split z (b ∷ bs) = by (eqb b z) refl (join_split z bs)
  where
    by : (e : Bool) → eqb b z ≡ e → join z (split z bs) ≡ bs → join z (cond e ([] ∷ split z bs) (onto b (split z bs))) ≡ b ∷ bs
    by true p h = join_sign z (split z bs) (split_some z bs) ∙ ap₂ ◌∷◌ (sym (eqb→eq b z (T_of p))) h
    by false p h = join_onto z b (split z bs) (split_some z bs) ∙ ap (λ (l : List ℕ). b ∷ l) h

-- ---- lines

tabs_between : (t : List ℕ) (ts : List (List ℕ)) → t ++ behind_tabs ts ≡ join tab (t ∷ ts)
tabs_between t [] = append-nil t
tabs_between t (u ∷ us) = ap (λ (l : List ℕ). t ++ (tab ∷ l)) (tabs_between u us)

-- a line is parted into its fields
pub fields_parted : (t : List ℕ) (ts : List (List ℕ)) → Clear tab (t ∷ ts) → split tab (t ++ behind_tabs ts) ≡ t ∷ ts
fields_parted t [] h = ap (split tab) (append-nil t) ∙ split_end tab t h.0
fields_parted t (u ∷ us) h = split_sign tab t (u ++ behind_tabs us) h.0 ∙ ap (λ (l : List (List ℕ)). t ∷ l) (fields_parted u us h.1)

-- the fields that a line is parted into make up the line
pub line_from : (x t : List ℕ) (ts : List (List ℕ)) → split tab x ≡ t ∷ ts → t ++ behind_tabs ts ≡ x
line_from x t ts e = tabs_between t ts ∙ ap (join tab) (sym e) ∙ join_split tab x

clear_append : (z : ℕ) (a b : List ℕ) → T (clear z a) → T (clear z b) → T (clear z (a ++ b))
clear_append z [] b s t = t
clear_append z (x ∷ xs) b s t =
    let h = and_both (not (eqb x z)) (clear z xs) s in
    and_of (not (eqb x z)) (clear z (xs ++ b)) h.0 (clear_append z xs b h.1 t)

clear_fields : (ts : List (List ℕ)) → Clear line_end ts → T (clear line_end (behind_tabs ts))
clear_fields [] h = tt
clear_fields (t ∷ ts) h = clear_append line_end t (behind_tabs ts) h.0 (clear_fields ts h.1)

-- a line, whatever follows it
pub line_ended : (letter : List ℕ) (ts : List (List ℕ)) (rest : List ℕ) → line letter ts ++ rest ≡ (letter ++ behind_tabs ts) ++ (line_end ∷ rest)
line_ended letter ts rest = simp append_assoc

-- a listing is parted into its first line and the pieces of what follows
pub line_parted : (letter : List ℕ) (ts : List (List ℕ)) (rest : List ℕ) → Clear line_end (letter ∷ ts)
    → split line_end (line letter ts ++ rest) ≡ (letter ++ behind_tabs ts) ∷ split line_end rest
line_parted letter ts rest h =
    ap (split line_end) (line_ended letter ts rest)
    ∙ split_sign line_end (letter ++ behind_tabs ts) rest (clear_append line_end letter (behind_tabs ts) h.0 (clear_fields ts h.1))

-- a piece that is parted into a letter and fields is, with its line end, the line of these
pub line_joined : (x letter : List ℕ) (ts : List (List ℕ)) (rest more : List ℕ) → split tab x ≡ letter ∷ ts → rest ≡ more
    → x ++ (line_end ∷ rest) ≡ line letter ts ++ more
line_joined x letter ts rest more e i =
    ap₂ (λ (a b : List ℕ). a ++ (line_end ∷ b)) (sym (line_from x letter ts e)) i ∙ sym (line_ended letter ts more)

-- ---- trailing blanks

blank_end : (b : ℕ) (r : List ℕ) → T (eqb b 0x20 && empty r) → (b ≡ 0x20) × (r ≡ [])
blank_end b [] t = (eqb→eq b 0x20 (and_both (eqb b 0x20) true t).0, refl)
blank_end b (x ∷ xs) t = absurd (and_both (eqb b 0x20) false t).1

pub trim_blanks : (n : ℕ) → trim (blanks n) ≡ []
unfolding trim
trim_blanks zero = refl
trim_blanks (suc n) = rw (trim_blanks n)

pub length_trim : (s : List ℕ) → length (trim s) ≤ length s
unfolding trim
length_trim [] = omega arith
length_trim (b ∷ bs) = by (eqb b 0x20 && empty (trim bs)) (length_trim bs)
  where
    by : (e : Bool) → length (trim bs) ≤ length bs → length (cond e [] (b ∷ trim bs)) ≤ suc (length bs)
    by true h = omega arith
    by false h = omega arith

-- a trimmed row, and as many blanks as were taken away, is the row
trim_back : (s : List ℕ) → trim s ++ blanks (length s - length (trim s)) ≡ s
unfolding trim
trim_back [] = refl
trim_back (b ∷ bs) = by (eqb b 0x20 && empty (trim bs)) refl (trim_back bs)
  where
    again : (r : List ℕ) → r ≡ [] → r ++ blanks (length bs - length r) ≡ bs → bs ≡ blanks (length bs)
    again r e h = sym h ∙ rw e (ap blanks (let k : length bs - 0 ≡ length bs = omega arith in k))

    by : (e : Bool) → (eqb b 0x20 && empty (trim bs)) ≡ e → trim bs ++ blanks (length bs - length (trim bs)) ≡ bs
        → cond e [] (b ∷ trim bs) ++ blanks (suc (length bs) - length (cond e [] (b ∷ trim bs))) ≡ b ∷ bs
    by true p i =
        let h = blank_end b (trim bs) (T_of p) in
        let k : suc (length bs) - 0 ≡ suc (length bs) = omega arith in
        rw k (ap₂ ◌∷◌ (sym h.0) (sym (again (trim bs) h.1 i)))
    by false p i =
        let k : suc (length bs) - suc (length (trim bs)) ≡ length bs - length (trim bs) = omega arith in
        rw k (ap (λ (l : List ℕ). b ∷ l) i)

pub trim_take : (s : List ℕ) → take (length (trim s)) s ≡ trim s
trim_take s = ap (take (length (trim s))) (sym (trim_back s)) ∙ take-append_seam (trim s) (blanks (length s - length (trim s)))

-- a trimmed row does not end in a blank
pub trim_ends : (s : List ℕ) → T (not (ends_in_blank (trim s)))
unfolding trim
trim_ends [] = tt
trim_ends (b ∷ bs) = by (eqb b 0x20) refl (trim bs) (trim_ends bs)
  where
    by : (e : Bool) → eqb b 0x20 ≡ e → (r : List ℕ) → T (not (ends_in_blank r)) → T (not (ends_in_blank (cond (e && empty r) [] (b ∷ r))))
    by true p [] t = tt
    by true p (x ∷ xs) t = t
    by false p [] t = not_so (eqb b 0x20) p
    by false p (x ∷ xs) t = t

pub trim_every : (p : ℕ → Bool) (s : List ℕ) → T (every p s) → T (every p (trim s))
unfolding trim
trim_every p [] t = tt
trim_every p (b ∷ bs) t =
    let h = and_both (p b) (every p bs) t in
    by (eqb b 0x20 && empty (trim bs)) h.0 (trim_every p bs h.1)
  where
    by : (e : Bool) → T (p b) → T (every p (trim bs)) → T (every p (cond e [] (b ∷ trim bs)))
    by true s t = tt
    by false s t = and_of (p b) (every p (trim bs)) s t

trim_behind : (t : List ℕ) (n : ℕ) → T (not (ends_in_blank t)) → trim (t ++ blanks n) ≡ t
unfolding trim
trim_behind [] n h = trim_blanks n
trim_behind (b ∷ []) n h = rw (trim_blanks n, is_false (eqb b 0x20) h)
trim_behind (b ∷ c ∷ cs) n h = rw (trim_behind (c ∷ cs) n h, and-false (eqb b 0x20))

-- ---- fields made wide

pub pad_length : (w : ℕ) (t : List ℕ) → length (pad w t) ≡ w
pad_length w t = length-take-le w (t ++ blanks w) (omega (arith, length-append t (blanks w), length-replicate {A = ℕ} w 0x20))

-- a field that has room is followed by blanks
pad_room : (w : ℕ) (t : List ℕ) → length t ≤ w → pad w t ≡ t ++ blanks (w - length t)
pad_room w t h =
    let n = w - length t in
    let e : n + length t ≡ w = omega arith in
    let b : blanks n ++ blanks (length t) ≡ blanks w = replicate-append-replicate n (length t) 0x20 ∙ ap blanks e in
    let l : length (t ++ blanks n) ≡ w = length-append t (blanks n) ∙ rw (length-replicate {A = ℕ} n 0x20) (omega arith) in
    ap (take w) (ap (λ (x : List ℕ). t ++ x) (sym b) ∙ sym (append_assoc t (blanks n) (blanks (length t))))
    ∙ take_at (t ++ blanks n) (blanks (length t)) w l

pub pad_nothing : (w : ℕ) → pad w [] ≡ blanks w
pad_nothing w = take_all w (blanks w) (omega (arith, length-replicate {A = ℕ} w 0x20))

pub pad_whole : (w : ℕ) (t : List ℕ) → length t ≡ w → pad w t ≡ t
pad_whole w t e = take_at t (blanks w) w e

pub pad_trim : (w : ℕ) (s : List ℕ) → length s ≡ w → pad w (trim s) ≡ s
pad_trim w s e = pad_room w (trim s) (omega (arith, length_trim s)) ∙ rw (← e) (trim_back s)

pub trim_pad : (w : ℕ) (t : List ℕ) → T (not (ends_in_blank t)) → length t ≤ w → trim (pad w t) ≡ t
trim_pad w t h l = ap trim (pad_room w t l) ∙ trim_behind t (w - length t) h
