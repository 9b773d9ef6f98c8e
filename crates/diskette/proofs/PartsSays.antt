-- The fields of the extension parts say what the rules say: filled parts are legal parts written out, section by section.
-- The proof goes by induction over the parts that are left, for every part i ahead of them and every room (`parts_says`). Where none is left the
-- last section is closed (`none_left`); else come the blanks of a section that is full, one part, and the others with the room that its mark
-- leaves (`part_fill`, `part_told`). A mark keeps the two rules of the form exactly where it is `Allowed` (`show_mark`, `see_mark`), and that is
-- what `Walked` asks of each mark in turn.
use Prim.Native.Nat.{ℕ, zero, suc, ◌≤◌}
use native.Mathlib.Omega.{arith}
use mathlib.Core.Path.{◌≡◌, refl, ap, ◌∙◌}
use mathlib.Core.List.{List, [], ◌∷◌, ◌++◌, map, append-nil}
use lib.ListN.{length, length-map}
use lib.Dec.{T, leb→le, le→leb}
use Rattle.form.specs.Kind.{digits, Value, fixed, blanks}
use Rattle.form.specs.Form.{Form, ret, get, any, ◌>>=◌, Filled, value, bytes}
use Rattle.form.proofs.RulesLaws.{◌▸◌, ok, Filling, Told, Says, then_fill, then_told}
use Rattle.document.specs.Values.{Part}
use Rattle.document.specs.Rules.{All, Text}
use Rattle.diskette.specs.Writing.{section, to_section_end, to_next_part, write_parts}
use Rattle.document.specs.Marks.{room_after, mark_ok}
use Rattle.diskette.specs.Fields.{Name, mark, words, text27, mark_rules, closing_blanks, parts}
use Rattle.document.proofs.MarkLaws.{Allowed, see_mark, show_mark, mark_fits, Walked}
use Rattle.document.proofs.FieldLaws.{text_fits, fits_text}

-- ---- closing blanks, and then a form

closing_says : (s n : ℕ) → Says (closing_blanks s n) (λ u. Unit {0}) (λ u. blanks n)
closing_says s zero = record { fill = λ u g. (tt, refl, refl); told = λ r. (tt, tt, refl, refl) }
closing_says s (suc n) =
    record { fill = λ u g. (ok ▸ tt, refl, append-nil (blanks (suc n))); told = λ r. (tt, tt, refl, append-nil (blanks (suc n))) }

module _ (s n : ℕ) (k : Value (fixed []) → Form Name (List Part)) where
  blanks_fill : (r : Filled (k tt)) → Filling (closing_blanks s n >>= k) (value (k tt) r) (blanks n ++ bytes (k tt) r)
  blanks_fill = then_fill (closing_blanks s n) (λ u. Unit {0}) (λ u. blanks n) (closing_says s n) k tt tt

  blanks_told : (r : Filled (closing_blanks s n >>= k))
      → (q : Filled (k tt)) × (value (closing_blanks s n >>= k) r ≡ value (k tt) q) × (bytes (closing_blanks s n >>= k) r ≡ blanks n ++ bytes (k tt) q)
  blanks_told r = let t = then_told (closing_blanks s n) (λ u. Unit {0}) (λ u. blanks n) (closing_says s n) k r in (t.2, t.3, t.4)

-- ---- parts

abbrev pub mark_of : Part → ℕ
mark_of q = q.mark

abbrev pub LegalWords : Part → Type 0
LegalWords q = Text q.words

-- so many parts, for which there is room, with legal texts
abbrev pub GoodParts : ℕ → ℕ → List Part → Type 0
GoodParts left room ps = (length ps ≡ left) × Walked room (map mark_of ps) × All LegalWords ps

-- no part is left: the last section is closed
none_left : (i room : ℕ) → Says (parts zero i room) (GoodParts zero room) (write_parts i)
unfolding parts
none_left i room = record { fill = fill; told = told }
  where
    fill : (ps : List Part) → GoodParts zero room ps → Filling (parts zero i room) ps (write_parts i ps)
    fill [] g = let t = blanks_fill (section i) (to_section_end i) (λ u. ret []) tt in (t.0, t.1, t.2 ∙ append-nil (blanks (to_section_end i)))
    fill (q ∷ qs) g = absurd (omega arith)

    told : (r : Filled (parts zero i room)) → Told (GoodParts zero room) (write_parts i) (value (parts zero i room) r) (bytes (parts zero i room) r)
    told r =
        let t = blanks_told (section i) (to_section_end i) (λ u. ret []) r in
        ([], (refl, tt, tt), t.1, t.2 ∙ append-nil (blanks (to_section_end i)))

-- part i + 1, and those that are left behind it
abbrev pub one_part : ℕ → ℕ → ℕ → Form Name (List Part)
one_part left i room = do
  m ← get (mark (suc i)) (digits 2) (mark_rules room left)
  t ← any (words (suc i)) text27
  ps ← parts left (suc i) (room_after m room)
  ret (record { mark = m; words = t } ∷ ps)

module _ (left i room : ℕ) (says : (j x : ℕ) → Says (parts left j x) (GoodParts left x) (write_parts j)) where
  abbrev close : ℕ → List ℕ → List Part → Form Name (List Part)
  close m t ps = ret (record { mark = m; words = t } ∷ ps)

  -- the fields behind the closing blanks
  abbrev behind : Value (fixed []) → Form Name (List Part)
  behind u = one_part left i room

  -- a part fills in its two fields, s fills in what is behind them
  with_part : (q : Part) (qs : List Part) → Allowed room left q.mark → LegalWords q
      → (s : Filled (parts left (suc i) (room_after q.mark room) >>= close q.mark q.words))
      → value (parts left (suc i) (room_after q.mark room) >>= close q.mark q.words) s ≡ q ∷ qs
      → bytes (parts left (suc i) (room_after q.mark room) >>= close q.mark q.words) s ≡ write_parts (suc i) qs ++ []
      → (r : Filled (behind tt)) × (value (behind tt) r ≡ q ∷ qs) × (blanks (to_next_part i) ++ bytes (behind tt) r ≡ write_parts i (q ∷ qs))
  with_part q qs a t s v b =
      let m = show_mark a in
      ((q.mark, mark_fits a, (m.0, (omega (arith, le→leb), tt))) ▸ (q.words, text_fits q.words t, tt) ▸ s, v, rw b)

  part_fill : (ps : List Part) → GoodParts (suc left) room ps → Filling (parts (suc left) i room) ps (write_parts i ps)
  unfolding parts
  part_fill [] g = absurd (omega arith)
  part_fill (q ∷ qs) g =
      let e : length qs ≡ left = omega arith in
      let x = room_after q.mark room in
      let d = then_fill (parts left (suc i) x) (GoodParts left x) (write_parts (suc i)) (says (suc i) x) (close q.mark q.words) qs (e, g.1.1, g.2.1) tt in
      let p = with_part q qs (rw (length-map qs mark_of, e) at g.1.0) g.2.0 d.0 d.1 d.2 in
      after_blanks p.0 (q ∷ qs) p.1 p.2
    where
      after_blanks : (r : Filled (behind tt)) (ps : List Part) → value (behind tt) r ≡ ps → blanks (to_next_part i) ++ bytes (behind tt) r ≡ write_parts i ps
          → Filling (parts (suc left) i room) ps (write_parts i ps)
      after_blanks r ps v b =
          let t = blanks_fill (section i) (to_next_part i) behind r in (t.0, t.1 ∙ v, t.2 ∙ b)

  seen : (ps : List Part) (m : ℕ) → length ps ≡ left → T (mark_ok room m) → left ≤ room_after m room → Allowed room (length (map mark_of ps)) m
  seen ps m e h k = rw (length-map ps mark_of, e) (see_mark room left m h k)

  -- what the fields of a part and of those behind it hold is a part that may stand, ahead of good parts
  from_part : (r : Filled (behind tt)) → Told (GoodParts (suc left) room) (write_parts i) (value (behind tt) r) (blanks (to_next_part i) ++ bytes (behind tt) r)
  from_part r =
      let m = r.0 in
      let t = r.1.0 in
      let x = room_after m.0 room in
      let d = then_told (parts left (suc i) x) (GoodParts left x) (write_parts (suc i)) (says (suc i) x) (close m.0 t.0) r.1.1 in
      let a = seen d.0 m.0 d.1.0 m.2.0 (leb→le left x m.2.1.0) in
      (record { mark = m.0; words = t.0 } ∷ d.0, (ap suc d.1.0, (a, d.1.1), (fits_text t.0 t.1, d.1.2)), d.3, rw d.4)

  part_told : (r : Filled (parts (suc left) i room)) → Told (GoodParts (suc left) room) (write_parts i) (value (parts (suc left) i room) r) (bytes (parts (suc left) i room) r)
  unfolding parts
  part_told r =
      let b = blanks_told (section i) (to_next_part i) behind r in
      let p = from_part b.0 in
      (p.0, p.1, b.1 ∙ p.2, b.2 ∙ p.3)

pub parts_says : (left i room : ℕ) → Says (parts left i room) (GoodParts left room) (write_parts i)
parts_says zero i room = none_left i room
parts_says (suc left) i room =
    record { fill = part_fill left i room (λ j x. parts_says left j x); told = part_told left i room (λ j x. parts_says left j x) }
