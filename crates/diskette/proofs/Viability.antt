-- At every field of the diskette form that can be come to there is a legal content: a file that was right so far can be ended rightly.
-- For each field a content is named, and most are the same whatever was read: letters, one cent, the first of January. Where a limit runs along,
-- something is kept that leaves room: the sums are bounded by the count (`Bounded`), the cents are below their top where a C may begin, and the
-- parts still to come have room, so that some mark may stand (`some_mark`). The payments go by induction over how many can still come, keeping
-- that E or a C may begin (`MayGoOn`).
use Prim.Native.Nat.{ℕ, zero, suc, ◌+◌, ◌-◌, ◌/◌, ◌%◌, ◌^◌, ◌≤◌, ◌<◌}
use native.Mathlib.Omega.{arith}
use mathlib.Core.Path.{◌≡◌}
use mathlib.Core.Logic.{◌⊎◌, inl, inr}
use mathlib.Core.Option.{none}
use mathlib.Core.Bool.{Bool, true, false, ◌&&◌, ◌||◌, not}
use mathlib.Core.List.{List}
use lib.ListN.{replicate}
use lib.Dec.{T, leb, ltb, eqb, leb→le, ltb→lt, le→leb, lt→ltb, eqb→eq, eqb_refl}
use Rattle.form.specs.Kind.{digits, one_of}
use Rattle.form.specs.Form.{Content, value, Viable}
use Rattle.form.proofs.BoolLaws.{and_both, or_other, or_right}
use Rattle.form.proofs.RulesLaws.{◌▸◌, ok, viable_bind, viable_fork, then_viable}
use Rattle.document.specs.Signs.{ascii}
use Rattle.document.specs.Calendar.{is_day, of_ddmmyy, month_days}
use Rattle.document.specs.Values.{Header, Totals, no_totals, adding}
use Rattle.document.specs.Rules.{most_payments, most_cents, ends_in_k, begins_with_g, keys, key_ok}
use Rattle.diskette.specs.Writing.{length_of, section, to_section_end, to_next_part, write_body}
use Rattle.document.specs.Marks.{room_after}
use Rattle.diskette.specs.Fields.{header, closing_blanks, parts, payment, end, is_length, first_field, payments, behind_header, document}
use Rattle.document.proofs.FieldLaws.{plain_supplement}
use Rattle.document.proofs.MarkLaws.{see_mark, show_mark, mark_fits, room_left, some_mark}
use Rattle.diskette.proofs.PaymentSays.{GoodPayment, payment_says}
use Rattle.diskette.proofs.EndSays.{Within, end_begins, payment_begins}
use Rattle.document.proofs.SumLaws.{Bounded, bounded_none, bounded_adding, account_room, bank_room}

-- a text of 27 letters
letters : List ℕ
letters = replicate 27 0x41

header_viable : Viable header
unfolding letters is_day of_ddmmyy month_days
header_viable =
    ok ▸ λ c.
    ok ▸ λ c.
    (ascii "GK", tt, tt) ▸ λ kind.
    (0, tt, tt) ▸ λ c.
    (0, tt, (or_right (not (ends_in_k kind.0)) true tt, tt)) ▸ λ c.
    (letters, tt, tt) ▸ λ c.
    (010100, tt, (tt, tt)) ▸ λ c.
    ok ▸ λ c.
    (0, tt, tt) ▸ λ c.
    (0, tt, tt) ▸ λ c.
    ok ▸ λ c.
    (none, tt, tt) ▸ λ c.
    ok ▸ λ c.
    ok ▸ λ c.
    tt

closing_viable : (s n : ℕ) → Viable (closing_blanks s n)
closing_viable s zero = tt
closing_viable s (suc n) = ok ▸ λ c. tt

-- the fields of parts for which there is room
parts_viable : (left i room : ℕ) → room ≤ 15 → left ≤ room → Viable (parts left i room)
unfolding parts letters
parts_viable zero i room h l = viable_bind (closing_blanks (section i) (to_section_end i)) _ (closing_viable (section i) (to_section_end i)) (λ r. tt)
parts_viable (suc left) i room h l =
    let s = some_mark room left h l in
    let m = show_mark s.1 in
    viable_bind (closing_blanks (section i) (to_next_part i)) _ (closing_viable (section i) (to_next_part i)) (λ r.
    (s.0, mark_fits s.1, (m.0, (omega (arith, le→leb), tt))) ▸ λ c.
    (letters, tt, tt) ▸ λ t.
    let x = room_left h (see_mark room left c.0 c.2.0 (leb→le left (room_after c.0 room) c.2.1.0)) in
    viable_bind (parts left (suc i) (room_after c.0 room)) _ (parts_viable left (suc i) (room_after c.0 room) x.0 x.1) (λ q. tt))

some_key : (kind : List ℕ) → (k : ℕ) × T (ltb k 100) × T (key_ok kind k)
some_key kind = by (begins_with_g kind)
  where
    by : (b : Bool) → (k : ℕ) × T (ltb k 100) × T (one_of (keys b) k)
    by true = (51, tt, tt)
    by false = (4, tt, tt)

-- a length of C tells how many parts there are
parts_of_lem : (l : ℕ) → T (is_length l) → (k : ℕ) × (k ≤ 15) × (length_of k ≡ l)
parts_of_lem l t =
    let a = and_both (leb 187 l && leb l 622) (eqb ((l - 187) % 29) 0) t in
    let b = and_both (leb 187 l) (leb l 622) a.0 in
    let from = leb→le 187 l b.0 in
    let to = leb→le l 622 b.1 in
    let whole = eqb→eq ((l - 187) % 29) 0 a.1 in
    ((l - 187) / 29, omega arith, omega arith)

payment_viable : (kind : List ℕ) (t : Totals) (l : ℕ) → Bounded t → t.count < most_payments → t.cents < most_cents → T (is_length l) → Viable (payment kind t l)
unfolding letters
payment_viable kind t l b n c s =
    let key = some_key kind in
    let k = parts_of_lem l s in
    ok ▸ λ x.
    (0, tt, tt) ▸ λ x.
    (10_000_000, tt, (tt, (lt→ltb (t.bank_codes + 10_000_000) (10 ^ 17) (bank_room t b n 10_000_000 (omega arith)), tt))) ▸ λ x.
    (1, tt, (tt, (lt→ltb (t.accounts + 1) (10 ^ 17) (account_room t b n 1 (omega arith)), tt))) ▸ λ x.
    (0, tt, (tt, tt)) ▸ λ x.
    (key.0, key.1, (key.2, tt)) ▸ λ x.
    (0, tt, (plain_supplement kind x.0 x.2.0, tt)) ▸ λ x.
    ok ▸ λ x.
    ok ▸ λ x.
    (10_000_000, tt, (tt, tt)) ▸ λ x.
    (1, tt, (tt, tt)) ▸ λ x.
    (1, tt, (tt, (le→leb (t.cents + 1) most_cents (omega arith), tt))) ▸ λ x.
    ok ▸ λ x.
    (letters, tt, (tt, tt)) ▸ λ x.
    ok ▸ λ x.
    (letters, tt, (tt, tt)) ▸ λ x.
    (letters, tt, tt) ▸ λ x.
    ok ▸ λ x.
    ok ▸ λ x.
    (k.0, lt→ltb k.0 100 (omega (arith, k.1)), (rw k.2 (eqb_refl l), tt)) ▸ λ x.
    viable_bind (parts x.0 0 15) _ (parts_viable x.0 0 15 (omega arith) (omega (arith, k.1, k.2, eqb→eq (length_of x.0) l x.2.0))) (λ r. tt)

end_viable : (t : Totals) → t.count ≤ most_payments → Within t → Viable (end t)
end_viable t h w =
    ok ▸ λ c.
    ok ▸ λ c.
    (t.count, lt→ltb t.count (10 ^ 7) (omega arith), (eqb_refl t.count, tt)) ▸ λ c.
    ok ▸ λ c.
    (t.accounts, lt→ltb t.accounts (10 ^ 17) w.accounts, (eqb_refl t.accounts, tt)) ▸ λ c.
    (t.bank_codes, lt→ltb t.bank_codes (10 ^ 17) w.bank_codes, (eqb_refl t.bank_codes, tt)) ▸ λ c.
    (t.cents, lt→ltb t.cents (10 ^ 13) (omega (arith, w.cents)), (eqb_refl t.cents, tt)) ▸ λ c.
    ok ▸ λ c.
    tt

-- ---- the file

-- E or a C may begin: E after at least one C, a C as long as neither limit is reached
MayGoOn : ℕ → Totals → Type 0
MayGoOn left t = (1 ≤ t.count) ⊎ ((1 ≤ left) × (t.cents < most_cents))

some_first : (left : ℕ) (t : Totals) → t.count + left ≡ most_payments → MayGoOn left t → Content (digits 4) (first_field t)
unfolding MayGoOn
some_first left t h (inl some) = (128, tt, end_begins t some)
some_first left t h (inr d) = (length_of 0, tt, payment_begins t 0 (omega arith) (omega arith) d.1)

within : (t : Totals) → Bounded t → t.count ≤ most_payments → t.cents ≤ most_cents → Within t
within t b h c = record { accounts = omega (arith, b.accounts); bank_codes = omega (arith, b.bank_codes); cents = c }

payments_viable : (left : ℕ) (kind : List ℕ) (t : Totals) → t.count + left ≡ most_payments → Bounded t → t.cents ≤ most_cents → MayGoOn left t
    → Viable (payments left kind t)
unfolding payments MayGoOn
payments_viable zero kind t h b c d = (some_first zero t h d, λ x. end_viable t (omega arith) (within t b (omega arith) c))
payments_viable (suc left) kind t h b c d = (
  some_first (suc left) t h d,
  λ x.
      let l = x.0 in
      viable_fork (eqb l 128) (end t) _ (λ e. end_viable t (omega arith) (within t b (omega arith) c)) (λ e.
      then_viable (payment kind t l) (GoodPayment kind t l) write_body (payment_says kind t l) _
      (payment_viable kind t l b (omega arith) (ltb→lt t.cents most_cents (or_other (eqb l 128) (ltb t.cents most_cents) e x.2.1.1.0))
      (not_end l e x.2.0))
      (λ p g. viable_bind (payments left kind (adding t p)) _
      (payments_viable left kind (adding t p) (omega arith) (bounded_adding kind t p b g.legal) g.cents (inl (omega arith))) (λ r. tt))),
)
  where
    not_end : (l : ℕ) → T (not (eqb l 128)) → T ((eqb l 128 && leb 1 t.count) || is_length l) → T (is_length l)
    not_end l e s = by (eqb l 128) e s
      where
        by : (b : Bool) → T (not b) → T ((b && leb 1 t.count) || is_length l) → T (is_length l)
        by true e s = absurd e
        by false e s = s

pub document_viable : Viable document
unfolding document MayGoOn
document_viable = viable_bind header behind_header header_viable (λ r. behind_viable (value header r))
  where
    behind_viable : (h : Header) → Viable (behind_header h)
    behind_viable h =
        viable_bind (payments most_payments h.file_kind no_totals) _
        (payments_viable most_payments h.file_kind no_totals (omega arith) bounded_none (omega arith) (inr (omega arith, omega arith))) (λ s. tt)
