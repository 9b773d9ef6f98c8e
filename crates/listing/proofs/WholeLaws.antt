-- The record that a line stands for is whole: a header takes no more bytes than its pieces, nor does a payment whose C1 tells its parts.
use Prim.Native.Nat.{ℕ, zero, suc, ◌+◌, ◌≤◌}
use native.Mathlib.Omega.{arith}
use mathlib.Core.Path.{◌≡◌}
use mathlib.Core.List.{List, [], ◌∷◌}
use lib.ListN.{length, drop, length-replicate}
use lib.Dec.{eqb→eq}
use Rattle.form.specs.Kind.{numeral}
use Rattle.form.specs.Form.{ret}
use Rattle.form.proofs.KindLaws.{numeral_length}
use Rattle.form.proofs.RulesLaws.{◌▸◌}
use Rattle.form.proofs.WholeLaws.{EndsBy, ends_bind}
use Rattle.document.specs.Values.{Totals}
use Rattle.document.specs.Marks.{most_parts, room_after}
use Rattle.diskette.specs.Writing.{section, to_section_end, to_next_part, length_of}
use Rattle.diskette.specs.Fields.{header, closing_blanks, parts, payment}
use Rattle.diskette.proofs.PartsSays.{one_part}
use Rattle.listing.specs.Records.{record_a, record_parts, record_c}
use Rattle.listing.proofs.RecordLaws.{span}

-- ---- A

-- the fields of A, one after another
pub header_ends : EndsBy header 0 (span record_a)
header_ends =
    λ v.
    omega arith ▸ λ h v.
    omega arith ▸ λ h v.
    omega arith ▸ λ h v.
    omega arith ▸ λ h v.
    omega arith ▸ λ h v.
    omega arith ▸ λ h v.
    omega arith ▸ λ h v.
    omega arith ▸ λ h v.
    omega arith ▸ λ h v.
    omega arith ▸ λ h v.
    omega arith ▸ λ h v.
    omega arith ▸ λ h v.
    omega arith ▸ λ h v.
    omega arith ▸ λ h. tt

-- ---- C, with k parts

closing_ends : (s n q : ℕ) → EndsBy (closing_blanks s n) q (q + n)
closing_ends s zero q = tt
closing_ends s (suc n) q = λ v. omega (arith, length-replicate {A = ℕ} (suc n) 0x20) ▸ λ h. tt

parts_end : (left i room q e : ℕ) → q + span (record_parts i left) ≤ e → EndsBy (parts left i room) q e
unfolding parts
parts_end zero i room q e h =
    let n = to_section_end i in
    let b = length-replicate {A = ℕ} n 0x20 in
    ends_bind (closing_blanks (section i) n) (λ u. ret []) q (q + n) e (omega arith) (omega arith) (closing_ends (section i) n q) (λ u p g. tt)
parts_end (suc left) i room q e h =
    let n = to_next_part i in
    let b = length-replicate {A = ℕ} n 0x20 in
    ends_bind (closing_blanks (section i) n) (λ u. one_part left i room) q (q + n) e (omega arith) (omega arith) (closing_ends (section i) n q) (λ u p g.
    λ m.
    omega arith ▸ λ kept t.
    omega arith ▸ λ free.
    ends_bind (parts left (suc i) (room_after m room)) (λ ps. ret (record { mark = m; words = t } ∷ ps)) (p + 2 + 27) e e (omega arith) (omega arith)
    (parts_end left (suc i) (room_after m room) (p + 2 + 27) e (omega arith)) (λ ps r l. tt))

-- the fields of C behind C1, one after another, and then the parts
pub payment_ends : (kind : List ℕ) (t : Totals) (k : ℕ) → EndsBy (payment kind t (length_of k)) 4 (4 + span (drop 1 (record_c k)))
payment_ends kind t k =
    λ v.
    omega arith ▸ λ h v.
    omega arith ▸ λ h v.
    omega arith ▸ λ h v.
    omega arith ▸ λ h v.
    omega arith ▸ λ h v.
    omega arith ▸ λ h v.
    omega arith ▸ λ h v.
    omega arith ▸ λ h v.
    omega arith ▸ λ h v.
    omega arith ▸ λ h v.
    omega arith ▸ λ h v.
    omega arith ▸ λ h v.
    omega arith ▸ λ h v.
    omega arith ▸ λ h v.
    omega arith ▸ λ h v.
    omega arith ▸ λ h v.
    omega arith ▸ λ h v.
    omega arith ▸ λ h v.
    omega arith ▸ λ h v.
    omega (arith, numeral_length 2 k) ▸ λ h.
    let same : v ≡ k = omega (arith, eqb→eq (length_of v) (length_of k) h.0) in
    let told : length (numeral 2 k) ≡ 2 = numeral_length 2 k in
    let e = 4 + span (drop 1 (record_c k)) in
    ends_bind (parts v 0 most_parts) _ (length_of 0) e e (omega arith) (omega arith)
    (parts_end v 0 most_parts (length_of 0) e (rw same (omega arith))) (λ ps p l. tt)
