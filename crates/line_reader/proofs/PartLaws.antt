-- The parts of a line: legal parts, with legal marks, whose fields stand there, and the other way round. That each mark may stand where it does
-- leaves room for those behind it.
use Prim.Native.Nat.{ℕ, suc, ◌+◌, ◌≤◌, ◌<◌}
use native.Mathlib.Omega.{arith}
use mathlib.Core.Path.{◌≡◌, refl, sym, ap, subst}
use mathlib.Core.List.{List, [], ◌∷◌, map}
use lib.ListN.{length, get_or, length-map}
use lib.Dec.{ltb→lt}
use Rattle.form.specs.Kind.{digits}
use Rattle.form.proofs.BoolLaws.{is_true, T_of}
use Rattle.document.specs.Values.{Part}
use Rattle.document.specs.Rules.{All}
use Rattle.document.specs.Marks.{room_after, mark_ok}
use Rattle.document.proofs.MarkLaws.{Allowed, beneficiary, purpose, sender, see_mark, show_mark, mark_fits, Walked}
use Rattle.diskette.proofs.PartsSays.{mark_of, LegalWords}
use Rattle.listing.specs.Lines.{line_end, trim}
use Rattle.listing.specs.Listing.{part_fields}
use Rattle.line_reader.specs.Lines.{PartsTo, ended, more}
use Rattle.line_reader.specs.Lines as lines
use Rattle.line_reader.proofs.FieldLaws.{Fields, no_field, no_rules, looked, number_field, first_tab, behind_first, fields_over, number_there, behind_number}
use Rattle.line_reader.proofs.TextLaws.{wide, text_legal, text_field, text_there}

pub record PartsTold (l : List ℕ) (q room k e : ℕ) : Type 0 where
  pub parts : List Part
  pub count : length parts ≡ k
  pub few : k ≤ room
  pub marks : Walked room (map mark_of parts)
  pub words : All LegalWords parts
  pub fields : Fields l q (part_fields parts) e
  pub inside : e < length l
  pub end : get_or l e 0 ≡ line_end

-- a mark takes a place of its own
room_taken : {room left m : ℕ} → Allowed room left m → suc (room_after m room) ≤ room
room_taken (beneficiary h) = omega arith
room_taken (purpose h k) = omega arith
room_taken (sender h) = omega arith

part_told : {l : List ℕ} {q room mark r k e : ℕ} → lines.Part l q room mark r → PartsTold l r (room_after mark room) k e → PartsTold l q room (suc k) e
part_told {l} {q} {room} {mark} {r} {k} {e} p t =
    let text = p.text in
    let others = t.parts in
    let here : Part = record { mark = mark; words = wide l (q + 3) r } in
    let behind : length (map mark_of others) ≤ room_after mark room = omega (arith, length-map others mark_of, t.count, t.few) in
    let allowed = see_mark room (length (map mark_of others)) mark (T_of p.may) behind in
    let taken = room_taken allowed in
    record {
      parts = here ∷ others;
      count = ap suc t.count;
      few = omega (arith, t.few);
      marks = (allowed, t.marks);
      words = (text_legal text, t.words);
      fields = number_field l (q + 1) 2 mark (λ u. []) (no_rules l (q + 1) 2 mark p.number) p.tab refl (omega arith) (text_field text t.fields);
      inside = t.inside;
      end = t.end;
    }

pub parts_told : {l : List ℕ} {q room k e : ℕ} → PartsTo l q room k e → PartsTold l q room k e
parts_told (ended h i) =
    record { parts = []; count = refl; few = omega arith; marks = tt; words = tt; fields = no_field _ _; inside = h; end = i }
parts_told (more p ps) = part_told p (parts_told ps)

-- ---- the parts of a payment, where their fields stand

pub parts_there : {l : List ℕ} {s : ℕ} → s < length l → get_or l s 0 ≡ line_end → (q room : ℕ) (ps : List Part) → Walked room (map mark_of ps) → All LegalWords ps
    → Fields l q (part_fields ps) s → PartsTo l q room (length ps) s
parts_there {l} {s} inside end q room [] w a f = subst (λ (n : ℕ). PartsTo l n room 0 s) (sym (fields_over f inside)) (ended inside end)
parts_there {l} {s} inside end q room (x ∷ xs) w a f =
    let m = x.mark in
    let fits = ltb→lt m 100 (mark_fits w.0) in
    let words = behind_number 2 m f {r = q + 3} (omega arith) in
    let behind = q + 3 + 1 + length (trim x.words) in
    more
    (record {
      tab = first_tab f;
      number = looked (digits 2) (λ u. []) l (q + 1) (number_there 2 m f (λ u. []) fits tt refl);
      may = is_true (mark_ok room m) (show_mark w.0).0;
      text = text_there x.words a.0 words inside end;
    })
    (parts_there inside end behind (room_after m room) xs w.1 a.1 (behind_first words refl))
