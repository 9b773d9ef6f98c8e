-- composer::write_payment meets its contract: the payment's record is laid out where it belongs.
use Prim.Native.Nat.{◌+◌, ◌*◌, ◌≤◌}
use native.Mathlib.Omega.{arith}
use mathlib.Core.Path.{◌≡◌, sym, ap, ◌∙◌, subst}
use mathlib.Core.Bool.{false}
use lib.ListN.{length}
use Rattle.document.specs.Marks.{most_parts}
use Rattle.diskette.specs.Writing.{section}
use Rattle.listing.specs.Lines.{tab, split}
use Rattle.listing.specs.Records.{record_c, fields_with, parts_of, lay}
use Rattle.output.specs.Writing.{over}
use Rattle.composer.specs.Telling.{FormedLine, lines_parts, behind_letter}
use Rattle.composer.proofs.ToldLaws.{few}
use Rattle.composer.proofs.WritingLaws.{part_over, part_long, bytes_told}
use Rattle.composer.proofs.write_payment.Goals as goal

pub overflow_add-end : goal.overflow_add-end
overflow_add-end c =
    let parts : c.parts_of-k.result ≡ lines_parts c.args.x.now = c.parts_of-k.ensures ∙ ap parts_of c.requires.1.0 in
    let size : c.bytes_of.result ≡ 128 * section (lines_parts c.args.x.now) = bytes_told _ parts c.bytes_of.ensures in
    let room : c.args.at + c.bytes_of.result ≤ length c.args.out.now = let e = size in let h = c.requires.1.1 in omega arith in
    let h = room in let g = c.well_formed.1.1.0.0 in omega arith

pub slice_bounds-lay_payment-end : goal.slice_bounds-lay_payment-end
slice_bounds-lay_payment-end c =
    let parts : c.parts_of-k.result ≡ lines_parts c.args.x.now = c.parts_of-k.ensures ∙ ap parts_of c.requires.1.0 in
    let size : c.bytes_of.result ≡ 128 * section (lines_parts c.args.x.now) = bytes_told _ parts c.bytes_of.ensures in
    let room : c.args.at + c.bytes_of.result ≤ length c.args.out.now = let e = size in let h = c.requires.1.1 in omega arith in
    room

pub lay_payment-requires : goal.lay_payment-requires
lay_payment-requires c =
    let parts : c.parts_of-k.result ≡ lines_parts c.args.x.now = c.parts_of-k.ensures ∙ ap parts_of c.requires.1.0 in
    let few_parts : c.parts_of-k.result ≤ most_parts = let e = parts in let h = few (length (split tab c.args.x.now)) in omega arith in
    let formed : FormedLine false (fields_with c.parts_of-k.result) c.args.x.now = subst (λ k. FormedLine false (fields_with k) c.args.x.now) (sym parts) c.requires.0 in
    let size : c.bytes_of.result ≡ 128 * section (lines_parts c.args.x.now) = bytes_told _ parts c.bytes_of.ensures in
    let long : c.bytes_of.result ≡ 128 * section c.parts_of-k.result = size ∙ ap (λ k. 128 * section k) (sym parts) in
    let room : c.args.at + c.bytes_of.result ≤ length c.args.out.now = let e = size in let h = c.requires.1.1 in omega arith in
    (few_parts, (formed, part_long _ _ _ room ∙ long))

pub returns : goal.returns
returns c =
    let parts : c.parts_of-k.result ≡ lines_parts c.args.x.now = c.parts_of-k.ensures ∙ ap parts_of c.requires.1.0 in
    let size : c.bytes_of.result ≡ 128 * section (lines_parts c.args.x.now) = bytes_told _ parts c.bytes_of.ensures in
    let room : c.args.at + c.bytes_of.result ≤ length c.args.out.now = let e = size in let h = c.requires.1.1 in omega arith in
    record {
      place = ap (λ n. c.args.at + n) size;
      out = part_over c.args.at c.bytes_of.result
          c.lay_payment.new.out c.args.out.now (c.lay_payment.auto.out ∙ part_long _ _ _ room) ∙ ap
          (λ f. over c.args.at f c.args.out.now)
          (c.lay_payment.ensures ∙ ap (λ k. lay (record_c k) (behind_letter (split tab c.args.x.now))) parts);
    }
