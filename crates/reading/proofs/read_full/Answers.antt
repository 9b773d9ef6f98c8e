use Rattle.std.proofs.Common.{◌≡◌, ℕ, ◌+◌, ◌-◌, ◌≤◌, List, ◌++◌, rules, length, take, sym, ap, ◌∙◌, subst, length-take-le}
use Rattle.std.proofs.Math.Seq.{take-append-add}
use Rattle.std.proofs.lemmas.List.{take-append-le}
use Rattle.std.proofs.KnownBytes.{Consumes-trans}
use Rattle.std.specs.Io.KnownBytes.{Consumes}
use Rattle.reading.proofs.read_full.Goals as goal
use borrow.Rule.Slice.PartMut.{put_mid, post_of}

-- what was there before a, and n of what was written from a on
take-put_mid_above : (a k n : ℕ) (xs ys : List ℕ) → a ≤ length xs → n ≤ length ys → take (a + n) (put_mid a k xs ys) ≡ take a xs ++ take n ys
take-put_mid_above a k n xs ys within fits =
    let parts = take-append-add (take a xs) (ys ++ post_of a k xs) n ∙ ap (λ l. take a xs ++ l) (take-append-le n ys (post_of a k xs) fits) in
    subst (λ m. take (m + n) (put_mid a k xs ys) ≡ take a xs ++ take n ys) (length-take-le a xs within) parts

pub loop-done-preserved : goal.loop-done-preserved
loop-done-preserved g c =
    let done = c.loop-done.done in
    let before = c.loop-done.invariant in
    let more = take-put_mid_above done (length c.loop-done.buf - done) c.in_ok-n.n c.loop-done.buf c.read.new.buf before.within c.in_ok-n.ensures.bound.0 in
    record {
      within = search rules;
      read = subst (Consumes _ _) (sym more) (Consumes-trans _ _ _ _ _ before.read c.in_ok-n.ensures.bytes.0);
    }
