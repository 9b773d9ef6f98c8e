-- A call of `compose`, once the listing has been read: its refusal, or what was told of the document that it is the listing of.
use Prim.Native.Nat.{ℕ, ◌+◌, ◌^◌, ◌≤◌, ◌<◌}
use native.Mathlib.Omega.{arith}
use mathlib.Core.Path.{◌≡◌, refl, sym, ap, ◌∙◌}
use mathlib.Core.List.{List}
use Rattle.std.specs.Prelude.{Ok, Err}
use lib.ListN.{length}
use Rattle.verdict.specs.declared.Verdict.{Verdict}
use Rattle.verdict.specs.Verdicts.{accepting, refusing}
use Rattle.verdict.specs.Lent.{filled}
use Rattle.document.specs.Values.{Document, totals}
use Rattle.diskette.specs.Writing.{write}
use Rattle.fields.specs.declared.Refusal.{Refusal}
use Rattle.fields.specs.Answers.{Reading, refusal_of}
use Rattle.sums.specs.declared.Sums.{Sums}
use Rattle.sums.specs.Sums.{totals_of}
use Rattle.listing.specs.Composing.{Composed, made, denied, compose}
use Rattle.listing.specs.Endings.{writes, refuses, composed, written}
use Rattle.listing.proofs.Promises.{composed_listing}
use Rattle.output.specs.declared.Written.{Written}
use Rattle.output.specs.Writing.{written_of}
use Rattle.output.proofs.EndingLaws.{Says, ends_refused, ends_short, ends_written}
use Rattle.composer.specs.declared.Listed.{Listed}
use Rattle.composer.specs.Telling.{listing_told}
use Rattle.composer.specs.Writing.{Ready}
use Rattle.composer.proofs.FileLaws.{file_length, payments_small}

-- how composing ends, with room enough
pub made_ends : {c : Composed Document} {d : Document} → c ≡ made d → composed c ≡ writes (write d)
unfolding composed
made_ends i = ap composed i

pub denied_ends : {c : Composed Document} {v : Verdict} → c ≡ denied v → composed c ≡ refuses v
unfolding composed
denied_ends i = ap composed i

-- what was told of a listing that is accepted
pub record Told (l : List ℕ) (count : ℕ) (sums : Sums) (size : ℕ) : Type 0 where
  pub document : Document
  pub made : compose l ≡ made document
  pub totals : totals_of count sums ≡ totals document.payments
  pub length : 256 + size ≡ length (write document)
  pub small : 256 + size < 2 ^ 64

same_listed : {x y : Listed} → ◌≡◌ {A = Reading Listed} (Ok x) (Ok y) → x ≡ y
same_listed e = cc

module _ (l old : List ℕ) {a : Reading Listed} (told : a ≡ listing_told (compose l)) where
  -- the listing is refused
  pub call_refused : {x : Refusal} {v : Verdict} {r : Written} → a ≡ Err x → v ≡ refusing x.number x.place → r ≡ written_of (refuses v)
      → Says (composed (compose l)) old r old
  call_refused {x} {v} {r} given judged is = by (compose l) refl (sym told ∙ given)
    where
      by : (c : Composed Document) → compose l ≡ c → listing_told c ≡ Err x → Says (composed (compose l)) old r old
      by (made d) e g = absurd cc
      by (denied u) e g =
          let w : x ≡ refusal_of u.number u.place = cc in
          ends_refused (composed (compose l)) old (denied_ends e) (is ∙ ap (λ y. written_of (refuses y)) (judged ∙ ap (λ (y : Refusal). refusing y.number y.place) w))

  module _ {x : Listed} (given : a ≡ Ok x) where
    pub call_told : Told l x.count x.sums x.size
    call_told = by (compose l) refl (sym told ∙ given)
      where
        by : (c : Composed Document) → compose l ≡ c → listing_told c ≡ Ok x → Told l x.count x.sums x.size
        by (denied u) e g = absurd cc
        by (made d) e g =
            let legal = (composed_listing l d e).0 in
            let s = same_listed (sym g) in
            let b = ap (λ (y : Listed). y.size) s in
            let n = file_length d legal in
            let m = payments_small d.header.file_kind d.payments legal.payments in
            let o = legal.count in
            record { document = d; made = e; totals = ap (λ (y : Listed). totals_of y.count y.sums) s; length = omega arith; small = omega arith }

    -- the output is too short
    pub call_short : length old < 256 + x.size → {v : Verdict} → v ≡ refusing 16 0 → {r : Written} → r ≡ written_of (refuses v) → Says (composed (compose l)) old r old
    call_short h w g = let t = call_told in let e = t.length in ends_short (composed (compose l)) old (made_ends t.made) (omega arith) w g

    module _ (h : 256 + x.size ≤ length old) where
      pub call_ready : Ready l (totals_of x.count x.sums) (length old)
      call_ready = let t = call_told in record { document = t.document; told = t.made; totals = t.totals; room = let e = t.length in omega arith }

      pub call_written : {new : List ℕ} → new ≡ filled (written (composed (compose l))) old
          → Says (composed (compose l)) old (record { verdict = accepting; length = 256 + x.size }) new
      call_written n =
          let t = call_told in
          let e = t.length in
          let w = made_ends t.made in
          ends_written (composed (compose l)) old w (omega arith) (ap (λ (m : ℕ). record { verdict = accepting; length = m }) e)
          (n ∙ ap (λ x. filled (written x) old) w)
