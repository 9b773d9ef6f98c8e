-- A call that writes: what its statement comes to, for every way in which it would end with room enough.
-- The statement, `Says`, is two equations with one ending, `within` the room that there is: the result and the output are read off from that. So
-- a call meets it, and whoever has it learns from it, by the three ways in which this ending comes about: refused, too short, or with room
-- (`stays_refused`, `too_short`, `roomy`). What lies behind the length is untouched in all of them, since the length is that of the bytes
-- written, and a refused call writes none (`length_is`, `tail_is`).
use Prim.Native.Nat.{ℕ, ◌≤◌, ◌<◌}
use native.Mathlib.Omega.{arith}
use mathlib.Core.Path.{◌≡◌, refl, sym, ap, subst, ◌∙◌}
use mathlib.Core.Logic.{◌≢◌}
use mathlib.Core.Bool.{Bool, true, false, cond}
use mathlib.Core.List.{List}
use lib.ListN.{length, take, drop}
use lib.Dec.{T, leb}
use borrow.Author.Tests.{leb-true, leb-false, le-leb, lt-leb}
use Rattle.form.specs.Kind.{one_of}
use Rattle.verdict.specs.declared.Verdict.{Verdict}
use Rattle.verdict.specs.Verdicts.{accepting, refusing}
use Rattle.verdict.specs.Lent.{filled}
use Rattle.verdict.proofs.LentLaws.{filled_first, filled_behind}
use Rattle.listing.specs.Endings.{Ending, writes, refuses, within, written}
use Rattle.output.specs.declared.Written.{Written}
use Rattle.output.specs.Writing.{written_of}

-- ---- how an ending stands to the room that there is

module _ (room : ℕ) {e : Ending} where
  pub roomy : {bs : List ℕ} → e ≡ writes bs → length bs ≤ room → within room e ≡ writes bs
  unfolding within
  roomy {bs} i h = ap (within room) i ∙ rw (le-leb (length bs) room h)

  pub too_short : {bs : List ℕ} → e ≡ writes bs → room < length bs → within room e ≡ refuses (refusing 16 0)
  unfolding within
  too_short {bs} i h = ap (within room) i ∙ rw (lt-leb (length bs) room h)

  pub stays_refused : {v : Verdict} → e ≡ refuses v → within room e ≡ refuses v
  unfolding within
  stays_refused i = ap (within room) i

-- what the call ensures of its result and of the output, which held `old`
abbrev pub Says : Ending → List ℕ → Written → List ℕ → Type 0
Says e old r new = (r ≡ written_of (within (length old) e)) × (new ≡ filled (written (within (length old) e)) old)

-- ---- how the statement is met

module _ (e : Ending) (old : List ℕ) where
  as_it_ends : (x : Ending) → within (length old) e ≡ x → {r : Written} → r ≡ written_of x → {new : List ℕ} → new ≡ filled (written x) old → Says e old r new
  as_it_ends x i g n = (g ∙ ap written_of (sym i), n ∙ ap (λ y. filled (written y) old) (sym i))

  pub ends_refused : {v : Verdict} → e ≡ refuses v → {r : Written} → r ≡ written_of (refuses v) → Says e old r old
  ends_refused {v} i g = as_it_ends (refuses v) (stays_refused (length old) i) g refl

  module _ {bs : List ℕ} (i : e ≡ writes bs) where
    pub ends_short : length old < length bs → {v : Verdict} → v ≡ refusing 16 0 → {r : Written} → r ≡ written_of (refuses v) → Says e old r old
    ends_short h w g = as_it_ends (refuses (refusing 16 0)) (too_short (length old) i h) (g ∙ ap (λ v. written_of (refuses v)) w) refl

    pub ends_written : length bs ≤ length old → {r : Written} → r ≡ written_of (writes bs) → {new : List ℕ} → new ≡ filled bs old → Says e old r new
    ends_written h g n = as_it_ends (writes bs) (roomy (length old) i h) g n

-- ---- what the statement comes to

-- a refusal has one of these numbers
abbrev pub RefusedWith : List ℕ → Ending → Type 0
RefusedWith ns (writes bs) = Unit {0}
RefusedWith ns (refuses v) = T (one_of ns v.number)

pub within_number : (room : ℕ) (e : Ending) (ns : List ℕ) → T (one_of ns 0) → T (one_of ns 16) → RefusedWith ns e
    → T (one_of ns (written_of (within room e)).verdict.number)
unfolding within
within_number room (writes bs) ns zero sixteen refusal = by (leb (length bs) room)
  where
    by : (b : Bool) → T (one_of ns (written_of (cond b (writes bs) (refuses (refusing 16 0)))).verdict.number)
    by true = zero
    by false = sixteen
within_number room (refuses v) ns zero sixteen refusal = refusal

sixteen : ◌≡◌ {A = ℕ} 0 16 → ⊥
sixteen e = omega arith

module _ (e : Ending) (old : List ℕ) where
  -- the statement admits one answer
  pub one_answer : (r s : Written) (a b : List ℕ) → Says e old r a → Says e old s b → (r ≡ s) × (a ≡ b)
  one_answer r s a b d f = (d.0 ∙ sym f.0, d.1 ∙ sym f.1)

  module _ (r : Written) (new : List ℕ) (says : Says e old r new) where
    abbrev end : Ending
    end = within (length old) e

    -- a refused call leaves the output as it was
    pub refused_untouched : r.verdict.number ≢ 0 → new ≡ old
    refused_untouched n = by end refl
      where
        by : (x : Ending) → end ≡ x → new ≡ old
        by (writes bs) i = absurd (n (ap (λ (w : Written). w.verdict.number) (says.0 ∙ ap written_of i)))
        by (refuses v) i = says.1 ∙ ap (λ x. filled (written x) old) i

    -- the number is among some that have 0, 16 and what the input is refused with
    pub number_listed : (ns : List ℕ) → T (one_of ns 0) → T (one_of ns 16) → RefusedWith ns e → T (one_of ns r.verdict.number)
    number_listed ns zero sixteen refusal =
        subst (λ (w : Written). T (one_of ns w.verdict.number)) (sym says.0) (within_number (length old) e ns zero sixteen refusal)

    -- the length given is that of what was written
    length_is : r.length ≡ length (written end)
    length_is = ap (λ (w : Written). w.length) says.0 ∙ by end
      where
        by : (x : Ending) → (written_of x).length ≡ length (written x)
        by (writes bs) = refl
        by (refuses v) = refl

    -- the output past the length given is as it was
    pub tail_is : drop r.length new ≡ drop r.length old
    tail_is = filled_behind (written end) old length_is says.1

    -- a refusal is given as it is
    pub refused_as_lem : {v : Verdict} → e ≡ refuses v → r ≡ record { verdict = v; length = 0 }
    refused_as_lem i = says.0 ∙ ap written_of (stays_refused (length old) i)

    module _ {bs : List ℕ} (i : e ≡ writes bs) where
      -- 16 at 0 where the output is too short
      pub no_room_as : length old < length bs → r ≡ record { verdict = refusing 16 0; length = 0 }
      no_room_as h = says.0 ∙ ap written_of (too_short (length old) i h)

      pub has_room : r.verdict.number ≡ 0 → length bs ≤ length old
      has_room z = by (leb (length bs) (length old)) refl
        where
          by : (b : Bool) → leb (length bs) (length old) ≡ b → length bs ≤ length old
          by true j = leb-true (length bs) (length old) j
          by false j = absurd (sixteen (sym z ∙ ap (λ (w : Written). w.verdict.number) (no_room_as (leb-false (length bs) (length old) j))))

      -- with room, 0 at 0 is given with the length, and the output begins with the bytes
      pub written_as : length bs ≤ length old → (r ≡ record { verdict = accepting; length = length bs }) × (take r.length new ≡ bs)
      written_as h = (
        says.0 ∙ ap written_of (roomy (length old) i h),
        filled_first (written end) old length_is says.1 ∙ ap written (roomy (length old) i h),
      )
