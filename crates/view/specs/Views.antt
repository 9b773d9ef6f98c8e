-- What the calls over a view give back: a stretch of the file itself, and the verdict.
use Rattle.std.specs.Prelude.{ℕ, ◌+◌, ◌-◌, ◌≡◌, Bool, true, false, List, take, drop}
use Rattle.std.specs.Borrow.{Bor}
use Rattle.verdict.specs.declared.Verdict.{Verdict}
use Rattle.verdict.specs.Verdicts.{is_accepted}
use Rattle.finder.specs.declared.Wanted.{Wanted}
use Rattle.finder.specs.declared.Spot.{Spot}
use Rattle.finder.specs.Spots.{find_at, locate_at}
use Rattle.view.specs.declared.Made.{Made}
use Rattle.view.specs.declared.Handed.{Handed}

-- r is the stretch of the slice s from a to e itself: the same memory, a bytes further on, and the bytes that stand there
abbrev pub Stretch : Bor (List ℕ) → ℕ → ℕ → Bor (List ℕ) → Type 0
Stretch s a e r = (r.now ≡ take (e - a) (drop a s.now)) × (r.ref_ptr.0 ≡ s.ref_ptr.0) × (r.ref_ptr.1 ≡ s.ref_ptr.1 + a)

-- making: the file up to the end of the spot, the start, and the verdict
abbrev pub IsMade : Bor (List ℕ) → Spot → Made → Type 0
IsMade s p r = Stretch s 0 p.to r.view.file × (r.view.start ≡ p.from) × (r.verdict ≡ p.verdict)

-- a hand-out: the stretch of the file at the spot, and the verdict
abbrev pub IsHanded : Bor (List ℕ) → Spot → Handed → Type 0
IsHanded s p r = Stretch s p.from p.to r.text × (r.verdict ≡ p.verdict)

-- ---- a view of payment n is made, and the text is handed out of it

-- the bytes of the view: those of the file, or none where the making is refused
abbrev pub viewed : List ℕ → ℕ → List ℕ
viewed file n = take (find_at file n).to file

abbrev pub text_at : List ℕ → ℕ → Wanted → Spot
text_at file n w = locate_at (viewed file n) (find_at file n).from w

-- r is the text at the spot of `text_at`, as a stretch of the file s itself
abbrev pub IsText : Bor (List ℕ) → ℕ → Wanted → Bor (List ℕ) → Type 0
IsText s n w r = let p = text_at s.now n w in Stretch s p.from p.to r

-- the first refusal of two
abbrev pub if_none : Bool → Verdict → Verdict → Verdict
if_none true a b = b
if_none false a b = a

unfoldable pub first_of : Verdict → Verdict → Verdict
first_of a b = if_none (is_accepted a) a b

-- the refusal of the making; where there is none, the verdict of the hand-out
abbrev pub verdict_for : List ℕ → ℕ → Wanted → Verdict
verdict_for file n w = first_of (find_at file n).verdict (text_at file n w).verdict
