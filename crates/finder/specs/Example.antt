-- Payments found and texts located: of case M, of a payment of three parts with a second one behind it, and what is refused.
use Rattle.std.specs.Prelude.{ℕ, ◌-◌, ◌≡◌, refl, List, [], ◌∷◌, map, take, drop}
use Rattle.verdict.specs.Verdicts.{refusing}
use Rattle.diskette.specs.Cases.{padded, file_m, put, given}
use Rattle.loader.specs.Example.{file}
use Rattle.finder.specs.declared.Wanted.{Wanted}
use Rattle.finder.specs.declared.Wanted.TheVariants.{C14a, C15, C16, Part as PartText}
use Rattle.finder.specs.declared.Spot.{Spot}
use Rattle.finder.specs.Texts.{begun_at}
use Rattle.finder.specs.Spots.{nowhere, standing, no_such, finding, find_at, locating, locate_at}

-- ---- payments

pub finds : map (find_at file_m) (0 ∷ 1 ∷ []) ≡ standing 128 512 ∷ no_such ∷ []
unfolding find_at finding given
finds = refl

-- the first payment of this file has three sections
pub finds_second : map (find_at file) (0 ∷ 1 ∷ 2 ∷ []) ≡ standing 128 896 ∷ standing 512 896 ∷ no_such ∷ []
unfolding find_at finding given
finds_second = refl

-- a damaged file is refused before all else
pub finds_damage : map (find_at (put 172 "05" file_m)) (0 ∷ 1 ∷ []) ≡ nowhere (refusing 12 172) ∷ nowhere (refusing 12 172) ∷ []
unfolding find_at finding given
finds_damage = refl

-- ---- texts

-- the bytes of a stretch
abbrev pub between : List ℕ → Spot → List ℕ
between f p = take (p.to - p.from) (drop p.from f)

abbrev pub texts : List Wanted
texts = C14a ∷ C15 ∷ C16 ∷ PartText 1 ∷ []

pub hands_out : map (λ w. between file_m (locate_at file_m 128 w)) texts
    ≡ padded "MEIER KG" ∷ padded "MUSTER GMBH" ∷ padded "RECHNUNG 17" ∷ padded "KUNDE 4" ∷ []
unfolding locate_at locating begun_at given
hands_out = refl

pub places : map (locate_at file_m 128) texts ≡ standing 221 248 ∷ standing 256 283 ∷ standing 283 310 ∷ standing 317 344 ∷ []
unfolding locate_at locating begun_at given
places = refl

-- the parts of a payment that stand in two sections
pub parts : map (λ i. between file (locate_at file 128 (PartText i))) (1 ∷ 2 ∷ 3 ∷ []) ≡ padded "KUNDE 4" ∷ padded "KUNDE 5" ∷ padded "KUNDE 6" ∷ []
unfolding locate_at locating begun_at given
parts = refl

-- case M's payment has one part
pub no_part : map (λ i. locate_at file_m 128 (PartText i)) (0 ∷ 2 ∷ 15 ∷ 16 ∷ []) ≡ no_such ∷ no_such ∷ no_such ∷ no_such ∷ []
unfolding locate_at locating begun_at given
no_part = refl

-- no payment of case M begins at A, a byte before or behind its start, in its second section, at E, or at the end of the file
pub no_start : map (λ start. locate_at file_m start C14a) (0 ∷ 127 ∷ 129 ∷ 256 ∷ 384 ∷ 512 ∷ [])
    ≡ no_such ∷ no_such ∷ no_such ∷ no_such ∷ no_such ∷ no_such ∷ []
unfolding locate_at locating begun_at given
no_start = refl

-- a view of no bytes, with start 0, is refused as an empty file
pub no_file : locate_at [] 0 C14a ≡ nowhere (refusing 1 0)
unfolding locate_at locating given
no_file = refl
