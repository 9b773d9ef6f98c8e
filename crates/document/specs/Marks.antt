-- The marks of a payment's parts one by one: which may stand next, and how many parts may follow it.
use Rattle.std.specs.Prelude.{ℕ, ◌-◌, min, Bool, ◌&&◌, ◌||◌, cond, leb, eqb}

-- a payment has so many parts at the most
abbrev pub most_parts : ℕ
most_parts = 15

-- room: how many parts may follow at the most, 15 before the first. After 01 it is 14, after the n-th 02 it is 14 - n, after 03 none
abbrev pub room_after : ℕ → ℕ → ℕ
room_after m room = cond (eqb m 1) 14 (cond (eqb m 2) (min room 14 - 1) 0)

-- a mark may stand here: 01 only as the first, at most 13 times 02, 03 only as the last
abbrev pub mark_ok : ℕ → ℕ → Bool
mark_ok room m = (eqb m 1 && eqb room 15) || ((eqb m 2 && leb 2 room) || (eqb m 3 && leb 1 room))
