-- composer::record::put_numbers meets its contract: each number stands where those ahead of it end, and is put where it stands in the record.
-- There is no loop: in `returns` each of the nine calls makes the record with one number more (`put_number` of PutLaws), from the record that
-- has what is its own to the one with all numbers. What the calls require, and that the slices lie in the line, is found by the check, since the
-- line is required to reach to its texts.
use native.Mathlib.Omega.{arith}
use Rattle.composer.proofs.PutLaws.{put_number}
use Rattle.composer.proofs.record.put_numbers.Goals as goal

pub returns : goal.returns
returns c =
    let pre = c.requires.0 in
    let s₁ = put_number pre 0 (omega arith) pre.laid c.put.ensures in
    let s₂ = put_number pre 1 (omega arith) s₁ c.put-2.ensures in
    let s₃ = put_number pre 2 (omega arith) s₂ c.put-3.ensures in
    let s₄ = put_number pre 3 (omega arith) s₃ c.put-4.ensures in
    let s₅ = put_number pre 4 (omega arith) s₄ c.put-5.ensures in
    let s₆ = put_number pre 5 (omega arith) s₅ c.put-6.ensures in
    let s₇ = put_number pre 6 (omega arith) s₆ c.put-7.ensures in
    let s₈ = put_number pre 7 (omega arith) s₇ c.put-8.ensures in
    put_number pre 8 (omega arith) s₈ c.put-9.ensures
