-- parts::part_at meets its contract: the part ends where its bytes or the file do.
use Rattle.std.proofs.Common.{◌≡◌, ◌-◌, length, drop, take, arith, length-drop, take_all}
use Rattle.std.proofs.lemmas.List.{take_min, drop_min}
use Rattle.parts.proofs.part_at.Goals as goal

pub returns : goal.returns
returns c =
    let s = c.args.s.now in
    let m = c.min.result in
    let l = length-drop m s in
    let rest : take (length s - m) (drop m s) ≡ drop m s = take_all (length s - m) (drop m s) (omega arith) in
    rw (rest, c.min-2.ensures, rest, take_min, c.min.ensures, drop_min)
