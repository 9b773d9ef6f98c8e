-- view::make meets its contract: the spot that is found lies within the file, so that the stretch up to its end is one of the file.
use Rattle.std.proofs.Common.{subst, sym, arith}
use Rattle.finder.proofs.SpotLaws.{Within, find_within}
use Rattle.view.proofs.make.Goals as goal

pub stretch-bytes-requires : goal.stretch-bytes-requires
stretch-bytes-requires c =
    let w = subst (Within c.args.file.now) (sym c.find-spot.ensures) (find_within c.args.file.now c.args.n) in
    (omega arith, w.1)
