-- view::hand meets its contract: the spot that is found lies within the view's file.
use Rattle.std.proofs.Common.{subst, sym}
use Rattle.finder.proofs.SpotLaws.{Within, locate_within}
use Rattle.view.proofs.hand.Goals as goal

pub stretch-text-requires : goal.stretch-text-requires
stretch-text-requires c =
    let v = c.args.v in
    subst (Within v.file.now) (sym c.locate-spot.ensures) (locate_within v.file.now v.start c.args.w)
