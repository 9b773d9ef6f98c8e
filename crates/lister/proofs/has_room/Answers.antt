-- lister::has_room meets its contract: no listing is longer than its file, and a shorter output is held to the length of the listing.
use native.Mathlib.Omega.{arith}
use mathlib.Core.Path.{sym}
use lib.ListN.{length}
use borrow.Author.Tests.{le-leb}
use Rattle.lister.proofs.ListingLaws.{listing_of, listing_short}
use Rattle.lister.proofs.has_room.Goals as goal

pub returns-then-s-room : goal.returns-then-s-room
returns-then-s-room c =
    sym (le-leb (length (listing_of c.args.s.now)) c.args.room (omega (arith, listing_short c.args.n c.args.s.now c.requires)))
