-- Listing, for the contract of listing_stands.
use Rattle.structure.proofs.Listing.{listing}
use Rattle.structure.proofs.theory.listing_stands.Goals as goal

pub returns : goal.returns
returns c = listing
