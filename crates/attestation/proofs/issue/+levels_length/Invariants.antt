-- The number of octets of the key list falls.
use lib.ListN.{length}
use Rattle.attestation.proofs.issue.+levels_length.Given as goal

abbrev pub decreases-levels_length : goal.decreases-levels_length
decreases-levels_length l = length l.search.keys.now
