-- The number of octets of the key list falls.
use lib.ListN.{length}
use Rattle.attestation.proofs.issue.+levels.Given as goal

abbrev pub decreases-levels : goal.decreases-levels
decreases-levels l = length l.search.keys.now
