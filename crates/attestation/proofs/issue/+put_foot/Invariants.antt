-- The number of octets of the key list falls.
use lib.ListN.{length}
use Rattle.attestation.proofs.issue.+put_foot.Given as goal

abbrev pub decreases-put_foot : goal.decreases-put_foot
decreases-put_foot l = length l.search.keys.now
