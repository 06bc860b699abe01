-- The number of octets of the key list falls.
use lib.ListN.{length}
use Rattle.attestation.proofs.issue.+put_siblings.Given as goal

abbrev pub decreases-put_siblings : goal.decreases-put_siblings
decreases-put_siblings l = length l.search.keys.now
