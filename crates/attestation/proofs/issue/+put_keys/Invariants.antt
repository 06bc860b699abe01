-- The number of octets of the key list falls.
use lib.ListN.{length}
use Rattle.attestation.proofs.issue.+put_keys.Given as goal

abbrev pub decreases-put_keys : goal.decreases-put_keys
decreases-put_keys l = length l.search.keys.now
