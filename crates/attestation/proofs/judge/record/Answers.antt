-- The label function is the same, whether there is a profile of the number or not.
use Rattle.profile.proofs.ProfileLaws.{labels_by_number}
use Rattle.attestation.proofs.judge.record.Goals as goal

pub returns : goal.returns
returns c = rw (← labels_by_number c.args.profile c.try_from.result c.try_from.ensures, ← c.unwrap_or-named.ensures) c.record_below.ensures
