-- The hash whole, or its first 2 octets written into 32 zeros.
use Rattle.profile.proofs.ProfileLaws.{label_whole, label_short}
use Rattle.profile.proofs.Profile.label.Goals as goal

pub returns-in-Full : goal.returns-in-Full
returns-in-Full c = rw c.in-Full.is (label_whole c.args.rec.now c.sha256-hash.ensures)

pub returns-in-Drill : goal.returns-in-Drill
returns-in-Drill c = rw c.in-Drill.is (label_short c.args.rec.now c.sha256-hash.ensures c.copy_from_slice.ensures.after)
