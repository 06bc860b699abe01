use Rattle.std.proofs.Common.{rules}
use Rattle.profile.proofs.ProfileLaws.{no_profile}
use Rattle.profile.proofs.ProfileTryFromU32.try_from.Goals as goal

pub returns-in_default : goal.returns-in_default
returns-in_default c = (no_profile c.args.number (search rules) (search rules), c.at.ensures)
