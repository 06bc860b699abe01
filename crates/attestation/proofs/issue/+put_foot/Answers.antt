-- The foot is that of the path where the search goes on, and at the end its two children are those of the parts.
use Rattle.profile.specs.Profile.{label}
use Rattle.profile.specs.Named.{number_of_profile}
use Rattle.octets.proofs.WriterLaws.{writes_both}
use Rattle.attestation.proofs.IssueLaws.{foot_here}
use Rattle.attestation.proofs.issue.+put_foot.Goals as goal

pub returns-in-None : goal.returns-in-None
returns-in-None t c =
    let a = c.args in
    writes_both (foot_here a.search (label (number_of_profile a.profile)) c.in-None.ensures c.before-in-None.ensures c.after.ensures) a.w.now
    c.requires c.put_optional.ensures c.put_optional-in-None.ensures
