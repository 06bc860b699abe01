-- The last write: the label, where there are keys.
use Rattle.profile.specs.Profile.{label}
use Rattle.profile.specs.Named.{number_of_profile}
use Rattle.octets.proofs.WriterLaws.{room_second, writes_both}
use Rattle.attestation.proofs.IssueLaws.{optional_some}
use Rattle.attestation.proofs.issue.put_optional.Goals as goal

pub put-requires-else-keys-lt20-2 : goal.put-requires-else-keys-lt20-2
put-requires-else-keys-lt20-2 c =
    let a = c.args in
    room_second (optional_some (label (number_of_profile a.profile)) a.keys.now c.if-keys-lt20.false c.tree_label.ensures) a.w.now c.requires
    c.put-else-keys-lt20.ensures

pub returns-else-keys-lt20 : goal.returns-else-keys-lt20
returns-else-keys-lt20 c =
    let a = c.args in
    writes_both (optional_some (label (number_of_profile a.profile)) a.keys.now c.if-keys-lt20.false c.tree_label.ensures) a.w.now c.requires
    c.put-else-keys-lt20.ensures c.put-else-keys-lt20-2.ensures
