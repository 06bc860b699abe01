-- The siblings of the path where the search goes on, and after them the child left aside.
use native.Mathlib.Omega.{arith}
use mathlib.Core.Path.{refl}
use Rattle.profile.specs.Profile.{label}
use Rattle.profile.specs.Named.{number_of_profile}
use Rattle.octets.proofs.WriterLaws.{room_first, room_second, writes_both}
use Rattle.attestation.proofs.IssueLaws.{shorter, siblings_on}
use Rattle.attestation.proofs.issue.+put_siblings.Goals as goal

pub put_siblings-requires : goal.put_siblings-requires
put_siblings-requires t c =
    let a = c.args in (
      omega (arith, shorter a.search c.in-Some.on c.in-Some.ensures),
      room_first (siblings_on a.search (label (number_of_profile a.profile)) c.in-Some.on c.in-Some.ensures refl) a.w.now c.requires,
    )

pub put_optional-requires : goal.put_optional-requires
put_optional-requires t c =
    let a = c.args in
    room_second (siblings_on a.search (label (number_of_profile a.profile)) c.in-Some.on c.in-Some.ensures c.aside.ensures) a.w.now
    c.requires c.put_siblings.ensures

pub returns-in-Some : goal.returns-in-Some
returns-in-Some t c =
    let a = c.args in
    writes_both (siblings_on a.search (label (number_of_profile a.profile)) c.in-Some.on c.in-Some.ensures c.aside.ensures) a.w.now
    c.requires c.put_siblings.ensures c.put_optional.ensures
