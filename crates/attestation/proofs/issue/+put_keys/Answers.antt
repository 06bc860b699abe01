-- The keys of the path where the search goes on, and after them the middle key.
use native.Mathlib.Omega.{arith}
use mathlib.Core.Path.{refl}
use Rattle.octets.proofs.WriterLaws.{writes_none, room_first, room_second, writes_both}
use Rattle.attestation.proofs.IssueLaws.{bare, shorter, keys_here, keys_on}
use Rattle.attestation.proofs.issue.+put_keys.Goals.{in-Some, in_default}
use Rattle.attestation.proofs.issue.+put_keys.Goals as goal

pub put_keys-requires : goal.put_keys-requires
put_keys-requires t c =
    let a = c.args in (
      omega (arith, shorter a.search c.in-Some.on c.in-Some.ensures),
      λ H. room_first (keys_on a.search H c.in-Some.on c.in-Some.ensures refl) a.w.now (c.requires H),
    )

pub put-requires : goal.put-requires
put-requires t c =
    let a = c.args in
    elim c.match-onward.branch [
      | in-Some b ↦ (rw b.w-is (room_second (keys_on a.search bare b.in-Some.on b.in-Some.ensures c.middle.ensures) a.w.now (c.requires bare) (b.put_keys.ensures bare)))
      | in_default b ↦ (rw b.w-is (room_second (keys_here a.search bare b.in_default.ensures c.middle.ensures) a.w.now (c.requires bare) (writes_none a.w.now)))
    ]

pub returns : goal.returns
returns t c H =
    let a = c.args in
    elim c.match-onward.branch [
      | in-Some b ↦ (writes_both (keys_on a.search H b.in-Some.on b.in-Some.ensures c.middle.ensures) a.w.now (c.requires H) (b.put_keys.ensures H) (rw (← b.w-is) c.put.ensures))
      | in_default b ↦ (writes_both (keys_here a.search H b.in_default.ensures c.middle.ensures) a.w.now (c.requires H) (writes_none a.w.now) (rw (← b.w-is) c.put.ensures))
    ]
