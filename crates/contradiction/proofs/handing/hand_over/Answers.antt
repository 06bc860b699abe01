-- Each list is one key, so that none of the three is refused, and what the extractor is handed is what the promise names.
use mathlib.Core.Path.{refl}
use Rattle.std.proofs.Common.{rules}
use Rattle.contradiction.proofs.HandedLaws.{digest_refused, absent_refused, present_refused, asked}
use Rattle.contradiction.proofs.handing.hand_over.Goals as goal

pub returns-in_err-digest : goal.returns-in_err-digest
returns-in_err-digest c =
    absurd (digest_refused c.number-drill.ensures c.args.listed.now (search rules) c.args.n c.key-x.ensures refl c.in_err-digest.ensures)

pub returns-in_err-attest : goal.returns-in_err-attest
returns-in_err-attest c =
    absurd (absent_refused c.number-drill.ensures c.args.listed.now (search rules) c.args.n c.key-x.ensures refl c.in_err-attest.ensures)

pub returns-in_err-attest-2 : goal.returns-in_err-attest-2
returns-in_err-attest-2 c =
    absurd (present_refused c.number-drill.ensures c.args.listed.now (search rules) c.args.n c.key-x.ensures refl c.in_err-attest-2.ensures)

pub returns : goal.returns
returns c =
    asked c.number-drill.ensures c.args.listed.now (search rules) c.args.n c.key-x.ensures
    refl c.digest.ensures refl c.attest.ensures refl c.attest-2.ensures c.extract.ensures
