-- Each end of the code is an end of the promise. Where the verdicts differ, demand 3 says that the walk finds a level in both paths.
use mathlib.Core.Path.{◌≡◌, sym, ◌∙◌}
use Rattle.std.proofs.Common.{rules}
use native.Mathlib.Omega.{arith}
use Rattle.answer.proofs.HandedLaws.{handed_on}
use Rattle.extractor.proofs.ExtractedLaws.{buffers, extracted_unknown, extracted_unsized, extracted_first, extracted_second, extracted_same, contradicting, extracted_done}
use Rattle.extractor.proofs.extract.Goals as goal

pub returns-in_err-named : goal.returns-in_err-named
returns-in_err-named c =
    let a = c.args in
    rw (handed_on c.from_residual.result c.from_residual.ensures.1, c.in_err-named.ensures.1)
    (extracted_unknown a.profile a.key.now a.digest.now a.first.now a.second.now a.out1.now a.out2.now c.in_err-named.ensures.0)

pub returns-then-not-sized : goal.returns-then-not-sized
returns-then-not-sized c =
    let a = c.args in
    rw c.at.ensures (extracted_unsized a.profile c.in_ok-named.named c.in_ok-named.ensures a.key.now a.digest.now a.first.now a.second.now a.out1.now a.out2.now
    c.sized.ensures c.if-not-sized.true)

pub returns-in_err-p : goal.returns-in_err-p
returns-in_err-p c =
    let a = c.args in
    let sizes = sym c.sized.ensures ∙ c.if-not-sized.false in
    rw (handed_on c.from_residual-in_err-p.result c.from_residual-in_err-p.ensures.1)
    (extracted_first a.profile c.in_ok-named.named c.in_ok-named.ensures a.key.now a.digest.now a.first.now a.second.now a.out1.now a.out2.now sizes
    c.verify.ensures c.in_err-p.field-0.0 c.in_err-p.ensures)

pub returns-in_err-q : goal.returns-in_err-q
returns-in_err-q c =
    let a = c.args in
    let sizes = sym c.sized.ensures ∙ c.if-not-sized.false in
    rw (handed_on c.from_residual-in_err-q.result c.from_residual-in_err-q.ensures.1)
    (extracted_second a.profile c.in_ok-named.named c.in_ok-named.ensures a.key.now a.digest.now a.first.now a.second.now a.out1.now a.out2.now sizes
    c.verify.ensures c.in_ok-p.p c.in_ok-p.ensures c.verify-2.ensures c.in_err-q.field-0.0 c.in_err-q.ensures)

pub returns-then-eq : goal.returns-then-eq
returns-then-eq c =
    let a = c.args in
    let e : c.in_ok-p.p ≡ c.in_ok-q.q = search rules in
    rw c.at-then-eq.ensures
    (extracted_same a.profile c.in_ok-named.named c.in_ok-named.ensures a.key.now a.digest.now a.first.now a.second.now a.out1.now a.out2.now
    (sym c.sized.ensures ∙ c.if-not-sized.false) c.verify.ensures c.in_ok-p.p c.in_ok-p.ensures c.verify-2.ensures c.in_ok-q.q c.in_ok-q.ensures e)

pub invariant_of-first : goal.invariant_of-first
invariant_of-first c =
    let a = c.args in
    let differ : c.in_ok-p.p ≡ c.in_ok-q.q → ⊥ = search rules in
    record {
      formed = (contradicting a.profile c.in_ok-named.named c.in_ok-named.ensures a.key.now a.digest.now a.first.now a.second.now a.out1.now a.out2.now
          (sym c.sized.ensures ∙ c.if-not-sized.false) c.verify.ensures c.in_ok-p.p c.in_ok-p.ensures c.verify-2.ensures c.in_ok-q.q c.in_ok-q.ensures differ).first_formed;
    }

pub invariant_of-second : goal.invariant_of-second
invariant_of-second c =
    let a = c.args in
    let differ : c.in_ok-p.p ≡ c.in_ok-q.q → ⊥ = search rules in
    record {
      formed = (contradicting a.profile c.in_ok-named.named c.in_ok-named.ensures a.key.now a.digest.now a.first.now a.second.now a.out1.now a.out2.now
          (sym c.sized.ensures ∙ c.if-not-sized.false) c.verify.ensures c.in_ok-p.p c.in_ok-p.ensures c.verify-2.ensures c.in_ok-q.q c.in_ok-q.ensures differ).second_formed;
    }

pub passed-i-requires : goal.passed-i-requires
passed-i-requires c =
    let a = c.args in
    let differ : c.in_ok-p.p ≡ c.in_ok-q.q → ⊥ = search rules in
    (contradicting a.profile c.in_ok-named.named c.in_ok-named.ensures a.key.now a.digest.now a.first.now a.second.now a.out1.now a.out2.now
    (sym c.sized.ensures ∙ c.if-not-sized.false) c.verify.ensures c.in_ok-p.p c.in_ok-p.ensures c.verify-2.ensures c.in_ok-q.q c.in_ok-q.ensures differ).walked

pub copy_from_slice-requires : goal.copy_from_slice-requires
copy_from_slice-requires c =
    let a = c.args in
    omega (arith, buffers a.key.now a.digest.now a.out1.now a.out2.now (sym c.sized.ensures ∙ c.if-not-sized.false))

pub copy_from_slice-requires-2 : goal.copy_from_slice-requires-2
copy_from_slice-requires-2 c =
    let a = c.args in
    omega (arith, buffers a.key.now a.digest.now a.out1.now a.out2.now (sym c.sized.ensures ∙ c.if-not-sized.false))

pub returns : goal.returns
returns c =
    let a = c.args in
    let differ : c.in_ok-p.p ≡ c.in_ok-q.q → ⊥ = search rules in
    let sizes = sym c.sized.ensures ∙ c.if-not-sized.false in
    let room = buffers a.key.now a.digest.now a.out1.now a.out2.now sizes in
    extracted_done a.profile c.in_ok-named.named c.in_ok-named.ensures a.key.now a.digest.now a.first.now a.second.now a.out1.now a.out2.now sizes
    c.verify.ensures c.in_ok-p.p c.in_ok-p.ensures c.verify-2.ensures c.in_ok-q.q c.in_ok-q.ensures differ
    c.passed-i.ensures.is c.record_below.ensures c.record_below-2.ensures c.copy_from_slice.ensures.after c.copy_from_slice-2.ensures.after
    (omega (arith, room)) (omega (arith, room))
