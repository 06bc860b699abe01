-- Each end of the code is an end of the promise: no profile, a size that may not be, a refusal handed on, a digest written whole.
use mathlib.Core.Path.{refl}
use native.Mathlib.Omega.{arith}
use Rattle.std.proofs.lemmas.Result.{err_from_is_err_and}
use Rattle.profile.proofs.ProfileLaws.{named_known}
use Rattle.tree.proofs.DigestLaws.{digested_unknown, digested_size, digested_refused, digested_done}
use Rattle.tree.proofs.digest.Goals as goal

pub returns-in_err-profile : goal.returns-in_err-profile
returns-in_err-profile c =
    let a = c.args in
    let p = err_from_is_err_and c.from_residual.result c.from_residual.ensures.1 in
    rw (p.1, p.2, c.in_err-profile.ensures.1) (digested_unknown a.profile a.keys.now a.out.now c.in_err-profile.ensures.0)

pub returns-then-out-ne32 : goal.returns-then-out-ne32
returns-then-out-ne32 c =
    let a = c.args in
    rw (c.at.ensures, c.in_ok-profile.ensures) (digested_size _ (named_known c.in_ok-profile.profile) a.keys.now a.out.now c.if-out-ne32.true)

pub returns-in_err-n : goal.returns-in_err-n
returns-in_err-n c =
    let a = c.args in
    let p = err_from_is_err_and c.from_residual-in_err-n.result c.from_residual-in_err-n.ensures.1 in
    rw (p.1, p.2, c.in_ok-profile.ensures) (digested_refused _ (named_known c.in_ok-profile.profile) a.keys.now a.out.now _ (omega arith) c.in_err-n.ensures refl)

pub returns : goal.returns
returns c =
    let a = c.args in
    rw c.in_ok-profile.ensures (digested_done _ (named_known c.in_ok-profile.profile) a.keys.now a.out.now _ (omega arith) c.in_ok-n.ensures refl
    c.tree_label.ensures c.copy_from_slice.ensures.after)
