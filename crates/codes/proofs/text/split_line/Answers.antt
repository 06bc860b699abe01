-- The library's search finds how many octets stand before the first LF.
use Rattle.std.proofs.Common.{rules, tests, ◌+◌, eqb}
use Rattle.std.proofs.lemmas.List.{take_rest}
use Rattle.std.proofs.lemmas.Iterator.{YieldsList-from_slice}
use Rattle.std.proofs.lemmas.Iterator.Search.{position_from_yields_List}
use Rattle.codes.proofs.LineLaws.{LF_found, split_none, split_some}
use Rattle.codes.proofs.text.split_line.Goals as goal

pub returns-in_err-end : goal.returns-in_err-end
returns-in_err-end c =
    let s = c.args.text.now in
    let f = LF_found s _ (position_from_yields_List (λ y. eqb y 10) _ _ c.position.result c.position.ensures.ran (YieldsList-from_slice s (cc)) (λ x b q k. search (rules, tests))) in
    rw c.from_residual.ensures (split_none s (rw c.in_err-end.was at f))

pub returns : goal.returns
returns c =
    let s = c.args.text.now in
    let f = LF_found s _ (position_from_yields_List (λ y. eqb y 10) _ _ c.position.result c.position.ensures.ran (YieldsList-from_slice s (cc)) (λ x b q k. search (rules, tests))) in
    let e = split_some s c.in_ok-end.end (rw c.in_ok-end.was at f) in
    (e.0, e.1, rw (take_rest s (c.in_ok-end.end + 1)) e.2)
