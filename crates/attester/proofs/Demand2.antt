-- Demand 2, over any function from records to labels of 32 octets, and any width: the path that is issued was found in the
-- list's tree, so it passes steps 3 and 4, hashes to the digest, and its foot is x's node exactly if x is listed.
use mathlib.Core.Path.{◌≡◌, sym, ap, ◌∙◌}
use mathlib.Core.Bool.{cond}
use Prim.Native.Nat.{ℕ}
use Rattle.octets.specs.Order.{Octets, same}
use Rattle.octets.proofs.OrderLaws.{same_refl}
use Rattle.attester.specs.Tree.{tree}
use Rattle.attester.specs.Label.{digest}
use Rattle.attester.specs.Verdict.{present, absent, root_record}
use Rattle.attester.specs.Search.{search}
use Rattle.attester.specs.Attestation.{attestation}
use Rattle.attester.specs.Demand2.{Demand2}
use Rattle.attester.proofs.LabelLaws.{digest_length}
use Rattle.attester.proofs.TreeLaws.{inorder_of_tree}
use Rattle.attester.proofs.VerdictLaws.{judge_accepts}
use Rattle.attester.proofs.VerifyLaws.{verify_formed}
use Rattle.attester.proofs.SearchLaws.{found_open, found_faultless}
use Rattle.attester.proofs.AttestationLaws.{issued_found, issued_digest, issued_listed, form_of_attestation}

pub demand_2 : (H : Octets → Octets) (w most : ℕ) → Demand2 H w most
demand_2 H w most H_length few es x l n =
    let p = search H x (tree es) in
    let d = digest H es in
    let f = issued_found H es x l.some_entry in
    let hashes : same (H (root_record H x p)) d ≡ same d d = ap (λ r. same r d) (sym (issued_digest H es x l.some_entry)) in
    let read = verify_formed H w x d (attestation H es x) n (digest_length H H_length es) p (form_of_attestation H H_length w most es x l few) in
    let passes =
    judge_accepts H x d p
    (found_open H x f)
    (found_faultless H x f (rw (inorder_of_tree es) l.ascending))
    (hashes ∙ same_refl d) in
    read ∙ (passes ∙ ap (λ b. cond b present absent) (sym (issued_listed H es x l.some_entry l.ascending)))
