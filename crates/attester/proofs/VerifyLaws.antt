-- What `verify` answers, case by case, and what is known of octets that it accepts.
use mathlib.Core.Path.{◌≡◌, refl}
use mathlib.Core.Bool.{Bool, true, false, cond, ◌&&◌}
use Prim.Native.Nat.{ℕ, ◌<◌}
use borrow.Author.Tests.{eq-eqb, eqb-true, ne_eqb}
use lib.Dec.{eqb}
use lib.ListN.{length}
use Rattle.answer.specs.Refusals as refusal
use Rattle.octets.specs.Order.{Octets}
use Rattle.attester.specs.Path.{Path, height}
use Rattle.attester.specs.Verdict.{refused, Accepted, judge}
use Rattle.attester.specs.Form.{Form, formed, ended, spoilt, form}
use Rattle.attester.specs.Attestation.{render}
use Rattle.attester.specs.Verify.{judged, verify}
use Rattle.attester.proofs.Sizes.{Sized}
use Rattle.attester.proofs.FormLaws.{and_both, Rendered, form_rendered, form_of_render}

module _ (H : Octets → Octets) (w : ℕ) (x d a : Octets) where
  pub verify_key_size : (length x ≡ 20 → ⊥) → verify H w x d a ≡ refused refusal.size 0
  unfolding verify
  verify_key_size n = rw (ne_eqb (length x) 20 n)

  module _ (n : length x ≡ 20) where
    pub verify_digest_size : (length d ≡ 32 → ⊥) → verify H w x d a ≡ refused refusal.size 0
    unfolding verify
    verify_digest_size m = rw (eq-eqb (length x) 20 n, ne_eqb (length d) 32 m)

    module _ (m : length d ≡ 32) where
      pub verify_form : verify H w x d a ≡ judged (judge H x d) (form w a)
      unfolding verify
      verify_form = rw (eq-eqb (length x) 20 n, eq-eqb (length d) 32 m)

      pub verify_ended : (j : ℕ) → form w a ≡ ended j → verify H w x d a ≡ refused refusal.form j
      unfolding judged
      verify_ended j f = rw (verify_form, f)

      pub verify_spoilt : (j : ℕ) → form w a ≡ spoilt j → verify H w x d a ≡ refused refusal.form j
      unfolding judged
      verify_spoilt j f = rw (verify_form, f)

      pub verify_formed : (p : Path) → form w a ≡ formed p → verify H w x d a ≡ judge H x d p
      unfolding judged
      verify_formed p f = rw (verify_form, f)

-- the verdict on a rendered path is the verdict on the path
pub verify_rendered : (H : Octets → Octets) (w : ℕ) (x d : Octets) (p : Path) → length x ≡ 20 → length d ≡ 32 → Sized w p → height p < 32
    → verify H w x d (render p) ≡ judge H x d p
verify_rendered H w x d p n m z h = verify_formed H w x d (render p) n m p (form_of_render w p z h)

-- octets that are accepted: the sizes of step 1, the path of step 2, and the verdict on it
pub record Verified (H : Octets → Octets) (w : ℕ) (x d a : Octets) : Type 0 where
  pub key_size : length x ≡ 20
  pub digest_size : length d ≡ 32
  pub path : Path
  pub reads : form w a ≡ formed path
  pub rendered : Rendered w a path
  pub answer : verify H w x d a ≡ judge H x d path

pub verify_accepted : (H : Octets → Octets) (w : ℕ) (x d a : Octets) → Accepted (verify H w x d a) → Verified H w x d a
unfolding verify judged
verify_accepted H w x d a h = go (eqb (length x) 20 && eqb (length d) 32) (form w a) refl refl h
  where
    go : (o : Bool) (f : Form) → (eqb (length x) 20 && eqb (length d) 32) ≡ o → form w a ≡ f
        → Accepted (cond o (judged (judge H x d) f) (refused refusal.size 0)) → Verified H w x d a
    go false f e g t = absurd t
    go true (ended j) e g t = absurd t
    go true (spoilt j) e g t = absurd t
    go true (formed p) e g t =
        let b = and_both (eqb (length x) 20) (eqb (length d) 32) e in
        let n : length x ≡ 20 = eqb-true (length x) 20 b.0 in
        let m : length d ≡ 32 = eqb-true (length d) 32 b.1 in
        record {
          key_size = n;
          digest_size = m;
          path = p;
          reads = g;
          rendered = form_rendered w a p g;
          answer = verify_formed H w x d a n m p g;
        }
