-- 01: "The longest the verifier takes is 1,731 octets; the longest we issue is 586." No attestation is longer, by the general
-- bounds; and one of the first two keys of the longest list, and a path of 32 levels with every label, reach them;
-- these are octets where the labels are.
use mathlib.Core.Path.{◌≡◌, refl, ap, ◌∙◌}
use mathlib.Core.List.{[], ◌∷◌, ◌++◌}
use Prim.Native.Nat.{ℕ, ◌+◌, ◌*◌, ◌^◌, ◌≤◌, ◌<◌, max}
use native.Mathlib.Decide.{dec_le}
use native.Mathlib.Omega.{arith}
use lib.ListN.{length, get_or, length-take}
use lib.Pow.{pow_pos}
use Rattle.octets.specs.Order.{Octets, AreOctets}
use Rattle.octets.proofs.OctetLaws.{octets_append, octets_take}
use Rattle.octets.proofs.OrderLaws.{same_refl}
use Rattle.attester.specs.Entry.{key}
use Rattle.attester.specs.Tree.{tree}
use Rattle.attester.specs.Listing.{Each}
use Rattle.attester.specs.Path.{height}
use Rattle.attester.specs.Form.{spoilt, form}
use Rattle.attester.specs.Verdict.{present, root_record}
use Rattle.attester.specs.Search.{search}
use Rattle.attester.specs.Attestation.{render, attestation}
use Rattle.attester.specs.Verify.{verify}
use Rattle.attester.specs.Longest.{Issued, Taken, issued_for, taken_for, Longest}
use Rattle.attester.proofs.ListingLaws.{each_at}
use Rattle.attester.proofs.FormLaws.{form_left_over}
use Rattle.attester.proofs.VerdictLaws.{judge_own}
use Rattle.attester.proofs.VerifyLaws.{verify_rendered, verify_accepted}
use Rattle.attester.proofs.AttestationLaws.{issued_sized, issued_height}
use Rattle.attester.proofs.OctetLaws.{render_octets, issued_octets}
use Rattle.attester.proofs.LengthLaws.{levels_length, render_levels}
use Rattle.attester.proofs.LongestLaws.{attestation_most, form_most}
use Rattle.attester.proofs.NumberedLaws.{numbered, numbered_length, numbered_octets, rising, rising_length, rising_octets, rising_listing}
use Rattle.attester.proofs.ReachedLaws.{first_levels, second_levels, tower, tower_foot, tower_height, tower_sized, tower_octets, tower_levels, tower_open, tower_faultless}

key_octets : (e : Octets) → AreOctets e → AreOctets (key e)
unfolding key
key_octets e h = octets_take 20 e h

key_length : (w : ℕ) (e : Octets) → 20 ≤ w → length e ≡ w → length (key e) ≡ 20
unfolding key
key_length w e h n = simp length-take (omega arith)

tower_low : (w : ℕ) → height (tower w 31) < 32
tower_low w = rw (tower_height w 31) (omega arith)

tower_length : (w : ℕ) → 20 ≤ w → length (render (tower w 31)) ≡ 1091 + 32 * w
tower_length w wide = omega (arith, render_levels w (tower w 31) (tower_sized w 31 (omega arith)), tower_levels w 31)

tower_rendered : (w : ℕ) → AreOctets (render (tower w 31))
tower_rendered w = render_octets (tower w 31) (tower_low w) (tower_octets w 31 (omega arith))

-- an octet that is left over after so many has the furthest place of 7
pub furthest_spoilt : (w : ℕ) → 20 ≤ w → (a : Octets) × AreOctets a × (form w a ≡ spoilt (1091 + 32 * w))
furthest_spoilt w wide = (
  render (tower w 31) ++ (0 ∷ []),
  octets_append (render (tower w 31)) (0 ∷ []) (tower_rendered w) (omega arith, tt),
  form_left_over w (tower w 31) (tower_sized w 31 (omega arith)) (tower_low w) 0 [] ∙ ap spoilt (tower_length w wide),
)

module _ (H : Octets → Octets) (H_length : (m : Octets) → length (H m) ≡ 32) (H_octets : (m : Octets) → AreOctets (H m)) where
  -- an entry i of the list of `most` numbers reaches it
  reached_at : (w most b i : ℕ) → 20 ≤ w → most ≤ 65536 → most < 3 * 2 ^ b → i < most
      → levels_length w (search H (key (get_or (rising w 0 most) i [])) (tree (rising w 0 most))) ≡ (w + 33) * b + max (w + 33) (2 * (w + 1))
      → Longest (Issued H w most) issued_for (3 + ((w + 33) * b + max (w + 33) (2 * (w + 1))))
  unfolding attestation
  reached_at w most b i wide two_octets fewer inside levels =
      let es = rising w 0 most in
      let x = key (get_or es i []) in
      let l = rising_listing w most (omega arith) (omega arith) in
      let there : i < length es = rw (rising_length w 0 most) inside in
      let small : Each AreOctets es = rising_octets w 0 most (omega arith) in
      record {
        most = λ a t. rw t.is (attestation_most H H_length w most b t.list t.key t.listing fewer);
        longest = attestation H es x;
        is = record {
          list = es;
          listing = l;
          key = x;
          key_size = key_length w (get_or es i []) wide (each_at (λ e. length e ≡ w) es i l.sized there);
          is = refl;
        };
        reached = render_levels w (search H x (tree es)) (issued_sized H H_length w most es x l) ∙ ap (λ n. 3 + n) levels;
        octets =
            render_octets (search H x (tree es)) (issued_height H H_length w most es x l (omega arith))
            (issued_octets H H_octets es x l.some_entry small);
        for_octets = (key_octets (get_or es i []) (each_at AreOctets es i small there), small);
      }

  -- the general formula, for 2 * 2 ^ b to 3 * 2 ^ b - 1 entries, as many as two octets number
  pub longest_issued : (w most b : ℕ) → 20 ≤ w → most ≤ 65536 → 2 * 2 ^ b ≤ most → most < 3 * 2 ^ b
      → Longest (Issued H w most) issued_for (3 + ((w + 33) * b + max (w + 33) (2 * (w + 1))))
  longest_issued w most b wide two_octets least fewer =
      let es = rising w 0 most in
      let n = rising_length w 0 most in
      let positive = pow_pos b in
      let up = (rising_listing w most (omega arith) (omega arith)).ascending in
      elim (dec_le w 31) [
        | yes k ↦
            reached_at w most b 1 wide two_octets fewer (omega arith) (omega (arith, second_levels H w b es up (rw n least) (rw n fewer)))
        | no k ↦
            reached_at w most b 0 wide two_octets fewer (omega arith) (omega (arith, first_levels H w b es up (rw n least) (rw n fewer)))
      ]

  -- the K = 32 path with every label is accepted under the digest that it hashes to
  pub tower_present : (w : ℕ) → 20 ≤ w
      → verify H w (key (numbered w 0)) (H (root_record H (key (numbered w 0)) (tower w 31))) (render (tower w 31)) ≡ present
  tower_present w wide =
      let x = key (numbered w 0) in
      let n : length x ≡ 20 = key_length w (numbered w 0) wide (numbered_length w 0 (omega arith)) in
      let own = judge_own H x (tower w 31) (tower_open w 31) (tower_faultless w 31) in
      verify_rendered H w x (H (root_record H x (tower w 31))) (tower w 31) n (H_length _) (tower_sized w 31 (omega arith)) (tower_low w)
      ∙ (own ∙ rw (tower_foot w 31, same_refl (key (numbered w 0))))

  pub longest_taken : (w : ℕ) → 20 ≤ w → Longest (Taken H w) taken_for (1091 + 32 * w)
  longest_taken w wide = record {
    most = λ a t. let v = verify_accepted H w t.key t.digest a t.accepted in form_most w a v.path v.reads;
    longest = render (tower w 31);
    is = record {
      key = key (numbered w 0);
      digest = H (root_record H (key (numbered w 0)) (tower w 31));
      accepted = rw (tower_present w wide) tt;
    };
    reached = tower_length w wide;
    octets = tower_rendered w;
    for_octets = (key_octets (numbered w 0) (numbered_octets w 0 (omega arith)), (H_octets _, tt));
  }

  -- 01: "the longest we issue is 586", of at most 3,000 keys of 20 octets
  pub longest_issued_first : Longest (Issued H 20 3000) issued_for 586
  longest_issued_first = longest_issued 20 3000 10 (omega arith) (omega arith) (omega arith) (omega arith)

  -- 01: "The longest the verifier takes is 1,731 octets", for keys of 20 octets
  pub longest_taken_first : Longest (Taken H 20) taken_for 1731
  longest_taken_first = longest_taken 20 (omega arith)
