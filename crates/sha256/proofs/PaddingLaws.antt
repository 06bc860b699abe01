-- What is written into a buffer of zeros leaves the padding's zeros between the octet 0x80 and the length.
use Rattle.std.proofs.Common.{◌≡◌, ℕ, suc, ◌+◌, ◌-◌, ◌*◌, ◌/◌, ◌≤◌, ◌∷◌, ◌++◌, length, take, drop, set, replicate, refl, ap, ◌∙◌, append_assoc, arith, length-append}
use Rattle.std.proofs.lemmas.List.{take-replicate, drop-replicate, set_at}
use lib.ListN.{length-replicate}
use Rattle.std.proofs.Math.Seq.{take-append-add}
use Rattle.std.proofs.lemmas.Slice.{take-put_mid}
use borrow.Rule.Slice.PartMut.{put_mid}
use Rattle.octets.specs.Order.{Octets}
use Rattle.sha256.specs.Fips180.{octets, zeros, padding}

-- in N zeros: the octets left over, 0x80, and the length in the last eight octets of n blocks
pub last_written : (rest : Octets) (len n N k : ℕ) {b p ys : Octets} → 64 * n ≤ N → 64 * n ≡ length rest + 9 + zeros (8 * len) / 8
    → b ≡ rest → p ≡ set (b ++ drop (length rest) (replicate N 0)) (length rest) 0x80 → ys ≡ octets 8 (8 * len)
    → take (64 * n) (put_mid (64 * n - 8) k p ys) ≡ rest ++ padding len
unfolding octets padding
last_written rest len n N k {b} {p} {ys} hn h eb ep ey =
    let r = length rest in
    let z = zeros (8 * len) / 8 in
    let e : N - r ≡ suc (N - r - 1) = omega arith in
    let d : drop r (replicate {A = ℕ} N 0) ≡ 0 ∷ replicate {A = ℕ} (N - r - 1) 0 = drop-replicate {X = ℕ} r N 0 ∙ ap (λ (j : ℕ). replicate {A = ℕ} j 0) e in
    let q : p ≡ rest ++ (0x80 ∷ replicate {A = ℕ} (N - r - 1) 0) =
    ep ∙ rw (eb, d) (set_at rest 0 (replicate (N - r - 1) 0) 0x80 r refl) in
    let a : 64 * n - 8 ≡ r + suc z = omega arith in
    let t : take (64 * n - 8) p ≡ rest ++ (0x80 ∷ replicate {A = ℕ} z 0) =
    rw (q, a, take-append-add rest (0x80 ∷ replicate (N - r - 1) 0) (suc z), take-replicate {X = ℕ} z (N - r - 1) 0 (omega arith)) in
    let l : 64 * n - 8 ≤ length p = rw q (simp (length-append, length-replicate) (omega arith)) in
    let e : 64 * n ≡ 64 * n - 8 + length ys = rw ey (omega arith) in
    rw (take-put_mid (64 * n - 8) k p ys (64 * n) e l, t, ey) (append_assoc rest (0x80 ∷ replicate z 0) (octets 8 (8 * len)))
