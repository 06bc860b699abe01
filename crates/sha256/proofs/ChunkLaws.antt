-- A list cut into chunks of n elements, as `as_chunks` cuts it.
use Rattle.std.proofs.Common.{◌≡◌, ℕ, zero, suc, ◌+◌, ◌*◌, ◌<◌, ◌≤◌, [], ◌++◌, length, get_or, take, drop, refl, arith, length-drop}
use Rattle.std.proofs.lemmas.List.{drop-drop, take-append-le, drop-append-le}
use Rattle.std.specs.Simd.{first_chunks}
use Rattle.octets.specs.Order.{Octets}

module _ (n : ℕ) where
  drop_chunks : (k : ℕ) (p : Octets) → drop (n * k) (drop n p) ≡ drop (n * suc k) p
  drop_chunks k p = let e : n * suc k ≡ n + n * k = omega arith in rw e (drop-drop (n * k) n p)

  pub chunk_at : (k t : ℕ) (p : Octets) → t < k → get_or (first_chunks n k p) t [] ≡ take n (drop (n * t) p)
  chunk_at zero t p h = absurd (omega arith)
  chunk_at (suc k) zero p h = let e : n * 0 ≡ 0 = omega arith in rw e
  chunk_at (suc k) (suc t) p h = rw (← drop_chunks t p) (chunk_at k t (drop n p) (omega arith))

  -- the first j chunks, then those of what follows them
  pub chunks_split : (j k : ℕ) (p : Octets) → first_chunks n (j + k) p ≡ first_chunks n j p ++ first_chunks n k (drop (n * j) p)
  chunks_split zero k p = let e : n * 0 ≡ 0 = omega arith in let z : 0 + k ≡ k = omega arith in rw (e, z)
  chunks_split (suc j) k p =
      let e : suc j + k ≡ suc (j + k) = omega arith in
      rw (e, ← drop_chunks j p, chunks_split j k (drop n p))

  pub chunks_front : (k : ℕ) (p q : Octets) → n * k ≤ length p → first_chunks n k (p ++ q) ≡ first_chunks n k p
  chunks_front zero p q h = refl
  chunks_front (suc k) p q h =
      let a : n ≤ length p = omega arith in
      let b : n * k ≤ length (drop n p) = simp length-drop (omega arith) in
      rw (take-append-le n p q a, drop-append-le n p q a, chunks_front k (drop n p) q b)
