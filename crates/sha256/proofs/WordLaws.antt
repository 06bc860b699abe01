-- Words and octets: the standard's are what the library's methods on numbers say.
use Rattle.std.proofs.Common.{◌≡◌, ℕ, zero, suc, ◌+◌, ◌-◌, ◌*◌, ◌/◌, ◌%◌, ◌^◌, ◌<◌, ◌≤◌, List, [], length, get_or, take, drop, refl, arith}
use Rattle.std.proofs.lemmas.List.{get_or-take, get_or-drop, take_more, flat_map_more}
use Rattle.std.proofs.lemmas.Slice.{take-put_mid}
use Rattle.std.specs.Int.{w32, byte_at, bytes_high_first, from_be_bytes, rotate_right}
use Rattle.std.specs.List.{flat_map}
use borrow.Rule.Slice.PartMut.{put_mid}
use Rattle.octets.specs.Order.{Octets}
use Rattle.sha256.specs.Fips180.{ROTR, octets, M}

pub rotated : (n x : ℕ) → 0 < n → n < 32 → rotate_right w32 x n ≡ ROTR n x
unfolding ROTR
rotated n x l h =
    let e : n % 32 ≡ n = omega arith in
    let d : (32 - n) % 32 ≡ 32 - n = omega arith in
    rw (e, d)

octet_at : (k x : ℕ) → byte_at k x ≡ x / 256 ^ k % 256
octet_at zero x = let e : x % 256 ≡ x / 1 % 256 = omega arith in e
octet_at (suc k) x = refl

pub octets_bytes : (n x : ℕ) → bytes_high_first n x ≡ octets n x
unfolding octets
octets_bytes zero x = refl
octets_bytes (suc n) x = rw (octet_at n x, octets_bytes n x)

-- the word t of a block, from its four octets
pub word_at : (b : Octets) (t : ℕ) → from_be_bytes w32 (take 4 (drop (4 * t) b)) ≡ M b t
unfolding M
word_at b t =
    let at = drop (4 * t) b in
    let z : 4 * t + 0 ≡ 4 * t = omega arith in
    rw (
      get_or-take 4 at 0 0 (omega arith),
      get_or-take 4 at 1 0 (omega arith),
      get_or-take 4 at 2 0 (omega arith),
      get_or-take 4 at 3 0 (omega arith),
      get_or-drop (4 * t) b 0 0,
      get_or-drop (4 * t) b 1 0,
      get_or-drop (4 * t) b 2 0,
      get_or-drop (4 * t) b 3 0,
      z,
    )

-- one word more, written where the last one ended
pub word_written : (ws : List ℕ) (i k : ℕ) (out ys : Octets) → i < length ws → 4 * i ≤ length out → ys ≡ octets 4 (get_or ws i 0)
    → take (4 * i) out ≡ flat_map (octets 4) (take i ws) → take (4 * (i + 1)) (put_mid (4 * i) k out ys) ≡ flat_map (octets 4) (take (i + 1) ws)
unfolding octets
word_written ws i k out ys h l e p =
    let n : 4 * (i + 1) ≡ 4 * i + length ys = rw e (omega arith) in
    rw (take-put_mid (4 * i) k out ys (4 * (i + 1)) n l, p, e, take_more ws i 0 h) (flat_map_more (octets 4) [] (take i ws) (get_or ws i 0))
