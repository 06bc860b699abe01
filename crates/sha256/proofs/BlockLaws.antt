-- Blocks, one after the other: those of the message, then those of what is left of it and its padding.
use Rattle.std.proofs.Common.{◌≡◌, ℕ, zero, suc, List, ◌+◌, ◌-◌, ◌*◌, ◌/◌, ◌≤◌, ◌++◌, [], ◌∷◌, length, drop, refl, ap, ◌∙◌, arith, length-append, length-drop, fold}
use Rattle.std.proofs.lemmas.Grind.{fold-append}
use Rattle.std.proofs.lemmas.List.{drop-append-le}
use Rattle.std.specs.Simd.{first_chunks}
use Rattle.octets.specs.Order.{Octets}
use Rattle.sha256.specs.Fips180.{H0, compress, block, blocks, digest, padding, padded, sha256}
use Rattle.sha256.specs.declared.compress.State.{State}
use Rattle.sha256.proofs.ChunkLaws.{chunks_split, chunks_front}

fold_blocks : (H : State) (p : Octets) (n : ℕ) → fold compress H (first_chunks 64 n p) ≡ blocks H p n
unfolding blocks block
fold_blocks H p zero = refl
fold_blocks H p (suc n) =
    let e : suc n ≡ n + 1 = omega arith in
    ap (λ (k : ℕ). fold compress H (first_chunks 64 k p)) e ∙ ap (fold compress H) (chunks_split 64 n 1 p)
    ∙ fold-append compress H (first_chunks 64 n p) (block p n ∷ []) ∙ ap (λ (s : State). compress s (block p n)) (fold_blocks H p n)

-- the whole blocks of m, then those of p, which is the rest of m and its padding
pub two_parts : (m p : Octets) {rest : Octets} {whole last : List Octets} {h g : State}
    → whole ≡ first_chunks 64 (length m / 64) m → rest ≡ drop (length m / 64 * 64) m
    → p ≡ rest ++ padding (length m) → last ≡ first_chunks 64 (length p / 64) p
    → h ≡ fold compress H0 whole → g ≡ fold compress h last → digest g ≡ sha256 m
unfolding sha256 padded
two_parts m p {rest} {whole} {last} {h} {g} ew er ep el eh eg =
    let f : ℕ = length m / 64 in
    let k : ℕ = length p / 64 in
    let e : Octets = padding (length m) in
    let b : length m / 64 * 64 ≡ 64 * f = omega arith in
    let l : 64 * f ≤ length m = omega arith in
    let q : drop (64 * f) (m ++ e) ≡ p = drop-append-le (64 * f) m e l ∙ rw (ep, er, b) in
    let s : first_chunks 64 (f + k) (m ++ e) ≡ whole ++ last = rw (chunks_split 64 f k (m ++ e), chunks_front 64 f m e l, q, ew, el) in
    let t : g ≡ blocks H0 (m ++ e) (f + k) = rw (← fold_blocks H0 (m ++ e) (f + k), s, fold-append compress H0 whole last, eg, eh) in
    let r : length rest ≡ length m - 64 * f = rw (er, b) (length-drop (64 * f) m) in
    let n : length p ≡ length rest + length e = rw ep (length-append rest e) in
    let c : length (m ++ e) / 64 ≡ f + k = omega (arith, length-append m e) in
    rw (c, t)
