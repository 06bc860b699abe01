-- Taking apart a test that held, and a chain of tests that ended in acceptance.
use mathlib.Core.Path.{◌≡◌, refl}
use mathlib.Core.Bool.{Bool, true, false, cond, ◌&&◌}
use mathlib.Core.List.{List}
use Prim.Native.Nat.{ℕ}
use native.Mathlib.Omega.{arith}
use Rattle.octets.specs.Order.{Octets}
use Rattle.codes.specs.Text.{Reading, accepted, refused}

pub both : (a b : Bool) → (a && b) ≡ true → (a ≡ true) × (b ≡ true)
both true b e = (refl, e)
both false b e = (e, cc)

-- the test that refuses did not hold
pub passed : (b : Bool) (m p : ℕ) (r : Reading) {ks : List Octets} → cond b (refused m p) r ≡ accepted ks → (b ≡ false) × (r ≡ accepted ks)
passed true m p r e = let z : ◌≡◌ {A = ℕ} 0 1 = cc in absurd (omega arith)
passed false m p r e = (refl, e)

-- the test that accepts held
pub held : (b : Bool) (m p : ℕ) (r : Reading) {ks : List Octets} → cond b r (refused m p) ≡ accepted ks → (b ≡ true) × (r ≡ accepted ks)
held true m p r e = (refl, e)
held false m p r e = let z : ◌≡◌ {A = ℕ} 0 1 = cc in absurd (omega arith)
