-- The library's comparison and equality of two octet strings are the order and the test of the definitions.
use mathlib.Core.Path.{◌≡◌, refl, ap, ◌∙◌}
use mathlib.Core.List.{[], ◌∷◌}
use Prim.Native.Nat as nat
use Prim.Native.Nat.{ℕ, ◌<◌}
use lib.Dec.{compare_is_eq}
use Rattle.std.specs.declared.cmp.Ordering.{Ordering}
use Rattle.std.specs.declared.cmp.Ordering.TheVariants.{Less, Equal, Greater}
use Rattle.std.specs.Ordering.{nat_cmp, is_lt, is_eq, ordering_then}
use Rattle.std.specs.Cmp.Lexicographic.{slice_cmp, pointwise, texts_ties}
use Rattle.std.specs.Prelude.{nat_eq}
use Rattle.std.proofs.lemmas.Cmp.{ranked, by_ranked}
use Rattle.octets.specs.Order.{Octets, or_else, order, same, is_less}
use Rattle.octets.specs.Compared.{order_of}
use Rattle.octets.proofs.OrderLaws.{lt_compare, compare_flip, compare_refl}

order_of_nat_cmp : (x y : ℕ) → order_of (nat_cmp x y) ≡ nat.compare x y
order_of_nat_cmp x y =
    by_ranked (x < y) (x ≡ y) (y < x) (nat_cmp x y) (ranked x y (nat_cmp x y) refl)
    (λ e h. rw (e, lt_compare x y h))
    (λ e h. rw (e, h, compare_refl y))
    (λ e h. rw (e, compare_flip y x, lt_compare y x h))

order_of_then : (o p : Ordering) → order_of (ordering_then o p) ≡ or_else (order_of o) (order_of p)
order_of_then Less p = refl
order_of_then Equal p = refl
order_of_then Greater p = refl

pub order_of_cmp : (a b : Octets) → order_of (slice_cmp nat_cmp a b) ≡ order a b
unfolding order
order_of_cmp [] [] = refl
order_of_cmp [] (y ∷ ys) = refl
order_of_cmp (x ∷ xs) [] = refl
order_of_cmp (x ∷ xs) (y ∷ ys) = rw (order_of_then (nat_cmp x y) (slice_cmp nat_cmp xs ys), order_of_nat_cmp x y, order_of_cmp xs ys)

pub is_lt_order : (o : Ordering) → is_lt o ≡ is_less (order_of o)
is_lt_order Less = refl
is_lt_order Equal = refl
is_lt_order Greater = refl

is_eq_order : (o : Ordering) → is_eq o ≡ compare_is_eq (order_of o)
is_eq_order Less = refl
is_eq_order Equal = refl
is_eq_order Greater = refl

pub pointwise_same : (a b : Octets) → pointwise nat_eq a b ≡ same a b
unfolding same
pointwise_same a b = texts_ties a b ∙ is_eq_order (slice_cmp nat_cmp a b) ∙ ap compare_is_eq (order_of_cmp a b)
