-- What the library's answer `Ordering` says.
use Prim.Native.Nat as nat
use Rattle.std.specs.declared.cmp.Ordering.{Ordering}
use Rattle.std.specs.declared.cmp.Ordering.TheVariants.{Less, Equal, Greater}

-- each case of `Ordering` as the order that it names
abbrev pub order_of : Ordering → nat.Ordering
order_of Less = nat.Ordering.lt
order_of Equal = nat.Ordering.eq
order_of Greater = nat.Ordering.gt
