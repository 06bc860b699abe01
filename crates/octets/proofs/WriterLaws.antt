-- Pieces written one after another: room for each, and what all of them have written.
use mathlib.Core.Path.{◌≡◌, refl, sym, ap, ◌∙◌, subst}
use mathlib.Core.List.{[], ◌++◌}
use Prim.Native.Nat.{◌+◌}
use native.Mathlib.Omega.{arith}
use lib.ListN.{length, length-append}
use Rattle.octets.specs.declared.Writer.{Writer}
use Rattle.octets.specs.Order.{Octets}
use Rattle.octets.specs.Writer.{HasRoom, Writes}
use Rattle.octets.proofs.PutLaws.{wrote_none, wrote_more, wrote_length}

pub record Joined (whole first second : Octets) : Type 0 where
  pub joined : whole ≡ first ++ second

pub writes_none : (w : Writer) → Writes w [] w
writes_none w = record { buffer = refl; wrote = wrote_none w.out.now w.at }

pub writes_same : {w w' : Writer} {s t : Octets} → t ≡ s → Writes w s w' → Writes w t w'
writes_same {w} {w'} e h = subst (λ q. Writes w q w') (sym e) h

module _ {whole first second : Octets} (j : Joined whole first second) (w : Writer) (room : HasRoom w whole) where
  sum : length whole ≡ length first + length second
  sum = ap length j.joined ∙ length-append first second

  pub room_first : HasRoom w first
  room_first = omega (arith, room, sum)

  module _ {w' : Writer} (h : Writes w first w') where
    pub room_second : HasRoom w' second
    room_second = omega (arith, room, sum, h.wrote.ends, wrote_length h.wrote room_first)

    pub writes_both : {w'' : Writer} → Writes w' second w'' → Writes w whole w''
    writes_both g =
        writes_same j.joined (record { buffer = g.buffer ∙ h.buffer; wrote = wrote_more h.wrote g.wrote (omega (arith, room, sum)) })

-- what a function that writes pieces asks for
pub ruleset pieces = (writes_none, writes_same, room_first, room_second, writes_both)
