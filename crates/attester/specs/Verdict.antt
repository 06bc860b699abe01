-- The verdict on a path (01, "Verdict", steps 3 to 6), over any function H from records to labels.
use Rattle.std.specs.Prelude.{Bool, true, false, cond, ◌||◌}
use Rattle.std.proofs.Math.Option.{Option, none, some}
use Prim.Native.Nat.{ℕ, suc, Ordering}
use Rattle.answer.specs.Refusals.{child_at_foot, key_above, other_digest}
use Rattle.octets.specs.Order.{Octets, order, same}
use Rattle.attester.specs.Entry.{key}
use Rattle.attester.specs.Record.{Child, node_record}
use Rattle.attester.specs.Path.{Path, foot, step, top, foot_entry, foot_left, foot_right, height}

-- 01, step 6: Present, Absent; or a refusal's number and place
pub data Judgement : Type 0 where
  present : Judgement
  absent : Judgement
  refused : ℕ → ℕ → Judgement

-- Present or Absent
abbrev pub Accepted : Judgement → Type 0
Accepted present = Unit {0}
Accepted absent = Unit {0}
Accepted (refused m j) = ⊥

-- where x stands against an entry's key; nothing else tells left from right
unfoldable pub side : Octets → Octets → Ordering
side x e = order x (key e)

-- 01, number 8: whether there is a "child at the foot where x would be"
unfoldable pub child_there : Ordering → Child → Child → Bool
child_there Ordering.lt none r = false
child_there Ordering.lt (some l) r = true
child_there Ordering.eq l r = false
child_there Ordering.gt l none = false
child_there Ordering.gt l (some r) = true

-- 01, step 3: "If x < k0 the foot has no left label, if x > k0 no right label"; true where it has one
unfoldable pub hidden : Octets → Path → Bool
hidden x p = child_there (side x (foot_entry p)) (foot_left p) (foot_right p)

-- the lower place, where there is one, or else j where the test holds
abbrev pub lowest : Option ℕ → Bool → ℕ → Option ℕ
lowest (some i) b j = some i
lowest none true j = some j
lowest none false j = none

-- 01, step 4: "the smallest such j" of the j > 0 with x = kj or k(j-1) = kj
unfoldable pub fault : Octets → Path → Option ℕ
fault x (foot e l r) = none
fault x (step e s p) = lowest (fault x p) (same x (key e) || same (key (top p)) (key e)) (suc (height p))

-- 01, step 5: kj's record, "with the label so far on the left if x < kj and on the right if x > kj, the sibling on the
-- other side"; step 4 has refused x = kj
unfoldable pub join : Ordering → Octets → Child → Octets → Octets
join Ordering.lt e s l = node_record (some l) e s
join Ordering.eq e s l = node_record (some l) e s
join Ordering.gt e s l = node_record s e (some l)

-- what step 4 leaves of a judgement
abbrev pub unless_fault : Option ℕ → Judgement → Judgement
unless_fault none v = v
unless_fault (some j) v = refused key_above j

module _ (H : Octets → Octets) (x : Octets) where
  -- 01, step 5: the root's record, by way of the foot's and the labels so far
  unfoldable pub root_record : Path → Octets
  root_record (foot e l r) = node_record l e r
  root_record (step e s p) = join (side x e) e s (H (root_record p))

  -- 01, steps 3 to 6, in that order, of a path under the digest d
  unfoldable pub judge : Octets → Path → Judgement
  judge d p =
      cond (hidden x p) (refused child_at_foot 0)
      (unless_fault (fault x p)
      (cond (same (H (root_record p)) d)
      (cond (same x (key (foot_entry p))) present absent)
      (refused other_digest 0)))
