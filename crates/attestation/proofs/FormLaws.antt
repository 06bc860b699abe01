-- The answer of reading all sections, one after the other: a section's refusal is the form's; and where each was read, it
-- matters whether octets are left. And back: what the form's answer tells of the form.
use mathlib.Core.Path.{◌≡◌, refl, sym, ◌∙◌, subst}
use mathlib.Core.List.{[], ◌∷◌}
use mathlib.Core.Logic.{◌⊎◌, inl, inr}
use Prim.Native.Nat.{ℕ, ◌+◌, ◌-◌, ◌*◌, ◌≤◌, ◌<◌}
use native.Mathlib.Omega.{arith}
use lib.Dec.{eqb}
use lib.ListN.{length, drop, get_or}
use Rattle.answer.specs.Answer.{Answer, Done, Refused}
use Rattle.answer.specs.Refusals as refusal
use Rattle.octets.specs.Order.{Octets}
use Rattle.attester.specs.Entry.{entries}
use Rattle.attester.specs.Path.{Path}
use Rattle.attester.specs.Reader.{Stop, short, wrong, Read, got, stopped, Reader, after, octet, block, many, close}
use Rattle.attester.specs.Form.{optional, path_of, is_count, sections, ended, spoilt, placed, form}
use Rattle.attester.proofs.FormLaws.{is_count_true}
use Rattle.attester.proofs.OffsetLaws.{octet_at, blocks_at, OptionalAt}
use Rattle.attester.proofs.SectionLaws.{sections_left_stop, sections_right_stop}
use Rattle.tree.specs.Edition.{width}
use Rattle.attestation.specs.Form.{read_answer, keys_section, siblings_section}
use Rattle.attestation.proofs.ReadLaws.{Went, answer_went, answer_stopped}
use Rattle.attestation.proofs.KeysLaws.{KeysAt, keys_went}
use Rattle.attestation.proofs.OptionalLaws.{optional_done, optional_near}

-- Two readings, and what follows them

after_stop : {A B C : Type 0} (m : Read A) (f : A → Reader B) (g : A → B → Reader C) (s : Stop) → after m f ≡ stopped s
    → after m (λ v t. after (f v t) (g v)) ≡ stopped s
after_stop (got v t) f g s e = rw e
after_stop (stopped r) f g s e = let q : r ≡ s = cc in rw q

after_assoc : {A B C : Type 0} (m : Read A) (f : A → Reader B) (g : B → Reader C)
    → after m (λ v t. after (f v t) g) ≡ after (after m f) g
after_assoc (got v t) f g = refl
after_assoc (stopped r) f g = refl

-- The end, of n octets, where s is left

module _ {A : Type 0} (n : ℕ) (v : A) {end : ℕ} where
  close_left : (s : Octets) → end ≡ n - length s → end < n → Refused refusal.form end ≡ read_answer n (close v s)
  unfolding read_answer close
  close_left [] e h = absurd (omega arith)
  close_left (b ∷ s) e h = rw e

  close_end : (s : Octets) → end ≡ n - length s → 0 < n → n ≤ end → Done end ≡ read_answer n (close v s)
  unfolding read_answer close
  close_end [] e g h = rw e
  close_end (b ∷ s) e g h = absurd (omega arith)

-- The sections, by the answers k, l, r and s of their readings

module _ (a : Octets) {k : Answer} (keys_told : k ≡ read_answer (length a) (keys_section width a)) where
  pub keys_refused : {m p : ℕ} → k ≡ Refused m p → k ≡ read_answer (length a) (sections width a)
  unfolding keys_section sections
  keys_refused =
      answer_stopped (length a) (keys_section width a) keys_told (sections width a) (after_stop (octet is_count a) (many (block width)) _)

  module _ {at : ℕ} (keys_done : k ≡ Done at) where
    keys : KeysAt width a at
    keys = keys_went width a (answer_went (length a) (keys_section width a) keys_told keys_done)

    pub keys_count : (1 ≤ get_or a 0 0) × (get_or a 0 0 ≤ 32)
    keys_count = is_count_true (get_or a 0 0) keys.counted

    pub keys_inside : (0 < at) × (at ≤ length a) × (at ≤ 641)
    keys_inside = (omega (arith, keys.ends), omega (arith, keys.ends, keys.inside), omega (arith, keys.ends, keys_count))

    module _ {l : Answer} (left_told : l ≡ read_answer (length a) (optional (drop at a))) where
      pub left_refused : {m p : ℕ} → l ≡ Refused m p → l ≡ read_answer (length a) (sections width a)
      left_refused =
          answer_stopped (length a) (optional (drop at a)) left_told (sections width a)
          (λ s e. sections_left_stop width a keys.some_octet keys.counted keys.inside s
          (subst (λ (q : ℕ). optional (drop q a) ≡ stopped s) keys.ends e))

      module _ {p : ℕ} (left_done : l ≡ Done p) where
        left : OptionalAt a at p
        left = optional_done a at keys_inside.1 left_told left_done

        left_at : OptionalAt a (1 + get_or a 0 0 * width) p
        left_at = subst (λ (q : ℕ). OptionalAt a q p) keys.ends left

        pub left_inside : (p ≤ length a) × (p ≤ 674)
        left_inside = (left.inside, omega (arith, keys_inside, optional_near a at left))

        module _ {r : Answer} (right_told : r ≡ read_answer (length a) (optional (drop p a))) where
          pub right_refused : {m j : ℕ} → r ≡ Refused m j → r ≡ read_answer (length a) (sections width a)
          right_refused =
              answer_stopped (length a) (optional (drop p a)) right_told (sections width a)
              (sections_right_stop width a keys.some_octet keys.counted keys.inside p left_at)

          module _ {q : ℕ} (right_done : r ≡ Done q) where
            right : OptionalAt a p q
            right = optional_done a p left.inside right_told right_done

            pub right_inside : (q ≤ length a) × (q ≤ 707)
            right_inside = (right.inside, omega (arith, left_inside, optional_near a p right))

            siblings_left : sections width a
                ≡ after (siblings_section (get_or a 0 0 - 1) (drop q a))
                (λ ss. close (path_of (entries width (get_or a 0 0) (drop 1 a)) left_at.child right.child ss))
            unfolding sections siblings_section
            siblings_left =
                rw (
                  octet_at is_count a 0 keys.some_octet keys.counted,
                  blocks_at width (get_or a 0 0) a 1 keys.inside,
                  left_at.is,
                  right.is,
                )
                (after_assoc (octet (λ m. eqb m (get_or a 0 0 - 1)) (drop q a)) (many optional) _)

            module _ {s : Answer} (siblings_told : s ≡ read_answer (length a) (siblings_section (get_or a 0 0 - 1) (drop q a))) where
              pub siblings_refused : {m j : ℕ} → s ≡ Refused m j → s ≡ read_answer (length a) (sections width a)
              siblings_refused =
                  answer_stopped (length a) (siblings_section (get_or a 0 0 - 1) (drop q a)) siblings_told (sections width a)
                  (λ t e. rw (siblings_left, e))

              module _ {end : ℕ} (siblings_done : s ≡ Done end) where
                read : Went (length a) (siblings_section (get_or a 0 0 - 1) (drop q a)) end
                read = answer_went (length a) (siblings_section (get_or a 0 0 - 1) (drop q a)) siblings_told siblings_done

                pub form_left_over : end < length a → Refused refusal.form end ≡ read_answer (length a) (sections width a)
                form_left_over h = rw (siblings_left, read.is) (close_left (length a) _ read.rest read.ends h)

                pub form_whole : length a ≤ end → Done end ≡ read_answer (length a) (sections width a)
                form_whole h = rw (siblings_left, read.is) (close_end (length a) _ read.rest read.ends keys.some_octet h)

-- What the form's answer tells

module _ (w : ℕ) (a : Octets) {r : Answer} (told : r ≡ read_answer (length a) (sections w a)) where
  pub form_done : {n : ℕ} → r ≡ Done n → (p : Path) × (s : Octets) × (sections w a ≡ got p s)
  form_done e = let g = answer_went (length a) (sections w a) told e in (g.value, g.rest, g.is)

  pub form_refused : {m p : ℕ} → r ≡ Refused m p → (m ≡ refusal.form) × ((form w a ≡ ended p) ⊎ (form w a ≡ spoilt p))
  unfolding read_answer form placed
  form_refused {m} {p} e = go (sections w a) (sym told ∙ e)
    where
      go : (o : Read Path) → read_answer (length a) o ≡ Refused m p
          → (m ≡ refusal.form) × ((placed (length a) o ≡ ended p) ⊎ (placed (length a) o ≡ spoilt p))
      go (got v s) d = let z : ◌≡◌ {A = ℕ} 0 1 = cc in absurd (omega arith)
      go (stopped short) d = (cc, inl (cc))
      go (stopped (wrong left)) d = (cc, inr (cc))
