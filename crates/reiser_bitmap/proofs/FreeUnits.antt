-- When a unit is free.
use Rattle.reiser_bitmap.proofs.Imports.{◌≡◌, ℕ, ◌+◌, ◌-◌, ◌*◌, ◌/◌, ◌<◌, ◌≤◌, Bool, false, List, length, inl, inr, refl, sym, ◌∙◌, arith, subst, ⊎_elim, range_with_len, list_all, not-true, not_from_false, cases_Bool, Decides-and, Decides-not, Decides-ltb, Decides-like, Decides-by_and, All-contains, IsReserved, bit_of, bits, has, IsFreeUnit, is_free_block, are_free_blocks, is_free_unit, HasNoBits}
use Rattle.std.specs.Bool.{Decides}
use Rattle.refusals.proofs.vol_block.Reserved.{decides_reserved}
use Rattle.reiser_bitmap.proofs.BitLemmas.{length-bits, has-bits}
use Rattle.reiser_bitmap.proofs.Ranges.{contains_range, range_contains, all_from_contains}

IsFreeBlock : List Bool → ℕ → Type 0
IsFreeBlock used b = (b < length used) × ((has used b ≡ false) × (IsReserved b (length used) → ⊥))

decides_free_block : (used : List Bool) (b : ℕ) → Decides (is_free_block used b) (IsFreeBlock used b)
unfolding IsFreeBlock
decides_free_block used b =
    Decides-and _ _ (Decides-ltb b (length used))
    (Decides-and _ _ ((λ h. not-true _ h), λ h. not_from_false _ h) (Decides-not _ (decides_reserved b (length used))))

decides_free_blocks : (used : List Bool) (first count : ℕ) → Decides (are_free_blocks used first count) ((b : ℕ) → first ≤ b → b < first + count → IsFreeBlock used b)
unfolding are_free_blocks
decides_free_blocks used first count =
    Decides-like (are_free_blocks used first count)
    (λ all b low high. All-contains (IsFreeBlock used) (range_with_len first count) b all (contains_range first count b low high))
    (λ each. all_from_contains (IsFreeBlock used) (range_with_len first count) (λ b h. let inside = range_contains first count b h in each b inside.0 inside.1))
    (Decides-by_and (is_free_block used) (IsFreeBlock used) (list_all (is_free_block used)) (decides_free_block used) refl (λ _ _. refl) (range_with_len first count))

pub decides_free_unit : (used : List Bool) (u : ℕ) → Decides (is_free_unit used u) (IsFreeUnit used u)
unfolding is_free_unit IsFreeBlock
decides_free_unit used u =
    Decides-like (is_free_unit used u)
    (λ each. record {
      inside = omega (arith, (each (256 * u + 255) (omega arith) (omega arith)).0);
      unused = λ b is. (each b (omega arith) (omega arith)).1.0;
      unreserved = λ b is. (each b (omega arith) (omega arith)).1.1;
    })
    (λ free b low high. let is : b / 256 ≡ u = omega arith in (omega (arith, free.inside), (free.unused b is, free.unreserved b is)))
    (decides_free_blocks used (256 * u) 256)

-- the first block of a whole unit is reserved where any of its blocks is
unit_reserved : (n u b : ℕ) → b / 256 ≡ u → 256 * u + 256 ≤ n → IsReserved b n → IsReserved (256 * u) n
unit_reserved n u b is whole reserved =
    ⊎_elim (λ low. inl (omega arith))
    (λ rest. inr (⊎_elim (λ first. inl (omega (arith, first.0), omega (arith, first.1)))
    (λ last. inr (⊎_elim (λ second. inl (omega (arith, second.0), omega (arith, second.1)))
    (λ end. absurd (omega (arith, end.0, end.1)))
    last))
    rest))
    reserved

pub free_from_no_bits : (n u : ℕ) (bytes : List ℕ) → u < n / 256 → (IsReserved (256 * u) n → ⊥) → HasNoBits bytes (8 * (32 * u)) 256 → IsFreeUnit (bits n bytes) u
free_from_no_bits n u bytes inside unreserved none = record {
  inside = omega (arith, length-bits n bytes);
  unused = λ b is.
      let within : b < n = omega arith in
      let place : 8 * (32 * u) + (b - 256 * u) ≡ b = omega arith in
      has-bits n bytes b within ∙ subst (λ (k : ℕ). bit_of bytes k ≡ false) place (none (b - 256 * u) (omega arith));
  unreserved = λ b is reserved. unreserved (unit_reserved n u b is (omega arith) (subst (λ (m : ℕ). IsReserved b m) (length-bits n bytes) reserved));
}

pub no_bits_from_free : (n u : ℕ) (bytes : List ℕ) → IsFreeUnit (bits n bytes) u → HasNoBits bytes (8 * (32 * u)) 256
no_bits_from_free n u bytes free = λ i h.
    let b : ℕ = 8 * (32 * u) + i in
    let is : b / 256 ≡ u = omega arith in
    let within : b < n = omega (arith, free.inside, length-bits n bytes) in
    sym (has-bits n bytes b within) ∙ free.unused b is

-- past the end no unit is free
pub past_units : (used : List Bool) (u : ℕ) → length used / 256 ≤ u → is_free_unit used u ≡ false
past_units used u past =
    ⊎_elim (λ t. absurd (omega (arith, ((decides_free_unit used u).0 t).inside))) (λ f. f) (cases_Bool (is_free_unit used u))
