-- Steps over the references of an extent.
use Rattle.btr_space_items.proofs.Imports.{◌≡◌, ◌<◌, ◌≤◌, ℕ, List, length, drop, Option, Some, None, cond, ltb, ◌==◌, Bool, true, false, refl, arith, subst, length-drop, slice_index_or, ltb-false, Shrinks, behind_inline, rest_of, INLINE_BLOCK_REF_SIZE, INLINE_DATA_REF_SIZE}
use Rattle.btr_keys.specs.btrfs_format.declared.key.TheConstants.{EXTENT_DATA_REF, SHARED_BLOCK_REF, SHARED_DATA_REF, TREE_BLOCK_REF}
use Rattle.btr_space_items.specs.declared.inline_ref.TheConstants.{INLINE_SHARED_DATA_REF_SIZE}

rest_shrinks : (n : ℕ) → 0 < n → Shrinks (rest_of n)
rest_shrinks n some bytes rest e =
    let step : (short : Bool) → ltb (length bytes) n ≡ short → cond short None (Some (drop n bytes)) ≡ Some rest → length rest < length bytes
    = λ short. elim short as (λ short. ltb (length bytes) n ≡ short → cond short None (Some (drop n bytes)) ≡ Some rest → length rest < length bytes) [
      | true ↦ λ t h. absurd cc
      | false ↦ λ t h.
          let long : n ≤ length bytes = ltb-false _ _ t in
          let same : drop n bytes ≡ rest = cc in
          subst (λ (r : List ℕ). length r < length bytes) same (omega (arith, length-drop n bytes))
    ] in
    step (ltb (length bytes) n) refl e

-- one of two readers, by a test, leaves fewer bytes where both do
either_shrinks : (t : List ℕ → Bool) (f g : List ℕ → Option (List ℕ)) → Shrinks f → Shrinks g → Shrinks (λ bytes. cond (t bytes) (f bytes) (g bytes))
either_shrinks t f g one other bytes rest = by_test (t bytes)
  where
    by_test : (b : Bool) → cond b (f bytes) (g bytes) ≡ Some rest → length rest < length bytes
    by_test true e = one bytes rest e
    by_test false e = other bytes rest e

none_shrinks : Shrinks (λ bytes. None)
none_shrinks bytes rest e = absurd cc

starts_with : ℕ → List ℕ → Bool
starts_with kind bytes = slice_index_or bytes 0 0 == kind

pub inline_shrinks : Shrinks behind_inline
unfolding behind_inline starts_with
inline_shrinks =
    either_shrinks (starts_with TREE_BLOCK_REF) (rest_of INLINE_BLOCK_REF_SIZE) _ (rest_shrinks INLINE_BLOCK_REF_SIZE (omega arith))
    (either_shrinks (starts_with SHARED_BLOCK_REF) (rest_of INLINE_BLOCK_REF_SIZE) _ (rest_shrinks INLINE_BLOCK_REF_SIZE (omega arith))
    (either_shrinks (starts_with EXTENT_DATA_REF) (rest_of INLINE_DATA_REF_SIZE) _ (rest_shrinks INLINE_DATA_REF_SIZE (omega arith))
    (either_shrinks (starts_with SHARED_DATA_REF) (rest_of INLINE_SHARED_DATA_REF_SIZE) _ (rest_shrinks INLINE_SHARED_DATA_REF_SIZE (omega arith)) none_shrinks)))
