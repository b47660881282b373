-- One more item of the checksum tree, as its pass takes it.
use Rattle.btr_check_sums.proofs.Imports.{◌≡◌, ◌≤◌, ◌<◌, ◌+◌, ◌*◌, ◌^◌, ℕ, Bool, true, false, ◌&&◌, ◌||◌, List, [], ◌∷◌, ◌++◌, map, refl, arith, nat_tests, not_from_Decides, nat_le, is_among, sum_count, Checksums, part_number, Key, TreeItem, in_leaf, bare_item, has_block, BreaksSumItems, is_sum_item, HoldsSums, SumPass}
use Rattle.btr_check_sums.proofs.SumSteps.{blocks_from, form_decides, form_refused, overlap_refused, visited}

-- it has its form, and lies behind the last one
abbrev fits : SumPass → Key → List ℕ → Bool
fits pass key body = is_sum_item pass.nodesize pass.kind (key, body) && nat_le pass.end key.offset

both_true : (a b : Bool) → (a && b) ≡ true → (a ≡ true) × (b ≡ true)
both_true true b is = (refl, is)
both_true false b is = absurd (cc is)

le_true : (a b : ℕ) → nat_le a b ≡ true → a ≤ b
le_true a b is = grind (arith, nat_tests)

le_false : (a b : ℕ) → nat_le a b ≡ false → b < a
le_false a b is = grind (arith, nat_tests)

module _ (begun pass : SumPass) (items : List TreeItem) (leaf : ℕ) (key : Key) (body : List ℕ) (held : HoldsSums begun pass (map bare_item items)) where
  pub refused : fits pass key body ≡ false → BreaksSumItems begun.nodesize begun.kind (map bare_item (items ++ in_leaf leaf (key, body) ∷ [])) (part_number Checksums) key.offset
  refused none = by (is_sum_item pass.nodesize pass.kind (key, body)) refl none
    where
      by : (b : Bool) → is_sum_item pass.nodesize pass.kind (key, body) ≡ b → (b && nat_le pass.end key.offset) ≡ false
          → BreaksSumItems begun.nodesize begun.kind (map bare_item (items ++ in_leaf leaf (key, body) ∷ [])) (part_number Checksums) key.offset
      by true form over = overlap_refused begun pass items leaf key body held (le_false pass.end key.offset over)
      by false form over =
          form_refused begun pass items leaf key body held
          (not_from_Decides (is_sum_item pass.nodesize pass.kind (key, body)) (form_decides pass.nodesize pass.kind (key, body)) form)

  pub noted : (after : SumPass) → fits pass key body ≡ true → key.offset < 2 ^ 64 → after.nodesize ≡ pass.nodesize → after.kind ≡ pass.kind
      → after.end ≡ key.offset + 4096 * sum_count pass.kind (key, body)
      → ((n : ℕ) → is_among after.covered n ≡ (has_block (blocks_from key.offset (sum_count pass.kind (key, body))) n || is_among pass.covered n))
      → HoldsSums begun after (map bare_item (items ++ in_leaf leaf (key, body) ∷ []))
  noted after all low nodesize kind end covered =
      let parts = both_true (is_sum_item pass.nodesize pass.kind (key, body)) (nat_le pass.end key.offset) all in
      visited begun pass items leaf key body held after ((form_decides pass.nodesize pass.kind (key, body)).0 parts.0) (le_true pass.end key.offset parts.1) low nodesize kind end covered
