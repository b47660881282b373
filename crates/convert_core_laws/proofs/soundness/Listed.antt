-- The numbers of the trees of the list.
use Rattle.convert_core_laws.proofs.Imports.{◌≡◌, ◌≢◌, ◌<◌, ℕ, ◌^◌, ◌==◌, nat_lt, Bool, true, false, not, refl, eq-eqb, ltb-true, CHUNK_TREE, ROOT_TREE, TREE_RELOC, number_test, tree_number, NewTree}

-- a number that a test tells apart is another one
apart : (a b : ℕ) → not (a == b) ≡ true → a ≢ b
apart a b is same = by (a == b) (eq-eqb a b same) is
  where
    by : (x : Bool) → x ≡ true → not x ≡ true → ⊥
    by true here other = cc other
    by false here other = cc here

pub not_chunks : (t : NewTree) → tree_number t ≢ CHUNK_TREE
not_chunks t = apart (tree_number t) CHUNK_TREE (number_test (λ (n : ℕ). not (n == CHUNK_TREE)) refl t)

pub not_root : (t : NewTree) → tree_number t ≢ ROOT_TREE
not_root t = apart (tree_number t) ROOT_TREE (number_test (λ (n : ℕ). not (n == ROOT_TREE)) refl t)

-- it is none that the kernel moves data by for a while
pub settled : (t : NewTree) → tree_number t ≢ TREE_RELOC
settled t = apart (tree_number t) TREE_RELOC (number_test (λ (n : ℕ). not (n == TREE_RELOC)) refl t)

pub number_low : (t : NewTree) → tree_number t < 2 ^ 64
number_low t = ltb-true (tree_number t) (2 ^ 64) (number_test (λ (n : ℕ). nat_lt n (2 ^ 64)) refl t)
