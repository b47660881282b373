-- The bodies of extents are read back.
use Rattle.convert_core_laws.proofs.Imports.{◌≡◌, ◌≤◌, ◌<◌, ℕ, ◌^◌, nat_lt, true, false, List, [], ◌∷◌, length, refl, ap, ◌∙◌, arith, AllPairs, AllByRecursion, flat_map, sum_by, nat_tests, drop_at, All-cons, All-nil, AllPairs-cons, TellsRefs, StandsBefore, FitsInline, data_ref_layout, inline_ref_bytes, inline_refs_of, tree_block_layout, ref_uses, InlineRef, DataRef, TreeBlock, extent_heads_read_back, extent_body}
use Rattle.btr_reader.specs.btr_space_items.ExtentHead.{extent_head_bytes, extent_head_layout}
use Rattle.btr_reader.specs.btr_space_items.declared.extent_head.ExtentHead.{ExtentHead}
use Rattle.btr_reader.proofs.btr_space_items.InlineLaw.{inline_refs_read_back}

abbrev head_of : ℕ → ℕ → ExtentHead
head_of count flags = record { refs = count; generation = 1; flags = flags }

head_long : (h : ExtentHead) → length (extent_head_bytes h) ≡ 24
unfolding extent_head_layout
head_long h = refl

head_fits : (count flags : ℕ) → count < 2 ^ 64 → flags < 2 ^ 64 → extent_head_layout.fits (head_of count flags)
unfolding extent_head_layout
head_fits count flags few low = (((tt, omega (arith, few)), omega arith), omega (arith, low))

-- references whose numbers fit
pub node_fits : (owner : ℕ) → owner < 2 ^ 64 → FitsInline (TreeBlock owner)
unfolding tree_block_layout
node_fits owner low = ((tt, omega arith), omega (arith, low))

pub data_fits : (tree inode offset : ℕ) → tree < 2 ^ 64 → inode < 2 ^ 64 → offset < 2 ^ 64 → FitsInline (DataRef tree inode offset 1)
unfolding data_ref_layout
data_fits tree inode offset one two three = (((((tt, omega arith), omega (arith, one)), omega (arith, two)), omega (arith, three)), omega arith)

-- the order of one reference, and of two
pub one_alone : (a : InlineRef) → AllPairs StandsBefore (a ∷ [])
one_alone a = λ i j d l h. absurd (omega (arith, l, h))

pub two_ordered : (a b : InlineRef) → StandsBefore a b → AllPairs StandsBefore (a ∷ (b ∷ []))
two_ordered a b before = AllPairs-cons StandsBefore a (b ∷ []) (All-cons (StandsBefore a) b [] before (All-nil (StandsBefore a))) (one_alone b)

-- what the test of two hashes says
pub hash_above : (a b : ℕ) → nat_lt a b ≡ true → a ≤ b
hash_above a b t = grind (arith, nat_tests)

pub hash_below : (a b : ℕ) → nat_lt a b ≡ false → b ≤ a
hash_below a b f = grind (arith, nat_tests)

-- the body has just these references
pub has_refs : (newest flags : ℕ) (refs : List InlineRef) → 1 ≤ newest → flags < 2 ^ 64 → sum_by ref_uses refs < 2 ^ 64 → AllByRecursion FitsInline refs → AllPairs StandsBefore refs → TellsRefs newest (extent_body flags refs) flags (sum_by ref_uses refs) refs
has_refs newest flags refs some low few fits order =
    let head : ExtentHead = head_of (sum_by ref_uses refs) flags in
    let rest : List ℕ = flat_map inline_ref_bytes refs in
    record {
      head = head;
      head_is = extent_heads_read_back head rest (head_fits (sum_by ref_uses refs) flags few low);
      refs_are = ap inline_refs_of (drop_at (extent_head_bytes head) rest 24 (head_long head)) ∙ inline_refs_read_back refs fits;
      count_is = refl;
      kind_is = refl;
      generation = some;
      order = order;
    }
