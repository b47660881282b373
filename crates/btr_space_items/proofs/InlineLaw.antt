-- References that are written one after the other read as these references.
use Rattle.btr_space_items.proofs.Imports.{◌≡◌, ◌<◌, ℕ, List, [], ◌∷◌, ◌++◌, length, drop, map, Option, Some, None, cond, ltb, Bool, false, refl, ap, sym, ◌∙◌, arith, length-append, le-ltb, drop_at, option_map, starts, records, Reads, start, ◌▹◌, u8_reads, u32_reads, u64_reads, starts_step, starts_end, tree_block_layout, make_tree_block, data_ref_layout, make_data_ref, ref_kind, ref_root, ref_objectid, ref_offset, ref_count, inline_ref_front, inline_ref_bytes, behind_inline, rest_of, FitsInline, shared_block_layout, make_shared_block, shared_data_layout, make_shared_data, ref_parent, InlineRefsReadBack, flat_map, InlineRef, TreeBlock, SharedBlock, DataRef, SharedData}
use Rattle.btr_space_items.proofs.Inline.{inline_shrinks}

block_reads : Reads tree_block_layout (λ r. make_tree_block (ref_kind r) (ref_root r))
unfolding tree_block_layout
block_reads = start make_tree_block ▹ u8_reads ▹ u64_reads

block_width : tree_block_layout.width ≡ 9
unfolding tree_block_layout
block_width = refl

shared_block_reads : Reads shared_block_layout (λ r. make_shared_block (ref_kind r) (ref_parent r))
unfolding shared_block_layout
shared_block_reads = start make_shared_block ▹ u8_reads ▹ u64_reads

shared_block_width : shared_block_layout.width ≡ 9
unfolding shared_block_layout
shared_block_width = refl

shared_data_reads : Reads shared_data_layout (λ r. make_shared_data (ref_kind r) (ref_parent r) (ref_count r))
unfolding shared_data_layout
shared_data_reads = start make_shared_data ▹ u8_reads ▹ u64_reads ▹ u32_reads

shared_data_width : shared_data_layout.width ≡ 13
unfolding shared_data_layout
shared_data_width = refl

data_reads : Reads data_ref_layout (λ r. make_data_ref (ref_kind r) (ref_root r) (ref_objectid r) (ref_offset r) (ref_count r))
unfolding data_ref_layout
data_reads = start make_data_ref ▹ u8_reads ▹ u64_reads ▹ u64_reads ▹ u64_reads ▹ u32_reads

data_width : data_ref_layout.width ≡ 29
unfolding data_ref_layout
data_width = refl

rest_there : (n : ℕ) (front rest : List ℕ) → length front ≡ n → rest_of n (front ++ rest) ≡ Some rest
rest_there n front rest len =
    let long : ltb (length (front ++ rest)) n ≡ false = le-ltb _ _ (omega (arith, len, length-append front rest)) in
    ap (λ (b : Bool). cond b None (Some (drop n (front ++ rest)))) long ∙ ap Some (drop_at front rest n len)

-- a reference before other bytes
with_rest : InlineRef → List ℕ → List ℕ
unfolding tree_block_layout shared_block_layout data_ref_layout shared_data_layout
with_rest (TreeBlock root) rest = tree_block_layout.spell (TreeBlock root) rest
with_rest (DataRef root objectid offset count) rest = data_ref_layout.spell (DataRef root objectid offset count) rest
with_rest (SharedBlock parent) rest = shared_block_layout.spell (SharedBlock parent) rest
with_rest (SharedData parent count) rest = shared_data_layout.spell (SharedData parent count) rest

with_rest_is : (r : InlineRef) (rest : List ℕ) → inline_ref_bytes r ++ rest ≡ with_rest r rest
unfolding with_rest
with_rest_is (TreeBlock root) rest = sym (block_reads.apart (TreeBlock root) rest)
with_rest_is (DataRef root objectid offset count) rest = sym (data_reads.apart (DataRef root objectid offset count) rest)
with_rest_is (SharedBlock parent) rest = sym (shared_block_reads.apart (SharedBlock parent) rest)
with_rest_is (SharedData parent count) rest = sym (shared_data_reads.apart (SharedData parent count) rest)

some_bytes : (r : InlineRef) (rest : List ℕ) → FitsInline r → 0 < length (with_rest r rest)
unfolding with_rest
some_bytes (TreeBlock root) rest fits =
    let r = TreeBlock root in omega (arith, ap length (block_reads.apart r rest), length-append (tree_block_layout.spell r []) rest, block_reads.len r fits, block_width)
some_bytes (DataRef root objectid offset count) rest fits =
    let r = DataRef root objectid offset count in omega (arith, ap length (data_reads.apart r rest), length-append (data_ref_layout.spell r []) rest, data_reads.len r fits, data_width)
some_bytes (SharedBlock parent) rest fits =
    let r = SharedBlock parent in omega (arith, ap length (shared_block_reads.apart r rest), length-append (shared_block_layout.spell r []) rest, shared_block_reads.len r fits, shared_block_width)
some_bytes (SharedData parent count) rest fits =
    let r = SharedData parent count in omega (arith, ap length (shared_data_reads.apart r rest), length-append (shared_data_layout.spell r []) rest, shared_data_reads.len r fits, shared_data_width)

front_is : (r : InlineRef) (rest : List ℕ) → FitsInline r → inline_ref_front (with_rest r rest) ≡ r
unfolding with_rest tree_block_layout shared_block_layout data_ref_layout shared_data_layout
front_is (TreeBlock root) rest fits = block_reads.back (TreeBlock root) rest fits
front_is (DataRef root objectid offset count) rest fits = data_reads.back (DataRef root objectid offset count) rest fits
front_is (SharedBlock parent) rest fits = shared_block_reads.back (SharedBlock parent) rest fits
front_is (SharedData parent count) rest fits = shared_data_reads.back (SharedData parent count) rest fits

behind_is : (r : InlineRef) (rest : List ℕ) → FitsInline r → behind_inline (with_rest r rest) ≡ Some rest
unfolding with_rest behind_inline tree_block_layout shared_block_layout data_ref_layout shared_data_layout
behind_is (TreeBlock root) rest fits =
    let r = TreeBlock root in ap (rest_of 9) (block_reads.apart r rest) ∙ rest_there 9 (tree_block_layout.spell r []) rest (block_reads.len r fits)
behind_is (DataRef root objectid offset count) rest fits =
    let r = DataRef root objectid offset count in ap (rest_of 29) (data_reads.apart r rest) ∙ rest_there 29 (data_ref_layout.spell r []) rest (data_reads.len r fits)
behind_is (SharedBlock parent) rest fits =
    let r = SharedBlock parent in ap (rest_of 9) (shared_block_reads.apart r rest) ∙ rest_there 9 (shared_block_layout.spell r []) rest (shared_block_reads.len r fits)
behind_is (SharedData parent count) rest fits =
    let r = SharedData parent count in ap (rest_of 13) (shared_data_reads.apart r rest) ∙ rest_there 13 (shared_data_layout.spell r []) rest (shared_data_reads.len r fits)

pub inline_refs_read_back : InlineRefsReadBack
inline_refs_read_back [] fits = ap (option_map (map inline_ref_front)) (starts_end behind_inline [] refl)
inline_refs_read_back (r ∷ rs) fits =
    let rest = flat_map inline_ref_bytes rs in
    let bytes = with_rest r rest in
    let step = starts_step behind_inline inline_shrinks bytes rest (some_bytes r rest fits.0) (behind_is r rest fits.0) in
    let others : (o : Option (List (List ℕ))) → option_map (map inline_ref_front) o ≡ Some rs → option_map (map inline_ref_front) (option_map (λ (s : List (List ℕ)). bytes ∷ s) o) ≡ Some (inline_ref_front bytes ∷ rs)
    = λ o. elim o as (λ o. option_map (map inline_ref_front) o ≡ Some rs → option_map (map inline_ref_front) (option_map (λ (s : List (List ℕ)). bytes ∷ s) o) ≡ Some (inline_ref_front bytes ∷ rs)) [
      | None ↦ λ e. absurd cc
      | Some all ↦ λ e. let same : map inline_ref_front all ≡ rs = cc in ap (λ (xs : List InlineRef). Some (inline_ref_front bytes ∷ xs)) same
    ] in
    ap (records behind_inline inline_ref_front) (with_rest_is r rest) ∙ ap (option_map (map inline_ref_front)) step ∙ others (starts behind_inline rest) (inline_refs_read_back rs fits.1) ∙ ap (λ (x : InlineRef). Some (x ∷ rs)) (front_is r rest fits.0)
