-- The bootstrap array has room for the chunks of the chunk tree.
use Rattle.convert_trees_laws.proofs.Imports.{◌≡◌, ℕ, ◌*◌, ◌^◌, ◌≤◌, Bool, false, List, [], ◌∷◌, length, filter, refl, sym, ◌∙◌, ap, subst, arith, length-append, ⊎_elim, div_ceil, flat_map, range_with_len, length-map, length-range_with_len, Image, IsNodeSize, node_bound, IsMaking, Making, filter_few, begins_run, free_runs, maximal_runs, run_from, is_free_unit, unit_count, accepted_is_small, used_length, used_of, bound_up, HasEnoughSpace, IsPlan, AreChunks, chunk_bound, chunk_nodes, chunk_tree_bytes, need, nodes_in_unit, PlannedChunk, Role, Metadata, Data, Counts, Need, Options, Plan}
use Rattle.convert_steps.specs.reiser_super.declared.superblock.Super.{Super}
use Rattle.convert_trees_laws.proofs.SystemChunks.{system_chunks_few}

-- ---- how many units the chunk tree needs

runs_few : (used : List Bool) → length (free_runs used) ≤ unit_count used
unfolding free_runs maximal_runs
runs_few used =
    let units : List ℕ = range_with_len 0 (unit_count used) in
    let starts : List ℕ = filter (begins_run (is_free_unit used)) units in
    let many = length-map starts (run_from (is_free_unit used) (unit_count used)) in
    let kept = filter_few (begins_run (is_free_unit used)) units in
    let all = length-range_with_len 0 (unit_count used) in
    omega (arith, many, kept, all)

-- the most bytes of a chunk tree, of a volume of 2^29 blocks whose units all begin a run
few_units : (x n : ℕ) → IsNodeSize n → x ≤ node_bound 440617923 n → div_ceil x (nodes_in_unit n) ≤ 16384
few_units x n size few =
    ⊎_elim (λ (e : n ≡ 4096). at 4096 e (λ h. omega (arith, h)))
    (λ rest. ⊎_elim (λ (e : n ≡ 8192). at 8192 e (λ h. omega (arith, h)))
    (λ rest'. ⊎_elim (λ (e : n ≡ 16384). at 16384 e (λ h. omega (arith, h)))
    (λ rest''. ⊎_elim (λ (e : n ≡ 32768). at 32768 e (λ h. omega (arith, h))) (λ (e : n ≡ 65536). at 65536 e (λ h. omega (arith, h))) rest'')
    rest')
    rest)
    size
  where
    at : (k : ℕ) → n ≡ k → (x ≤ node_bound 440617923 k → div_ceil x (nodes_in_unit k) ≤ 16384) → div_ceil x (nodes_in_unit n) ≤ 16384
    at k e f = subst (λ (j : ℕ). div_ceil x (nodes_in_unit j) ≤ 16384) (sym e) (f (subst (λ (j : ℕ). x ≤ node_bound 440617923 j) e few))

pub system_need_few : (c : Counts) (o : Options) → IsNodeSize o.nodesize → c.blocks ≤ 2 ^ 29 → c.runs ≤ 2 ^ 21 → (need c o).system ≤ 16384
system_need_few c o size blocks runs =
    let bytes : chunk_tree_bytes (chunk_bound c.runs c.blocks) ≤ 440617923 = omega (arith, blocks, runs) in
    few_units (chunk_nodes o c) o.nodesize size (bound_up (chunk_tree_bytes (chunk_bound c.runs c.blocks)) 440617923 o.nodesize size bytes)

-- the same by the used blocks
pub system_few : (used : List Bool) (c : Counts) (o : Options) → IsNodeSize o.nodesize → length used ≤ 2 ^ 29 → c.blocks ≡ length used → c.runs ≡ length (free_runs used)
    → (need c o).system ≤ 16384
system_few used c o size small blocks runs = system_need_few c o size (omega (arith, small, blocks)) (omega (arith, small, runs, runs_few used))

-- ---- what they take in the array

-- The array holds a record for each chunk of the chunk tree. A test tells these from the others.
module _ (tells : Role → Bool) (metadata : tells Metadata ≡ false) (data_ : tells Data ≡ false) (record_of : PlannedChunk → List ℕ) (sized : (c : PlannedChunk) → length (record_of c) ≡ 97) where
  boot_length : (cs : List PlannedChunk) → length (flat_map record_of cs) ≡ 97 * length cs
  boot_length [] = refl
  boot_length (c ∷ cs) = let both = length-append (record_of c) (flat_map record_of cs) in let here = sized c in let rest = boot_length cs in omega (arith, both, here, rest)

  abbrev boot : List PlannedChunk → List ℕ
  boot chunks = flat_map record_of (filter (λ c. tells c.role) chunks)

  -- 21 chunks have room, and there are no more than 17
  pub boot_fits_by : (used : List Bool) (n : Need) (plan : Plan) (chunks : List PlannedChunk) → HasEnoughSpace used n → IsPlan used n plan → AreChunks plan (length used) chunks → n.system ≤ 16384
      → length (boot chunks) ≤ 2048
  boot_fits_by used n plan chunks enough is are small =
      let few = system_chunks_few tells metadata data_ used n plan chunks enough is are in
      let long = boot_length (filter (λ c. tells c.role) chunks) in
      omega (arith, few, long, small)

module _ (image : Image) (m : Making) (made : IsMaking image m) where
  abbrev counts : Counts
  counts = made.has_pieces.found.counts

  pub used_few : length (used_of image) ≤ 2 ^ 29
  used_few = let small = accepted_is_small image made.has_pieces.accepted in let most = small.blocks in omega (arith, used_length image, most)

  pub blocks_are : m.volume.sup.blocks ≡ length (used_of image)
  blocks_are = ap (λ (s : Super). s.blocks) made.has_pieces.opened.sup ∙ sym (used_length image)

  pub chunks_of : AreChunks m.plan (length (used_of image)) m.chunks
  chunks_of = subst (λ (n : ℕ). AreChunks m.plan n m.chunks) blocks_are made.chunks_are

  pub system_few_made : IsNodeSize m.options.nodesize → (need counts m.options).system ≤ 16384
  system_few_made size =
      system_few (used_of image) counts m.options size used_few (ap (λ (c : Counts). c.blocks) made.has_pieces.plan_.found_.counts_are)
      (ap (λ (c : Counts). c.runs) made.has_pieces.plan_.found_.counts_are)

  pub boot_fits : (tells : Role → Bool) → tells Metadata ≡ false → tells Data ≡ false → (record_of : PlannedChunk → List ℕ) → ((c : PlannedChunk) → length (record_of c) ≡ 97) → IsNodeSize m.options.nodesize
      → length (flat_map record_of (filter (λ c. tells c.role) m.chunks)) ≤ 2048
  boot_fits tells metadata data_ record_of sized size =
      boot_fits_by tells metadata data_ record_of sized (used_of image) (need counts m.options) m.plan m.chunks made.has_pieces.plan_.enough made.has_pieces.plan_.plan_ chunks_of (system_few_made size)
