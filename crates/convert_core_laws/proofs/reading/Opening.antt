-- A converted volume is opened.
use Rattle.convert_core_laws.proofs.Imports.{◌≡◌, ◌⊎◌, ◌≤◌, ◌<◌, ℕ, ◌+◌, ◌-◌, ◌^◌, inl, inr, true, false, List, [], ◌++◌, length, map, take, drop, get_or, replicate, Option, Some, Ok, refl, sym, ap, subst, ◌∙◌, ⊎_elim, arith, All, AllPairs, Contains, unwrap_or, flat_map, both_ways, cases_lt, get_or_default, All-drop, All-take, AllPairs-filter, map-map, CHUNK_TREE, ROOT_TREE, from_filter, in_filter, Image, BtrRefusal, Ids, Item, IsNodeSize, SumKind, Crc32c, csum_number, known_kind, chunks_refusals, items_refusals, range_of, with_items, array_entry, IsBtrfsOpened, boot_chunks, boot_list, boot_refusals, chunk_tree, form_of, map_from, opening_refusals, or_later, refusals_after, root_tree, super_on, tree_of, trees_refusals, ChunkAt, arrays_read_back, Super, GivesItself, Root, bare_item, found, wrong, MapRange, Form, NodePointer, Tree, IsMaking, Making, chunk_slots, new_ids, slots, TreesStand, form, root_from, root_tree_items, TreeRoots, blocks_inside, boot_bytes, is_system_role, new_super, all_at, all_from_contains, used_of, chunk_items, TreeNode, chunk_ends, blocks_are, chunks_of, used_few, TreeStands, pointer_to_root, AreChunks, IsChunk, role_of, usable_end, PlannedChunk, Options, ChunksMap, MapsChunks, IsNewVolume, boot_part, chunk_at, map_for, range_for, super_for, known-number}
use Rattle.convert_core_laws.proofs.reading.Chunks.{AreApart, AreRead, Come, LiesOn, all_fit, array_sound, entries_are, tree_read}
use Rattle.convert_core_laws.proofs.reading.Mapped.{all_itself, boot_nodes, ranges_are as are_ranges_of}
use Rattle.convert_core_laws.proofs.reading.Stood.{IsRead, read_by}
use Rattle.convert_core_laws.proofs.reading.Superblock.{size, super_reads, own_fsid}

-- two chunks of a list that ascends lie apart, or are one
two_of : (cs : List PlannedChunk) (c d : PlannedChunk) → AllPairs (λ c d. c.start + c.length ≤ d.start) cs → Contains cs c → Contains cs d → (c ≡ d) ⊎ AreApart c d
two_of cs c d ascend h k =
    ⊎_elim (λ (less : h.0 < k.0). inr (inl (before c d h k less)))
    (λ (rest : k.0 ≤ h.0). ⊎_elim (λ (more : k.0 < h.0). inr (inr (before d c k h more)))
    (λ (end : h.0 ≤ k.0). let at : h.0 ≡ k.0 = omega arith in inl (sym h.2 ∙ (ap (λ (i : ℕ). get_or cs i c) at ∙ (get_or_default cs k.0 c d k.1 ∙ k.2)))) (cases_lt k.0 h.0))
    (cases_lt h.0 k.0)
  where
    before : (a b : PlannedChunk) (i : Contains cs a) (j : Contains cs b) → i.0 < j.0 → a.start + a.length ≤ b.start
    before a b i j less =
        let up : (get_or cs i.0 a).start + (get_or cs i.0 a).length ≤ (get_or cs j.0 a).start = ascend i.0 j.0 a less j.1 in
        let same : get_or cs j.0 a ≡ b = get_or_default cs j.0 a b j.1 ∙ j.2 in
        subst (λ (x : PlannedChunk). a.start + a.length ≤ x.start) same (subst (λ (x : PlannedChunk). x.start + x.length ≤ (get_or cs j.0 a).start) i.2 up)

-- ---- fields of the superblock

module _ (m : Making) (r : TreeRoots) (nodes : List TreeNode) where
  array_is : (super_for m r nodes).sys_chunk_array ≡ boot_bytes (new_ids m) m.chunks ++ replicate (2048 - length (boot_bytes (new_ids m) m.chunks)) 0
  unfolding new_super
  array_is = refl

  array_size : (super_for m r nodes).sys_chunk_array_size ≡ length (boot_bytes (new_ids m) m.chunks)
  unfolding new_super
  array_size = refl

  kind_is : unwrap_or (known_kind (csum_number m.options.sums)) Crc32c ≡ m.options.sums
  kind_is = ap (λ (known : Option SumKind). unwrap_or known Crc32c) (known-number m.options.sums)

  form_is : form_of (super_for m r nodes) ≡ form m
  unfolding new_super
  form_is =
      ap (λ (id : List ℕ). let f : Form = record { fsid = id; nodesize = m.options.nodesize; sums = unwrap_or (known_kind (csum_number m.options.sums)) Crc32c } in f)
      (own_fsid m r nodes)
      ∙ ap (λ (kind : SumKind). let f : Form = record { fsid = (new_ids m).fsid; nodesize = m.options.nodesize; sums = kind } in f) kind_is

  abbrev tree_by : Form → ℕ → NodePointer → Tree
  tree_by f owner root = record { form = f; root = root; owner = owner }

  pub tree_is : (owner : ℕ) (p : NodePointer) → tree_of (super_for m r nodes) owner p ≡ tree_by (form m) owner p
  tree_is owner p = ap (λ (f : Form). tree_by f owner p) form_is

  chunk_root_is : chunk_tree (super_for m r nodes) ≡ tree_of (super_for m r nodes) CHUNK_TREE (pointer_to_root r.chunk)
  unfolding new_super
  chunk_root_is = refl

  chunk_tree_is : chunk_tree (super_for m r nodes) ≡ tree_by (form m) CHUNK_TREE (pointer_to_root r.chunk)
  chunk_tree_is = chunk_root_is ∙ tree_is CHUNK_TREE (pointer_to_root r.chunk)

  root_is : root_tree (super_for m r nodes) ≡ tree_of (super_for m r nodes) ROOT_TREE (pointer_to_root r.root)
  unfolding new_super
  root_is = refl

  root_tree_is : root_tree (super_for m r nodes) ≡ tree_by (form m) ROOT_TREE (pointer_to_root r.root)
  root_tree_is = root_is ∙ tree_is ROOT_TREE (pointer_to_root r.root)

  -- a tree that is read, by the superblock
  pub by_tree : (image : Image) (ranges : List MapRange) (t : Tree) (owner : ℕ) (p : NodePointer) (items : List Item) → t ≡ tree_by (form m) owner p → IsRead image ranges (form m) p owner items
      → (wrong image ranges t ≡ []) × (map bare_item (found image ranges t) ≡ items)
  by_tree image ranges t owner p items is read = (ap (wrong image ranges) is ∙ read.sound, ap (λ (u : Tree). map bare_item (found image ranges u)) is ∙ read.items_are)

-- ---- a volume that is opened

-- nothing is wrong from the chunk tree on
trees_none : (image : Image) (s : Super) (boot : List ChunkAt) (ranges all : List MapRange) → map range_of boot ≡ ranges → wrong image ranges (chunk_tree s) ≡ [] → items_refusals (length image) boot ranges (found image ranges (chunk_tree s)) ≡ []
    → with_items boot ranges (found image ranges (chunk_tree s)) ≡ all → wrong image all (root_tree s) ≡ [] → (trees_refusals image s boot ≡ []) × (map_from image s boot ≡ all)
trees_none image s boot ranges all is chunk items with root =
    let map_is : map_from image s boot ≡ all = ap (λ (rs : List MapRange). with_items boot rs (found image rs (chunk_tree s))) is ∙ with in
    let first : wrong image (map range_of boot) (chunk_tree s) ≡ [] = ap (λ (rs : List MapRange). wrong image rs (chunk_tree s)) is ∙ chunk in
    let second : items_refusals (length image) boot (map range_of boot) (found image (map range_of boot) (chunk_tree s)) ≡ [] = ap (λ (rs : List MapRange). items_refusals (length image) boot rs (found image rs (chunk_tree s))) is ∙ items in
    let third : wrong image (map_from image s boot) (root_tree s) ≡ [] = ap (λ (rs : List MapRange). wrong image rs (root_tree s)) map_is ∙ root in (
      ap (λ (rs : List BtrRefusal). or_later (rs ++ items_refusals (length image) boot (map range_of boot) (found image (map range_of boot) (chunk_tree s))) (wrong image (map_from image s boot) (root_tree s))) first
          ∙ (ap (λ (rs : List BtrRefusal). or_later rs (wrong image (map_from image s boot) (root_tree s))) second ∙ third),
      map_is,
    )

opened_by : (image : Image) (s : Super) (boot : List ChunkAt) (all : List MapRange) → super_on image ≡ Ok s → boot_chunks s ≡ Some boot → chunks_refusals (length image) [] boot ≡ [] → trees_refusals image s boot ≡ [] → map_from image s boot ≡ all
    → IsBtrfsOpened image s all
unfolding opening_refusals
opened_by image s boot all read array sound trees map_is = record {
  sound =
      ap (refusals_after image) read
      ∙ (ap (λ (o : Option (List ChunkAt)). or_later (boot_refusals (length image) o) (trees_refusals image s (boot_list o))) array
      ∙ (ap (λ (rs : List BtrRefusal). or_later rs (trees_refusals image s boot)) sound ∙ trees));
  super = read;
  map_is = sym (ap (λ (o : Option (List ChunkAt)). map_from image s (boot_list o)) array ∙ map_is);
}

module _ (o : Options) (ids : Ids) (now : ℕ) (image other : Image) (m : Making) (r : TreeRoots) (nodes : List TreeNode) (v : IsNewVolume o ids now image other m r nodes) where
  abbrev making : IsMaking image m
  making = v.new.conversion.making

  abbrev trees : TreesStand image other other m r nodes
  trees = v.new.stands.trees

  abbrev s : Super
  s = super_for m r nodes

  abbrev fit_size : IsNodeSize m.options.nodesize
  fit_size = size o ids now image other m r nodes v

  abbrev boot : List ChunkAt
  boot = map (chunk_at (new_ids m)) (boot_part m.chunks)

  abbrev volume : ℕ
  volume = length (used_of image)

  are_chunks : AreChunks m.plan volume m.chunks
  are_chunks = chunks_of image m making

  low_end : (c : PlannedChunk) → Contains m.chunks c → c.start + c.length ≤ volume
  low_end c h = all_at (λ (d : PlannedChunk). d.start + d.length ≤ volume) m.chunks c (chunk_ends m.plan volume m.chunks are_chunks) h

  small : (c : PlannedChunk) → Contains m.chunks c → c.start + c.length ≤ 2 ^ 29
  small c h = let end = low_end c h in let few = used_few image m making in omega (arith, end, few)

  lies : (c : PlannedChunk) → Contains m.chunks c → LiesOn (length other) c
  lies c h =
      let is : IsChunk (role_of m.plan volume) (usable_end volume) c = all_at (IsChunk (role_of m.plan volume) (usable_end volume)) m.chunks c are_chunks.each h in
      let end = low_end c h in
      let inside = blocks_inside m.volume image m.options m.plan m.pieces making.has_pieces in
      let same = blocks_are image m making in
      let whole = v.new.stands.size in
      record { some = is.not_empty; end = omega (arith, end, inside, same, whole) }

  pub boot_is : boot_chunks (super_for m r nodes) ≡ Some (map (chunk_at (new_ids m)) (boot_part m.chunks))
  boot_is =
      let bytes : flat_map array_entry boot ≡ boot_bytes (new_ids m) m.chunks = entries_are (new_ids m) (boot_part m.chunks) in
      let rest : List ℕ = replicate (2048 - length (boot_bytes (new_ids m) m.chunks)) 0 in
      arrays_read_back s boot rest (all_fit (new_ids m) (boot_part m.chunks) v.ids_.device (λ c h. small c (from_filter (λ (d : PlannedChunk). is_system_role d.role) m.chunks c h).0))
      (array_is m r nodes ∙ ap (λ (l : List ℕ). l ++ rest) (sym bytes)) (array_size m r nodes ∙ ap (λ (l : List ℕ). length l) (sym bytes))

  ranges_are : map range_of boot ≡ map range_for (boot_part m.chunks)
  ranges_are = map-map range_of (chunk_at (new_ids m)) (boot_part m.chunks)

  -- a chunk of the array and another lie apart
  parts_apart : (c d : PlannedChunk) → Contains m.chunks c → is_system_role c.role ≡ false → Contains (boot_part m.chunks) d → (1 ≤ d.length) × AreApart c d
  parts_apart c d h f k =
      let of = from_filter (λ (e : PlannedChunk). is_system_role e.role) m.chunks d k in (
        (lies d of.0).some,
        ⊎_elim (λ (same : c ≡ d). absurd (both_ways (is_system_role c.role) f (subst (λ (e : PlannedChunk). is_system_role e.role ≡ true) (sym same) of.1))) (λ apart. apart) (two_of m.chunks c d are_chunks.ascending h of.0),
      )

  come : Come (new_ids m) (length other) (boot_part m.chunks) v.ids_.device (boot_part m.chunks) m.chunks
  come = record {
    small = small;
    lie = lies;
    booted = λ c h t. in_filter (λ (d : PlannedChunk). is_system_role d.role) m.chunks c h t;
    others = parts_apart;
    apart = λ c d h f k. (parts_apart c d h f k).1;
    ascend = are_chunks.ascending;
  }

  chunk_read : (wrong other (map range_for (boot_part m.chunks)) (chunk_tree s) ≡ []) × (map bare_item (found other (map range_for (boot_part m.chunks)) (chunk_tree s)) ≡ chunk_items (new_ids m) m.volume.sup.blocks m.chunks)
  chunk_read =
      by_tree m r nodes other (map range_for (boot_part m.chunks)) (chunk_tree s) CHUNK_TREE (pointer_to_root r.chunk) (chunk_items (new_ids m) m.volume.sup.blocks m.chunks) (chunk_tree_is m r nodes)
      (read_by other (form m) CHUNK_TREE (chunk_slots m) (chunk_items (new_ids m) m.volume.sup.blocks m.chunks) r.chunk trees.chunk (map range_for (boot_part m.chunks))
      (all_from_contains (GivesItself (map range_for (boot_part m.chunks)) m.options.nodesize) (chunk_slots m) (boot_nodes image m making fit_size)))

  items_read : AreRead (new_ids m) (length other) (boot_part m.chunks) v.ids_.device (boot_part m.chunks) m.chunks (found other (map range_for (boot_part m.chunks)) (chunk_tree s))
  items_read =
      tree_read (new_ids m) (length other) (boot_part m.chunks) v.ids_.device m.volume.sup.blocks (boot_part m.chunks) m.chunks (found other (map range_for (boot_part m.chunks)) (chunk_tree s)) chunk_read.1 come

  -- each tree behind the first slots is read
  pub slots_give : All (GivesItself (map_for m.chunks) m.options.nodesize) (slots m)
  slots_give = all_from_contains (GivesItself (map_for m.chunks) m.options.nodesize) (slots m) (all_itself image m making fit_size).nodes

  pub later_read : (owner k : ℕ) (items : List Item) (root : Root) → TreeStands other (form m) owner (drop k (slots m)) items root → (wrong other (map_for m.chunks) (tree_of (super_for m r nodes) owner (pointer_to_root root)) ≡ [])
      × (map bare_item (found other (map_for m.chunks) (tree_of (super_for m r nodes) owner (pointer_to_root root))) ≡ items)
  later_read owner k items root stands =
      by_tree m r nodes other (map_for m.chunks) (tree_of s owner (pointer_to_root root)) owner (pointer_to_root root) items (tree_is m r nodes owner (pointer_to_root root))
      (read_by other (form m) owner (drop k (slots m)) items root stands (map_for m.chunks) (All-drop (GivesItself (map_for m.chunks) m.options.nodesize) k (slots m) slots_give))

  pub root_read : (wrong other (map_for m.chunks) (root_tree (super_for m r nodes)) ≡ []) × (map bare_item (found other (map_for m.chunks) (root_tree (super_for m r nodes))) ≡ root_tree_items m r)
  root_read =
      by_tree m r nodes other (map_for m.chunks) (root_tree s) ROOT_TREE (pointer_to_root r.root) (root_tree_items m r) (root_tree_is m r nodes)
      (read_by other (form m) ROOT_TREE (take r.root.nodes (drop (root_from r) (slots m))) (root_tree_items m r) r.root trees.root (map_for m.chunks)
      (All-take (GivesItself (map_for m.chunks) m.options.nodesize) r.root.nodes (drop (root_from r) (slots m)) (All-drop (GivesItself (map_for m.chunks) m.options.nodesize) (root_from r) (slots m) slots_give)))

  whole : (trees_refusals other s boot ≡ []) × (map_from other s boot ≡ map_for m.chunks)
  whole =
      trees_none other s boot (map range_for (boot_part m.chunks)) (map_for m.chunks) ranges_are chunk_read.0 items_read.sound items_read.map_is root_read.0

  pub opened : IsBtrfsOpened other (super_for m r nodes) (map_for m.chunks)
  opened =
      opened_by other s boot (map_for m.chunks) (super_reads o ids now image other m r nodes v) boot_is
      (array_sound (new_ids m) (length other) [] (boot_part m.chunks) (λ c h. lies c (from_filter (λ (d : PlannedChunk). is_system_role d.role) m.chunks c h).0) (λ c d h k. absurd (omega (arith, k.1))) parts_ascend)
      whole.0 whole.1
    where
      parts_ascend : AllPairs (λ c d. c.start + c.length ≤ d.start) (boot_part m.chunks)
      parts_ascend = AllPairs-filter (λ (c d : PlannedChunk). c.start + c.length ≤ d.start) (λ (d : PlannedChunk). is_system_role d.role) m.chunks are_chunks.ascending

  pub maps_chunks : MapsChunks other m r nodes
  maps_chunks = record { boot = boot_is; map_is = sym opened.map_is; ranges = are_ranges_of m.chunks; own = all_itself image m making fit_size }

pub chunks_map : ChunksMap
chunks_map = λ o ids now image other m r nodes v. maps_chunks o ids now image other m r nodes v
