-- The recount of a converted volume: each tree is there. Its bootstrap array has the system chunks.
use Rattle.convert_core_laws.proofs.Imports.{slots, IsMaking, Making, chunk_slots, new_ids, drop, ◌≡◌, ◌≤◌, ◌<◌, ℕ, ◌+◌, eqb, Bool, true, false, List, ◌++◌, map, refl, sym, ap, subst, ◌∙◌, ⊎_elim, arith, cond, filter, Option, Some, ◌∷◌, ◌||◌, [], ◌^◌, ◌*◌, ap₂, get_or, All, AllPairs, Contains, flat_map, map-append, All-map, All-head, All-tail, All-cons, All-contains, CHUNK_TREE, ROOT_TREE, EXTENT_TREE, from_filter, in_filter, Image, Ids, Item, keys_of, boot_chunks, boot_list, chunk_map, chunk_tree, form_of, root_tree, tree_of, ChunkAt, Recount, TreeOn, chunks_on, RootOn, recount, recount_by, recount_of, root_by, roots_in, tree_on, plain_root, last_snapshot_of, all_trees, NewIdsFit, ConvertedVolumesAreRecounted, chunk_made, contains_cases, contains_head, contains_tail, all_from_contains, chunk_item, chunk_items, chunk_kind, Super, GivesItself, Root, nodes_in, walk_events, IsTree, tree_refusals, bare_item, MapRange, Form, NodePointer, TreesStand, form, TreeRoots, named_trees, NamedTree, extents_from, root_tree_items, named_extents, is_system_role, new_super, MapsChunks, IsNewVolume, ReadsTrees, boot_part, chunk_at, map_for, other_part, super_for, two_cases, TreeNode, pointer_to_root, TreeStands, IsChunk, role_of, usable_end, PlannedChunk, Role, System, Metadata, Data, Options, all_at, recount_for, tree_for, trees_for, named_on, walked_tree, numbers_ascend, pairs_of, IsArray, chunk_by, is_system, system_chunks, tree_faults, is_chunk_key, placed_chunk, extent_items, tree_number, tree_root_item, pointer_of, option_map_or, met_alone, Ascends, RootItem}
use Rattle.convert_core.specs.convert_steps.Standing.{items_of}
use Rattle.convert_core_laws.proofs.reading.Chunks.{all_fit}
use Rattle.convert_core_laws.proofs.reading.Opening.{maps_chunks, opened}
use Rattle.convert_core_laws.proofs.reading.Named.{every_named, extents_named, tree_stands}
use Rattle.convert_core_laws.proofs.reading.Reading.{all_read, own_super_is, root_leads, root_told}
use Rattle.convert_core_laws.proofs.reading.Stood.{IsRead, read_by}
use Rattle.convert_core_laws.proofs.soundness.ChunkList.{Known, chunks_added}
use Rattle.convert_core_laws.proofs.soundness.Recounting.{form_is, volume_for}
use Rattle.convert_core_laws.proofs.soundness.Stripes.{small}

module _ (m : Making) (r : TreeRoots) (nodes : List TreeNode) where
  chunk_root_is : (chunk_tree (super_for m r nodes)).root ≡ pointer_to_root r.chunk
  unfolding new_super
  chunk_root_is = refl

  root_root_is : (root_tree (super_for m r nodes)).root ≡ pointer_to_root r.root
  unfolding new_super
  root_root_is = refl

module _ (o : Options) (ids : Ids) (now : ℕ) (image other : Image) (m : Making) (r : TreeRoots) (nodes : List TreeNode) (v : IsNewVolume o ids now image other m r nodes) where
  abbrev making : IsMaking image m
  making = v.new.conversion.making

  abbrev stand : TreesStand image other other m r nodes
  stand = v.new.stands.trees

  abbrev s : Super
  s = super_for m r nodes

  abbrev k : Recount
  k = recount_for image other m r nodes

  abbrev own : List MapRange
  own = chunk_map other (super_for m r nodes)

  maps : MapsChunks other m r nodes
  maps = maps_chunks o ids now image other m r nodes v

  pub map_is : chunk_map other (super_for m r nodes) ≡ map_for m.chunks
  map_is = maps.map_is

  reads : ReadsTrees image other (super_for m r nodes) (chunk_map other (super_for m r nodes)) m r nodes
  reads = subst (λ (rs : List MapRange). ReadsTrees image other (super_for m r nodes) rs m r nodes) (sym map_is) (all_read o ids now image other m r nodes v)

  -- ---- each tree is read

  abbrev pub IsReadAs : ℕ → Root → List Item → Type 0
  IsReadAs number root items = IsTree other own (form_of s) (pointer_to_root root) number items

  chunk_read : IsReadAs CHUNK_TREE r.chunk (chunk_items (new_ids m) m.volume.sup.blocks m.chunks)
  chunk_read =
      let gives : All (GivesItself own m.options.nodesize) (chunk_slots m) =
      all_from_contains (GivesItself own m.options.nodesize) (chunk_slots m) (λ a h. subst (λ (rs : List MapRange). GivesItself rs m.options.nodesize a) (sym map_is) (maps.own.chunk_nodes a h)) in
      let read : IsRead other own (form m) (pointer_to_root r.chunk) CHUNK_TREE (chunk_items (new_ids m) m.volume.sup.blocks m.chunks) =
      read_by other (form m) CHUNK_TREE (chunk_slots m) (chunk_items (new_ids m) m.volume.sup.blocks m.chunks) r.chunk stand.chunk own gives in
      let is : IsTree other own (form m) (pointer_to_root r.chunk) CHUNK_TREE (chunk_items (new_ids m) m.volume.sup.blocks m.chunks) = record { sound = read.sound; items_are = read.items_are } in
      subst (λ (f : Form). IsTree other own f (pointer_to_root r.chunk) CHUNK_TREE (chunk_items (new_ids m) m.volume.sup.blocks m.chunks)) (sym (form_is m r nodes)) is

  root_read : IsReadAs ROOT_TREE r.root (root_tree_items m r)
  root_read =
      subst (λ (p : NodePointer). IsTree other own (form_of s) p ROOT_TREE (root_tree_items m r)) (root_root_is m r nodes) (record { sound = reads.roots_sound; items_are = reads.roots_are })

  abbrev NamedIsRead : NamedTree → Type 0
  NamedIsRead t = IsReadAs t.number t.root t.items

  each_read : All NamedIsRead (named_trees image other m r nodes)
  each_read = λ i d h. let tree = reads.each i d h in record { sound = tree.sound; items_are = tree.items_are }

  -- what is read is what was written
  tree_is : (number : ℕ) (root : Root) (items : List Item) → IsReadAs number root items → tree_on other (super_for m r nodes) (plain_root number (pointer_to_root root)) ≡ tree_for other (super_for m r nodes) number root items
  tree_is number root items is =
      let met = met_alone other own (tree_of s number (pointer_to_root root)) is.sound in
      ap₂ (λ (ps : List NodePointer) (xs : List Item). walked_tree number (pointer_to_root root, ps) xs) met.nodes_are (ap (map bare_item) met.items_are ∙ is.items_are)

  -- ---- the roots

  abbrev root_for : NamedTree → RootOn
  root_for t = plain_root t.number (pointer_to_root t.root)

  abbrev root_item_for : NamedTree → Item
  root_item_for t = tree_root_item (new_ids m) m.options.nodesize (record { tree = t.number; root = t.root })

  abbrev Leads : NamedTree → Type 0
  Leads t = (pointer_of (root_item_for t).1 ≡ Some (pointer_to_root t.root)) × (last_snapshot_of (root_item_for t).1 ≡ 0)

  leads : (number k : ℕ) (root : Root) (items : List Item) → TreeStands other (form m) number (drop k (slots m)) items root → Leads (record { number = number; root = root; items = items })
  leads number k root items stands =
      (root_leads o ids now image other m r nodes v number k root items stands, ap (λ (x : Option RootItem). option_map_or (λ told. told.last_snapshot) x 0) (root_told o ids now image other m r nodes v number k root items stands))

  all_lead : All Leads (named_trees image other m r nodes)
  all_lead =
      every_named image other m r nodes Leads
      (leads EXTENT_TREE (extents_from r) r.extents (extent_items m.chunks m.pieces nodes m.options.nodesize) stand.extents)
      (λ t. let at = tree_stands image other m r nodes other stand t in leads (tree_number t) at.first (r.tree t) (items_of image other m t) at.stands)

  pointed : (ts : List NamedTree) → All Leads ts → flat_map (λ (i : Item). root_by i (pointer_of i.1)) (map root_item_for ts) ≡ map root_for ts
  pointed [] all = refl
  pointed (t ∷ ts) all =
      ap (λ (p : Option NodePointer). root_by (root_item_for t) p ++ flat_map (λ (i : Item). root_by i (pointer_of i.1)) (map root_item_for ts)) (All-head Leads t ts all).0
      ∙ ap (λ (n : ℕ). record (root_for t) { last_snapshot = n } ∷ flat_map (λ (i : Item). root_by i (pointer_of i.1)) (map root_item_for ts)) (All-head Leads t ts all).1
      ∙ ap (λ (l : List RootOn). root_for t ∷ l) (pointed ts (All-tail Leads t ts all))

  roots_are : roots_in (root_tree_items m r) ≡ map root_for (named_trees image other m r nodes)
  roots_are = pointed (named_trees image other m r nodes) all_lead

  abbrev tree_of_root : RootOn → TreeOn
  tree_of_root x = tree_on other (super_for m r nodes) x

  trees_of : (ts : List NamedTree) → All NamedIsRead ts → map tree_of_root (map root_for ts) ≡ map (named_on other (super_for m r nodes)) ts
  trees_of [] all = refl
  trees_of (t ∷ ts) all = ap₂ (λ (u : TreeOn) (us : List TreeOn). u ∷ us) (tree_is t.number t.root t.items (All-head NamedIsRead t ts all)) (trees_of ts (All-tail NamedIsRead t ts all))

  abbrev others : List TreeOn
  others = trees_for image other m r nodes s

  others_are : map tree_of_root (roots_in (root_tree_items m r)) ≡ others
  others_are = ap (map tree_of_root) roots_are ∙ trees_of (named_trees image other m r nodes) each_read

  pub all_once : AllPairs (λ t u. t.number < u.number) others
  all_once = pairs_of (λ (t : TreeOn). t.number) others numbers_ascend

  -- ---- the chunks

  booted : boot_list (boot_chunks (super_for m r nodes)) ≡ map (chunk_at (new_ids m)) (boot_part m.chunks)
  booted = ap boot_list maps.boot

  known : Known (new_ids m) (boot_part m.chunks) v.ids_.device m.chunks
  known = record {
    small = small o ids now image other m r nodes v;
    booted = λ c h t. in_filter (λ (d : PlannedChunk). is_system_role d.role) m.chunks c h t;
    others = λ c d h f k e. elsewhere c d h f k e;
  }
    where
      some : (c : PlannedChunk) → Contains m.chunks c → 1 ≤ c.length
      some c h = (all_at (IsChunk (role_of m.plan m.volume.sup.blocks) (usable_end m.volume.sup.blocks)) m.chunks c making.chunks_are.each h).not_empty

      differ : (b : Bool) → b ≡ true → b ≡ false → ⊥
      differ true t f = cc f
      differ false t f = cc t

      elsewhere : (c d : PlannedChunk) → Contains m.chunks c → is_system_role c.role ≡ false → Contains (boot_part m.chunks) d → c.start ≡ d.start → ⊥
      elsewhere c d h f among e =
          let at = from_filter (λ (x : PlannedChunk). is_system_role x.role) m.chunks d among in
          let first = some c h in
          let second = some d at.0 in
          ⊎_elim
          (λ (same : c ≡ d). differ (is_system_role d.role) at.1 (subst (λ (x : PlannedChunk). is_system_role x.role ≡ false) same f))
          (λ apart. ⊎_elim (λ low. omega (arith, low, e, first)) (λ high. omega (arith, high, e, second)) apart)
          (two_cases (λ (x y : PlannedChunk). x.start + x.length ≤ y.start) m.chunks c d making.chunks_are.ascending h at.0)

  chunks_are : k.chunks ≡ chunks_on (boot_list (boot_chunks (super_for m r nodes))) k.chunk_tree.items
  chunks_are =
      map-append (chunk_at (new_ids m)) (boot_part m.chunks) (other_part m.chunks)
      ∙ sym (ap (λ (l : List ChunkAt). chunks_on l (chunk_items (new_ids m) m.volume.sup.blocks m.chunks)) booted
      ∙ chunks_added (new_ids m) (boot_part m.chunks) v.ids_.device m.volume.sup.blocks m.chunks known)

  -- ---- the recount

  pub recount_is : recount other ≡ k
  recount_is =
      ap (recount_by other) (own_super_is o ids now image other m r nodes v)
      ∙ (ap₂ (recount_of other (super_for m r nodes)) (ap (λ (p : NodePointer). tree_on other (super_for m r nodes) (plain_root CHUNK_TREE p)) (chunk_root_is m r nodes) ∙ tree_is CHUNK_TREE r.chunk (chunk_items (new_ids m) m.volume.sup.blocks m.chunks) chunk_read)
      (ap (λ (p : NodePointer). tree_on other (super_for m r nodes) (plain_root ROOT_TREE p)) (root_root_is m r nodes) ∙ tree_is ROOT_TREE r.root (root_tree_items m r) root_read)
      ∙ ap₂ (λ (cs : List ChunkAt) (us : List TreeOn). let c : Recount = record { super = super_for m r nodes; chunks = cs; chunk_tree = k.chunk_tree; root_tree = k.root_tree; others = us } in c) (sym chunks_are) others_are)

  -- nothing is wrong with any tree
  abbrev HasNoFault : TreeOn → Type 0
  HasNoFault t = tree_faults other k t ≡ []

  right : (number : ℕ) (root : Root) (items : List Item) → IsReadAs number root items → HasNoFault (tree_for other (super_for m r nodes) number root items)
  right number root items is = (met_alone other own (tree_of s number (pointer_to_root root)) is.sound).sound

  pub all_read_as : (P : TreeOn → Type 0) → ((number : ℕ) (root : Root) (items : List Item) → IsReadAs number root items → P (tree_for other (super_for m r nodes) number root items)) → All P (all_trees k)
  all_read_as P each =
      All-cons P k.chunk_tree (k.root_tree ∷ k.others) (each CHUNK_TREE r.chunk (chunk_items (new_ids m) m.volume.sup.blocks m.chunks) chunk_read)
      (All-cons P k.root_tree k.others (each ROOT_TREE r.root (root_tree_items m r) root_read)
      (All-map P (named_on other (super_for m r nodes)) (named_trees image other m r nodes) (λ i d h. let t = get_or (named_trees image other m r nodes) i d in each t.number t.root t.items (each_read i d h))))

  pub no_faults : All HasNoFault (all_trees k)
  no_faults = all_read_as HasNoFault right

  -- the keys of the extent tree ascend
  pub extents_rise : Ascends (keys_of (extent_items m.chunks m.pieces nodes m.options.nodesize))
  extents_rise =
      let is = All-contains NamedIsRead (named_trees image other m r nodes) (named_extents m r nodes) each_read (extents_named image other m r nodes) in
      subst (λ (xs : List Item). Ascends (keys_of xs)) is.items_are (met_alone other own (tree_of s EXTENT_TREE (pointer_to_root r.extents)) is.sound).rises

  -- ---- the bootstrap array

  -- an item of the chunk tree is read as the chunk of the plan
  abbrev read_chunk : Item → List ChunkAt
  read_chunk i = chunk_by (placed_chunk i.0.offset i.1)

  abbrev is_chunk_item : Item → Bool
  is_chunk_item i = is_chunk_key i.0

  all_placed : (cs : List PlannedChunk) → ((c : PlannedChunk) → Contains cs c → c.start + c.length ≤ 2 ^ 29) → flat_map read_chunk (filter is_chunk_item (map (chunk_item (new_ids m)) cs)) ≡ map (chunk_at (new_ids m)) cs
  all_placed [] few = refl
  all_placed (c ∷ cs) few =
      let fits = all_fit (new_ids m) (c ∷ []) v.ids_.device (λ d h. ⊎_elim (λ (same : c ≡ d). subst (λ (e : PlannedChunk). e.start + e.length ≤ 2 ^ 29) same (few c (contains_head c cs))) (λ (none : Contains [] d). absurd (omega (arith, none.1))) (contains_cases d c [] h)) in
      let here : placed_chunk (4096 * c.start) (chunk_item (new_ids m) c).1 ≡ Some (chunk_at (new_ids m) c) = chunk_made (chunk_at (new_ids m) c) fits.0 in
      ap (λ (o : Option ChunkAt). chunk_by o ++ flat_map read_chunk (filter is_chunk_item (map (chunk_item (new_ids m)) cs))) here
      ∙ ap (λ (l : List ChunkAt). chunk_at (new_ids m) c ∷ l) (all_placed cs (λ d h. few d (contains_tail d c cs h)))

  by_role : (role : Role) → (eqb (chunk_kind role) 2 || eqb (chunk_kind role) 34) ≡ is_system_role role
  by_role System = refl
  by_role Metadata = refl
  by_role Data = refl

  system_kept : (cs : List PlannedChunk) → filter is_system (map (chunk_at (new_ids m)) cs) ≡ map (chunk_at (new_ids m)) (boot_part cs)
  system_kept [] = refl
  system_kept (c ∷ cs) =
      let rest : List ChunkAt = filter is_system (map (chunk_at (new_ids m)) cs) in
      ap (λ (b : Bool). cond b (chunk_at (new_ids m) c ∷ rest) rest) (by_role c.role) ∙ by (is_system_role c.role) (system_kept cs)
    where
      by : (b : Bool) → filter is_system (map (chunk_at (new_ids m)) cs) ≡ map (chunk_at (new_ids m)) (boot_part cs)
          → cond b (chunk_at (new_ids m) c ∷ filter is_system (map (chunk_at (new_ids m)) cs)) (filter is_system (map (chunk_at (new_ids m)) cs)) ≡ map (chunk_at (new_ids m)) (cond b (c ∷ boot_part cs) (boot_part cs))
      by true e = ap (λ (l : List ChunkAt). chunk_at (new_ids m) c ∷ l) e
      by false e = e

  pub array : IsArray k
  array =
      let told : system_chunks k.chunk_tree.items ≡ map (chunk_at (new_ids m)) (boot_part m.chunks) =
      ap (filter is_system) (all_placed m.chunks (small o ids now image other m r nodes v)) ∙ system_kept m.chunks in
      λ c. (
        λ h. subst (λ (l : List ChunkAt). Contains l c) (booted ∙ sym told) h,
        λ h. subst (λ (l : List ChunkAt). Contains l c) (told ∙ sym booted) h,
      )

pub converted_volumes_are_recounted : NewIdsFit → ConvertedVolumesAreRecounted
converted_volumes_are_recounted fit = λ o ids now image other m r nodes is size low are has bytes.
    let v = volume_for fit o ids now image other m r nodes is size are has in ((opened o ids now image other m r nodes v).sound, recount_is o ids now image other m r nodes v)
