-- The root items and the nodes of a converted volume keep the rules of Linux.
use Rattle.convert_core_laws.proofs.Imports.{◌≡◌, ◌≢◌, ◌≤◌, ◌<◌, ℕ, suc, ◌+◌, ◌%◌, ◌^◌, inl, eqb, Bool, true, List, [], ◌∷◌, length, take, drop, refl, ap, arith, length-drop, map, get_or, filter, length-append, ◌/◌, ⊎_elim, inr, replicate, sym, subst, ◌∙◌, nat_le, nat_lt, ◌||◌, ◌&&◌, false, All, AllPairs, Contains, list_any, All-append, All-drop, All-from_recursion, All-map, All-nil, All-take, All-contains, All-permutation, IsPermutation-sym, EXTENT_TREE, FIRST_FREE_OBJECTID, TREE_RELOC, CHUNK_TREE, ROOT_TREE, FS_TREE, DATA_RELOC_TREE, all_from_contains, Image, Ids, Item, heads_in, IsNodeSize, NodePointer, Super, Recount, TreeOn, all_trees, holds_files, object_of, has_tree, file_trees, is_file_tree, IsRootItem, KeepsTrees, needed_trees, KeepsSuper, is_root_ref, referring, refused_at, pointer_to, packed_leaves, tree_levels, level_pointers, lengths_of, pointers_to, Root, TreeStands, Making, chunk_slots, new_ids, slots, IsMaking, saved_index, TreesStand, extents_from, form, root_from, TreeRoots, NamedTree, named_trees, rooted_trees, root_tree_items, named_in, extent_items, root_body, root_dirid, tree_root_item, other_root_items, TreeNode, TreeRoot, Options, NewIdsFit, IsNewVolume, super_for, boot_part, ConvertedTreesAreSound, recount_for, named_on, numbers_ascend, pairs_of, tree_number, list_any-from_Any, System, PlannedChunk, IsChunk, role_of, usable_end, all_at, any_from, boot_bytes, record_bytes, is_system_role, new_super, chunk_item, chunk_items, chunk_ends, in_filter, in_map, from_filter, item_cmp, all-merge, slot_unit, Files, each_at, pairs_at, length_record, chunk_map, ArePacked as IsPackedTo, HasLinuxForm, eqb-true, le-leb, FilesAreHeld, ImageKeysAscend, InodesAreThere, HasFirstKey, KeepsChildren, KeepsNode, KeepsNodes, node_bytes, behind_head}
use Rattle.std.proofs.Common.{flat_map, if◌then◌else◌}
use Rattle.convert_core.specs.convert_steps.Standing.{items_of}
use Rattle.btr_check_rules.specs.Nodes.{ArePacked}
use Rattle.btr_reader.specs.btr_node.Inner.{children_in}
use Rattle.btr_reader.specs.btr_node.declared.child.Child.{Child}
use Rattle.btr_reader.specs.btr_node.declared.item.BtrItemHead.{BtrItemHead}
use Rattle.convert_core_laws.proofs.reading.Mapped.{slot_small}
use Rattle.convert_core_laws.proofs.reading.Numbers.{size_small, slots_few}
use Rattle.convert_core_laws.proofs.reading.Rooted.{root_reads}
use Rattle.convert_core_laws.proofs.reading.Stood.{root_at, root_low}
use Rattle.convert_core_laws.proofs.reading.Superblock.{size}
use Rattle.convert_core_laws.proofs.soundness.Nodes.{AreAt, AreInForm, IsFresh, forms, chunk_at, extents_at, packed_at, root_at as root_tree_at, tree_at}
use Rattle.convert_core_laws.proofs.soundness.OwnKinds.{AreKept, all_kept}
use Rattle.convert_core_laws.proofs.soundness.Recounting.{generation_is, nodesize_is, volume_for}
use Rattle.convert_core_laws.proofs.soundness.Apart.{size_some}
use Rattle.convert_core_laws.proofs.soundness.RootTree.{root_files}
use Rattle.convert_core_laws.proofs.soundness.Trees.{array, no_faults}
use Rattle.convert_core_laws.proofs.soundness.Within.{system_there}
use Rattle.convert_core_laws.proofs.soundness.Unreserved.{place_whole, slot_holds}
use Rattle.convert_core_laws.proofs.reading.Named.{every_named, is_named, tree_stands}
use Rattle.convert_core_laws.proofs.soundness.Among.{extents_in, tree_in, trees_all}
use Rattle.convert_core_laws.proofs.soundness.Listed.{settled}

-- the nodes of all levels are of one generation
level_of : (generation level skip : ℕ) (list sizes : List ℕ) → All (λ p. p.generation ≡ generation) (level_pointers generation level skip list sizes)
level_of generation level skip list [] = All-nil (λ (p : NodePointer). p.generation ≡ generation)
level_of generation level skip list (n ∷ sizes) =
    All-append (λ (p : NodePointer). p.generation ≡ generation) (pointers_to generation level skip n list) (level_pointers generation (suc level) (skip + n) list sizes)
    (All-map (λ (p : NodePointer). p.generation ≡ generation) (pointer_to generation level) (take n (drop skip list)) (λ k d h. refl)) (level_of generation (suc level) (skip + n) list sizes)

-- a tree of files begins with the directory 256
dirid : (number : ℕ) → holds_files number ≡ true → root_dirid number ≡ FIRST_FREE_OBJECTID
dirid number is = ap (λ (b : Bool). if b then 256 else 0) (in_tree (eqb number FS_TREE) (nat_le FIRST_FREE_OBJECTID number) (nat_lt number (2 ^ 48)) (eqb number DATA_RELOC_TREE) (λ t. let at = eqb-true number DATA_RELOC_TREE t in le-leb FIRST_FREE_OBJECTID number (omega (arith, at))) is)
  where
    in_tree : (a b c d : Bool) → (d ≡ true → b ≡ true) → (a || (b && c)) || d ≡ true → a || b ≡ true
    in_tree true b c d last t = refl
    in_tree false true c d last t = refl
    in_tree false false c d last t = last t

abbrev Differ : Item → Item → Type 0
Differ i j = i.0.objectid ≢ j.0.objectid

module _ (o : Options) (ids : Ids) (now : ℕ) (image other : Image) (m : Making) (r : TreeRoots) (nodes : List TreeNode) (v : IsNewVolume o ids now image other m r nodes) where
  abbrev stand : TreesStand image other other m r nodes
  stand = v.new.stands.trees

  abbrev k : Recount
  k = recount_for image other m r nodes

  abbrev fit : IsNodeSize m.options.nodesize
  fit = size o ids now image other m r nodes v

  -- ---- root items

  abbrev item : ℕ → Root → Item
  item number root = tree_root_item (new_ids m) m.options.nodesize (record { tree = number; root = root })

  slots_hold : (Q : ℕ → Type 0) (k : ℕ) → ((a : ℕ) → Contains (slots m) a → Q a) → All Q (drop k (slots m))
  slots_hold Q k each = All-drop Q k (slots m) (all_from_contains Q (slots m) each)

  -- the root item of a tree at the slots from a number on
  is_root : (number k : ℕ) (root : Root) (items : List Item) → TreeStands other (form m) number (drop k (slots m)) items root → number ≢ TREE_RELOC → IsRootItem (super_for m r nodes) (item number root)
  is_root number k root items stands settled =
      let low : root.level ≤ 6 = root_low other (form m) number (drop k (slots m)) items root stands fit (let few = slots_few image m v.new.conversion.making fit in let long = length-drop k (slots m) in omega (arith, few, long)) in
      let small : root.address < 2 ^ 41 = root_at other (form m) number (drop k (slots m)) items root stands (λ (a : ℕ). a < 2 ^ 41) (slots_hold (λ (a : ℕ). a < 2 ^ 41) k (slot_small image m v.new.conversion.making fit)) in
      let whole : root.address % 4096 ≡ 0 = root_at other (form m) number (drop k (slots m)) items root stands (λ (a : ℕ). a % 4096 ≡ 0) (slots_hold (λ (a : ℕ). a % 4096 ≡ 0) k (place_whole m.options.nodesize fit m.plan.metadata)) in
      let few : root.nodes ≤ 2 ^ 40 = (let all = slots_few image m v.new.conversion.making fit in let long = length-drop k (slots m) in let fits = stands.few in omega (arith, all, long, fits)) in
      let newest = generation_is m r nodes in
      let own : TreeRoot = record { tree = number; root = root } in
      record {
        root = root_body (new_ids m) m.options.nodesize own;
        root_is = root_reads (new_ids m) m.options.nodesize own v.ids_ (size_small m.options.nodesize fit) (omega (arith, small)) (omega (arith, low)) few;
        generations = (omega (arith, newest), omega (arith, newest), omega (arith, newest));
        address = whole;
        level = omega (arith, low);
        flags = omega arith;
        whole = (refl, refl);
        settled = settled;
        place = inl refl;
        files = λ holds. (refl, dirid number holds);
      }

  -- those of all trees, by their numbers
  abbrev items : List Item
  items = map (λ (x : NamedTree). item x.number x.root) (named_trees image other m r nodes)

  all_roots : All (IsRootItem (super_for m r nodes)) items
  all_roots =
      All-map (IsRootItem (super_for m r nodes)) (λ (x : NamedTree). item x.number x.root) (named_trees image other m r nodes)
      (every_named image other m r nodes (λ (x : NamedTree). IsRootItem (super_for m r nodes) (item x.number x.root))
      (is_root EXTENT_TREE (extents_from r) r.extents (extent_items m.chunks m.pieces nodes m.options.nodesize) stand.extents (λ e. omega (arith, e)))
      (λ t.
      let at = tree_stands image other m r nodes other stand t in
      is_root (tree_number t) at.first (r.tree t) (items_of image other m t) at.stands (settled t)))

  all_differ : AllPairs Differ items
  all_differ =
      let up : AllPairs (λ i j. i.0.objectid < j.0.objectid) items = pairs_of (λ (i : Item). i.0.objectid) items numbers_ascend in
      λ i j d l h e. let less : (get_or items i d).0.objectid < (get_or items j d).0.objectid = up i j d l h in omega (arith, less, e)

  -- ---- nodes

  abbrev IsNotNewer : TreeOn → Type 0
  IsNotNewer t = All (λ p. p.generation ≤ k.super.generation) t.nodes

  not_newer : (t : TreeOn) (list : List ℕ) → AreAt o ids now image other m r nodes v list t → IsNotNewer t
  not_newer t list are =
      let newest = generation_is m r nodes in
      let packed : List NodePointer = packed_at m.options.nodesize list t.items in
      let one : All (λ p. p.generation ≡ 1) packed = level_of 1 0 0 list (tree_levels m.options.nodesize (length (packed_leaves m.options.nodesize (lengths_of t.items)))) in
      let met : All (λ p. p.generation ≡ 1) t.nodes = All-permutation (λ (p : NodePointer). p.generation ≡ 1) packed t.nodes (IsPermutation-sym t.nodes packed are) one in
      λ i d h. let is = met i d h in omega (arith, is, newest)

  none_newer : All IsNotNewer (all_trees k)
  none_newer =
      trees_all image other m r nodes IsNotNewer (not_newer k.chunk_tree (chunk_slots m) (chunk_at o ids now image other m r nodes v))
      (not_newer k.root_tree (take r.root.nodes (drop (root_from r) (slots m))) (root_tree_at o ids now image other m r nodes v))
      (not_newer (extents_in image other m r nodes) (drop (extents_from r) (slots m)) (extents_at o ids now image other m r nodes v))
      (λ t. not_newer (tree_in image other m r nodes t) (drop (tree_stands image other m r nodes other stand t).first (slots m)) (tree_at o ids now image other m r nodes v t))

  -- what is packed by one definition is so by the other
  same_packed : (end : ℕ) (heads : List BtrItemHead) → IsPackedTo end heads → ArePacked end heads
  same_packed end [] packed = tt
  same_packed end (h ∷ heads) packed = (packed.0, same_packed h.offset heads packed.1)

  in_form : (t : TreeOn) (p : NodePointer) → Contains (all_trees k) t → Contains t.nodes p → HasLinuxForm other (chunk_map other (super_for m r nodes)) m.options.nodesize p
  in_form t p h l = (All-contains (IsFresh other (chunk_map other (super_for m r nodes)) m.options.nodesize) t.nodes p (all_at (AreInForm o ids now image other m r nodes v) (all_trees k) t (forms o ids now image other m r nodes v) h) l).0

  sized : (t : TreeOn) (p : NodePointer) → Contains (all_trees k) t → Contains t.nodes p → HasLinuxForm other (chunk_map other (super_for m r nodes)) k.super.nodesize p
  sized t p h l = subst (λ (n : ℕ). HasLinuxForm other (chunk_map other (super_for m r nodes)) n p) (sym (nodesize_is m r nodes)) (in_form t p h l)

  keeps_node : (t : TreeOn) (p : NodePointer) → Contains (all_trees k) t → Contains t.nodes p → KeepsNode other k p
  keeps_node t p h l =
      let is = sized t p h l in
      let flag : ℕ → List ℕ = λ n. (1 + n) ∷ replicate 6 0 in
      record {
        written = record {
          flags = ⊎_elim (λ (none : is.written.flags.0 ≡ 0). inl (is.written.flags.2 ∙ ap flag none)) (λ (one : is.written.flags.0 ≡ 2). inr (is.written.flags.2 ∙ ap flag one)) is.written.flags.1;
          revision = is.written.revision;
        };
        generation = All-contains (λ (q : NodePointer). q.generation ≤ k.super.generation) t.nodes p (all_at IsNotNewer (all_trees k) t none_newer h) l;
        packed = λ level. same_packed (length (behind_head (node_bytes other k p.address))) (heads_in (node_bytes other k p.address)) (is.packed level);
      }

  keeps_children : (a : ℕ) (t : TreeOn) (p : NodePointer) → Contains (all_trees k) t → Contains t.nodes p → KeepsChildren other k a p
  keeps_children a t p h l = λ inner. each_at (λ (c : Child). c.address) a (HasFirstKey other k) (children_in (node_bytes other k p.address)) ((sized t p h l).firsts inner)

  keeps_nodes : (a : ℕ) (t : TreeOn) → Contains (all_trees k) t → KeepsNodes other k a t
  keeps_nodes a t h = record {
    each = each_at (λ (p : NodePointer). p.address) a (KeepsNode other k) t.nodes (all_from_contains (KeepsNode other k) t.nodes (λ p l. keeps_node t p h l));
    children = all_from_contains (KeepsChildren other k a) t.nodes (λ p l. keeps_children a t p h l);
  }

  -- ---- the superblock

  abbrev IsWholePage : ℕ → Type 0
  IsWholePage a = a % 4096 ≡ 0

  root_page : IsWholePage r.root.address
  root_page =
      root_at other (form m) ROOT_TREE (take r.root.nodes (drop (root_from r) (slots m))) (root_tree_items m r) r.root stand.root IsWholePage
      (All-take IsWholePage r.root.nodes (drop (root_from r) (slots m)) (slots_hold IsWholePage (root_from r) (place_whole m.options.nodesize fit m.plan.metadata)))

  -- the root of the chunk tree lies at one of its slots
  chunk_root_at : (Q : ℕ → Type 0) → ((a : ℕ) → Contains (chunk_slots m) a → Q a) → Q r.chunk.address
  chunk_root_at Q each = root_at other (form m) CHUNK_TREE (chunk_slots m) (chunk_items (new_ids m) m.volume.sup.blocks m.chunks) r.chunk stand.chunk Q (all_from_contains Q (chunk_slots m) each)

  record HasSystemChunk : Type 0 where
    chunk : PlannedChunk
    among : Contains m.chunks chunk
    role_is : chunk.role ≡ System

  system_chunk : HasSystemChunk
  system_chunk =
      chunk_root_at (λ a. HasSystemChunk) (λ a h.
      let unit = slot_unit m.options.nodesize m.plan.system (a / 4096) fit (slot_holds m.options.nodesize fit m.plan.system a a h (omega arith) (let some = size_some m.options.nodesize fit in omega (arith, some))) in
      let at = system_there o ids now image other m r nodes v (a / 4096 / 256) unit in
      record { chunk = at.0; among = at.1; role_is = at.2 })

  part_long : (cs : List PlannedChunk) (c : PlannedChunk) → Contains cs c → 97 ≤ length (flat_map (λ d. record_bytes (chunk_item (new_ids m) d)) cs)
  part_long [] c h = absurd (omega (arith, h.1))
  part_long (d ∷ cs) c h =
      let first = length_record (new_ids m) d v.ids_.device in
      let whole = length-append (record_bytes (chunk_item (new_ids m) d)) (flat_map (λ e. record_bytes (chunk_item (new_ids m) e)) cs) in
      omega (arith, first, whole)

  array_long : 97 ≤ length (boot_bytes (new_ids m) m.chunks)
  array_long =
      let at = system_chunk in
      part_long (boot_part m.chunks) at.chunk (in_filter (λ (d : PlannedChunk). is_system_role d.role) m.chunks at.chunk at.among (ap is_system_role at.role_is))

  some_blocks : 1 ≤ m.volume.sup.blocks
  some_blocks =
      let at = system_chunk in
      let making : IsMaking image m = v.new.conversion.making in
      let end = all_at (λ (d : PlannedChunk). d.start + d.length ≤ m.volume.sup.blocks) m.chunks at.chunk (chunk_ends m.plan m.volume.sup.blocks m.chunks making.chunks_are) at.among in
      let some = (all_at (IsChunk (role_of m.plan m.volume.sup.blocks) (usable_end m.volume.sup.blocks)) m.chunks at.chunk making.chunks_are.each at.among).not_empty in
      omega (arith, end, some)

  keeps_super : KeepsSuper (super_for m r nodes)
  unfolding new_super
  keeps_super =
      let long = array_long in
      let some = some_blocks in
      record {
        flags = omega arith;
        roots = (root_page, chunk_root_at IsWholePage (place_whole m.options.nodesize fit m.plan.system));
        sizes = (refl, refl);
        array = long;
        some = λ none. omega (arith, none, some);
        generation = omega arith;
      }

  -- ---- references between trees

  abbrev RefersToFiles : Item → Type 0
  RefersToFiles i = is_root_ref i ≡ true → list_any (λ (t : TreeOn). eqb t.number (referring i)) (file_trees k) ≡ true

  files_there : list_any (λ (t : TreeOn). eqb t.number FS_TREE) (file_trees k) ≡ true
  files_there =
      let t : TreeOn = tree_in image other m r nodes Files in
      let among : Contains (file_trees k) t =
      in_filter is_file_tree k.others t (in_map (named_on other (super_for m r nodes)) (named_trees image other m r nodes) (named_in image other m r Files) (is_named image other m r nodes Files)) refl in
      list_any-from_Any (λ (u : TreeOn). eqb u.number FS_TREE) (file_trees k) (any_from (λ (u : TreeOn). eqb u.number FS_TREE ≡ true) (file_trees k) t among refl)

  refer_all : All RefersToFiles (root_tree_items m r)
  refer_all =
      all-merge item_cmp RefersToFiles (map (tree_root_item (new_ids m) m.options.nodesize) (rooted_trees r)) (other_root_items (saved_index m) m.now)
      (All-map RefersToFiles (tree_root_item (new_ids m) m.options.nodesize) (rooted_trees r) (λ i d h is. absurd (cc is)))
      (All-from_recursion RefersToFiles (other_root_items (saved_index m) m.now) ((λ is. files_there), ((λ is. absurd (cc is)), ((λ is. absurd (cc is)), ((λ is. absurd (cc is)), ((λ is. files_there), tt))))))

  -- ---- the part

  abbrev Refers : Item → Type 0
  Refers i = list_any (λ (t : TreeOn). eqb t.number (referring i)) (file_trees k) ≡ true

  abbrev IsNeeded : ℕ → Type 0
  IsNeeded number = has_tree k number ≡ true

  pub keeps : m.now < 2 ^ 63 → All AreKept (all_trees k) → (a : ℕ) → KeepsTrees other k a
  keeps low kinds a = record {
    sound = λ i d h. subst (All (λ fault. refused_at fault ≢ a)) (sym (no_faults o ids now image other m r nodes v i d h)) (All-nil (λ fault. refused_at fault ≢ a));
    nodes = all_from_contains (KeepsNodes other k a) (all_trees k) (keeps_nodes a);
    needed = each_at (λ (number : ℕ). number) a IsNeeded needed_trees (All-from_recursion IsNeeded needed_trees (refl, (refl, (refl, (refl, (refl, tt))))));
    root_items = each_at object_of a (IsRootItem k.super) items all_roots;
    root_once = pairs_at object_of a Differ items all_differ;
    root_refs = each_at referring a Refers (filter is_root_ref (root_tree_items m r)) (all_from_contains Refers (filter is_root_ref (root_tree_items m r)) (λ i h.
        let kept = from_filter is_root_ref (root_tree_items m r) i h in all_at RefersToFiles (root_tree_items m r) i refer_all kept.0 kept.1));
    kinds = each_at (λ (t : TreeOn). t.number) a AreKept (all_trees k) kinds;
    root_files = λ at. root_files image other m r nodes low;
    super = λ at. keeps_super;
    array = λ at. array o ids now image other m r nodes v;
  }

pub converted_trees_are_sound : NewIdsFit → FilesAreHeld → ImageKeysAscend → InodesAreThere → ConvertedTreesAreSound
converted_trees_are_sound fit held rising are_there = λ o ids now image other m r nodes is size low are has bytes.
    let v = volume_for fit o ids now image other m r nodes is size are has in
    keeps o ids now image other m r nodes v (subst (λ (n : ℕ). n < 2 ^ 63) (sym v.new.conversion.now_is) low) (all_kept o ids now image other m r nodes v held rising are_there low bytes)
