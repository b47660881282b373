-- The trees of a converted volume are read, and it is readable.
use Rattle.convert_core_laws.proofs.Imports.{◌≡◌, ◌⊎◌, ◌≤◌, ◌<◌, ℕ, ◌^◌, inl, inr, List, [], ◌∷◌, map, drop, length, Option, Some, None, Ok, Err, sym, ap, subst, ◌∙◌, ⊎_elim, arith, length-drop, Contains, All, All-drop, SUPER_BLOCK, CONV_IMAGE_SUBVOL, EXTENT_TREE, FIRST_FREE_OBJECTID, FS_TREE, Image, block_at, BtrRefusal, Ids, has_root, BreaksNames, Item, chunk_map, opening_refusals, tree_of, own_map, own_super, pointer_of, root_item, root_pointer, BreaksExtents, IsFileTreeRefusal, roots_on, no_root_item, bad_root_item, bad_tree, bad_names, bad_extents, Super, super_refusals, unless_refused, super_of, super_in, Root, TreeItem, bare_item, found, wrong, MapRange, NodePointer, IsMaking, Making, new_ids, saved_index, slots, TreesStand, extents_from, file_tree_items, form, root_tree_items, TreeRoots, NamedTree, named_trees, all_from_contains, extent_items, tree_root_item as item_of_root, root_body, TreeNode, TreeRoot, TreeStands, pointer_to_root, Options, ConvertedIsReadable, IsReadableWithTrees, OpensWithTrees, TreesRead, AreRangesFor, GivesItsOwn, IsNewVolume, ReadsTree, ReadsTrees, map_for, super_for, Files, SavedImage, tree_number, option_and_then, root_item_of}
use Rattle.convert_core.specs.convert_steps.Standing.{items_of}
use Rattle.convert_core_laws.proofs.reading.Mapped.{slot_small}
use Rattle.convert_core_laws.proofs.reading.Numbers.{size_small, slots_few}
use Rattle.convert_core_laws.proofs.reading.Opening.{later_read, maps_chunks, opened, root_read}
use Rattle.convert_core_laws.proofs.reading.Rooted.{IsFoundRoot, extents_found, low_pointer, named, root_reads, tree_found}
use Rattle.convert_core_laws.proofs.reading.Named.{every_named, tree_read, tree_stands}
use Rattle.convert_core_laws.proofs.reading.Stood.{root_at, root_low}
use Rattle.convert_core_laws.proofs.reading.Superblock.{reads, size, super_reads}

pub none_of : (xs : List BtrRefusal) (r : BtrRefusal) → xs ≡ [] → ¬ Contains xs r
none_of [] r is h = omega (arith, h.1)
none_of (x ∷ xs) r is h = cc is

some_pointer : (p q : NodePointer) → Some p ≡ Some q → p ≡ q
some_pointer p q e = cc

some_item : (i j : TreeItem) → Some i ≡ Some j → i ≡ j
some_item i j e = cc

no_item : (o : Option TreeItem) (i : TreeItem) → o ≡ None → o ≡ Some i → ⊥
no_item o i none some = absurd (cc)

no_pointer : (o : Option NodePointer) (p : NodePointer) → o ≡ None → o ≡ Some p → ⊥
no_pointer o p none some = absurd (cc)

-- a superblock that is read is what the block is
is_super : (rs : List BtrRefusal) (x y : Super) → unless_refused rs x ≡ Ok y → x ≡ y
is_super [] x y e = cc e
is_super (r ∷ rs) x y e = absurd (cc e)

super_is : (block : List ℕ) (device : ℕ) (s : Super) → super_of block SUPER_BLOCK device ≡ Ok s → super_in block ≡ s
unfolding super_of
super_is block device s e = is_super (super_refusals block SUPER_BLOCK device) (super_in block) s e

-- the file tree is refused for its names or its extents alone
module _ (image : Image) (s : Super) (ranges : List MapRange) (root : Root) (items : List Item) (tree : ReadsTree image s ranges FS_TREE root items) where
  pointer_is : (i : TreeItem) (p : NodePointer) → root_item FS_TREE (roots_on image s ranges) ≡ Some i → pointer_of i.body ≡ Some p → p ≡ pointer_to_root root
  pointer_is i p has leads_to =
      let same : i ≡ tree.item = some_item i tree.item (sym has ∙ tree.has_item) in
      some_pointer p (pointer_to_root root) (sym leads_to ∙ (ap (λ (j : TreeItem). pointer_of j.body) same ∙ tree.leads))

  pub rest : (r : BtrRefusal) → IsFileTreeRefusal image s ranges r
      → BreaksNames (has_root (roots_on image s ranges)) (found image ranges (tree_of s FS_TREE (pointer_to_root root))) root.address r ⊎ BreaksExtents ranges (found image ranges (tree_of s FS_TREE (pointer_to_root root))) r
  rest r (no_root_item none is) = absurd (no_item (root_item FS_TREE (roots_on image s ranges)) tree.item none tree.has_item)
  rest r (bad_root_item i has none is) = absurd (no_pointer (pointer_of i.body) (pointer_to_root root) none (ap (λ (j : TreeItem). pointer_of j.body) (some_item i tree.item (sym has ∙ tree.has_item)) ∙ tree.leads))
  rest r (bad_tree i p has leads_to among) = absurd (none_of (wrong image ranges (tree_of s FS_TREE p)) r (ap (λ (q : NodePointer). wrong image ranges (tree_of s FS_TREE q)) (pointer_is i p has leads_to) ∙ tree.sound) among)
  rest r (bad_names i p has leads_to breaks) =
      inl (subst (λ (q : NodePointer). BreaksNames (has_root (roots_on image s ranges)) (found image ranges (tree_of s FS_TREE q)) q.address r) (pointer_is i p has leads_to) breaks)
  rest r (bad_extents i p has leads_to breaks) = inr (subst (λ (q : NodePointer). BreaksExtents ranges (found image ranges (tree_of s FS_TREE q)) r) (pointer_is i p has leads_to) breaks)

module _ (o : Options) (ids : Ids) (now : ℕ) (image other : Image) (m : Making) (r : TreeRoots) (nodes : List TreeNode) (v : IsNewVolume o ids now image other m r nodes) where
  abbrev making : IsMaking image m
  making = v.new.conversion.making

  abbrev trees : TreesStand image other other m r nodes
  trees = v.new.stands.trees

  abbrev s : Super
  s = super_for m r nodes

  abbrev ranges : List MapRange
  ranges = map_for m.chunks

  -- a root item is read back
  pub root_told : (number k : ℕ) (root : Root) (items : List Item) → TreeStands other (form m) number (drop k (slots m)) items root
      → root_item_of (item_of_root (new_ids m) m.options.nodesize (record { tree = number; root = root })).1 ≡ Some (root_body (new_ids m) m.options.nodesize (record { tree = number; root = root }))
  root_told number k root items stands =
      let fit = size o ids now image other m r nodes v in
      let own : TreeRoot = record { tree = number; root = root } in
      let low : root.level ≤ 6 = root_low other (form m) number (drop k (slots m)) items root stands fit (let few = slots_few image m making fit in let long = length-drop k (slots m) in omega (arith, few, long)) in
      let small : root.address < 2 ^ 41 = root_at other (form m) number (drop k (slots m)) items root stands (λ (a : ℕ). a < 2 ^ 41) (All-drop (λ (a : ℕ). a < 2 ^ 41) k (slots m) (all_from_contains (λ (a : ℕ). a < 2 ^ 41) (slots m) (slot_small image m making fit))) in
      let few : root.nodes ≤ 2 ^ 40 = (let all = slots_few image m making fit in let long = length-drop k (slots m) in let fits = stands.few in omega (arith, all, long, fits)) in
      root_reads (new_ids m) m.options.nodesize own v.ids_ (size_small m.options.nodesize fit) (omega (arith, small)) (omega (arith, low)) few

  -- it leads to the root of its tree
  pub root_leads : (number k : ℕ) (root : Root) (items : List Item) → TreeStands other (form m) number (drop k (slots m)) items root
      → pointer_of (item_of_root (new_ids m) m.options.nodesize (record { tree = number; root = root })).1 ≡ Some (pointer_to_root root)
  root_leads number k root items stands =
      let fit = size o ids now image other m r nodes v in
      let own : TreeRoot = record { tree = number; root = root } in
      let low : root.level ≤ 6 = root_low other (form m) number (drop k (slots m)) items root stands fit (let few = slots_few image m making fit in let long = length-drop k (slots m) in omega (arith, few, long)) in
      ap (option_and_then root_pointer) (root_told number k root items stands) ∙ low_pointer (root_body (new_ids m) m.options.nodesize own) (omega (arith, low))

  -- a tree whose root item is found
  read_tree : (number k : ℕ) (root : Root) (items : List Item) → TreeStands other (form m) number (drop k (slots m)) items root
      → IsFoundRoot number (roots_on other (super_for m r nodes) (map_for m.chunks)) (item_of_root (new_ids m) m.options.nodesize (record { tree = number; root = root }))
      → ReadsTree other (super_for m r nodes) (map_for m.chunks) number root items
  read_tree number k root items stands at =
      let read = later_read o ids now image other m r nodes v number k items root stands in
      record {
        item = at.item;
        has_item = at.has;
        leads = ap (λ (i : Item). pointer_of i.1) at.is ∙ root_leads number k root items stands;
        sound = read.0;
        items_are = read.1;
      }

  abbrev roots : List TreeItem
  roots = roots_on other (super_for m r nodes) (map_for m.chunks)

  roots_are : map bare_item (roots_on other (super_for m r nodes) (map_for m.chunks)) ≡ root_tree_items m r
  roots_are = (root_read o ids now image other m r nodes v).1

  pub all_read : ReadsTrees image other (super_for m r nodes) (map_for m.chunks) m r nodes
  all_read = record {
    roots_sound = (root_read o ids now image other m r nodes v).0;
    roots_are = roots_are;
    each = each_read;
    names_saved = named FIRST_FREE_OBJECTID roots saved_root.item saved_root.has;
  }
    where
      saved_root : IsFoundRoot CONV_IMAGE_SUBVOL roots (item_of_root (new_ids m) m.options.nodesize (record { tree = CONV_IMAGE_SUBVOL; root = r.tree SavedImage }))
      saved_root = tree_found r (saved_index m) (new_ids m) m.now m.options.nodesize roots roots_are SavedImage

      each_read : All (λ t. ReadsTree other (super_for m r nodes) (map_for m.chunks) t.number t.root t.items) (named_trees image other m r nodes)
      each_read =
          every_named image other m r nodes (λ (t : NamedTree). ReadsTree other (super_for m r nodes) (map_for m.chunks) t.number t.root t.items)
          (read_tree EXTENT_TREE (extents_from r) r.extents (extent_items m.chunks m.pieces nodes m.options.nodesize) trees.extents (extents_found r (saved_index m) (new_ids m) m.now m.options.nodesize roots roots_are))
          (λ t.
          let at = tree_stands image other m r nodes other trees t in
          read_tree (tree_number t) at.first (r.tree t) (items_of image other m t) at.stands (tree_found r (saved_index m) (new_ids m) m.now m.options.nodesize roots roots_are t))

  pub opens : OpensWithTrees image other m r nodes
  opens = record { opened = opened o ids now image other m r nodes v; trees = all_read }

  pub own_super_is : own_super other ≡ super_for m r nodes
  own_super_is = super_is (block_at other SUPER_BLOCK) (length other) (super_for m r nodes) (super_reads o ids now image other m r nodes v)

  own_map_is : own_map other ≡ map_for m.chunks
  own_map_is = ap (λ (t : Super). chunk_map other t) own_super_is ∙ sym (opened o ids now image other m r nodes v).map_is

  own_trees : ReadsTrees image other (own_super other) (own_map other) m r nodes
  own_trees =
      subst (λ (t : Super). ReadsTrees image other t (own_map other) m r nodes) (sym own_super_is)
      (subst (λ (rs : List MapRange). ReadsTrees image other (super_for m r nodes) rs m r nodes) (sym own_map_is) all_read)

  pub readable : IsReadableWithTrees image other m r nodes
  readable = record {
    superblock = λ refusal is. not_both s refusal (sym (super_reads o ids now image other m r nodes v) ∙ is);
    opening = λ refusal among. none_of (opening_refusals other) refusal (opened o ids now image other m r nodes v).sound among;
    log = (reads o ids now image other m r nodes v).log;
    super_is = own_super_is;
    map_is = own_map_is;
    ranges = subst (AreRangesFor m.chunks) (sym own_map_is) (maps_chunks o ids now image other m r nodes v).ranges;
    own = subst (GivesItsOwn m) (sym own_map_is) (maps_chunks o ids now image other m r nodes v).own;
    trees = own_trees;
    rest = λ refusal after.
        ⊎_elim (λ early. absurd (none_of (opening_refusals other) refusal (opened o ids now image other m r nodes v).sound early))
        (λ late. rest other (own_super other) (own_map other) (r.tree Files) (file_tree_items image m) (tree_read image other (own_super other) (own_map other) m r nodes own_trees Files) refusal late.1) after;
  }
    where
      not_both : (t : Super) (refusal : BtrRefusal) → Ok t ≡ Err refusal → ⊥
      not_both t refusal e = cc

pub trees_read : TreesRead
trees_read = λ o ids now image other m r nodes v. opens o ids now image other m r nodes v

pub converted_is_readable : ConvertedIsReadable
converted_is_readable = λ o ids now image other m r nodes v. readable o ids now image other m r nodes v
