-- What is found of a volume depends on the blocks of its nodes alone.
use Rattle.btr_reader.proofs.Imports.{◌≡◌, ◌∙◌, ℕ, Bool, List, [], ◌∷◌, ◌++◌, length, Option, Some, Result, Ok, Err, refl, sym, ap, subst, option_and_then, SUPER_BLOCK, FS_TREE, Image, block_at, BtrRefusal, has_root, BreaksNames, items_refusals, with_items, entry_refusals, image_below, image_from, image_in, image_place, image_refusals, image_refusals_in, items_at, pointer_in, refusals_below, refusals_from, root_refusals, saved_location, saved_image, tree_number, if_there, boot_chunks, boot_list, boot_refusals, chunk_map, chunk_tree, map_from, opening_refusals, or_later, refusals_after, root_tree, super_on, tree_of, trees_refusals, own_map, own_super, way_refusals, root_item, BreaksExtents, IsFileTreeRefusal, bad_extents, bad_names, bad_root_item, bad_tree, no_root_item, roots_on, super_of, super_refusals, unless_refused, super_in, Super, TreeItem, found, wrong, MapRange, NodePointer, AreExtentsApart, AreNodesApart, IsSameOutside, IsVolumeApart, boot_map, root_of, saved_tree}
use Rattle.std.specs.Prelude.{Contains}
use Rattle.btr_reader.proofs.Chosen.{after_root_same, and_then_same, if_there_same}
use Rattle.btr_reader.proofs.Nodes.{apart_same, found_same, wrong_same}

abbrev ok_of : Super → Result Super BtrRefusal
ok_of s = Ok s

ok_is : (x y : Super) → ok_of x ≡ ok_of y → x ≡ y
ok_is x y h = cc h

unrefused : (rs : List BtrRefusal) (x y : Super) → unless_refused rs x ≡ Ok y → x ≡ y
unrefused [] x y h = ok_is x y h
unrefused (r ∷ rs) x y h = absurd (cc h)

super_is : (block : List ℕ) (device : ℕ) (s : Super) → super_of block SUPER_BLOCK device ≡ Ok s → super_in block ≡ s
unfolding super_of
super_is block device s h = unrefused (super_refusals block SUPER_BLOCK device) (super_in block) s h

module _ (test : ℕ → Bool) (image other : Image) (apart : IsVolumeApart test image) (same : IsSameOutside test image other) where
  block_16 : block_at other SUPER_BLOCK ≡ block_at image SUPER_BLOCK
  block_16 = same.others 16 apart.superblock

  pub fields_same : own_super other ≡ own_super image
  fields_same = ap super_in block_16

  pub super_same : super_on other ≡ super_on image
  super_same = ap (λ (bytes : List ℕ). super_of bytes SUPER_BLOCK (length other)) block_16 ∙ ap (λ (n : ℕ). super_of (block_at image SUPER_BLOCK) SUPER_BLOCK n) same.size

  abbrev s : Super
  s = own_super image

  abbrev ranges : List MapRange
  ranges = own_map image

  chunks_same : found other (boot_map s) (chunk_tree s) ≡ found image (boot_map s) (chunk_tree s)
  chunks_same = found_same test image other same (boot_map s) (chunk_tree s) apart.chunks

  made_same : map_from other s (boot_list (boot_chunks s)) ≡ ranges
  made_same = ap (λ (items : List TreeItem). with_items (boot_list (boot_chunks s)) (boot_map s) items) chunks_same

  pub map_same : own_map other ≡ own_map image
  map_same = ap (λ (t : Super). chunk_map other t) fields_same ∙ made_same

  -- the same of the other disk's superblock and map
  pub over : (F : Super → List MapRange → Type 0) → F s ranges → F (own_super other) (own_map other)
  over F is = subst (λ (t : Super). F t (own_map other)) (sym fields_same) (subst (F s) (sym map_same) is)

  pub both : {A : Type 0} (F : Super → List MapRange → A) → F (own_super other) (own_map other) ≡ F s ranges
  both F = ap (λ (t : Super). F t (own_map other)) fields_same ∙ ap (F s) map_same

  pub roots_same : roots_on other s ranges ≡ roots_on image s ranges
  roots_same = found_same test image other same ranges (root_tree s) apart.roots

  root_same : (number : ℕ) → root_of other number ≡ root_of image number
  root_same number =
      both (λ t m. pointer_in (root_item number (roots_on other t m))) ∙ ap (λ (items : List TreeItem). pointer_in (root_item number items)) roots_same

  module _ (number : ℕ) (p : NodePointer) (nodes : AreNodesApart test image ranges (tree_of s number p)) where
    pub items_same : items_at other s ranges number p ≡ items_at image s ranges number p
    items_same = found_same test image other same ranges (tree_of s number p) nodes

    damages_same : wrong other ranges (tree_of s number p) ≡ wrong image ranges (tree_of s number p)
    damages_same = wrong_same test image other same ranges (tree_of s number p) nodes

    entries_same : entry_refusals other ranges (tree_of s number p) ≡ entry_refusals image ranges (tree_of s number p)
    entries_same =
        ap (λ (w : List BtrRefusal). w ++ root_refusals (items_at other s ranges number p)) damages_same
        ∙ ap (λ (items : List TreeItem). wrong image ranges (tree_of s number p) ++ root_refusals items) items_same

    nodes_apart : AreNodesApart test other (own_map other) (tree_of (own_super other) number p)
    nodes_apart = over (λ t m. AreNodesApart test other m (tree_of t number p)) (apart_same test image other same ranges (tree_of s number p) nodes)

  -- ---- the way to the saved image
  abbrev saved_number : Image → NodePointer → Option ℕ
  saved_number x p = option_and_then tree_number (saved_location (items_at x s ranges FS_TREE p))

  number_same : (p : NodePointer) → root_of image FS_TREE ≡ Some p → saved_number other p ≡ saved_tree image p
  number_same p is = ap (λ (items : List TreeItem). option_and_then tree_number (saved_location items)) (items_same FS_TREE p (apart.files p is))

  pub saved_tree_same : (p : NodePointer) → root_of image FS_TREE ≡ Some p → saved_tree other p ≡ saved_tree image p
  saved_tree_same p is = both (λ t m. option_and_then tree_number (saved_location (items_at other t m FS_TREE p))) ∙ number_same p is

  image_below_same : (p : NodePointer) → root_of image FS_TREE ≡ Some p → (number : ℕ) → saved_tree image p ≡ Some number
      → image_below other s ranges number (root_item number (roots_on other s ranges)) ≡ image_below image s ranges number (root_item number (roots_on image s ranges))
  image_below_same p is number saved =
      ap (λ (items : List TreeItem). image_below other s ranges number (root_item number items)) roots_same
      ∙ and_then_same (λ q. image_in (items_at other s ranges number q)) (λ q. image_in (items_at image s ranges number q)) (root_of image number)
      (λ q at. ap image_in (items_same number q (apart.saved p number q is saved at)))

  pub image_same : saved_image other (own_super other) (own_map other) ≡ saved_image image s ranges
  image_same =
      both (λ t m. saved_image other t m)
      ∙ (ap (λ (items : List TreeItem). image_from other s ranges (root_item FS_TREE items)) roots_same
      ∙ and_then_same
      (λ p. option_and_then (λ number. image_below other s ranges number (root_item number (roots_on other s ranges))) (saved_number other p))
      (λ p. option_and_then (λ number. image_below image s ranges number (root_item number (roots_on image s ranges))) (saved_tree image p))
      (root_of image FS_TREE)
      (λ p is.
      ap (λ (n : Option ℕ). option_and_then (λ number. image_below other s ranges number (root_item number (roots_on other s ranges))) n) (number_same p is)
      ∙ and_then_same
      (λ number. image_below other s ranges number (root_item number (roots_on other s ranges)))
      (λ number. image_below image s ranges number (root_item number (roots_on image s ranges)))
      (saved_tree image p) (image_below_same p is)))

  refusals_below_same : (p : NodePointer) → root_of image FS_TREE ≡ Some p → (number : ℕ) → saved_tree image p ≡ Some number
      → refusals_below other s ranges number (root_item number (roots_on other s ranges)) ≡ refusals_below image s ranges number (root_item number (roots_on image s ranges))
  refusals_below_same p is number saved =
      ap (λ (items : List TreeItem). refusals_below other s ranges number (root_item number items)) roots_same
      ∙ after_root_same
      (λ q. or_later (entry_refusals other ranges (tree_of s number q)) (image_refusals_in ranges (items_at other s ranges number q)))
      (λ q. or_later (entry_refusals image ranges (tree_of s number q)) (image_refusals_in ranges (items_at image s ranges number q)))
      (root_item number (roots_on image s ranges))
      (λ q at.
      let nodes = apart.saved p number q is saved at in
      ap (λ (early : List BtrRefusal). or_later early (image_refusals_in ranges (items_at other s ranges number q))) (entries_same number q nodes)
      ∙ ap (λ (items : List TreeItem). or_later (entry_refusals image ranges (tree_of s number q)) (image_refusals_in ranges items)) (items_same number q nodes))

  abbrev below_of : Image → ℕ → List BtrRefusal
  below_of x number = refusals_below x s ranges number (root_item number (roots_on x s ranges))

  pub way_same : way_refusals other ≡ way_refusals image
  way_same =
      both (λ t m. image_refusals other t m)
      ∙ (ap (λ (items : List TreeItem). refusals_from other s ranges (root_item FS_TREE items)) roots_same
      ∙ after_root_same
      (λ p. or_later (entry_refusals other ranges (tree_of s FS_TREE p)) (if_there (below_of other) (saved_number other p)))
      (λ p. or_later (entry_refusals image ranges (tree_of s FS_TREE p)) (if_there (below_of image) (saved_tree image p)))
      (root_item FS_TREE (roots_on image s ranges))
      (λ p is.
      ap (λ (early : List BtrRefusal). or_later early (if_there (below_of other) (saved_number other p))) (entries_same FS_TREE p (apart.files p is))
      ∙ ap (λ (later : List BtrRefusal). or_later (entry_refusals image ranges (tree_of s FS_TREE p)) later)
      (ap (λ (n : Option ℕ). if_there (below_of other) n) (number_same p is) ∙ if_there_same (below_of other) (below_of image) (saved_tree image p) (refusals_below_same p is))))

  -- ---- the opening
  trees_same : trees_refusals other s (boot_list (boot_chunks s)) ≡ trees_refusals image s (boot_list (boot_chunks s))
  trees_same =
      let boot = boot_list (boot_chunks s) in
      ap (λ (w : List BtrRefusal). or_later (w ++ items_refusals (length other) boot (boot_map s) (found other (boot_map s) (chunk_tree s))) (wrong other (map_from other s boot) (root_tree s)))
      (wrong_same test image other same (boot_map s) (chunk_tree s) apart.chunks)
      ∙ (ap (λ (n : ℕ). or_later (wrong image (boot_map s) (chunk_tree s) ++ items_refusals n boot (boot_map s) (found other (boot_map s) (chunk_tree s))) (wrong other (map_from other s boot) (root_tree s))) same.size
      ∙ (ap (λ (items : List TreeItem). or_later (wrong image (boot_map s) (chunk_tree s) ++ items_refusals (length image) boot (boot_map s) items) (wrong other (map_from other s boot) (root_tree s))) chunks_same
      ∙ (ap (λ (m : List MapRange). or_later (wrong image (boot_map s) (chunk_tree s) ++ items_refusals (length image) boot (boot_map s) (found image (boot_map s) (chunk_tree s))) (wrong other m (root_tree s))) made_same
      ∙ ap (λ (w : List BtrRefusal). or_later (wrong image (boot_map s) (chunk_tree s) ++ items_refusals (length image) boot (boot_map s) (found image (boot_map s) (chunk_tree s))) w)
      (wrong_same test image other same ranges (root_tree s) apart.roots))))

  abbrev read_after : Image → Super → List BtrRefusal
  read_after x t = or_later (boot_refusals (length x) (boot_chunks t)) (trees_refusals x t (boot_list (boot_chunks t)))

  own_after : read_after other s ≡ read_after image s
  own_after =
      ap (λ (n : ℕ). or_later (boot_refusals n (boot_chunks s)) (trees_refusals other s (boot_list (boot_chunks s)))) same.size
      ∙ ap (λ (later : List BtrRefusal). or_later (boot_refusals (length image) (boot_chunks s)) later) trees_same

  after_same : (read : Result Super BtrRefusal) → super_on image ≡ read → refusals_after other read ≡ refusals_after image read
  after_same (Err r) is = refl
  after_same (Ok t) is = subst (λ (t : Super). read_after other t ≡ read_after image t) (super_is (block_at image SUPER_BLOCK) (length image) t is) own_after

  pub opening_same : opening_refusals other ≡ opening_refusals image
  unfolding opening_refusals
  opening_same = ap (λ (read : Result Super BtrRefusal). refusals_after other read) super_same ∙ after_same (super_on image) refl

  -- ---- the file tree
  pub root_item_same : root_item FS_TREE (roots_on other s ranges) ≡ root_item FS_TREE (roots_on image s ranges)
  root_item_same = ap (λ (items : List TreeItem). root_item FS_TREE items) roots_same

  refused_same : (r : BtrRefusal) → IsFileTreeRefusal image s ranges r → IsFileTreeRefusal other s ranges r
  refused_same r (no_root_item none is) = no_root_item (root_item_same ∙ none) is
  refused_same r (bad_root_item i at none is) = bad_root_item i (root_item_same ∙ at) none is
  refused_same r (bad_tree i p at pointer among) =
      bad_tree i p (root_item_same ∙ at) pointer
      (subst (λ (w : List BtrRefusal). Contains w r) (sym (damages_same FS_TREE p (apart.files p (ap pointer_in at ∙ pointer)))) among)
  refused_same r (bad_names i p at pointer breaks) =
      bad_names i p (root_item_same ∙ at) pointer
      (subst (λ (roots : List TreeItem). BreaksNames (has_root roots) (items_at other s ranges FS_TREE p) p.address r) (sym roots_same)
      (subst (λ (items : List TreeItem). BreaksNames (has_root (roots_on image s ranges)) items p.address r) (sym (items_same FS_TREE p (apart.files p (ap pointer_in at ∙ pointer)))) breaks))
  refused_same r (bad_extents i p at pointer breaks) =
      bad_extents i p (root_item_same ∙ at) pointer
      (subst (λ (items : List TreeItem). BreaksExtents ranges items r) (sym (items_same FS_TREE p (apart.files p (ap pointer_in at ∙ pointer)))) breaks)

  pub tree_refused : (r : BtrRefusal) → IsFileTreeRefusal image s ranges r → IsFileTreeRefusal other (own_super other) (own_map other) r
  tree_refused r is = over (λ t m. IsFileTreeRefusal other t m r) (refused_same r is)

  -- the parts of the other disk's volume lie apart, too
  pub apart_again : IsVolumeApart test other
  apart_again = record {
    superblock = apart.superblock;
    chunks = subst (λ (t : Super). AreNodesApart test other (boot_map t) (chunk_tree t)) (sym fields_same) (apart_same test image other same (boot_map s) (chunk_tree s) apart.chunks);
    roots = over (λ t m. AreNodesApart test other m (root_tree t)) (apart_same test image other same ranges (root_tree s) apart.roots);
    files = λ p is. nodes_apart FS_TREE p (apart.files p (sym (root_same FS_TREE) ∙ is));
    extents = λ p is.
        let here = sym (root_same FS_TREE) ∙ is in
        over (λ t m. AreExtentsApart test m (items_at other t m FS_TREE p)) (subst (λ (items : List TreeItem). AreExtentsApart test ranges items) (sym (items_same FS_TREE p (apart.files p here))) (apart.extents p here));
    saved = λ p number q is saved at.
        let here = sym (root_same FS_TREE) ∙ is in
        nodes_apart number q (apart.saved p number q here (sym (saved_tree_same p here) ∙ saved) (sym (root_same number) ∙ at));
    blocks = λ f b place is at. apart.blocks f b place (sym image_same ∙ is) (subst (λ (m : List MapRange). image_place m f b ≡ Some place) map_same at);
  }
