-- What differs in spare blocks alone can go back too.
use Rattle.volume_state.proofs.Imports.{◌≡◌, ⊎_elim, inl, inr, ℕ, ◌<◌, min, List, [], ◌++◌, length, Contains, Option, Some, None, refl, sym, ◌∙◌, ap, subst, arith, option_and_then, ext_get_or, FS_TREE, Image, block_at, ImageFile, items_at, pointer_in, saved_location, tree_number, chunk_tree, root_tree, SavedImage, own_map, own_super, root_item, Super, TreeEvent, TreeItem, nodes_in, MapRange, NodePointer, Tree, AreNodesApart, IsSameOutside, boot_map, root_of, IsAccepted, superblock, used_of, IsReserved, SpareBlocksDecideNothing, is_spare, IsOld, block_or_hole, blocks_by, file_blocks, image_blocks, place_by_file, saved_file, saved_place, CanGoBack, HoldsExtent, HoldsNode, HoldsNodeOf, HoldsPartOf, IsInUse, chunk_node, file_part, file_pointer, file_trees, named_by, numbered, root_node, tree_if}
use Rattle.btr_reader.specs.MetadataLaws.{IsDecided, IsSameBtrfs}
use Rattle.btr_reader.proofs.Decided.{metadata_decides}
use Rattle.btr_reader.proofs.Nodes.{found_same, met_same}
use Rattle.btr_reader.proofs.Volumes.{both, items_same, roots_same}
use Rattle.volume_state.proofs.Images.{block_by, length_by}
use Rattle.volume_state.proofs.Spare.{chunks_apart, file_nodes_apart, in_use_apart, roots_apart, spare_apart, superblock_apart}

module _ (disk other : Image) (u : CanGoBack disk) (same : IsSameOutside (is_spare disk) disk other) where
  abbrev s : Super
  s = own_super disk

  abbrev ranges : List MapRange
  ranges = own_map disk

  decided : IsDecided (is_spare disk) disk other
  decided = metadata_decides (is_spare disk) disk other (spare_apart disk u) same

  abbrev volume : IsSameBtrfs disk other
  volume = decided.same

  -- ---- the saved image
  place_same : (b : ℕ) → saved_place other b ≡ saved_place disk b
  place_same b = ap (λ (m : List MapRange). place_by_file m (saved_file other) b) volume.map ∙ ap (λ (f : Option ImageFile). place_by_file ranges f b) volume.saved

  place_block : (f : Option ImageFile) (b : ℕ) (o : Option ℕ) → saved_file disk ≡ f → place_by_file ranges f b ≡ o → block_or_hole other o ≡ block_or_hole disk o
  place_block f b None is at = refl
  place_block None b (Some place) is at = absurd (cc at)
  place_block (Some f) b (Some place) is at = volume.contents f b place is at

  image_same : image_blocks other ≡ image_blocks disk
  unfolding image_blocks
  image_same = ext_get_or [] _ _ (long ∙ sym (length_by (saved_place disk) n disk)) each
    where
      n : ℕ
      n = file_blocks (saved_file disk)

      count : file_blocks (saved_file other) ≡ n
      count = ap file_blocks volume.saved

      long : length (blocks_by (saved_place other) (file_blocks (saved_file other)) other) ≡ min n (length disk)
      long =
          length_by (saved_place other) (file_blocks (saved_file other)) other
          ∙ (ap (λ (k : ℕ). min k (length other)) count ∙ ap (λ (k : ℕ). min n k) same.size)

      each : (b : ℕ) → b < length (blocks_by (saved_place other) (file_blocks (saved_file other)) other)
          → block_at (blocks_by (saved_place other) (file_blocks (saved_file other)) other) b ≡ block_at (blocks_by (saved_place disk) n disk) b
      each b below =
          let inside : b < min n (length disk) = omega (arith, below, long) in
          let there : b < min (file_blocks (saved_file other)) (length other) = omega (arith, below, length_by (saved_place other) (file_blocks (saved_file other)) other) in
          block_by (saved_place other) (file_blocks (saved_file other)) other b there
          ∙ (ap (λ (o : Option ℕ). block_or_hole other o) (place_same b)
          ∙ (place_block (saved_file disk) b (saved_place disk b) refl refl
          ∙ sym (block_by (saved_place disk) n disk b inside)))

  -- ---- the blocks in use
  nodes_of : (m : List MapRange) (t : Tree) → AreNodesApart (is_spare disk) disk m t → (b : ℕ) → HoldsNodeOf other m t b → HoldsNodeOf disk m t b
  nodes_of m t apart b holds =
      subst (λ (events : List TreeEvent). HoldsNode (nodes_in events) m t.form.nodesize b) (met_same (is_spare disk) disk other same m t apart) holds

  pointer_same : file_pointer other s ranges ≡ file_pointer disk s ranges
  pointer_same = ap (λ (items : List TreeItem). pointer_in (root_item FS_TREE items)) (roots_same (is_spare disk) disk other (spare_apart disk u) same)

  numbered_same : (o : Option ℕ) → numbered other s ranges o ≡ numbered disk s ranges o
  numbered_same None = refl
  numbered_same (Some number) =
      ap (λ (items : List TreeItem). tree_if s number (pointer_in (root_item number items))) (roots_same (is_spare disk) disk other (spare_apart disk u) same)

  named_same : (o : Option NodePointer) → root_of disk FS_TREE ≡ o → named_by other s ranges o ≡ named_by disk s ranges o
  named_same None is = refl
  named_same (Some p) is =
      let apart = spare_apart disk u in
      numbered_same (option_and_then tree_number (saved_location (items_at other s ranges FS_TREE p)))
      ∙ ap (λ (items : List TreeItem). numbered disk s ranges (option_and_then tree_number (saved_location items))) (items_same (is_spare disk) disk other apart same 5 p (apart.files p is))

  trees_same : file_trees other (own_super other) (own_map other) ≡ file_trees disk s ranges
  trees_same =
      both (is_spare disk) disk other (spare_apart disk u) same (λ t m. file_trees other t m)
      ∙ (ap (λ (o : Option NodePointer). tree_if s FS_TREE o ++ named_by other s ranges o) pointer_same
      ∙ ap (λ (more : List Tree). tree_if s FS_TREE (file_pointer disk s ranges) ++ more) (named_same (file_pointer disk s ranges) refl))

  in_use_same : (b : ℕ) → IsInUse other b → IsInUse disk b
  in_use_same b (chunk_node holds) =
      chunk_node (nodes_of (boot_map s) (chunk_tree s) (chunks_apart disk u) b (subst (λ (t : Super). HoldsNodeOf other (boot_map t) (chunk_tree t) b) volume.fields holds))
  in_use_same b (root_node holds) =
      root_node (nodes_of ranges (root_tree s) (roots_apart disk u) b
      (subst (λ (m : List MapRange). HoldsNodeOf other m (root_tree s) b) volume.map (subst (λ (t : Super). HoldsNodeOf other (own_map other) (root_tree t) b) volume.fields holds)))
  in_use_same b (file_part holding) =
      let among : Contains (file_trees disk s ranges) holding.tree = subst (λ (trees : List Tree). Contains trees holding.tree) trees_same holding.among in
      let nodes = file_nodes_apart disk u holding.tree among in
      let here = subst (λ (m : List MapRange). HoldsPartOf other m holding.tree b) volume.map holding.holds in
      let holds : HoldsPartOf disk ranges holding.tree b =
      ⊎_elim (λ node. inl (nodes_of ranges holding.tree nodes b node))
      (λ extent. inr (subst (λ (items : List TreeItem). HoldsExtent items ranges b) (found_same (is_spare disk) disk other same ranges holding.tree nodes) extent)) here in
      file_part (record { tree = holding.tree; among = among; holds = holds })

  -- ---- all of it
  stays : CanGoBack other
  stays = record {
    way = record { log = volume.log ∙ u.way.log; readable = λ r refused. u.way.readable r ((volume.refusals SavedImage r).1 refused) };
    there = λ missing. u.there (sym volume.saved ∙ missing);
    accepted = subst IsAccepted (sym image_same) u.accepted;
    in_place = λ b old. place_same b ∙ u.in_place b (subst (λ (i : Image). IsOld (used_of i) b) image_same old);
    reserved = λ b reserved used. u.reserved b (subst (λ (i : Image). IsReserved b (superblock i).blocks) image_same reserved) (in_use_same b used);
  }

pub spare_blocks_decide_nothing : SpareBlocksDecideNothing
spare_blocks_decide_nothing disk other u same = record {
  blocks = record {
    size = same.size;
    superblock = same.others 16 (superblock_apart disk u);
    used = λ b used. same.others b (in_use_apart disk u b used);
  };
  same = volume disk other u same;
  image = image_same disk other u same;
  can = stays disk other u same;
}
