-- The references of a converted volume are sound: its extent tree is the recount of all nodes and of all uses of data.
use Rattle.convert_core_laws.proofs.Imports.{◌≡◌, ◌≢◌, ◌⊎◌, ◌≤◌, ◌<◌, ℕ, ◌+◌, ◌*◌, ◌%◌, ◌^◌, inl, inr, Bool, true, false, List, [], ◌∷◌, length, map, Option, Some, None, refl, sym, ap, subst, ◌∙◌, ⊎_elim, true≢false, arith, ◌-◌, AllByRecursion, sum_by, All, AllPairs, Contains, if◌then◌else◌, is_some, option_map_or, Equal, eq-eqb, All-contains, All-map, EXTENT_FLAG_DATA, EXTENT_FLAG_TREE_BLOCK, BLOCK_GROUP_ITEM, EXTENT_ITEM, METADATA_ITEM, CONV_IMAGE_SUBVOL, EXTENT_TREE, FS_TREE, from_map, in_map, keys, Image, Ids, make_key, Key, Item, IsNodeSize, DataUse, Recount, TreeOn, all_trees, data_uses, recounted_items, EachAt, HasItem, object_of, FitFeatures, KeepsReferences, StandsBefore, TellsRefs, IsDataItem, IsNodeItem, IsWhole, is_group, ArePlainReferences, FitsInline, ref_uses, InlineRef, TreeBlock, NodePointer, IsMaking, Making, HasPieces, made_from, TreeRoots, well, NewIdsFit, IsNewVolume, all_at, two_cases, file_block, source_block, ino_of, FilesAreHeld, ImageKeysAscend, all_from_contains, accepted_is_small, data_ref, extent_body, extent_items, group_item, image_refs, node_item, owner_refs, piece_item, put_refs, used_in, place_of_ref, item_cmp, merged, TreeNode, all-merge, append-nil, PlannedChunk, Options, Piece, recount_for, ConvertedReferencesAreSound, each_at, AreDistinct}
use Rattle.std.specs.Prelude.{nat_lt}
use Rattle.btr_check_rules.proofs.Unshared.{plain_references_are_kept}
use Rattle.convert_core_laws.proofs.soundness.Alone.{unshared}
use Rattle.convert_core_laws.proofs.soundness.AllUses.{from_is, source_low, uses_are}
use Rattle.convert_core_laws.proofs.soundness.Nodes.{LiesAt, node_lies, of_chunks, of_others}
use Rattle.convert_core_laws.proofs.soundness.Recounting.{generation_is, volume_for, with_extended, with_skinny}
use Rattle.convert_core_laws.proofs.soundness.Among.{trees_all}
use Rattle.convert_core_laws.proofs.soundness.Listed.{number_low}
use Rattle.convert_core_laws.proofs.soundness.Unreserved.{fit_size, place_whole}
use Rattle.convert_core_laws.proofs.soundness.Used.{file_use, owned, saved_use}
use Rattle.convert_core_laws.proofs.soundness.Uses.{IsUse, by_file, by_image, owner_low, use_at}
use Rattle.convert_core_laws.proofs.soundness.Bodies.{data_fits, has_refs, hash_above, hash_below, node_fits, one_alone, two_ordered}
use Rattle.convert_core_laws.proofs.soundness.DataItems.{one_ref, two_refs}
use Rattle.convert_core_laws.proofs.soundness.InMerged.{in_first, in_second}
use Rattle.convert_core_laws.proofs.soundness.Keyed.{uses_distinct}
use Rattle.convert_core_laws.proofs.soundness.Numbers.{inode_low, kinds_apart}
use Rattle.convert_core_laws.proofs.soundness.Told.{IsMet, IsTold, all_met, all_told}

-- ---- the items of the extent tree

-- a use of a piece: by the file that owns it, or by the saved image
data IsUseOf (p : Piece) (u : DataUse) : Type 0 where
  of_file : (inode block : ℕ) → p.owner ≡ Some (inode, block) → u ≡ use_at FS_TREE inode block p → IsUseOf p u
  of_image : (block : ℕ) → p.from ≡ Some block → u ≡ use_at CONV_IMAGE_SUBVOL 257 block p → IsUseOf p u

module _ (o : Options) (ids : Ids) (now : ℕ) (image other : Image) (m : Making) (r : TreeRoots) (nodes : List TreeNode) (v : IsNewVolume o ids now image other m r nodes) (held : FilesAreHeld) (rising : ImageKeysAscend) where
  abbrev making : IsMaking image m
  making = v.new.conversion.making

  abbrev of : HasPieces m.volume image m.options m.plan m.pieces
  of = making.has_pieces

  abbrev fit : IsNodeSize m.options.nodesize
  fit = fit_size o ids now image other m r nodes v

  abbrev k : Recount
  k = recount_for image other m r nodes

  abbrev once : AreDistinct (data_uses k)
  once = uses_distinct o ids now image other m r nodes v rising

  abbrev items : List Item
  items = extent_items m.chunks m.pieces nodes m.options.nodesize

  abbrev group : PlannedChunk → Item
  group c = group_item (used_in m.pieces nodes m.options.nodesize c) c

  abbrev groups : List Item
  groups = map group m.chunks

  abbrev below : List Item
  below = merged (map node_item nodes) (map piece_item m.pieces)

  -- the items of tree 2 are these
  items_are : recounted_items k EXTENT_TREE ≡ items
  items_are = append-nil items

  data IsListed (i : Item) : Type 0 where
    a_group : i.0.kind ≡ BLOCK_GROUP_ITEM → IsListed i
    a_node : (x : TreeNode) → Contains nodes x → node_item x ≡ i → IsListed i
    a_piece : (p : Piece) → Contains m.pieces p → piece_item p ≡ i → IsListed i

  all_listed : All IsListed items
  all_listed =
      all-merge item_cmp IsListed groups below (All-map IsListed group m.chunks (λ j d h. a_group refl))
      (all-merge item_cmp IsListed (map node_item nodes) (map piece_item m.pieces)
      (All-map IsListed node_item nodes (all_from_contains (λ (x : TreeNode). IsListed (node_item x)) nodes (λ x h. a_node x h refl)))
      (All-map IsListed piece_item m.pieces (all_from_contains (λ (p : Piece). IsListed (piece_item p)) m.pieces (λ p h. a_piece p h refl))))

  no_group : (t : Item) → t.0.kind ≢ BLOCK_GROUP_ITEM → (x : Item) → Contains groups x → item_cmp x t ≡ Equal → ⊥
  no_group t apart x h e =
      let at = from_map group m.chunks x h in
      kinds_apart x.0 t.0 (λ same. apart (sym same ∙ sym (ap (λ (i : Item). i.0.kind) at.2))) e

  node_there : (x : TreeNode) → Contains nodes x → Contains items (node_item x)
  node_there x h =
      in_second item_cmp (node_item x) groups below (no_group (node_item x) (λ e. omega (arith, e)))
      (in_first item_cmp (node_item x) (map node_item nodes) (map piece_item m.pieces) (in_map node_item nodes x h))

  piece_there : (p : Piece) → Contains m.pieces p → Contains items (piece_item p)
  piece_there p h =
      in_second item_cmp (piece_item p) groups below (no_group (piece_item p) (λ e. omega (arith, e)))
      (in_second item_cmp (piece_item p) (map node_item nodes) (map piece_item m.pieces)
      (λ x l e. let at = from_map node_item nodes x l in kinds_apart x.0 (piece_item p).0 (λ same. let is : x.0.kind ≡ METADATA_ITEM = sym (ap (λ (i : Item). i.0.kind) at.2) in omega (arith, same, is)) e) (in_map piece_item m.pieces p h))

  -- the body of an extent, as the volume has it
  refs_made : (flags : ℕ) (refs : List InlineRef) → flags < 2 ^ 64 → sum_by ref_uses refs < 2 ^ 64 → AllByRecursion FitsInline refs → AllPairs StandsBefore refs → TellsRefs k.super.generation (extent_body flags refs) flags (sum_by ref_uses refs) refs
  refs_made flags refs low few fits order = let newest = generation_is m r nodes in has_refs k.super.generation flags refs (omega (arith, newest)) low few fits order

  -- ---- nodes

  abbrev IsLow : TreeOn → Type 0
  IsLow t = t.number < 2 ^ 64

  numbers_low : All IsLow (all_trees k)
  numbers_low = trees_all image other m r nodes IsLow (omega arith) (omega arith) (omega arith) number_low

  node_is : (x : TreeNode) → Contains nodes x → IsNodeItem k (node_item x)
  node_is x h =
      let is : IsMet o ids now image other m r nodes v x = All-contains (IsMet o ids now image other m r nodes v) nodes x (all_told o ids now image other m r nodes v) h in
      let low : is.tree.number < 2 ^ 64 = All-contains IsLow (all_trees k) is.tree numbers_low is.there in
      subst (λ (y : TreeNode). IsNodeItem k (node_item y)) (sym is.is)
      (is.tree, is.pointer, is.there, is.met, refl, refs_made EXTENT_FLAG_TREE_BLOCK (TreeBlock is.tree.number ∷ []) (omega arith) (omega arith) (node_fits is.tree.number low, tt) (one_alone (TreeBlock is.tree.number)))

  node_key : (t : TreeOn) (p : NodePointer) → Contains (all_trees k) t → Contains t.nodes p → HasItem items p.address METADATA_ITEM p.level
  node_key t p h l =
      let told : IsTold o ids now image other m r nodes v p = all_met o ids now image other m r nodes v t p h l in
      let key : (node_item told.node).0 ≡ record { objectid = p.address; kind = METADATA_ITEM; offset = p.level } =
      ap (λ (a : ℕ). make_key a METADATA_ITEM told.node.level) told.address_is ∙ ap (λ (n : ℕ). make_key p.address METADATA_ITEM n) told.level_is in
      ((node_item told.node).1, subst (λ (x : Key). Contains items (x, (node_item told.node).1)) key (node_there told.node told.there))

  -- ---- pieces

  same_piece : (p q : Piece) → Contains m.pieces p → Contains m.pieces q → p.place ≡ q.place → p ≡ q
  same_piece p q h l same =
      let lie = (well m.volume image m.options m.plan m.pieces of).apart in
      let some_p : 1 ≤ p.count = all_at (λ (x : Piece). 1 ≤ x.count) m.pieces p lie.some h in
      let some_q : 1 ≤ q.count = all_at (λ (x : Piece). 1 ≤ x.count) m.pieces q lie.some l in
      ⊎_elim (λ (e : p ≡ q). e)
      (λ either. ⊎_elim (λ (low : p.place + p.count ≤ q.place). absurd (omega (arith, low, same, some_p))) (λ (low : q.place + q.count ≤ p.place). absurd (omega (arith, low, same, some_q))) either)
      (two_cases (λ (x y : Piece). x.place + x.count ≤ y.place) m.pieces p q lie.ascending h l)

  -- the uses of a piece's range are the piece's
  range_use : (p : Piece) → Contains m.pieces p → (u : DataUse) → Contains (data_uses k) u → u.start ≡ 4096 * p.place → IsUseOf p u
  range_use p h u l start = by (uses_are image m making fit other r nodes u l)
    where
      placed : (q : Piece) → u.start ≡ 4096 * q.place → q.place ≡ p.place
      placed q e = omega (arith, start, e)

      by : IsUse m u → IsUseOf p u
      by (by_file q inode block g own e) =
          let same : q ≡ p = same_piece q p g h (placed q (ap (λ (x : DataUse). x.start) e)) in
          of_file inode block (subst (λ (x : Piece). x.owner ≡ Some (inode, block)) same own) (subst (λ (x : Piece). u ≡ use_at FS_TREE inode block x) same e)
      by (by_image q block g from e) =
          let same : q ≡ p = same_piece q p g h (placed q (ap (λ (x : DataUse). x.start) e)) in
          of_image block (subst (λ (x : Piece). x.from ≡ Some block) same from) (subst (λ (x : Piece). u ≡ use_at CONV_IMAGE_SUBVOL 257 block x) same e)

  owner_of : {A : Type 0} (a b : A) → Some a ≡ Some b → a ≡ b
  owner_of a b e = cc

  -- the numbers of a file's use
  record IsSmallUse (inode block : ℕ) : Type 0 where
    inode_low_ : inode < 2 ^ 64
    offset_low : 4096 * block < 2 ^ 64

  file_small : (p : Piece) (inode block : ℕ) → Contains m.pieces p → p.owner ≡ Some (inode, block) → IsSmallUse inode block
  file_small p inode block h own =
      let s = made_from m.volume image m.options m.pieces in
      let w = (held m.volume image m.options m.plan m.pieces of).each p inode block h own in
      let few = (accepted_is_small image of.accepted).objects (keys m.volume.named) of.opened.are_keys in
      let number : ino_of s w.0 ≡ inode = w.2 in
      let low : ino_of s w.0 < 2 ^ 64 = inode_low (keys m.volume.named) w.0 few in
      let place : file_block p ≡ block = ap (λ (x : Option (ℕ × ℕ)). option_map_or (λ y. y.1) x 0) own in
      let bound = owner_low image m making p inode h (subst (λ (b : ℕ). p.owner ≡ Some (inode, b)) (sym place) own) in
      record { inode_low_ = subst (λ (n : ℕ). n < 2 ^ 64) number low; offset_low = omega (arith, bound, place) }

  image_small : (p : Piece) (block : ℕ) → Contains m.pieces p → p.from ≡ Some block → 4096 * block < 2 ^ 64
  image_small p block h from =
      let low = source_low image m making fit p h (from_is image m making fit p (ap is_some from)) in
      let is : source_block p ≡ block = ap (λ (x : Option ℕ). option_map_or (λ (b : ℕ). b) x 0) from in
      omega (arith, low, is)

  -- the saved image's use of a piece
  image_use : (p : Piece) (block : ℕ) → Contains m.pieces p → p.from ≡ Some block → Contains (data_uses k) (use_at CONV_IMAGE_SUBVOL 257 block p)
  image_use p block h from =
      let is : source_block p ≡ block = ap (λ (x : Option ℕ). option_map_or (λ (b : ℕ). b) x 0) from in
      subst (λ (b : ℕ). Contains (data_uses k) (use_at CONV_IMAGE_SUBVOL 257 b p)) is (saved_use image m making fit held other r nodes p h (ap is_some from))

  -- a use by the file is this one, and so is one by the image
  file_same : (p : Piece) (w : ℕ × ℕ) (u : DataUse) (inode block : ℕ) → p.owner ≡ Some w → p.owner ≡ Some (inode, block) → u ≡ use_at FS_TREE inode block p → use_at FS_TREE w.0 w.1 p ≡ u
  file_same p w u inode block own also e =
      let same : w ≡ (inode, block) = owner_of w (inode, block) (sym own ∙ also) in ap (λ (x : ℕ × ℕ). use_at FS_TREE x.0 x.1 p) same ∙ sym e

  image_same : (p : Piece) (b : ℕ) (u : DataUse) (block : ℕ) → p.from ≡ Some b → p.from ≡ Some block → u ≡ use_at CONV_IMAGE_SUBVOL 257 block p → use_at CONV_IMAGE_SUBVOL 257 b p ≡ u
  image_same p b u block from also e =
      let same : b ≡ block = owner_of b block (sym from ∙ also) in ap (λ (x : ℕ). use_at CONV_IMAGE_SUBVOL 257 x p) same ∙ sym e

  abbrev key_of_piece : Piece → Key
  key_of_piece p = make_key (4096 * p.place) EXTENT_ITEM (4096 * p.count)

  no_value : {A : Type 0} (a : A) (w : Option A) → w ≡ None → w ≡ Some a → ⊥
  no_value a None none some = cc some
  no_value a (Some b) none some = cc none

  by_owner : (p : Piece) → Contains m.pieces p → (w : ℕ × ℕ) → p.owner ≡ Some w → p.from ≡ None → IsDataItem k (key_of_piece p, extent_body EXTENT_FLAG_DATA (data_ref FS_TREE w.0 w.1 ∷ []))
  by_owner p h w own none =
      let small = file_small p w.0 w.1 h own in
      let one = small.inode_low_ in
      let two = small.offset_low in
      one_ref k once (key_of_piece p, extent_body EXTENT_FLAG_DATA (data_ref FS_TREE w.0 w.1 ∷ [])) (use_at FS_TREE w.0 w.1 p) (file_use image m making fit held other r nodes p w.0 w.1 h own) refl
      (refs_made EXTENT_FLAG_DATA (data_ref FS_TREE w.0 w.1 ∷ []) (omega arith) (omega arith) (data_fits FS_TREE w.0 (4096 * w.1) (omega arith) one two, tt) (one_alone (data_ref FS_TREE w.0 w.1))) (λ u l start length. by u (range_use p h u l start))
    where
      by : (u : DataUse) → IsUseOf p u → use_at FS_TREE w.0 w.1 p ≡ u
      by u (of_file inode block also e) = file_same p w u inode block own also e
      by u (of_image block from e) = absurd (no_value block p.from none from)

  by_from : (p : Piece) → Contains m.pieces p → (b : ℕ) → p.from ≡ Some b → p.owner ≡ None → IsDataItem k (key_of_piece p, extent_body EXTENT_FLAG_DATA (data_ref CONV_IMAGE_SUBVOL 257 b ∷ []))
  by_from p h b from none =
      let two = image_small p b h from in
      one_ref k once (key_of_piece p, extent_body EXTENT_FLAG_DATA (data_ref CONV_IMAGE_SUBVOL 257 b ∷ [])) (use_at CONV_IMAGE_SUBVOL 257 b p) (image_use p b h from) refl
      (refs_made EXTENT_FLAG_DATA (data_ref CONV_IMAGE_SUBVOL 257 b ∷ []) (omega arith) (omega arith) (data_fits CONV_IMAGE_SUBVOL 257 (4096 * b) (omega arith) (omega arith) two, tt) (one_alone (data_ref CONV_IMAGE_SUBVOL 257 b))) (λ u l start length. by u (range_use p h u l start))
    where
      by : (u : DataUse) → IsUseOf p u → use_at CONV_IMAGE_SUBVOL 257 b p ≡ u
      by u (of_file inode block own e) = absurd (no_value (inode, block) p.owner none own)
      by u (of_image block also e) = image_same p b u block from also e

  by_both : (p : Piece) → Contains m.pieces p → (w : ℕ × ℕ) (b : ℕ) → p.owner ≡ Some w → p.from ≡ Some b → (t : Bool) → nat_lt (place_of_ref (data_ref FS_TREE w.0 w.1)) (place_of_ref (data_ref CONV_IMAGE_SUBVOL 257 b)) ≡ t
      → IsDataItem k (key_of_piece p, extent_body EXTENT_FLAG_DATA (if t then data_ref CONV_IMAGE_SUBVOL 257 b ∷ (data_ref FS_TREE w.0 w.1 ∷ []) else data_ref FS_TREE w.0 w.1 ∷ (data_ref CONV_IMAGE_SUBVOL 257 b ∷ [])))
  by_both p h w b own from = ordered
    where
      small : IsSmallUse w.0 w.1
      small = file_small p w.0 w.1 h own

      file_fits : FitsInline (data_ref FS_TREE w.0 w.1)
      file_fits = let one = small.inode_low_ in let two = small.offset_low in data_fits FS_TREE w.0 (4096 * w.1) (omega arith) one two

      image_fits : FitsInline (data_ref CONV_IMAGE_SUBVOL 257 b)
      image_fits = data_fits CONV_IMAGE_SUBVOL 257 (4096 * b) (omega arith) (omega arith) (image_small p b h from)

      ours : Contains (data_uses k) (use_at FS_TREE w.0 w.1 p)
      ours = file_use image m making fit held other r nodes p w.0 w.1 h own

      theirs : Contains (data_uses k) (use_at CONV_IMAGE_SUBVOL 257 b p)
      theirs = image_use p b h from

      by : (u : DataUse) → IsUseOf p u → (use_at FS_TREE w.0 w.1 p ≡ u) ⊎ (use_at CONV_IMAGE_SUBVOL 257 b p ≡ u)
      by u (of_file inode block also e) = inl (file_same p w u inode block own also e)
      by u (of_image block also e) = inr (image_same p b u block from also e)

      ordered : (t : Bool) → nat_lt (place_of_ref (data_ref FS_TREE w.0 w.1)) (place_of_ref (data_ref CONV_IMAGE_SUBVOL 257 b)) ≡ t → IsDataItem k (key_of_piece p, extent_body EXTENT_FLAG_DATA (if t then data_ref CONV_IMAGE_SUBVOL 257 b ∷ (data_ref FS_TREE w.0 w.1 ∷ []) else data_ref FS_TREE w.0 w.1 ∷ (data_ref CONV_IMAGE_SUBVOL 257 b ∷ [])))
      ordered true is =
          two_refs k once (key_of_piece p, extent_body EXTENT_FLAG_DATA (data_ref CONV_IMAGE_SUBVOL 257 b ∷ (data_ref FS_TREE w.0 w.1 ∷ []))) (use_at CONV_IMAGE_SUBVOL 257 b p) (use_at FS_TREE w.0 w.1 p) theirs ours refl refl (λ e. omega (arith, e)) refl
          (refs_made EXTENT_FLAG_DATA (data_ref CONV_IMAGE_SUBVOL 257 b ∷ (data_ref FS_TREE w.0 w.1 ∷ [])) (omega arith) (omega arith) (image_fits, (file_fits, tt))
          (two_ordered (data_ref CONV_IMAGE_SUBVOL 257 b) (data_ref FS_TREE w.0 w.1) (inr (refl, hash_above (place_of_ref (data_ref FS_TREE w.0 w.1)) (place_of_ref (data_ref CONV_IMAGE_SUBVOL 257 b)) is))))
          (λ u l start length. ⊎_elim (λ x. inr x) (λ y. inl y) (by u (range_use p h u l start)))
      ordered false is =
          two_refs k once (key_of_piece p, extent_body EXTENT_FLAG_DATA (data_ref FS_TREE w.0 w.1 ∷ (data_ref CONV_IMAGE_SUBVOL 257 b ∷ []))) (use_at FS_TREE w.0 w.1 p) (use_at CONV_IMAGE_SUBVOL 257 b p) ours theirs refl refl (λ e. omega (arith, e)) refl
          (refs_made EXTENT_FLAG_DATA (data_ref FS_TREE w.0 w.1 ∷ (data_ref CONV_IMAGE_SUBVOL 257 b ∷ [])) (omega arith) (omega arith) (file_fits, (image_fits, tt))
          (two_ordered (data_ref FS_TREE w.0 w.1) (data_ref CONV_IMAGE_SUBVOL 257 b) (inr (refl, hash_below (place_of_ref (data_ref FS_TREE w.0 w.1)) (place_of_ref (data_ref CONV_IMAGE_SUBVOL 257 b)) is)))) (λ u l start length. by u (range_use p h u l start))

  piece_is : (p : Piece) → Contains m.pieces p → IsDataItem k (piece_item p)
  piece_is p h = by p.owner p.from refl refl
    where
      by : (w : Option (ℕ × ℕ)) (b : Option ℕ) → p.owner ≡ w → p.from ≡ b → IsDataItem k (key_of_piece p, extent_body EXTENT_FLAG_DATA (put_refs (owner_refs w) (image_refs b)))
      by None None own from = let at = owned image m making fit held p h from in absurd (no_value (at.0, at.1) p.owner own at.2)
      by (Some w) None own from = by_owner p h w own from
      by None (Some b) own from = by_from p h b from own
      by (Some w) (Some b) own from = by_both p h w b own from (nat_lt (place_of_ref (data_ref FS_TREE w.0 w.1)) (place_of_ref (data_ref CONV_IMAGE_SUBVOL 257 b))) refl

  data_key : (u : DataUse) → Contains (data_uses k) u → HasItem items u.start EXTENT_ITEM u.length
  data_key u h = by (uses_are image m making fit other r nodes u h)
    where
      at : (p : Piece) → Contains m.pieces p → u.start ≡ 4096 * p.place → u.length ≡ 4096 * p.count → HasItem items u.start EXTENT_ITEM u.length
      at p l start long =
          let key : key_of_piece p ≡ record { objectid = u.start; kind = EXTENT_ITEM; offset = u.length } = ap (λ (a : ℕ). make_key a EXTENT_ITEM (4096 * p.count)) (sym start) ∙ ap (λ (n : ℕ). make_key u.start EXTENT_ITEM n) (sym long) in
          ((piece_item p).1, subst (λ (x : Key). Contains items (x, (piece_item p).1)) key (piece_there p l))

      by : IsUse m u → HasItem items u.start EXTENT_ITEM u.length
      by (by_file p inode block l own e) = at p l (ap (λ (x : DataUse). x.start) e) (ap (λ (x : DataUse). x.length) e)
      by (by_image p block l from e) = at p l (ap (λ (x : DataUse). x.start) e) (ap (λ (x : DataUse). x.length) e)

  each_item : (i : Item) → Contains items i → is_group i ≡ false → IsNodeItem k i ⊎ IsDataItem k i
  each_item i h off = by (All-contains IsListed items i all_listed h)
    where
      by : IsListed i → IsNodeItem k i ⊎ IsDataItem k i
      by (a_group is) = absurd (true≢false (sym (eq-eqb i.0.kind BLOCK_GROUP_ITEM is) ∙ off))
      by (a_node x l is) = inl (subst (IsNodeItem k) is (node_is x l))
      by (a_piece p l is) = inr (subst (IsDataItem k) is (piece_is p l))

  -- ---- whole extents, and features

  is_whole : (i : Item) → Contains items i → is_group i ≡ false → IsWhole i
  is_whole i h off = by (All-contains IsListed items i all_listed h)
    where
      slot_whole : (number a : ℕ) → LiesAt o ids now image other m r nodes v number a → a % 4096 ≡ 0
      slot_whole number a (of_chunks is l) = place_whole m.options.nodesize fit m.plan.system a l
      slot_whole number a (of_others is l) = place_whole m.options.nodesize fit m.plan.metadata a l

      node_whole : (x : TreeNode) → Contains nodes x → x.address % 4096 ≡ 0
      node_whole x l =
          let is : IsMet o ids now image other m r nodes v x = All-contains (IsMet o ids now image other m r nodes v) nodes x (all_told o ids now image other m r nodes v) l in
          let at : is.pointer.address % 4096 ≡ 0 = slot_whole is.tree.number is.pointer.address (node_lies o ids now image other m r nodes v is.tree is.pointer is.there is.met) in
          subst (λ (y : TreeNode). y.address % 4096 ≡ 0) (sym is.is) at

      by : IsListed i → IsWhole i
      by (a_group is) = absurd (true≢false (sym (eq-eqb i.0.kind BLOCK_GROUP_ITEM is) ∙ off))
      by (a_node x l is) = subst IsWhole is (record { start = node_whole x l; range = λ e. absurd (omega (arith, e)) })
      by (a_piece p l is) =
          let some = all_at (λ (x : Piece). 1 ≤ x.count) m.pieces p (well m.volume image m.options m.plan m.pieces of).apart.some l in
          subst IsWhole is (record { start = omega arith; range = λ e. (omega arith, λ none. omega (arith, none, some)) })

  fit_features : (a : ℕ) → FitFeatures k a
  fit_features a = record {
    skinny = λ off. absurd (true≢false (sym (with_skinny m r nodes) ∙ off));
    extended = λ off. absurd (true≢false (sym (with_extended m r nodes) ∙ off));
  }

  -- ---- the part

  -- an item of the extent tree that is no block group
  abbrev IsRight : Item → Type 0
  IsRight i = is_group i ≡ false → (IsNodeItem k i ⊎ IsDataItem k i) × IsWhole i

  abbrev HasNode : NodePointer → Type 0
  HasNode p = HasItem (recounted_items k EXTENT_TREE) p.address METADATA_ITEM p.level

  abbrev HasRange : DataUse → Type 0
  HasRange u = HasItem (recounted_items k EXTENT_TREE) u.start EXTENT_ITEM u.length

  plain : ArePlainReferences k
  plain = record {
    each = subst (All IsRight) (sym items_are) (all_from_contains IsRight items (λ i h off. (each_item i h off, is_whole i h off)));
    nodes = all_from_contains (λ (t : TreeOn). All HasNode t.nodes) (all_trees k)
        (λ t h. all_from_contains HasNode t.nodes (λ p l. subst (λ (is : List Item). HasItem is p.address METADATA_ITEM p.level) (sym items_are) (node_key t p h l)));
    data_ = all_from_contains HasRange (data_uses k) (λ u h. subst (λ (is : List Item). HasItem is u.start EXTENT_ITEM u.length) (sym items_are) (data_key u h));
  }

  pub keeps : (a : ℕ) → KeepsReferences other k a
  keeps = plain_references_are_kept other k (unshared o ids now image other m r nodes v) plain fit_features

pub converted_references_are_sound : NewIdsFit → FilesAreHeld → ImageKeysAscend → ConvertedReferencesAreSound
converted_references_are_sound ids_fit held rising = λ o ids now image other m r nodes is size low are has bytes.
    keeps o ids now image other m r nodes (volume_for ids_fit o ids now image other m r nodes is size are has) held rising
