-- A converted volume can be turned back.
use Rattle.convert_core_laws.proofs.Imports.{◌≡◌, ℕ, ◌*◌, ◌/◌, Bool, true, false, List, length, Option, Some, None, sym, ap, subst, ◌∙◌, arith, Image, IsReserved, is_reserved, Ids, ImageFile, image_in, saved_image, own_map, own_super, KeepsReserved, Super, found, IsMaking, Making, TreeRoots, blocks_inside, NewIdsFit, ChunksMap, ConvertedIsReadable, IsReadableWithTrees, IsNewVolume, used_inside, EntriesAreThere, IsSpareFree, ConvertedVolumesOpen, OpensAsBefore, has, used_length, IsSameVolume, UsedBlocksDecide, superblock, used_of, NamesKeepRules, image_blocks, saved_place, IsInUse, IsReservedFree, ConvertedReservedAreSound, recount_for, TreeNode, blocks_are, Options, SavedImage}
use Rattle.reiser_volume.specs.reiser_volume_contents.Laws.{SameUsed}
use Rattle.reiser_volume.specs.reiser_super.declared.superblock.Super.{Super as OldSuper}
use Rattle.volume_state.specs.Moved.{AreInPlace}
use Rattle.volume_state.specs.GoingBack.{CanGoBack, old_used}
use Rattle.convert_core_laws.specs.going_back.Back.{ConvertedVolumesGoBack, GoesBack}
use Rattle.convert_core_laws.specs.going_back.Lying.{ConvertedVolumesLieApart, SavedImagesAreWhole}
use Rattle.convert_core_laws.proofs.soundness.Recounting.{total_is, volume_for}
use Rattle.convert_core_laws.proofs.going_back.Images.{block_is, length_is, place_is}
use Rattle.convert_core_laws.proofs.going_back.Options.{no_some}
use Rattle.convert_core_laws.proofs.going_back.Places.{image_in_place, image_unreserved}
use Rattle.convert_core_laws.proofs.going_back.Reserved.{in_use_free}
use Rattle.convert_core_laws.proofs.going_back.Spare.{lies_apart}
use Rattle.convert_core_laws.proofs.going_back.Way.{image_is, saved_tree, trees_are}
use Rattle.convert_core_laws.proofs.reading.Named.{tree_read}

module _ (o : Options) (ids : Ids) (now : ℕ) (image other : Image) (m : Making) (r : TreeRoots) (nodes : List TreeNode) (v : IsNewVolume o ids now image other m r nodes) (opens : OpensAsBefore image other) where
  abbrev made : IsMaking image m
  made = v.new.conversion.making

  volume_is : length (used_of image) ≡ (superblock image).blocks
  volume_is = used_length image

  -- ---- the saved image

  abbrev file : ImageFile
  file = opens.saved.file

  saved : saved_image other (own_super other) (own_map other) ≡ Some file
  saved = opens.saved.saved

  -- it is as long as the volume
  long : length (image_blocks other) ≡ (superblock image).blocks
  long =
      let whole = length_is other file saved in
      let count = opens.saved.is.blocks_are in
      let inside = blocks_inside m.volume image m.options m.plan m.pieces made.has_pieces in
      let same = blocks_are image m made in
      let as_long = v.new.stands.size in
      omega (arith, whole, count, inside, same, as_long, volume_is)

  same_blocks : SameUsed (used_of image) image (image_blocks other)
  same_blocks b t =
      let at = opens.saved.is.used_ b t in
      let inside = used_inside (used_of image) (λ n. None) b t in
      block_is other file saved b at.0 (omega (arith, inside, volume_is, long)) at.1 ∙ at.2

  module _ (maps : ChunksMap) (readable : ConvertedIsReadable) (entries : EntriesAreThere) (names : NamesKeepRules) (sound : (at : ℕ) → KeepsReserved (recount_for image other m r nodes) at) where
    is : IsReadableWithTrees image other m r nodes
    is = readable o ids now image other m r nodes v

    -- ---- places

    -- the file is found in the tree that the file tree names
    found_in : (f : ImageFile) → saved_image other (own_super other) (own_map other) ≡ Some f → image_in (found other (own_map other) (saved_tree entries names image other m r nodes made is)) ≡ Some f
    found_in f at = sym (image_is entries names image other m r nodes made is) ∙ at

    old_in_place : (b : ℕ) → has (used_of image) b ≡ true → is_reserved b (length (used_of image)) ≡ false → saved_place other b ≡ Some b
    old_in_place b t free =
        let at = opens.saved.is.used_ b t in
        let same : at.0 ≡ b = image_in_place image m made (own_map other) is.own (found other (own_map other) (saved_tree entries names image other m r nodes made is)) (tree_read image other (own_super other) (own_map other) m r nodes is.trees SavedImage).items_are file (found_in file saved) b at.0 at.1 free in
        place_is other file saved b ∙ (at.1 ∙ ap (λ (n : ℕ). let p : Option ℕ = Some n in p) same)

    -- ---- blocks in use

    used_free : (b : ℕ) → IsInUse other b → ¬ IsReserved b (length (used_of image))
    used_free = in_use_free o ids now image other m r nodes v (maps o ids now image other m r nodes v) is sound (trees_are entries names image other m r nodes made is)

    apart : IsSpareFree other
    apart =
        lies_apart other (length (used_of image)) total used_free
        (λ f b at there placed. image_unreserved image m made (own_map other) is.own (found other (own_map other) (saved_tree entries names image other m r nodes made is)) (tree_read image other (own_super other) (own_map other) m r nodes is.trees SavedImage).items_are f (found_in f there) b at placed)
      where
        total : (own_super other).total_bytes / 4096 ≡ length (used_of image)
        total =
            let own : (own_super other).total_bytes ≡ 4096 * m.volume.sup.blocks = ap (λ (t : Super). t.total_bytes) is.super_is ∙ total_is m r nodes in
            let same = blocks_are image m made in
            omega (arith, own, same)

    -- ---- the volume before

    module _ (decide : UsedBlocksDecide) where
      same_volume : IsSameVolume image (image_blocks other)
      same_volume = decide image (image_blocks other) made.has_pieces.accepted same_blocks (omega (arith, long))

      same_used : old_used other ≡ used_of image
      same_used = same_volume.used

      in_place : AreInPlace (saved_place other) (old_used other)
      in_place = subst (λ (set : List Bool). AreInPlace (saved_place other) set) (sym same_used) (λ b old. old_in_place b old.marked old.outside)

      reserved_free : IsReservedFree other (superblock (image_blocks other)).blocks
      reserved_free b at in_use =
          let count : (superblock (image_blocks other)).blocks ≡ length (used_of image) = ap (λ (t : OldSuper). t.blocks) same_volume.fields ∙ sym volume_is in
          used_free b in_use (subst (λ (n : ℕ). IsReserved b n) count at)

      can : CanGoBack other
      can = record {
        way = record { log = opens.has_rows.log; readable = opens.saved.readable };
        there = λ none. no_some file (sym none ∙ saved);
        accepted = same_volume.accepted;
        in_place = in_place;
        reserved = reserved_free;
      }

      goes_back : GoesBack image other
      goes_back = record { can = can; used = same_used; blocks = same_blocks; volume = same_volume }

pub converted_volumes_go_back : NewIdsFit → ChunksMap → ConvertedIsReadable → EntriesAreThere → NamesKeepRules → ConvertedReservedAreSound → ConvertedVolumesOpen → UsedBlocksDecide → ConvertedVolumesGoBack
converted_volumes_go_back fit maps readable entries names reserved opens decide = λ o ids now image other new size low are has bytes.
    let v : IsNewVolume o ids now image other new.0 new.1 new.2 = volume_for fit o ids now image other new.0 new.1 new.2 new.3 size are has in
    goes_back o ids now image other new.0 new.1 new.2 v (opens o ids now image other new size low are has bytes) maps readable entries names (reserved o ids now image other new.0 new.1 new.2 new.3 size low are has bytes) decide

pub converted_volumes_lie_apart : NewIdsFit → ChunksMap → ConvertedIsReadable → EntriesAreThere → NamesKeepRules → ConvertedReservedAreSound → ConvertedVolumesOpen → ConvertedVolumesLieApart
converted_volumes_lie_apart fit maps readable entries names reserved opens = λ o ids now image other new size low are has bytes.
    let v : IsNewVolume o ids now image other new.0 new.1 new.2 = volume_for fit o ids now image other new.0 new.1 new.2 new.3 size are has in
    apart o ids now image other new.0 new.1 new.2 v (opens o ids now image other new size low are has bytes) maps readable entries names (reserved o ids now image other new.0 new.1 new.2 new.3 size low are has bytes)

pub saved_images_are_whole : NewIdsFit → ConvertedVolumesOpen → SavedImagesAreWhole
saved_images_are_whole fit opens = λ o ids now image other new size low are has bytes.
    let v : IsNewVolume o ids now image other new.0 new.1 new.2 = volume_for fit o ids now image other new.0 new.1 new.2 new.3 size are has in
    long o ids now image other new.0 new.1 new.2 v (opens o ids now image other new size low are has bytes)
