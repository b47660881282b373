-- The names of a converted volume are sound.
use Rattle.convert_core_laws.proofs.Imports.{◌≤◌, ◌<◌, ℕ, ◌^◌, List, [], ◌∷◌, filter, refl, sym, subst, arith, get_or, is_some, All, AllByRecursion, All-cons, All-nil, Contains-permutation, CONV_IMAGE_SUBVOL, DATA_RELOC_TREE, FS_TREE, Image, Ids, IsNodeSize, AreExtents, AreInodes, AreTreeNames, Recount, TreeOn, file_trees, IsMaking, Making, HasPieces, file_tree_items, image_tree_items, root_tree_items, TreeRoots, blocks_few, NewIdsFit, IsNewVolume, map_for, super_for, piece_bytes, pieces_of_volume, source_block, relocation_items, FilesAreHeld, InodesAreThere, ImageKeysAscend, from_filter, HasBytes, all_from, TreeNode, Options, Piece, recount_for, tree_for, walked, ConvertedFileExtentsAreSound, ConvertedInodesAreSound, ConvertedNamesAreSound, Files, SavedImage, Relocation, KeepsRootRefs}
use Rattle.convert_core_laws.proofs.reading.SavedExtents.{AreSources, sources_bytes}
use Rattle.convert_core_laws.proofs.reading.SavedPieces.{are_sources}
use Rattle.convert_core_laws.proofs.soundness.Recounting.{generation_is, volume_for, without_holes}
use Rattle.convert_core_laws.proofs.soundness.Unreserved.{fit_size}
use Rattle.convert_core_laws.proofs.soundness.Uses.{piece_small}
use Rattle.convert_core_laws.proofs.soundness.Flags.{image_extents_ascend}
use Rattle.convert_core_laws.proofs.soundness.Entered.{file_names}
use Rattle.convert_core_laws.proofs.soundness.FileExtents.{file_extents, relocation_extents, saved_extents}
use Rattle.convert_core_laws.proofs.soundness.FileInodes.{file_inodes}
use Rattle.convert_core_laws.proofs.soundness.KeptFiles.{extents_kept, inodes_kept, names_kept}
use Rattle.convert_core_laws.proofs.soundness.NameLists.{grouped_all}
use Rattle.convert_core_laws.proofs.soundness.Saved.{IsLow, own_is, saved_inodes, saved_names}
use Rattle.convert_core_laws.proofs.soundness.SavedRefs.{file_refs, image_named, other_refs}
use Rattle.convert_core_laws.proofs.soundness.Small.{relocation_inodes, relocation_names}

module _ (o : Options) (ids : Ids) (now : ℕ) (image other : Image) (m : Making) (r : TreeRoots) (nodes : List TreeNode) (v : IsNewVolume o ids now image other m r nodes) (held : FilesAreHeld) (rising : ImageKeysAscend) (are_there : InodesAreThere) (now_low : now < 2 ^ 63) (bytes : HasBytes image) where
  abbrev making : IsMaking image m
  making = v.new.conversion.making

  abbrev of : HasPieces m.volume image m.options m.plan m.pieces
  of = making.has_pieces

  abbrev fit : IsNodeSize m.options.nodesize
  fit = fit_size o ids now image other m r nodes v

  abbrev k : Recount
  k = recount_for image other m r nodes

  made_low : m.now < 2 ^ 63
  made_low = subst (λ (n : ℕ). n < 2 ^ 63) (sym v.new.conversion.now_is) now_low

  -- ---- the pieces of the saved image

  parts_low : AllByRecursion IsLow (pieces_of_volume m.pieces)
  parts_low =
      let some : List Piece = filter (λ (p : Piece). is_some p.from) m.pieces in
      all_from IsLow (pieces_of_volume m.pieces) (λ p h.
      let among = (from_filter (λ (q : Piece). is_some q.from) m.pieces p (Contains-permutation (pieces_of_volume m.pieces) some p (grouped_all source_block some) h)).0 in
      let is = piece_small image m making p among in
      let high = is.high in
      record { some = omega (arith, high); end = is.end })

  sources : AreSources (map_for m.chunks) 0 (pieces_of_volume m.pieces)
  sources =
      are_sources image m making fit
      (image_extents_ascend m.volume.sup.blocks m.pieces m.options.datasum m.now (rising m.volume image m.options m.plan m.pieces m.now of).saved)

  image_bytes : piece_bytes (pieces_of_volume m.pieces) ≤ 2 ^ 41
  image_bytes = sources_bytes (map_for m.chunks) 0 (pieces_of_volume m.pieces) sources (omega arith)

  -- ---- the file trees

  abbrev roots : TreeOn → Type 0
  roots = AreTreeNames (root_tree_items m r)

  abbrev files : TreeOn
  files = tree_for other (super_for m r nodes) FS_TREE (r.tree Files) (file_tree_items image m)

  abbrev saved : TreeOn
  saved = tree_for other (super_for m r nodes) CONV_IMAGE_SUBVOL (r.tree SavedImage) (image_tree_items m)

  abbrev relocation : TreeOn
  relocation = tree_for other (super_for m r nodes) DATA_RELOC_TREE (r.tree Relocation) (relocation_items m.now)

  pub have_names : All roots (file_trees k)
  have_names =
      All-cons roots files (saved ∷ (relocation ∷ [])) (file_names image m making (walked files) r held are_there bytes)
      (All-cons roots saved (relocation ∷ [])
      (saved_names m.volume.sup.blocks m.now m.pieces m.options.datasum (blocks_few m.volume image m.options m.plan m.pieces of) image_bytes made_low parts_low (walked saved) (root_tree_items m r))
      (All-cons roots relocation [] (relocation_names m.now made_low (walked relocation) (root_tree_items m r)) (All-nil roots)))

  -- ---- what the root tree tells of them

  abbrev refs : TreeOn → Type 0
  refs t = (a : ℕ) → KeepsRootRefs k t a

  pub have_refs : All refs (file_trees k)
  have_refs =
      All-cons refs files (saved ∷ (relocation ∷ [])) (file_refs image other m making r nodes (walked files))
      (All-cons refs saved (relocation ∷ []) (other_refs image other m making r nodes saved refl (λ sub high. image_named image other m making r nodes))
      (All-cons refs relocation [] (other_refs image other m making r nodes relocation refl (λ sub high. absurd (cc sub))) (All-nil refs)))

  -- ---- their inodes

  abbrev inodes : TreeOn → Type 0
  inodes = AreInodes (super_for m r nodes)

  pub have_inodes : All inodes (file_trees k)
  have_inodes =
      All-cons inodes files (saved ∷ (relocation ∷ [])) (file_inodes image m making (super_for m r nodes) (walked files) are_there bytes)
      (All-cons inodes saved (relocation ∷ [])
      (saved_inodes m.volume.sup.blocks m.now m.pieces m.options.datasum (blocks_few m.volume image m.options m.plan m.pieces of) image_bytes made_low parts_low (walked saved) (root_tree_items m r) (super_for m r nodes))
      (All-cons inodes relocation [] (relocation_inodes m.now made_low (walked relocation) (root_tree_items m r) (super_for m r nodes)) (All-nil inodes)))

  -- ---- their extents

  newest : 1 ≤ (super_for m r nodes).generation
  newest = let is = generation_is m r nodes in omega (arith, is)

  abbrev extents : TreeOn → Type 0
  extents = AreExtents (super_for m r nodes)

  pub have_extents : All extents (file_trees k)
  have_extents =
      let full = without_holes m r nodes in
      All-cons extents files (saved ∷ (relocation ∷ [])) (file_extents image m making (super_for m r nodes) newest full (walked files) held are_there bytes)
      (All-cons extents saved (relocation ∷ [])
      (saved_extents (super_for m r nodes) newest full m.volume.sup.blocks m.now m.pieces m.options.datasum (map_for m.chunks) sources saved refl
      (own_is m.volume.sup.blocks m.now m.pieces m.options.datasum (blocks_few m.volume image m.options m.plan m.pieces of) image_bytes made_low parts_low (walked saved) (root_tree_items m r)))
      (All-cons extents relocation [] (relocation_extents (super_for m r nodes) full m.now relocation refl) (All-nil extents)))

pub converted_names_are_sound : NewIdsFit → FilesAreHeld → ImageKeysAscend → InodesAreThere → ConvertedNamesAreSound
converted_names_are_sound ids_fit held rising are_there = λ o ids now image other m r nodes is size low are has bytes.
    let v = volume_for ids_fit o ids now image other m r nodes is size are has in
    let k : Recount = recount_for image other m r nodes in
    λ i d h. names_kept k (get_or (file_trees k) i d) (have_names o ids now image other m r nodes v held rising are_there low bytes i d h) (have_inodes o ids now image other m r nodes v held rising are_there low bytes i d h)
    (have_refs o ids now image other m r nodes v held rising are_there low bytes i d h)

pub converted_inodes_are_sound : NewIdsFit → FilesAreHeld → ImageKeysAscend → InodesAreThere → ConvertedInodesAreSound
converted_inodes_are_sound ids_fit held rising are_there = λ o ids now image other m r nodes is size low are has bytes.
    let v = volume_for ids_fit o ids now image other m r nodes is size are has in
    let k : Recount = recount_for image other m r nodes in
    λ i d h. inodes_kept k (get_or (file_trees k) i d) (have_names o ids now image other m r nodes v held rising are_there low bytes i d h) (have_inodes o ids now image other m r nodes v held rising are_there low bytes i d h)

pub converted_file_extents_are_sound : NewIdsFit → FilesAreHeld → ImageKeysAscend → InodesAreThere → ConvertedFileExtentsAreSound
converted_file_extents_are_sound ids_fit held rising are_there = λ o ids now image other m r nodes is size low are has bytes.
    let v = volume_for ids_fit o ids now image other m r nodes is size are has in
    let k : Recount = recount_for image other m r nodes in
    λ i d h. extents_kept k (get_or (file_trees k) i d) (have_extents o ids now image other m r nodes v held rising are_there low bytes i d h)
