-- A converted volume opens as it was before.
use Rattle.convert_core_laws.proofs.Imports.{◌≡◌, inr, ◌<◌, ℕ, ◌^◌, nat_le, nat_lt, Bool, true, false, List, [], ◌∷◌, length, Ok, refl, sym, ap, subst, ◌∙◌, ⊎_elim, arith, Contains, if◌then◌else◌, and_parts, nat_tests, SUPER_BLOCK, SUPER_INFO_OFFSET, SUPER_MAGIC_OFFSET, FS_TREE, format_in, Image, block_at, BtrRefusal, BadBtrfs, Unsupported, SuperCsum, ChecksumType, format, has_bytes_at, has_reiser_magic, Btrfs, Neither, Reiser, Ids, has_root, KeepsNames, BtrfsRowsAreOne, opening_refusals, super_on, tree_of, AreRowsOfBtrfs, IsReadable, own_map, own_super, roots_on, bad_field, failing, field_rules, is_super, super_of, super_refusals, unless_refused, csum_type_of, has_sum, known_kind, super_in, Super, TreeItem, found, ConvertedFilesAreRead, ReadsFiles, BytesAreKept, AreRangesOf, IsMaking, Making, made_from, file_tree_items, TreeRoots, IsNew, HasFsid, NewIdsFit, ConvertedIsReadable, IsReadableWithTrees, SuperblockReads, IsNewVolume, ReadsTree, super_for, ReadsSavedImage, SavedImageIsReadable, AreRowsOf, NamesKeepRules, HasBytes, KeepsBytes, RowsAreKept, AreIds, TreeNode, pointer_to_root, Options, ConvertedVolumesOpen, OpensAsBefore, Files}
use Rattle.std.proofs.Common.{codes, is_some}
use Rattle.btr_reader.specs.Parts.{Tree}
use Rattle.convert_core.proofs.Wholeness.{blocks_are}
use Rattle.reiser_volume.specs.fs_rows.Rows.{WholeRow}
use Rattle.convert_core_laws.proofs.reading.Named.{tree_read}

-- ---- the format of a disk whose superblock is read

first_holds : (t : Bool) (r : BtrRefusal) (rules : List (Bool × BtrRefusal)) → failing ((t, r) ∷ rules) ≡ [] → t ≡ true
first_holds true r rules h = refl
first_holds false r rules h = absurd (cc h)

none_refused : (rs : List BtrRefusal) (x y : Super) → unless_refused rs x ≡ Ok y → rs ≡ []
none_refused [] x y e = refl
none_refused (r ∷ rs) x y e = absurd (cc e)

magic_there : (block : List ℕ) (device : ℕ) (s : Super) → super_of block SUPER_BLOCK device ≡ Ok s → is_super block SUPER_BLOCK device ≡ true
unfolding super_of
magic_there block device s e =
    first_holds (is_super block SUPER_BLOCK device) bad_field
    ((is_some (known_kind (csum_type_of block)), Unsupported ChecksumType (csum_type_of block)) ∷ (has_sum (known_kind (csum_type_of block)) block, BadBtrfs SUPER_INFO_OFFSET SuperCsum) ∷ field_rules (super_in block) SUPER_BLOCK device)
    (none_refused (super_refusals block SUPER_BLOCK device) (super_in block) s e)

longer : (n : ℕ) → nat_lt 16 n ≡ true → nat_le n 16 ≡ false
longer n t = grind (arith, nat_tests, t)

format_is : (other : Image) (s : Super) → super_on other ≡ Ok s → format_in other ≡ Btrfs
format_is other s e =
    let both = and_parts (nat_lt 16 (length other)) (has_bytes_at (block_at other SUPER_BLOCK) SUPER_MAGIC_OFFSET (codes "_BHRfS_M")) (magic_there (block_at other SUPER_BLOCK) (length other) s e) in
    ap (λ (b : Bool). if b then Neither else format (block_at other SUPER_BLOCK)) (longer (length other) both.0)
    ∙ ap (λ (b : Bool). if b then Btrfs else (if has_reiser_magic (block_at other SUPER_BLOCK) then Reiser else Neither)) both.1

-- ---- a converted volume

-- a list without members
no_members : (xs : List BtrRefusal) → ((x : BtrRefusal) → ¬ Contains xs x) → xs ≡ []
no_members [] none = refl
no_members (x ∷ xs) none = absurd (none x (0, omega arith, refl))

module _ (reads : SuperblockReads) (readable : ConvertedIsReadable) (saved : SavedImageIsReadable) (names : NamesKeepRules) (kept : RowsAreKept) (bytes : BytesAreKept) (files : ConvertedFilesAreRead) (one : BtrfsRowsAreOne)
    (o : Options) (ids : Ids) (now : ℕ) (image other : Image) (m : Making) (r : TreeRoots) (nodes : List TreeNode) (v : IsNewVolume o ids now image other m r nodes) (low : now < 2 ^ 63) (blocks : HasBytes image) where
  abbrev making : IsMaking image m
  making = v.new.conversion.making

  is : IsReadableWithTrees image other m r nodes
  is = readable o ids now image other m r nodes v

  tree : ReadsTree other (own_super other) (own_map other) FS_TREE (r.tree Files) (file_tree_items image m)
  tree = tree_read image other (own_super other) (own_map other) m r nodes is.trees Files

  abbrev items : List TreeItem
  items = found other (own_map other) (tree_of (own_super other) FS_TREE (pointer_to_root (r.tree Files)))

  names_kept : KeepsNames (has_root (roots_on other (own_super other) (own_map other))) items (r.tree Files).address
  names_kept = names m.volume image m.options m.plan m.pieces items (has_root (roots_on other (own_super other) (own_map other))) (r.tree Files).address making.has_pieces tree.items_are

  ranges_of : AreRangesOf m.chunks (own_map other)
  ranges_of = record { each = is.ranges.each; whole = is.ranges.whole }

  reads_files : ReadsFiles image other m (own_map other) items
  reads_files = files image other m r nodes (own_map other) items making v.new.stands ranges_of tree.items_are

  tree_readable : IsReadable other Tree
  tree_readable = λ refusal broken. ⊎_elim (λ by_names. names_kept refusal by_names) (λ by_extents. reads_files.unbroken refusal by_extents) (is.rest refusal broken)

  keeps_bytes : KeepsBytes (made_from m.volume image m.options m.pieces) image other (own_map other) items
  keeps_bytes = λ key among has.
      bytes m.volume image other m.options m.plan m.pieces (own_map other) items key making.has_pieces v.new.stands.pieces (record { places = is.own.pieces }) tree.items_are among has

  rows_are : (rows : List WholeRow) → AreRowsOf image rows → AreRowsOfBtrfs other rows
  rows_are rows are = record {
    readable = λ refusal broken. tree_readable refusal (inr (no_opening, broken));
    item = tree.item;
    has_item = tree.has_item;
    at = pointer_to_root (r.tree Files);
    has_root = tree.leads;
    rows_are = kept m.volume image other m.options m.plan m.pieces (own_map other) items rows making.has_pieces tree.items_are blocks keeps_bytes are;
  }
    where
      no_opening : opening_refusals other ≡ []
      no_opening = no_members (opening_refusals other) is.opening

  pub opens : OpensAsBefore image other
  opens = record {
    format = format_is other (super_for m r nodes) (reads o ids now image other m r nodes v).reads;
    has_rows = record { log = is.log; tree = tree_readable };
    rows = rows_are;
    only = λ rows others are also. one other (own_super other) (own_map other) others rows also (rows_are rows are);
    saved =
        subst (λ (n : ℕ). ReadsSavedImage image other n) (blocks_are m.volume image m.options m.plan m.pieces making.has_pieces)
        (saved o ids now image other m r nodes v low names_kept);
  }

pub converted_volumes_open : NewIdsFit → SuperblockReads → ConvertedIsReadable → SavedImageIsReadable → NamesKeepRules → RowsAreKept → BytesAreKept → ConvertedFilesAreRead → BtrfsRowsAreOne → ConvertedVolumesOpen
converted_volumes_open fit reads readable saved names kept bytes files one = λ o ids now image other new size low are has blocks.
    let m : Making = new.0 in
    let is : IsNew o ids now image other m new.1 new.2 = new.3 in
    let own : AreIds m.ids = subst AreIds (sym is.conversion.ids_are) are in
    let fsid : HasFsid image m.options.uuid = subst (λ (p : Options). HasFsid image p.uuid) (sym is.conversion.options_are) has in
    let v : IsNewVolume o ids now image other m new.1 new.2 = record { new = is; size = size; ids_ = fit image m is.conversion.making own fsid } in
    opens reads readable saved names kept bytes files one o ids now image other m new.1 new.2 v low blocks
