-- Which volumes are converted.
use Rattle.volume_app.proofs.Imports.{◌≡◌, ◌∙◌, ℕ, Bool, true, false, cond, List, drop, ◌++◌, refl, sym, ap, subst, arith, ◌≢◌, codes, Decides-eqb, SUPER_BLOCK, SUPER_MAGIC_OFFSET, has_bytes_at, has_reiser_magic, Ids, format_in, Image, block_at, IsAccepted, used_of, volume_items, Options, IsConverted, IsConvertible, LacksSpace, put_back_same, IsSameVolume, put_back, HasEnoughSpace, TellsSpace, need}
use Rattle.std.specs.Prelude.{length}
use Rattle.std.proofs.lemmas.List.{drop-drop}
use Rattle.std.proofs.lemmas.Slice.Eq.{starts_is}
use Rattle.byteorder.specs.Endian.{little_number}
use Rattle.reiser_volume.specs.vol_block.Volume.{field}
use Rattle.convert_core.proofs.Putting.{convertible}
use Rattle.reiser_volume.specs.reiser_walk.Items.{ReiserItem}
use Rattle.reiser_volume.specs.reiser_volume_objects.declared.key.ObjectKey.{ObjectKey}
use Rattle.reiser_volume.specs.reiser_volume_objects.declared.naming.Naming.{Naming}
use Rattle.convert_core.specs.extent_pieces.Counts.{counts}
use Rattle.convert_core.specs.extent_pieces.Files.{files, owner, symlinks, tails}
use Rattle.convert_core.specs.extent_pieces.Found.{IsFound, files_of}
use Rattle.convert_core.specs.extent_pieces.Laws.{AreSortedKeys}
use Rattle.convert_core.specs.extent_pieces.Pieces.{kept_pieces, pieces}
use Rattle.convert_core.specs.extent_pieces.declared.pieces.Pieces.{Pieces}
use Rattle.reiser_volume.specs.reiser_volume_names.Links.{AreLinks, AreNamedKeys}
use Rattle.reiser_volume.specs.vol_block.declared.format.Format.TheVariants as formats
use Rattle.volume_app.proofs.Formats.{format_long}

-- The magic of Btrfs lies where the height of a ReiserFS tree lies.
height_by_magic : (bytes : List ℕ) → bytes ≡ codes "_BHRfS_M" ++ drop 8 bytes → field 2 bytes 4 ≡ 21350
height_by_magic bytes e = ap (λ (l : List ℕ). field 2 l 4) e

magic_by : (btrfs reiser : Bool) → cond btrfs formats.Btrfs (cond reiser formats.Reiser formats.Neither) ≡ formats.Btrfs → btrfs ≡ true
magic_by true reiser is = refl
magic_by false true is = cc
magic_by false false is = cc

-- No tree is so high: a disk with an accepted ReiserFS volume has not the format of Btrfs.
pub accepted_is_reiser : (disk : Image) → IsAccepted disk → format_in disk ≢ formats.Btrfs
accepted_is_reiser disk accepted is =
    let block : List ℕ = block_at disk SUPER_BLOCK in
    let magic : has_bytes_at block SUPER_MAGIC_OFFSET (codes "_BHRfS_M") ≡ true =
    magic_by (has_bytes_at block SUPER_MAGIC_OFFSET (codes "_BHRfS_M")) (has_reiser_magic block) (sym (format_long disk accepted.clean.superblock.there) ∙ is) in
    let height : field 2 block 68 ≡ 21350 =
    ap (little_number 2) (sym (drop-drop 4 64 block))
    ∙ height_by_magic (drop 64 block) ((starts_is (λ a b. Decides-eqb a b) (drop 64 block) (codes "_BHRfS_M") _ refl).0 magic) in
    absurd (omega (arith, height, accepted.clean.superblock.bounds.height_high))

-- a volume that was converted is one that can be
pub converted_was : (o : Options) (ids : Ids) (now : ℕ) (image other : Image) → IsConverted o ids now image other → IsConvertible o image
converted_was o ids now image other c =
    subst (λ (p : Options). IsConvertible p image) c.new.conversion.options_are
    (convertible c.m.volume image c.m.options c.m.plan c.m.pieces c.new.conversion.making.has_pieces)

-- ---- a volume that is the same

module _ (o : Options) (image other : Image) (same : IsSameVolume image other) where
  sorted_too : (keys : List ObjectKey) → AreSortedKeys image keys → AreSortedKeys other keys
  sorted_too keys sorted =
      record { accepted = same.accepted; are_keys = subst (λ (items : List ReiserItem). AreNamedKeys items keys) (sym same.items) sorted.are_keys; ascend = sorted.ascend }

  links_too : (visible links : List Naming) → AreLinks (volume_items image) visible links → AreLinks (volume_items other) visible links
  links_too visible links are = subst (λ (items : List ReiserItem). AreLinks items visible links) (sym same.items) are

  -- what is found goes by used blocks and items
  found_too : (keys : List ObjectKey) (links : List Naming) (found : Pieces) → IsFound o.inline image keys links found → IsFound o.inline other keys links found
  found_too keys links found is = record {
    pieces_are =
        is.pieces_are ∙ (ap (λ (used : List Bool). pieces used (owner (files_of image keys)) (tails o.inline (files_of image keys))) (sym same.used)
        ∙ ap (λ (items : List ReiserItem). pieces (used_of other) (owner (files items keys)) (tails o.inline (files items keys))) (sym same.items));
    kept_are =
        is.kept_are ∙ (ap (λ (used : List Bool). length (kept_pieces used (owner (files_of image keys)))) (sym same.used)
        ∙ ap (λ (items : List ReiserItem). length (kept_pieces (used_of other) (owner (files items keys)))) (sym same.items));
    counts_are =
        is.counts_are ∙ (ap (λ (used : List Bool). counts o.inline used (length keys) links (files_of image keys) (symlinks (volume_items image) keys)) (sym same.used)
        ∙ ap (λ (items : List ReiserItem). counts o.inline (used_of other) (length keys) links (files items keys) (symlinks items keys)) (sym same.items));
  }

  -- so it can be converted too
  pub convertible_too : IsConvertible o image → IsConvertible o other
  convertible_too can = record {
    keys = can.keys;
    sorted = sorted_too can.keys can.sorted;
    visible = can.visible;
    links = can.links;
    are_links = links_too can.visible can.links can.are_links;
    found = can.found;
    found_ = found_too can.keys can.links can.found can.found_;
    enough = subst (λ (used : List Bool). HasEnoughSpace used (need can.found.counts o)) (sym same.used) can.enough;
  }

  -- or lacks the same space
  lacks_too : (needed free run longest : ℕ) → LacksSpace image o needed free run longest → LacksSpace other o needed free run longest
  lacks_too needed free run longest lacks = record {
    keys = lacks.keys;
    sorted = sorted_too lacks.keys lacks.sorted;
    visible = lacks.visible;
    links = lacks.links;
    are_links = links_too lacks.visible lacks.links lacks.are_links;
    found = lacks.found;
    found_ = found_too lacks.keys lacks.links lacks.found lacks.found_;
    space = subst (λ (used : List Bool). TellsSpace used (need lacks.found.counts o) needed free run longest) (sym same.used) lacks.space;
  }

-- a disk that can be converted can be so when its block 16 is put back
pub convertible_back : (o : Options) (disk : Image) → IsConvertible o disk → IsConvertible o (put_back disk)
convertible_back o disk can = convertible_too o disk (put_back disk) (put_back_same.after disk can.sorted.accepted) can

-- and where it lacks space then, it does before
pub lacks_before : (o : Options) (disk : Image) (needed free run longest : ℕ) → LacksSpace (put_back disk) o needed free run longest → LacksSpace disk o needed free run longest
lacks_before o disk needed free run longest lacks =
    lacks_too o (put_back disk) disk (put_back_same.before disk lacks.sorted.accepted) needed free run longest lacks
