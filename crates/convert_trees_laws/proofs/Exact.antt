-- The inode that is read of an object is the one that was made of its stat data.
use Rattle.convert_trees_laws.proofs.Imports.{◌≡◌, ◌≤◌, ◌<◌, ℕ, ◌+◌, ◌*◌, ◌^◌, Bool, true, false, not, cond, ◌&&◌, List, [], ◌∷◌, map, filter, length, sum_by, count_by, Contains, option_and_then, if◌then◌else◌, refl, ap, ◌∙◌, arith, sum_by-append, sum_by-cons, sum_by-le-sum_by, keys, Image, is_device, is_directory, is_file, is_symlink, Kind, Directory, File, Symlink, Character, Block, Fifo, Socket, Subvolume, inode_layout, inode_of, stamp_layout, inodes_read_back, Item, TreeItem, HasPieces, made_from, places_are_apart, piece_bytes, pieces_of, device_number, inode_flags, inode_from, IndexedLink, Indexed, indexed_links, indexed, indexed_in, letters, names_in, next_index, saved_entry, Source, nbytes_by, inline_in, inode_in, kind_in, link_count, ino_of, size_by, size_in, stat_in, InodesAreThere, stamp_of, ObjectKey, Naming, ObjectStat, root, same_key, flag, major_of, minor_of, Volume, accepted_is_small, used_length, Options, Piece, Plan, HasBytes, InodesAreRead}
use Rattle.convert_steps.proofs.file_items.Ordering.{bytes_are, owned_within}
use Rattle.convert_steps.specs.reiser_volume.Bounds.{IsSmallVolume}
use Rattle.convert_trees_laws.proofs.Short.{sum_kept, sum_links, sum_mapped}
use Rattle.convert_trees_laws.proofs.Fields.{packed_low, seconds_fit}
use Rattle.convert_trees_laws.proofs.Known.{few_names, kind_is, mode_low, stat_of_key}
use Rattle.convert_trees_laws.proofs.Stats.{FitsStat, stat_fits}

-- ---- inodes that fit

record IsSmallInode (flags size nbytes nlink rdev mode : ℕ) : Type 0 where
  flags_low : flags < 2 ^ 64
  size_low : size < 2 ^ 64
  nbytes_low : nbytes < 2 ^ 64
  nlink_low : nlink < 2 ^ 32
  rdev_low : rdev < 2 ^ 64
  mode_fits : mode < 2 ^ 32

time_fits : (sec : ℕ) → sec < 2 ^ 32 → stamp_layout.fits (stamp_of sec)
unfolding stamp_layout
time_fits sec low = ((tt, seconds_fit sec low), omega arith)

from_fits : (datasum : Bool) (flags : ℕ) (stat : ObjectStat) (kind : Kind) (size nbytes nlink : ℕ) → FitsStat stat.fields → IsSmallInode (inode_flags datasum flags stat kind) size nbytes nlink (device_number stat kind) stat.fields.mode
    → inode_layout.fits (inode_from datasum flags stat kind size nbytes nlink)
unfolding inode_layout
from_fits datasum flags stat kind size nbytes nlink f small =
    let one = small.flags_low in
    let two = small.size_low in
    let three = small.nbytes_low in
    let four = small.nlink_low in
    let five = small.rdev_low in
    let six = small.mode_fits in
    let seven = f.uid in
    let eight = f.gid in
    (((((((((((((((((tt, omega arith), omega arith), omega (arith, two)), omega (arith, three)), omega arith), omega (arith, four)), omega (arith, seven)), omega (arith, eight)), omega (arith, six)), omega (arith, five)), omega (arith, one)), omega arith), time_fits stat.fields.atime f.atime), time_fits stat.fields.ctime f.ctime), time_fits stat.fields.mtime f.mtime), time_fits 0 (omega arith)))

flags_fit : (datasum : Bool) (flags : ℕ) (stat : ObjectStat) (kind : Kind) → inode_flags datasum flags stat kind < 2 ^ 64
flags_fit datasum flags stat kind =
    let low = packed_low (is_file kind && not datasum) (flag flags stat 3) (not (is_symlink kind) && flag flags stat 4) (not (is_symlink kind) && flag flags stat 5) (flag flags stat 6) (flag flags stat 7) in
    omega (arith, low)

device_fits : (stat : ObjectStat) (kind : Kind) → stat.fields.rdev < 2 ^ 32 → device_number stat kind < 2 ^ 64
device_fits stat kind low = by (is_device kind)
  where
    by : (b : Bool) → (if b then major_of stat.fields.rdev * 2 ^ 20 + minor_of stat.fields.rdev else 0) < 2 ^ 64
    by true = omega (arith, low)
    by false = omega arith

-- ---- sizes

kept_few : {X : Type 0} (p : X → Bool) (w : X → ℕ) (xs : List X) → sum_by w (filter p xs) ≤ sum_by w xs
kept_few p w xs =
    let is = sum_kept p w xs in
    let less = sum_by-le-sum_by (λ x. cond (p x) (w x) 0) w xs (λ x. at_most (p x) (w x)) in
    omega (arith, is, less)
  where
    at_most : (b : Bool) (n : ℕ) → cond b n 0 ≤ n
    at_most true n = omega arith
    at_most false n = omega arith

letters_few : (kind : ObjectKey → Kind) (all : List ObjectKey) (links : List Naming) (dir : ObjectKey) → letters (indexed_in kind all links dir) ≤ sum_by (λ n. length n.name) links + 14
letters_few kind all links dir =
    let w : Indexed → ℕ = λ e. length e.1.name in
    let both = sum_by-append w (map (indexed kind all) (names_in links dir)) (if same_key dir root then (next_index links dir, saved_entry) ∷ [] else []) in
    let first = sum_mapped (indexed kind all) w (names_in links dir) in
    let fewer = kept_few (λ (e : IndexedLink). same_key e.link.dir dir) (λ (e : IndexedLink). length e.link.name) (indexed_links links) in
    let whole = sum_links (λ n. length n.name) [] links in
    let last = saved (same_key dir root) in
    omega (arith, both, first, fewer, whole, last)
  where
    saved : (b : Bool) → sum_by (λ (e : Indexed). length e.1.name) (if b then (next_index links dir, saved_entry) ∷ [] else []) ≤ 14
    saved true = let one = sum_by-cons (λ (e : Indexed). length e.1.name) (next_index links dir, saved_entry) [] in omega (arith, one)
    saved false = omega arith

module _ (volume : Volume) (image : Image) (o : Options) (plan : Plan) (pieces : List Piece) (has : HasPieces volume image o plan pieces) (bytes : HasBytes image) (key : ObjectKey) (among : Contains (keys volume.named) key) where
  abbrev s : Source
  s = made_from volume image o pieces

  small : IsSmallVolume image
  small = accepted_is_small image has.accepted

  fits : FitsStat (stat_in s key).fields
  fits = let at = stat_of_key volume image has.accepted has.opened o pieces key among in stat_fits image key (stat_in s key) has.accepted bytes at

  size_fits : (kind : Kind) → size_by s key kind < 2 ^ 64
  size_fits Directory =
      let few = letters_few (kind_in s) s.keys s.links key in
      let names = small.names has.opened.visible s.links has.opened.are_links in
      omega (arith, few, names)
  size_fits File = fits.size
  size_fits Symlink = fits.size
  size_fits Character = omega arith
  size_fits Block = omega arith
  size_fits Fifo = omega arith
  size_fits Socket = omega arith
  size_fits Subvolume = omega arith

  nbytes_fits : nbytes_by s key < 2 ^ 64
  nbytes_fits = by (inline_in s key)
    where
      by : (b : Bool) → (if b then size_in s key else piece_bytes (pieces_of s.pieces (ino_of s key))) < 2 ^ 64
      by true = fits.size
      by false =
          let apart = (places_are_apart image has.found o plan pieces has.plan_ has.placed).apart in
          let within = owned_within _ pieces (ino_of s key) apart in
          let same = bytes_are (pieces_of s.pieces (ino_of s key)) in
          let blocks = small.blocks in
          let long = used_length image in
          omega (arith, within, same, blocks, long)

  links_fit : link_count s key < 2 ^ 32
  links_fit = by (is_directory (kind_in s key)) refl
    where
      by : (b : Bool) → is_directory (kind_in s key) ≡ b → (if b then 1 else count_by (λ n. same_key n.target key) s.links) < 2 ^ 32
      by true is = omega arith
      by false is = few_names volume image has.accepted has.opened o pieces key among is

  own_fits : inode_layout.fits (inode_in s key)
  unfolding inode_in
  own_fits =
      from_fits s.datasum s.flags (stat_in s key) (kind_in s key) (size_by s key (kind_in s key)) (nbytes_by s key) (link_count s key) fits
      (record {
        flags_low = flags_fit s.datasum s.flags (stat_in s key) (kind_in s key);
        size_low = size_fits (kind_in s key);
        nbytes_low = nbytes_fits;
        nlink_low = links_fit;
        rdev_low = device_fits (stat_in s key) (kind_in s key) fits.rdev;
        mode_fits = mode_low (stat_in s key).fields.mode (kind_in s key) (kind_is volume image has.accepted has.opened o pieces key among);
      })

pub inodes_are_read : InodesAreThere → InodesAreRead
inodes_are_read law volume image o plan pieces items key has read bytes among =
    let s : Source = made_from volume image o pieces in
    let at = law volume image o plan pieces items key has read among in
    ap (option_and_then (λ (i : TreeItem). inode_of i.body)) at.1 ∙ (ap (λ (i : Item). inode_of i.1) at.2 ∙ inodes_read_back (inode_in s key) (own_fits volume image o plan pieces has bytes key among))
