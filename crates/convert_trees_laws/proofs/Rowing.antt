-- The rows of a volume are the rows of a tree of the file tree's items.
use Rattle.convert_trees_laws.proofs.Imports.{◌≡◌, ◌<◌, ℕ, ◌+◌, ◌*◌, ◌/◌, ◌%◌, ◌^◌, Bool, true, false, not, ◌&&◌, List, [], Contains, Option, Some, if◌then◌else◌, refl, sym, ap, subst, ◌∙◌, true≢false, arith, unwrap_or, keys, Image, has_bytes, is_device, is_file, is_symlink, WholeRow, Kind, Directory, File, Symlink, Character, Block, Fifo, Socket, Subvolume, Inode, inode, TreeItem, HasPieces, made_from, device_number, inode_from, Source, nbytes_by, inode_in, kind_in, link_count, ino_of, size_by, size_in, stat_in, file_bytes, links_one, ObjectKey, Naming, ObjectStat, stat_of_object, root, items_of, kind_by, no_stat, links_in, AreReiserRows, HasStat, IsRow, LeadsToObject, flag, major_of, minor_of, superblock, volume_items, Volume, Options, Piece, Plan, HasSamePaths, NamesAreKept, ReadAs, HasBytes, InodesAreRead, KeepsBytes, RowsAreKept}
use Rattle.btr_reader.specs.btr_reader_contents.Extents.{bytes_of_inode as bytes_on}
use Rattle.btr_reader.specs.Rows.{AreRows, HasInode, IsInodeRow, has_flag}
use Rattle.btr_reader.specs.btr_reader_walk.declared.map.MapRange.{MapRange}
use Rattle.convert_trees_laws.proofs.Fields.{bit_eight, bit_five, bit_nine, bit_seven, bit_six}
use Rattle.convert_trees_laws.proofs.Known.{path_known, root_known, tree_kind_is}
use Rattle.convert_trees_laws.proofs.Stats.{FitsStat, stat_fits}

-- ---- the fields of a row

twice_and : (a b : Bool) → (a && (a && b)) ≡ (a && b)
twice_and true b = refl
twice_and false b = refl

device_back : (stat : ObjectStat) (kind : Kind) → stat.fields.rdev < 2 ^ 32 → ((if is_device kind then device_number stat kind / 2 ^ 20 else 0) ≡ (if is_device kind then major_of stat.fields.rdev else 0)) × ((if is_device kind then device_number stat kind % 2 ^ 20 else 0) ≡ (if is_device kind then minor_of stat.fields.rdev else 0))
device_back stat kind low = by (is_device kind)
  where
    by : (b : Bool) → ((if b then (if b then major_of stat.fields.rdev * 2 ^ 20 + minor_of stat.fields.rdev else 0) / 2 ^ 20 else 0) ≡ (if b then major_of stat.fields.rdev else 0))
        × ((if b then (if b then major_of stat.fields.rdev * 2 ^ 20 + minor_of stat.fields.rdev else 0) % 2 ^ 20 else 0) ≡ (if b then minor_of stat.fields.rdev else 0))
    by true = (omega (arith, low), omega (arith, low))
    by false = (refl, refl)

-- a row with the fields of stat data has those of the inode that is made of it
fields_kept : (datasum : Bool) (flags : ℕ) (stat : ObjectStat) (kind : Kind) (size nbytes nlink : ℕ) (row : WholeRow) → FitsStat stat.fields → kind ≡ row.kind → HasStat flags stat row
    → HasInode (inode_from datasum flags stat kind size nbytes nlink) row
fields_kept datasum flags stat kind size nbytes nlink row f same r =
    let a : Bool = is_file kind && not datasum in
    let b : Bool = flag flags stat 3 in
    let c : Bool = not (is_symlink kind) && flag flags stat 4 in
    let d : Bool = not (is_symlink kind) && flag flags stat 5 in
    let e : Bool = flag flags stat 6 in
    let g : Bool = flag flags stat 7 in
    let own : Inode = inode_from datasum flags stat kind size nbytes nlink in
    let device = device_back stat kind f.rdev in
    record {
      kind = tree_kind_is stat.fields.mode row.kind r.kind;
      mode = r.mode;
      uid = r.uid;
      gid = r.gid;
      atime = r.atime;
      mtime = r.mtime;
      ctime = r.ctime;
      sync = r.sync ∙ sym (bit_five a b c d e g);
      immutable = r.immutable ∙ (ap (λ (k : Kind). not (is_symlink k) && flag flags stat 4) (sym same) ∙ (sym (twice_and (not (is_symlink kind)) (flag flags stat 4))
          ∙ (ap (λ (t : Bool). not (is_symlink kind) && t) (sym (bit_six a b c d e g)) ∙ ap (λ (k : Kind). not (is_symlink k) && has_flag own 6) same)));
      append = r.append ∙ (ap (λ (k : Kind). not (is_symlink k) && flag flags stat 5) (sym same) ∙ (sym (twice_and (not (is_symlink kind)) (flag flags stat 5))
          ∙ (ap (λ (t : Bool). not (is_symlink kind) && t) (sym (bit_seven a b c d e g)) ∙ ap (λ (k : Kind). not (is_symlink k) && has_flag own 7) same)));
      nodump = r.nodump ∙ sym (bit_eight a b c d e g);
      noatime = r.noatime ∙ sym (bit_nine a b c d e g);
      major = r.major ∙ (ap (λ (k : Kind). if is_device k then major_of stat.fields.rdev else 0) (sym same) ∙ (sym device.0 ∙ ap (λ (k : Kind). if is_device k then own.rdev / 2 ^ 20 else 0) same));
      minor = r.minor ∙ (ap (λ (k : Kind). if is_device k then minor_of stat.fields.rdev else 0) (sym same) ∙ (sym device.1 ∙ ap (λ (k : Kind). if is_device k then own.rdev % 2 ^ 20 else 0) same));
    }

inode_is : (s : Source) (key : ObjectKey) → inode_in s key ≡ inode_from s.datasum s.flags (stat_in s key) (kind_in s key) (size_by s key (kind_in s key)) (nbytes_by s key) (link_count s key)
unfolding inode_in
inode_is s key = refl

size_is : (s : Source) (key : ObjectKey) (kind : Kind) → has_bytes kind ≡ true → size_by s key kind ≡ size_in s key
size_is s key File is = refl
size_is s key Symlink is = refl
size_is s key Directory is = absurd (true≢false (sym is))
size_is s key Character is = absurd (true≢false (sym is))
size_is s key Block is = absurd (true≢false (sym is))
size_is s key Fifo is = absurd (true≢false (sym is))
size_is s key Socket is = absurd (true≢false (sym is))
size_is s key Subvolume is = absurd (true≢false (sym is))

-- ---- rows

module _ (volume : Volume) (image other : Image) (o : Options) (plan : Plan) (pieces : List Piece) (ranges : List MapRange) (items : List TreeItem) (rows : List WholeRow) (has : HasPieces volume image o plan pieces)
    (read : ReadAs (made_from volume image o pieces) items) (bytes : HasBytes image) (held : KeepsBytes (made_from volume image o pieces) image other ranges items)
    (paths : HasSamePaths (made_from volume image o pieces) items) (inodes : InodesAreRead) where
  abbrev s : Source
  s = made_from volume image o pieces

  abbrev all : List ObjectKey
  all = keys volume.named

  -- the row of a path of the volume
  row_kept : (key : ObjectKey) (row : WholeRow) → Contains all key → IsRow image s.flags s.items s.links rows key row → IsInodeRow other ranges items rows (ino_of s key) row
  row_kept key row among r =
      let at : stat_in s key ≡ r.stat = ap (λ (x : Option ObjectStat). unwrap_or x no_stat) r.has_stat in
      let kind : kind_in s key ≡ row.kind = ap kind_by at ∙ ap (λ (x : Option Kind). unwrap_or x File) r.fields.kind in
      let stat : stat_of_object s.items key ≡ Some (stat_in s key) = r.has_stat ∙ ap (λ (x : ObjectStat). let y : Option ObjectStat = Some x in y) (sym at) in
      let fits = stat_fits image key (stat_in s key) has.accepted bytes stat in
      let fields : HasStat s.flags (stat_in s key) row = subst (λ (x : ObjectStat). HasStat s.flags x row) (sym at) r.fields in
      record {
        leads = paths.kept row.path key r.leads;
        own = inode_in s key;
        has = inodes volume image o plan pieces items key has read bytes among;
        fields = subst (λ (i : Inode). HasInode i row) (sym (inode_is s key)) (fields_kept s.datasum s.flags (stat_in s key) (kind_in s key) (size_by s key (kind_in s key)) (nbytes_by s key) (link_count s key) row fits kind fields);
        least = record {
          leads = paths.kept row.least key r.least.leads;
          least = λ path leads.
              let back = paths.only path (inode (ino_of s key)) leads in
              let same : back.0 ≡ key = paths.apart back.0 key back.1 among (sym (same_number back.2)) in
              r.least.least path (subst (LeadsToObject s.links root path) same back.3);
        };
        names = r.names;
        bytes = r.bytes ∙ content (has_bytes row.kind) refl at kind;
      }
    where
      same_number : {a b : ℕ} → inode a ≡ inode b → a ≡ b
      same_number is = cc

      content : (b : Bool) → has_bytes row.kind ≡ b → stat_in s key ≡ r.stat → kind_in s key ≡ row.kind
          → (if b then file_bytes image (items_of key s.items) r.stat.fields.size else []) ≡ (if b then bytes_on other ranges items (ino_of s key) (inode_in s key).size else [])
      content false none at kind = refl
      content true some at kind =
          let there : has_bytes (kind_in s key) ≡ true = ap has_bytes kind ∙ some in
          let size : (inode_in s key).size ≡ size_in s key = ap (λ (i : Inode). i.size) (inode_is s key) ∙ size_is s key (kind_in s key) there in
          ap (λ (x : ObjectStat). file_bytes image (items_of key s.items) x.fields.size) (sym at) ∙ (sym (held key among there) ∙ ap (bytes_on other ranges items (ino_of s key)) (sym size))

  links_are : (r : AreReiserRows image (superblock image).flags (volume_items image) rows) → r.links ≡ s.links
  links_are r = links_one (volume_items image) r.visible r.links has.opened.visible (links_in volume) r.are_links has.opened.are_links

  pub kept : AreReiserRows image (superblock image).flags (volume_items image) rows → AreRows other ranges items rows
  kept r = record {
    ascends = r.ascends;
    each = λ row h.
        let of = r.each row h in
        let flags : (superblock image).flags ≡ s.flags = ap (λ x. x.flags) (sym has.opened.sup) in
        let is : IsRow image s.flags s.items s.links rows of.0 row = subst (λ (ls : List Naming). IsRow image s.flags s.items ls rows of.0 row) (links_are r) (subst (λ (f : ℕ). IsRow image f s.items r.links rows of.0 row) flags of.1) in
        (inode (ino_of s of.0), row_kept of.0 row (known of.0 row is) is);
    whole = λ path to leads.
        let back = paths.only path to leads in
        r.whole path back.0 (subst (λ (ls : List Naming). LeadsToObject ls root path back.0) (sym (links_are r)) back.3);
  }
    where
      known : (key : ObjectKey) (row : WholeRow) → IsRow image s.flags s.items s.links rows key row → Contains all key
      known key row is = path_known volume image has.accepted has.opened root key row.path (root_known volume image has.accepted has.opened) is.leads

pub rows_are_kept : NamesAreKept → InodesAreRead → RowsAreKept
rows_are_kept names inodes volume image other o plan pieces ranges items rows has read bytes held rows_are =
    kept volume image other o plan pieces ranges items rows has read bytes held (names volume image o plan pieces items has read) inodes rows_are
