-- What the ReiserFS volume has for a file or a symlink, by where its blocks lie.
use Rattle.convert_core_laws.proofs.Imports.{◌≡◌, ◌≤◌, ◌<◌, ℕ, ◌+◌, ◌-◌, ◌*◌, ◌/◌, ◌%◌, ◌^◌, ◌&&◌, nat_le, Bool, true, false, List, ◌++◌, length, get_or, take, Option, Some, None, refl, sym, ap, subst, ◌∙◌, ⊎_elim, true≢false, arith, and_parts, cases_lt, false≢true, le-ltb, leb-true, get_or_append_left, get_or-append_right, get_or_past, get_or-replicate, get_or-take, length-take, All-contains, Image, zeros, has_bytes, Kind, Directory, File, Symlink, Character, Block, Fifo, Socket, Subvolume, byte_at, from_filter, ReiserItem, RunFrom, Disk, Tail, IsAligned, content, file_byte, file_bytes, named_block, tail_block, target_bytes, IsNoIndirect, held_from, up_to_size, block_from, disk_or_hole, is_held, ObjectKey, ObjectStat, items_of, object_key_of, same_key, fits_size, may_have, IsNamed, IsObject, kind_there, stat_there, stays_in_tree, is_tail, kind_by, stat_at, IsAccepted, superblock, reiser_tree_of, used_of, volume_items, used_length}
use Rattle.std.proofs.Common.{All, if◌then◌else◌}
use Rattle.reiser_volume.specs.reiser_volume_files.Bytes.{file_block}
use Rattle.reiser_volume.proofs.fs_rows.FileMarks.{below_size, short_is}
use Rattle.reiser_volume.specs.reiser_node.declared.head.ItemKind.TheVariants.{Indirect}
use Rattle.reiser_volume.specs.reiser_walk.Laws.{FitsHead}
use Rattle.reiser_volume.specs.reiser_walk.Tree.{items_of_tree}
use Rattle.reiser_volume.proofs.reiser_walk.Rules.{sound_exactly}
use Rattle.reiser_volume.proofs.reiser_volume_files.Sorts.{blocks_held, target_is}
use Rattle.reiser_volume.proofs.reiser_volume_contents.Files.{aligned_by}
use Rattle.reiser_volume.proofs.Leading.{all_of, fits_each}
use Rattle.reiser_volume.proofs.SameRows.{none_saves}

-- byte j of a block of the volume, where it lies below the size
pub up_to_byte : (bytes : List ℕ) (size k j : ℕ) → j < 4096 → 4096 * k + j < size → get_or (up_to_size bytes size k) j 0 ≡ get_or bytes j 0
up_to_byte bytes size k j inside below =
    let cut : ℕ = size - 4096 * k in
    get_or-take 4096 (take cut bytes ++ zeros) j 0 inside
    ∙ ⊎_elim
    (λ (low : j < length (take cut bytes)). get_or_append_left (take cut bytes) zeros 0 j low ∙ get_or-take cut bytes j 0 (omega (arith, below)))
    (λ (high : length (take cut bytes) ≤ j).
    get_or-append_right (take cut bytes) zeros (length (take cut bytes)) j 0 refl high
    ∙ (get_or-replicate 4096 (j - length (take cut bytes)) 0 0 (omega (arith, inside, high)) ∙ sym (get_or_past bytes j 0 (let long = length-take cut bytes in omega (arith, high, below, long)))))
    (cases_lt j (length (take cut bytes)))

module _ (image : Image) (a : IsAccepted image) (key : ObjectKey) (named : IsNamed (volume_items image) key) where
  abbrev items : List ReiserItem
  items = items_of key (volume_items image)

  abbrev object : IsObject (volume_items image) key
  object = a.objects.each key named

  abbrev size : ℕ
  size = (stat_at (volume_items image) key).fields.size

  kind_is : kind_by (stat_at (volume_items image) key) ≡ object.kind
  kind_is = kind_there (volume_items image) key object

  size_is : size ≡ object.stat.fields.size
  size_is = ap (λ (s : ObjectStat). s.fields.size) (stat_there (volume_items image) key object)

  aligned : All IsAligned items
  aligned = all_of IsAligned items (λ i among.
      let whole = (from_filter (λ (j : ReiserItem). same_key (object_key_of j.head) key) (volume_items image) i among).0 in
      let bodies : All (λ (j : ReiserItem). FitsHead j.head j.body) (volume_items image) =
      subst (λ (n : ℕ). All (λ (j : ReiserItem). FitsHead j.head j.body) (items_of_tree (reiser_tree_of (superblock image)) image n)) (used_length image) ((sound_exactly (reiser_tree_of (superblock image)) image (used_of image)).0 a.tree).bodies in
      let fits : FitsHead i.head i.body = All-contains (λ (j : ReiserItem). FitsHead j.head j.body) (volume_items image) i bodies whole in
      ⊎_elim (λ save. absurd (true≢false (sym save ∙ none_saves (volume_items image) i a.objects.no_save_link whole))) (λ f. aligned_by i.head.kind i.head i.body f.0) fits)

  -- a byte by where its block lies
  pub held_byte : (n : ℕ) → n < size → file_byte image items n ≡ get_or (held_from image items size (n / 4096) (block_from items size (n / 4096))) (n % 4096) 0
  held_byte n below =
      let k : ℕ = n / 4096 in
      let place : 4096 * k + n % 4096 ≡ n = omega arith in
      sym (below_size (file_byte image items) n size below)
      ∙ (ap (content image items size) (sym place)
      ∙ (sym (byte_at 4096 (content image items size) (4096 * k) (n % 4096) (omega arith)) ∙ ap (λ (bytes : List ℕ). get_or bytes (n % 4096) 0) (blocks_held image items size k object.apart aligned)))

  -- ---- what stays in the tree

  -- a short file that lies in direct items
  tail_bytes : size ≤ 2048 → block_from items size 0 ≡ Some Tail → target_bytes items size ≡ file_bytes image items size
  tail_bytes short lies =
      let is : file_block image items size 0 ≡ tail_block items size 0 = blocks_held image items size 0 object.apart aligned ∙ ap (held_from image items size 0) lies in
      short_is (file_byte image items) size 0 (tail_block items size 0) (sym is) refl (omega (arith, short))

  tail_lies : (from : Option RunFrom) → is_tail from ≡ true → from ≡ Some Tail
  tail_lies None is = absurd (cc)
  tail_lies (Some (Disk b)) is = absurd (cc)
  tail_lies (Some Tail) is = refl

  -- so it has a byte
  tail_some : is_tail (block_from items size 0) ≡ true → 1 ≤ size
  tail_some is =
      ⊎_elim (λ (some : 0 < size). omega (arith, some))
      (λ (none : size ≤ 0). absurd (false≢true (sym (ap (λ (b : Bool). is_tail (if b then (if is_held items size 0 then Some Tail else disk_or_hole (named_block items 0)) else None)) (le-ltb (4096 * 0) size (omega (arith, none)))) ∙ is)))
      (cases_lt 0 size)

  -- a symlink has no items of pointers
  no_pointers : object.kind ≡ Symlink → All IsNoIndirect items
  no_pointers link = all_of IsNoIndirect items (λ i among.
      let may : may_have object.kind i.head.kind ≡ true = fits_each (λ (x : ReiserItem). may_have object.kind x.head.kind) items i object.fits among in
      λ (indirect : i.head.kind ≡ Indirect). false≢true (sym (ap (λ (k : Kind). may_have k i.head.kind) link ∙ ap (may_have Symlink) indirect) ∙ may))

  link_short : object.kind ≡ Symlink → size ≤ 3900
  link_short link = let low = a.names.keeps.targets key object.stat named object.has_stat (object.known ∙ ap (λ (k : Kind). let o : Option Kind = Some k in o) link) in let same = size_is in omega (arith, low, same)

  link_some : object.kind ≡ Symlink → 1 ≤ size
  link_some link =
      let some : 1 ≤ object.stat.fields.size = leb-true 1 object.stat.fields.size (sym (ap (λ (k : Kind). fits_size k object.stat.fields.size) link) ∙ object.size) in
      let same = size_is in
      omega (arith, some, same)

  -- a file has at most 2^44 bytes
  file_short : (kind : Kind) → kind ≡ File → fits_size kind object.stat.fields.size ≡ true → object.stat.fields.size ≤ 2 ^ 44
  file_short File is t = leb-true object.stat.fields.size (2 ^ 44) t
  file_short Symlink is t = absurd (cc)
  file_short Directory is t = absurd (cc)
  file_short Character is t = absurd (cc)
  file_short Block is t = absurd (cc)
  file_short Fifo is t = absurd (cc)
  file_short Socket is t = absurd (cc)
  file_short Subvolume is t = absurd (cc)

  pub size_small : has_bytes (kind_by (stat_at (volume_items image) key)) ≡ true → size ≤ 2 ^ 44
  size_small has = by (kind_by (stat_at (volume_items image) key)) refl has
    where
      by : (kind : Kind) → kind_by (stat_at (volume_items image) key) ≡ kind → has_bytes kind ≡ true → size ≤ 2 ^ 44
      by File same t = let short = file_short object.kind (sym kind_is ∙ same) object.size in let is = size_is in omega (arith, short, is)
      by Symlink same t = let short = link_short (sym kind_is ∙ same) in omega (arith, short)
      by Directory same t = absurd (cc)
      by Character same t = absurd (cc)
      by Block same t = absurd (cc)
      by Fifo same t = absurd (cc)
      by Socket same t = absurd (cc)
      by Subvolume same t = absurd (cc)

  -- What stays in the tree has all bytes of the file, and these are few.
  pub record StaysInTree : Type 0 where
    pub short : size ≤ 3900
    pub some : 1 ≤ size
    pub bytes : target_bytes items size ≡ file_bytes image items size

  pub stays : (inline : Bool) → stays_in_tree inline items size (kind_by (stat_at (volume_items image) key)) ≡ true → StaysInTree
  stays inline is = by (kind_by (stat_at (volume_items image) key)) refl is
    where
      by : (kind : Kind) → kind_by (stat_at (volume_items image) key) ≡ kind → stays_in_tree inline items size kind ≡ true → StaysInTree
      by File same h =
          let parts = and_parts inline (nat_le size 2048 && is_tail (block_from items size 0)) h in
          let more = and_parts (nat_le size 2048) (is_tail (block_from items size 0)) parts.1 in
          let short = leb-true size 2048 more.0 in
          record { short = omega (arith, short); some = tail_some more.1; bytes = tail_bytes short (tail_lies (block_from items size 0) more.1) }
      by Symlink same h =
          let link : object.kind ≡ Symlink = sym kind_is ∙ same in
          let short = link_short link in
          record { short = short; some = link_some link; bytes = target_is image items size (omega (arith, short)) (no_pointers link) }
      by Directory same h = absurd (cc)
      by Character same h = absurd (cc)
      by Block same h = absurd (cc)
      by Fifo same h = absurd (cc)
      by Socket same h = absurd (cc)
      by Subvolume same h = absurd (cc)

  -- what does not stay there is a file
  pub other_is_file : (inline : Bool) (kind : Kind) → has_bytes kind ≡ true → stays_in_tree inline items size kind ≡ false → kind ≡ File
  other_is_file inline File has out = refl
  other_is_file inline Symlink has out = absurd (cc)
  other_is_file inline Directory has out = absurd (cc)
  other_is_file inline Character has out = absurd (cc)
  other_is_file inline Block has out = absurd (cc)
  other_is_file inline Fifo has out = absurd (cc)
  other_is_file inline Socket has out = absurd (cc)
  other_is_file inline Subvolume has out = absurd (cc)
