-- The objects of an accepted volume can be read again.
use Rattle.reiser_volume.proofs.Imports.{◌≡◌, ℕ, List, [], true, false, length, Option, Some, None, replicate, sym, ap, subst, ◌∙◌, arith, unwrap_or, list_any, range_with_len, length-map, Image, VolAnswer, Refused, Fault, Memory, Kind, File, Symlink, is_marked, is_save_link, ReiserItem, items_of_tree, file_bytes, file_byte, ObjectKey, ObjectStat, fits_kind, stat_of_object, items_of, kind_of_mode, IsObject, HasNoted, some_same, IsFault, IsFaultOrMemory, HoldsObject, HoldsLink, object_items, KnownObject, Volume, IsContent, IsKnownAt, IsOfVolume, bytes_at, no_stat, stat_at, IsKeptMark, superblock, used_of, reiser_tree_of, volume_items}
use Rattle.std.proofs.lemmas.List.FromFn.{length-range_with_len}
use Rattle.fs_rows.specs.Mark.{mark_of_bytes}
use Rattle.fs_rows.proofs.Functions.{length_bytes}
use Rattle.reiser_volume_files.specs.Laws.{AreItemsApart}

pub fault_or : (e : VolAnswer) → IsFault e → IsFaultOrMemory e
fault_or (Refused r) is = is
fault_or Fault is = tt
fault_or Memory is = tt

pub none_some : {A : Type 0} (o : Option A) (x : A) → None ≡ o → o ≡ Some x → ⊥
none_some o x none is = no_some (none ∙ is)
  where
    no_some : None ≡ Some x → ⊥
    no_some e = cc

pub used_length : (image : Image) → length (used_of image) ≡ (superblock image).blocks
used_length image = length-map (range_with_len 0 (superblock image).blocks) (is_marked image) ∙ length-range_with_len 0 (superblock image).blocks

-- the items of an object, as both have them
pub same_items : (image : Image) (key : ObjectKey) → object_items (reiser_tree_of (superblock image)) image (used_of image) key ≡ items_of key (volume_items image)
same_items image key = ap (λ (n : ℕ). items_of key (items_of_tree (reiser_tree_of (superblock image)) image n)) (used_length image)

-- a mark of the object's bytes, as they were read, is one that may be kept
pub mark_kept : (image : Image) (key : ObjectKey) (mark : List ℕ) (size : ℕ) → mark ≡ mark_of_bytes (file_bytes image (object_items (reiser_tree_of (superblock image)) image (used_of image) key) size)
    → size ≡ (stat_at (volume_items image) key).fields.size → IsKeptMark image key (Some mark)
mark_kept image key mark size is same =
    is
    ∙ (ap (λ (l : List ReiserItem). mark_of_bytes (file_bytes image l size)) (same_items image key)
    ∙ ap (λ (n : ℕ). mark_of_bytes (file_bytes image (items_of key (volume_items image)) n)) same)

module _ (image : Image) (volume : Volume) (key : ObjectKey) (of : IsOfVolume image volume key) where
  abbrev items : List ReiserItem
  items = volume_items image

  abbrev pub object : IsObject items key
  object = of.accepted.objects.each key of.named

  -- the stat data of the object
  pub known_stat : (stat : ObjectStat) → Some stat ≡ stat_of_object items key → object.stat ≡ stat
  known_stat stat is = some_same (stat_of_object items key) object.stat stat object.has_stat (sym is)

  pub holds : HoldsObject volume.objects key (reiser_tree_of (superblock image)) image (used_of image)
  holds =
      let long = used_length image in
      let fits = of.accepted.clean.superblock.fits in
      record {
        sound = of.accepted.tree;
        within = omega (arith, long, fits);
        noted = subst (λ (n : ℕ). HasNoted volume.objects (items_of_tree (reiser_tree_of (superblock image)) image n)) (sym long) of.opened.noted;
        no_save_link = subst (λ (n : ℕ). list_any (λ i. is_save_link i.head) (items_of_tree (reiser_tree_of (superblock image)) image n) ≡ false) (sym long) of.accepted.objects.no_save_link;
        apart = subst (λ (l : List ReiserItem). AreItemsApart l) (sym (same_items image key)) object.apart;
      }

  module _ (known : KnownObject) (at : IsKnownAt items key known) where
    same_stat : object.stat ≡ known.stat
    same_stat = some_same (stat_of_object items key) object.stat known.stat object.has_stat at.stat

    -- the size is that of the stat data
    pub size_known : known.stat.fields.size ≡ (stat_at items key).fields.size
    size_known = ap (λ (o : Option ObjectStat). (unwrap_or o no_stat).fields.size) (sym at.stat)

    pub same_kind : object.kind ≡ known.kind
    same_kind = some_same (kind_of_mode known.stat.fields.mode) object.kind known.kind (sym (ap (λ (s : ObjectStat). kind_of_mode s.fields.mode) same_stat) ∙ object.known) at.kind

    pub holds_link : known.kind ≡ Symlink → HoldsLink volume.objects key (reiser_tree_of (superblock image)) image (used_of image)
    holds_link is = record {
      object = holds;
      fits = subst (λ (l : List ReiserItem). fits_kind Symlink l ≡ true) (sym (same_items image key)) (subst (λ (k : Kind). fits_kind k (items_of key items) ≡ true) (same_kind ∙ is) object.fits);
    }

    long_bytes : length (file_bytes image (items_of key items) known.stat.fields.size) ≡ known.stat.fields.size
    long_bytes = length_bytes known.stat.fields.size (file_byte image (items_of key items)) 0

    -- what is known of a file with a mark that is kept
    pub file_read : (mark target : List ℕ) → IsKeptMark image key (Some mark) → target ≡ []
        → IsContent File (bytes_at image items key known.stat File) known.stat.fields.size mark target
    file_read mark target is none = record {
      is_length = sym long_bytes;
      is_mark = is ∙ ap (λ (n : ℕ). mark_of_bytes (file_bytes image (items_of key items) n)) (sym size_known);
      is_target = none;
    }

    -- and of a symlink
    pub link_read : (mark target : List ℕ) → mark ≡ replicate 32 0 → target ≡ file_bytes image (object_items (reiser_tree_of (superblock image)) image (used_of image) key) known.stat.fields.size
        → IsContent Symlink (bytes_at image items key known.stat Symlink) known.stat.fields.size mark target
    link_read mark target none is = record {
      is_length = sym long_bytes;
      is_mark = none;
      is_target = is ∙ ap (λ (l : List ReiserItem). file_bytes image l known.stat.fields.size) (same_items image key);
    }
