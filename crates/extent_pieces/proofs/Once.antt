-- In an accepted volume no block has two owners.
use Rattle.extent_pieces.proofs.Imports.{◌≡◌, ℕ, ◌+◌, ◌-◌, ◌^◌, ◌<◌, ◌≤◌, true, List, get_or, Option, Some, refl, sym, ◌∙◌, ap, arith, subst, ⊎_elim, Contains, AllPairs, filter, slice_get, unwrap_or, ◌≢◌, cases_lt, leb-true, AllPairs-filter, slice_get-get_or, Image, Kind, Directory, File, Symlink, Character, Block, Fifo, Socket, Subvolume, from_filter, from_map, ReiserItem, file_runs_are, FileRun, RunFrom, Disk, file_runs, next_from, ObjectKey, ObjectStat, items_of, fits_size, is_file, IsObject, AreNamedKeys, ino_of_key, IsSmallVolume, kind_by, no_stat, stat_at, AreNumbered, HoldsData, Owns, TellsOwned, volume_items, IsAccepted, accepted_is_small, maps_tell_owned, FileAt, file_at, files, files_among, is_file_at}
use Rattle.reiser_volume_files.specs.declared.map.RunFrom.TheVariants.{Tail as InTree}
use Rattle.reiser_volume_objects.specs.Names.{IsNamed}
use Rattle.reiser_volume.proofs.Numbered.{inode_before, inode_behind, inode_of_root}
use Rattle.reiser_volume.proofs.Owners.{owners_are_one}
use Rattle.extent_pieces.proofs.Lists.{pairs_map}
use Rattle.extent_pieces.proofs.Telling.{LiesIn, OwnedOnce, in_some_run}

-- two objects have two inodes
two_inodes : (keys : List ObjectKey) (at i j : ℕ) (a b : ObjectKey) → AreNumbered at keys → i < j → slice_get keys i ≡ Some a → slice_get keys j ≡ Some b → ino_of_key keys a ≢ ino_of_key keys b
two_inodes keys at i j a b numbered order first second same =
    ⊎_elim
    (λ (before : j < at).
    let one = inode_before keys at numbered i a first (omega arith) in
    let other = inode_before keys at numbered j b second before in
    omega (arith, one, other, same))
    (λ (not_before : at ≤ j). ⊎_elim
    (λ (behind : at < i).
    let one = inode_behind keys at numbered i a first behind in
    let other = inode_behind keys at numbered j b second (omega arith) in
    omega (arith, one, other, same))
    (λ (not_behind : i ≤ at). ⊎_elim
    (λ (less : i < at).
    let one = inode_before keys at numbered i a first less in
    ⊎_elim
    (λ (more : at < j). let other = inode_behind keys at numbered j b second more in omega (arith, one, other, same))
    (λ (here : j ≤ at). let other = inode_of_root keys at numbered j b second (omega arith) in omega (arith, one, other, same))
    (cases_lt at j))
    (λ (here : at ≤ i).
    let one = inode_of_root keys at numbered i a first (omega arith) in
    let other = inode_behind keys at numbered j b second (omega arith) in
    omega (arith, one, other, same))
    (cases_lt i at))
    (cases_lt at i))
    (cases_lt j at)

pub inodes_apart : (keys : List ObjectKey) (at : ℕ) → AreNumbered at keys → AllPairs (λ a b. ino_of_key keys a ≢ ino_of_key keys b) keys
inodes_apart keys at numbered = λ i j d order inside.
    two_inodes keys at i j (get_or keys i d) (get_or keys j d) numbered order (slice_get-get_or keys i d (omega arith)) (slice_get-get_or keys j d inside)

-- a file of a list is that of a key
pub record IsFileOf (items : List ReiserItem) (keys some : List ObjectKey) (f : FileAt) : Type 0 where
  pub key : ObjectKey
  pub among : Contains some key
  pub file : is_file_at items key ≡ true
  pub is : file_at items keys key ≡ f

pub file_of : (items : List ReiserItem) (keys some : List ObjectKey) (f : FileAt) → Contains (files_among items keys some) f → IsFileOf items keys some f
unfolding files_among
file_of items keys some f h =
    let mapped = from_map (file_at items keys) (filter (is_file_at items) some) f h in
    let kept = from_filter (is_file_at items) some mapped.0 mapped.1 in
    record { key = mapped.0; among = kept.0; file = kept.1; is = mapped.2 }

files_inodes : (items : List ReiserItem) (keys : List ObjectKey) (at : ℕ) → AreNumbered at keys → AllPairs (λ f g. f.inode ≢ g.inode) (files items keys)
unfolding files_among
files_inodes items keys at numbered =
    pairs_map (λ f g. f.inode ≢ g.inode) (file_at items keys) (filter (is_file_at items) keys)
    (AllPairs-filter (λ a b. ino_of_key keys a ≢ ino_of_key keys b) (is_file_at items) keys (inodes_apart keys at numbered))

same_disk : (a b : ℕ) → Disk a ≡ Disk b → a ≡ b
same_disk a b is = cc

tree_is_no_disk : (b : ℕ) → InTree ≡ Disk b → ⊥
tree_is_no_disk b is = absurd (cc)

-- a file has at most 2^44 bytes
file_short : (kind : Kind) (size : ℕ) → is_file kind ≡ true → fits_size kind size ≡ true → size ≤ 2 ^ 44
file_short File size t fits = leb-true size (2 ^ 44) fits
file_short Directory size t fits = absurd (cc)
file_short Symlink size t fits = absurd (cc)
file_short Character size t fits = absurd (cc)
file_short Block size t fits = absurd (cc)
file_short Fifo size t fits = absurd (cc)
file_short Socket size t fits = absurd (cc)
file_short Subvolume size t fits = absurd (cc)

-- what the stat data of an object in order says
pub stat_there : (items : List ReiserItem) (key : ObjectKey) (object : IsObject items key) → stat_at items key ≡ object.stat
stat_there items key object = ap (λ (o : Option ObjectStat). unwrap_or o no_stat) object.has_stat

pub kind_there : (items : List ReiserItem) (key : ObjectKey) (object : IsObject items key) → kind_by (stat_at items key) ≡ object.kind
kind_there items key object = ap kind_by (stat_there items key object) ∙ ap (λ (o : Option Kind). unwrap_or o File) object.known

module _ (image : Image) (accepted : IsAccepted image) (keys : List ObjectKey) (are : AreNamedKeys (volume_items image) keys) where
  abbrev items : List ReiserItem
  items = volume_items image

  pub named : (key : ObjectKey) → Contains keys key → IsNamed items key
  named key among = (are.exact key).0 among

  -- a block of the file is one that its object owns
  owned_in_run : (key : ObjectKey) (runs : List FileRun) (r : FileRun) (k b : ℕ) (from : RunFrom) → TellsOwned image key runs → Contains runs r → r.from ≡ from → r.at ≤ k → k < r.at + r.count
      → next_from from (k - r.at) ≡ Disk b → Owns image key k b
  owned_in_run key runs r k b (Disk a) tells among is low high next =
      let block : a + (k - r.at) ≡ b = same_disk (a + (k - r.at)) b next in
      let at : r.at + (k - r.at) ≡ k = omega arith in
      subst (λ (c : ℕ). Owns image key k c) block (subst (λ (j : ℕ). Owns image key j (a + (k - r.at))) at (tells.each r a (k - r.at) among is (omega arith)))
  owned_in_run key runs r k b InTree tells among is low high next = absurd (tree_is_no_disk b next)

  pub lies_owns : (key : ObjectKey) (k b : ℕ) → Contains keys key → LiesIn (file_at items keys key) k b → Owns image key k b
  lies_owns key k b among lies =
      let size : ℕ = (stat_at items key).fields.size in
      let runs : List FileRun = file_runs (items_of key items) size in
      let found = in_some_run runs k (Disk b) ((file_runs_are (items_of key items) size).covers k ∙ lies) in
      owned_in_run key runs found.0 k b found.0.from (maps_tell_owned image accepted key (named key among)) found.1 refl found.2 found.3 found.4

  pub file_owns : (f : FileAt) (k b : ℕ) (of : IsFileOf items keys keys f) → LiesIn f k b → Owns image of.key k b
  file_owns f k b of lies = lies_owns of.key k b of.among (subst (λ (g : FileAt). LiesIn g k b) (sym of.is) lies)

  pub owned_low : (key : ObjectKey) (k b : ℕ) → Owns image key k b → b < 2 ^ 29
  owned_low key k b owns =
      let holds : HoldsData image b = owners_are_one.holds image accepted key k b owns in
      let small : IsSmallVolume image = accepted_is_small image accepted in
      omega (arith, holds.within, small.blocks)

  pub size_short : (key : ObjectKey) → Contains keys key → is_file_at items key ≡ true → (stat_at items key).fields.size ≤ 2 ^ 44
  size_short key among file =
      let object : IsObject items key = accepted.objects.each key (named key among) in
      let short = file_short object.kind object.stat.fields.size (sym (ap is_file (kind_there items key object)) ∙ file) object.size in
      subst (λ (stat : ObjectStat). stat.fields.size ≤ 2 ^ 44) (sym (stat_there items key object)) short

  pub owned_once : (at : ℕ) → AreNumbered at keys → OwnedOnce (files items keys)
  owned_once at numbered = record {
    inodes = files_inodes items keys at numbered;
    once = λ f g k l b in_f in_g here there.
        let of_f = file_of items keys keys f in_f in
        let of_g = file_of items keys keys g in_g in
        let one = owners_are_one.one image accepted of_f.key of_g.key k l b (file_owns f k b of_f here) (file_owns g l b of_g there) in
        (sym (ap (λ (h : FileAt). h.inode) of_f.is) ∙ (ap (ino_of_key keys) one.0 ∙ ap (λ (h : FileAt). h.inode) of_g.is), one.1);
    low = λ f k b in_f lies. let of = file_of items keys keys f in_f in let low = owned_low of.key k b (file_owns f k b of lies) in omega (arith, low);
    short = λ f in_f. let of = file_of items keys keys f in_f in subst (λ (h : FileAt). h.size ≤ 2 ^ 44) of.is (size_short of.key of.among of.file);
  }
