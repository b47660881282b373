-- The owners of blocks are those that the volume says.
use Rattle.extent_pieces.proofs.Imports.{◌≡◌, ℕ, ◌+◌, ◌-◌, ◌≤◌, true, List, Option, Some, refl, sym, ◌∙◌, ap, arith, subst, Contains, filter, unwrap_or, slice_get-get_or, Image, Kind, File, in_filter, in_map, ReiserItem, FileRun, file_runs, ObjectKey, ObjectStat, items_of, root, is_file, kind_by, no_stat, stat_at, AreNumbered, Owns, TellsOwned, volume_items, accepted_is_small, maps_tell_owned, FileAt, file_at, files, files_among, is_file_at, AreSortedKeys, OwnersAreNamed, OwnersOf}
use Rattle.extent_pieces.proofs.Lists.{all_at}
use Rattle.extent_pieces.proofs.Once.{IsFileOf, file_of, file_owns, owned_once}
use Rattle.extent_pieces.proofs.Owners.{owner_from, owner_is}
use Rattle.extent_pieces.proofs.Telling.{LiesIn, RunLies, runs_lie}

-- an object that owns a block is a file
pub owns_file : (image : Image) (key : ObjectKey) (k b : ℕ) → Owns image key k b → is_file_at (volume_items image) key ≡ true
owns_file image key k b owns =
    ap is_file (ap kind_by (ap (λ (o : Option ObjectStat). unwrap_or o no_stat) owns.has_stat) ∙ ap (λ (o : Option Kind). unwrap_or o File) owns.file)

file_among : (items : List ReiserItem) (keys some : List ObjectKey) (key : ObjectKey) → Contains some key → is_file_at items key ≡ true → Contains (files_among items keys some) (file_at items keys key)
unfolding files_among
file_among items keys some key among file = in_map (file_at items keys) (filter (is_file_at items) some) key (in_filter (is_file_at items) some key among file)

module _ (image : Image) (keys : List ObjectKey) (sorted : AreSortedKeys image keys) where
  abbrev items : List ReiserItem
  items = volume_items image

  -- the root's place
  pub numbered : (at : ℕ) × AreNumbered at keys
  numbered =
      let among : Contains keys root = (sorted.are_keys.exact root).1 (0, refl) in
      let few = (accepted_is_small image sorted.accepted).objects keys sorted.are_keys in
      (among.0, record { has_root = slice_get-get_or keys among.0 root among.1 ∙ ap (λ (k : ObjectKey). let o : Option ObjectKey = Some k in o) among.2; ascends = sorted.ascend; small = omega (arith, few) })

  owns_lies : (key : ObjectKey) (k b : ℕ) → Owns image key k b → LiesIn (file_at items keys key) k b
  owns_lies key k b owns =
      let f : FileAt = file_at items keys key in
      let runs : List FileRun = file_runs (items_of key items) (stat_at items key).fields.size in
      let tells : TellsOwned image key runs = maps_tell_owned image sorted.accepted key owns.named in
      let found = tells.whole k b owns in
      let r : FileRun = found.0 in
      let first : ℕ = found.1 in
      let low : r.at ≤ k = found.4 in
      let lies : LiesIn f (r.at + (k - r.at)) (first + (k - r.at)) = (all_at (RunLies f) runs r (runs_lie f) found.2).lies first (k - r.at) found.3 (omega (arith, found.5)) in
      subst (λ (c : ℕ). LiesIn f k c) (sym found.6) (subst (λ (j : ℕ). LiesIn f j (first + (k - r.at))) (let e : r.at + (k - r.at) ≡ k = omega arith in e) lies)

  pub owners_of : OwnersOf image keys
  owners_of = record {
    owned = λ key k b owns.
        let among : Contains keys key = (sorted.are_keys.exact key).1 owns.named in
        owner_is (files items keys) (files items keys) (file_at items keys key) k b (owned_once image sorted.accepted keys sorted.are_keys numbered.0 numbered.1) (λ g h. h)
        (file_among items keys keys key among (owns_file image key k b owns)) (owns_lies key k b owns);
    owns = λ b ino k is.
        let found = owner_from (files items keys) b ino k is in
        let of : IsFileOf items keys keys found.0 = file_of items keys keys found.0 found.1 in
        (of.key, sym found.3 ∙ sym (ap (λ (f : FileAt). f.inode) of.is), file_owns image sorted.accepted keys sorted.are_keys found.0 k b of found.2);
  }

pub owners_are_named : OwnersAreNamed
owners_are_named image keys sorted = owners_of image keys sorted
