-- The map of a file tells exactly the blocks that it owns.
use Rattle.reiser_volume.proofs.Imports.{◌≡◌, ◌≢◌, ℕ, zero, suc, ◌+◌, ◌-◌, ◌*◌, ◌<◌, ◌≤◌, ◌==◌, nat_lt, Bool, true, false, List, [], ◌∷◌, length, get_or, Contains, All, AllPairs, Option, Some, None, unwrap_or, ⊎_elim, if◌then◌else◌, refl, sym, ap, subst, ◌∙◌, true≢false, arith, eqb-true, eqb-false, ltb-true, lt-ltb, nat_tests, All-contains, Image, Kind, File, Symlink, Character, Block, Fifo, Socket, Subvolume, at_head, in_tail, from_filter, ReiserItem, FitsHead, items_of_tree, sound_exactly, FileRun, named_block, IsAligned, is_held, disk_or_hole, block_from, next_from, is_in_run, lies_at, IsFileRunBefore, AreRunsOf, file_runs, one_sort, items_name, ObjectKey, ObjectStat, stat_of_object, same_key, object_key_of, items_of, may_have, is_file, IsNamed, IsObject, no_stat, stat_at, Owns, TellsOwned, MapsTellOwned, superblock, used_of, reiser_tree_of, volume_items, IsAccepted}
use Rattle.fs_rows.specs.declared.row.Kind.TheVariants.{Directory}
use Rattle.reiser_volume_files.specs.declared.map.RunFrom.{RunFrom}
use Rattle.reiser_volume_files.specs.declared.map.RunFrom.TheVariants.{Disk, Tail}
use Rattle.reiser_volume_files.proofs.Ascending.{in_run, past_run, lies_in, lies_on, file_runs_are}
use Rattle.reiser_volume_contents.proofs.Files.{aligned_by}
use Rattle.reiser_volume.proofs.Holding.{used_length}
use Rattle.reiser_volume.proofs.Leading.{all_of, fits_each}
use Rattle.reiser_volume.proofs.SameRows.{none_saves}

-- where a block of one of the runs lies
lies_within : (runs : List FileRun) → AllPairs IsFileRunBefore runs → (r : FileRun) (i : ℕ) → Contains runs r → i < r.count → lies_at runs (r.at + i) ≡ Some (next_from r.from i)
lies_within [] pairs r i among below = absurd (omega (arith, among.1))
lies_within (s ∷ runs) pairs r i among below =
    first among.0 among.1 among.2 (λ later. lies_within runs (λ x y d less within. pairs (suc x) (suc y) d (omega (arith, less)) (omega (arith, within))) r i later below)
  where
    here : s ≡ r → lies_at (s ∷ runs) (r.at + i) ≡ Some (next_from r.from i)
    here is =
        let own : lies_at (r ∷ runs) (r.at + i) ≡ Some (next_from r.from (r.at + i - r.at)) = lies_in r runs (r.at + i) (in_run r (r.at + i) (omega arith) (omega (arith, below))) in
        let back : r.at + i - r.at ≡ i = omega arith in
        ap (λ (t : FileRun). lies_at (t ∷ runs) (r.at + i)) is ∙ (own ∙ ap (λ (n : ℕ). Some (next_from r.from n)) back)

    there : (k : ℕ) → suc k < length (s ∷ runs) → get_or (s ∷ runs) (suc k) r ≡ r → lies_at runs (r.at + i) ≡ Some (next_from r.from i) → lies_at (s ∷ runs) (r.at + i) ≡ Some (next_from r.from i)
    there k within is rest =
        let before : IsFileRunBefore s r = subst (IsFileRunBefore s) is (pairs 0 (suc k) r (omega arith) within) in
        let past = before.apart in
        lies_on s runs (r.at + i) (past_run s (r.at + i) (omega (arith, past))) ∙ rest

    first : (k : ℕ) → k < length (s ∷ runs) → get_or (s ∷ runs) k r ≡ r → (Contains runs r → lies_at runs (r.at + i) ≡ Some (next_from r.from i)) → lies_at (s ∷ runs) (r.at + i) ≡ Some (next_from r.from i)
    first zero within is later = here is
    first (suc k) within is later = there k within is (later (k, omega (arith, within), is))

-- the run that a block lies in
record Lies (runs : List FileRun) (k : ℕ) (from : RunFrom) : Type 0 where
  run : FileRun
  among : Contains runs run
  low : run.at ≤ k
  high : k < run.at + run.count
  is : next_from run.from (k - run.at) ≡ from

in_run_parts : (r : FileRun) (k : ℕ) → is_in_run r k ≡ true → (r.at ≤ k) × (k < r.at + r.count)
in_run_parts r k is = (grind (arith, nat_tests), grind (arith, nat_tests))

run_of_block : (runs : List FileRun) (k : ℕ) (from : RunFrom) → lies_at runs k ≡ Some from → Lies runs k from
run_of_block [] k from is = absurd (none_is is)
  where
    none_is : None ≡ Some from → ⊥
    none_is e = cc
run_of_block (r ∷ runs) k from is = by (is_in_run r k) refl (run_of_block runs k from)
  where
    by : (b : Bool) → is_in_run r k ≡ b → (lies_at runs k ≡ Some from → Lies runs k from) → Lies (r ∷ runs) k from
    by true own later =
        let parts = in_run_parts r k own in
        let told : Some (next_from r.from (k - r.at)) ≡ Some from = sym (lies_in r runs k own) ∙ is in
        record { run = r; among = at_head r runs; low = parts.0; high = parts.1; is = cc }
    by false own later =
        let rest = later (sym (lies_on r runs k own) ∙ is) in
        record { run = rest.run; among = in_tail r runs rest.run rest.among; low = rest.low; high = rest.high; is = rest.is }

disk_behind : (from : RunFrom) (n block : ℕ) → next_from from n ≡ Disk block → (first : ℕ) × (from ≡ Disk first) × (block ≡ first + n)
disk_behind (Disk first) n block is = (first, refl, cc)
disk_behind Tail n block is = cc

-- a block that lies on the disk
from_disk : (t h e : Bool) (n block : ℕ) → (n == 0) ≡ e → (if t then (if h then Some Tail else disk_or_hole n) else None) ≡ Some (Disk block) → (t ≡ true) × (n ≡ block) × (n ≢ 0)
from_disk false h e n block test is = absurd (no is)
  where
    no : None ≡ Some (Disk block) → ⊥
    no c = cc
from_disk true true e n block test is = absurd (no is)
  where
    no : Some Tail ≡ Some (Disk block) → ⊥
    no c = cc
from_disk true false true n block test is = absurd (no (sym (ap (λ (b : Bool). if b then None else Some (Disk n)) test) ∙ is))
  where
    no : None ≡ Some (Disk block) → ⊥
    no c = cc
from_disk true false false n block test is =
    let same : Some (Disk n) ≡ Some (Disk block) = sym (ap (λ (b : Bool). if b then None else Some (Disk n)) test) ∙ is in
    (refl, cc, eqb-false n 0 test)

only_file : (kind : Kind) → is_file kind ≡ true → kind ≡ File
only_file Directory is = absurd (true≢false (sym is))
only_file File is = refl
only_file Symlink is = absurd (true≢false (sym is))
only_file Character is = absurd (true≢false (sym is))
only_file Block is = absurd (true≢false (sym is))
only_file Fifo is = absurd (true≢false (sym is))
only_file Socket is = absurd (true≢false (sym is))
only_file Subvolume is = absurd (true≢false (sym is))

module _ (image : Image) (a : IsAccepted image) (key : ObjectKey) (named : IsNamed (volume_items image) key) where
  abbrev items : List ReiserItem
  items = items_of key (volume_items image)

  abbrev object : IsObject (volume_items image) key
  object = a.objects.each key named

  abbrev size : ℕ
  size = (stat_at (volume_items image) key).fields.size

  size_is : (stat : ObjectStat) → stat_of_object (volume_items image) key ≡ Some stat → size ≡ stat.fields.size
  size_is stat is = ap (λ (o : Option ObjectStat). (unwrap_or o no_stat).fields.size) is

  -- only a regular file has items that name blocks
  is_regular : (k : ℕ) → named_block items k ≢ 0 → object.kind ≡ File
  is_regular k some =
      let n = items_name items k some in
      let may : may_have object.kind n.item.head.kind ≡ true = fits_each (λ (i : ReiserItem). may_have object.kind i.head.kind) items n.item object.fits n.among in
      only_file object.kind (sym (ap (may_have object.kind) n.indirect) ∙ may)

  aligned : All IsAligned items
  aligned = all_of IsAligned items (λ i among.
      let whole = (from_filter (λ (j : ReiserItem). same_key (object_key_of j.head) key) (volume_items image) i among).0 in
      let n : ℕ = (superblock image).blocks in
      let bodies : All (λ (j : ReiserItem). FitsHead j.head j.body) (volume_items image) =
      subst (λ (n : ℕ). All (λ (j : ReiserItem). FitsHead j.head j.body) (items_of_tree (reiser_tree_of (superblock image)) image n)) (used_length image) ((sound_exactly (reiser_tree_of (superblock image)) image (used_of image)).0 a.tree).bodies in
      let fits : FitsHead i.head i.body = All-contains (λ (j : ReiserItem). FitsHead j.head j.body) (volume_items image) i bodies whole in
      ⊎_elim (λ save. absurd (true≢false (sym save ∙ none_saves (volume_items image) i a.objects.no_save_link whole))) (λ f. aligned_by i.head.kind i.head i.body f.0) fits)

  owned : (k block : ℕ) → block_from items size k ≡ Some (Disk block) → Owns image key k block
  owned k block is =
      let d = from_disk (nat_lt (4096 * k) size) (is_held items size k) (named_block items k == 0) (named_block items k) block refl is in
      let low : 4096 * k < size = ltb-true (4096 * k) size d.0 in
      record {
        named = named;
        stat = object.stat;
        has_stat = object.has_stat;
        file = object.known ∙ ap (λ (kind : Kind). Some kind) (is_regular k d.2);
        below = subst (λ (n : ℕ). 4096 * k < n) (size_is object.stat object.has_stat) low;
        points = d.1;
        some = λ none. d.2 (d.1 ∙ none);
      }

  lies_on_disk : (k block : ℕ) → Owns image key k block → block_from items size k ≡ Some (Disk block)
  lies_on_disk k block o =
      let low : 4096 * k < size = subst (λ (n : ℕ). 4096 * k < n) (sym (size_is o.stat o.has_stat)) o.below in
      ap (λ (t : Bool). if t then (if is_held items size k then Some Tail else disk_or_hole (named_block items k)) else None) (lt-ltb (4096 * k) size low) ∙ (by (is_held items size k) refl ∙ (ap disk_or_hole o.points ∙ there (block == 0) refl))
    where
      by : (h : Bool) → is_held items size k ≡ h → (if h then Some Tail else disk_or_hole (named_block items k)) ≡ disk_or_hole (named_block items k)
      by true held = absurd (o.some (sym o.points ∙ one_sort items size k object.apart aligned held))
      by false held = refl

      there : (e : Bool) → (block == 0) ≡ e → disk_or_hole block ≡ Some (Disk block)
      there true e = absurd (o.some (eqb-true block 0 e))
      there false e = ap (λ (b : Bool). if b then None else Some (Disk block)) e

  runs : AreRunsOf (block_from items size) (file_runs items size)
  runs = file_runs_are items size

  pub map_tells : TellsOwned image key (file_runs items size)
  map_tells = record {
    each = λ r first i among from below.
        owned (r.at + i) (first + i) (sym (runs.covers (r.at + i)) ∙ (lies_within (file_runs items size) runs.ascending r i among below ∙ ap (λ (f : RunFrom). Some (next_from f i)) from));
    whole = λ k block o.
        let r = run_of_block (file_runs items size) k (Disk block) (runs.covers k ∙ lies_on_disk k block o) in
        let d = disk_behind r.run.from (k - r.run.at) block r.is in
        (r.run, d.0, r.among, d.1, r.low, r.high, d.2);
  }

pub maps_tell_owned : MapsTellOwned
maps_tell_owned = map_tells
