-- What a walk over the chunk tree found is what the recount has, and what it refused is a failure.
use Rattle.btr_check_trees.proofs.Imports.{◌≡◌, ◌==◌, ℕ, Bool, true, false, List, [], ◌∷◌, Option, Some, None, inl, inr, refl, sym, ap, subst, ◌∙◌, length, arith, not, ◌||◌, list_all, Decides, and_parts, eqb-true, not_from_Decides, All-contains, boot_chunks, boot_list, chunk_tree, opening_refusals, or_later, boot_refusals, trees_refusals, refusals_after, Item, TreeItem, CHUNK_ITEM, CHUNK_TREE, FIRST_CHUNK_TREE_OBJECTID, Super, ChunkAt, AreChunksApart, IsChunkTreeItem, dev_items, TreeOn, chunks_on, recount, KeepsSuper, has_own_tree, own_kinds, system_chunks, at_head, FailsIn, IsPassAnswer, TellsBy, FindsDevices, DevicesFound, Answer, AreSoundChunks, AreSystem, FailsChunks, HoldsChunks, KeepsChunkTree, RefusesChunks, WalksChunks, bad_super, bad_array, overlap, ChunkItems, all_from_contains, IsVolumeOn, SUPER_INFO_OFFSET, Btrfs, Image, Chunks, Trees, of_disk, opened_super, ChunksFound}
use Rattle.btr_check_rules.specs.btr_reader.Parts.{own_map, own_super}
use Rattle.btr_check_rules.specs.btr_reader.btr_reader_walk.declared.map.MapRange.{MapRange}
use Rattle.btr_check_rules.specs.btr_reader.btr_reader_walk.declared.tree.Tree.{Tree}
use Rattle.btr_check_rules.specs.Walk.{walk_refusals, walked_items}
use Rattle.btr_check_walk.proofs.Faults.{tree_is_sound, walk_fails}
use Rattle.btr_check_walk.specs.Walks.{EndsWalk, IsRefused}
use Rattle.btr_check_fields.specs.Failing.{Answers}
use Rattle.btr_check_fields.specs.Noted.{offset_of}
use Rattle.btr_check_walk.specs.command_answers.declared.answer.Answer.TheVariants as answers
use Rattle.btr_check_trees.proofs.OneMore.{first_among}
use Rattle.btr_check_trees.proofs.Telling.{tells_from}

-- ---- the walk

-- the items that a walk over the chunk tree meets
abbrev met_of : Image → Super → List MapRange → List TreeItem
met_of image s m = walked_items image m (chunk_tree s)

-- the chunk tree of the recount
abbrev own_tree : Image → TreeOn
own_tree image = (recount image).chunk_tree

-- what is said of the tree by these ranges is said of it by the volume
by_volume : (image : Image) (volume : Btrfs) (ranges : List MapRange) (tree : Tree) → ranges ≡ volume.ranges.items → tree ≡ chunk_tree volume.sup → (P : List MapRange → Tree → Type 0) → P ranges tree
    → P volume.ranges.items (chunk_tree volume.sup)
by_volume image volume ranges tree by of P said = subst (P volume.ranges.items) of (subst (λ (m : List MapRange). P m tree) by said)

pub walked : (image : Image) (volume : Btrfs) (boot : List ChunkAt) (begun v : ChunkItems) → IsVolumeOn image volume → boot_chunks volume.sup ≡ Some boot → begun.sup.now ≡ volume.sup → begun.boot.now ≡ boot
    → (ranges : List MapRange) (tree : Tree) → ranges ≡ volume.ranges.items → tree ≡ chunk_tree volume.sup
    → HoldsChunks begun v (walked_items image ranges tree) → walk_refusals image ranges tree ≡ [] → WalksChunks image v
walked image volume boot begun v on chunks sup first ranges tree by of holds none =
    let same : volume.sup ≡ own_super image = opened_super image volume.sup volume.ranges.items on.opened in
    let held = of_disk image volume.sup volume.ranges.items (λ s m. HoldsChunks begun v (met_of image s m)) on.opened (by_volume image volume ranges tree by of (λ m t. HoldsChunks begun v (walked_items image m t)) holds) in
    let sound = of_disk image volume.sup volume.ranges.items (λ s m. walk_refusals image m (chunk_tree s) ≡ []) on.opened (by_volume image volume ranges tree by of (λ m t. walk_refusals image m t ≡ []) none) in
    record {
      sup = holds.sup ∙ (sup ∙ same);
      boot = holds.boot ∙ (first ∙ (ap boot_list (sym chunks) ∙ ap (λ (s : Super). boot_list (boot_chunks s)) same));
      tells = held.tells;
      sound = λ a. tree_is_sound image (own_tree image) a sound;
    }

-- an item that is refused is one of the tree
refused_there : (image : Image) (part a : ℕ) → IsRefused RefusesChunks (met_of image (own_super image) (own_map image)) part a → FailsIn image part a
refused_there image part a (first, later, are, order, refuses) = (
  Chunks,
  sym refuses.0,
  λ keeps.
      let (i, h, at, no_item) = refuses.1 in
      no_item (All-contains (λ (j : Item). offset_of j ≡ a → IsChunkTreeItem j) (own_tree image).items i keeps.keys (first_among (met_of image (own_super image) (own_map image)) first later i are h) at),
)

pub walk_failed : (image : Image) (volume : Btrfs) (answer : Answer) → IsVolumeOn image volume
    → (ranges : List MapRange) (tree : Tree) → ranges ≡ volume.ranges.items → tree ≡ chunk_tree volume.sup → EndsWalk (walk_refusals image ranges tree) RefusesChunks (walked_items image ranges tree) answer
    → IsPassAnswer image answer
walk_failed image volume answer on ranges tree by of ends =
    walk_fails image (own_tree image) RefusesChunks (met_of image (own_super image) (own_map image)) answer (at_head (own_tree image) ((recount image).root_tree ∷ (recount image).others)) (refused_there image)
    (of_disk image volume.sup volume.ranges.items (λ s m. EndsWalk (walk_refusals image m (chunk_tree s)) RefusesChunks (met_of image s m) answer) on.opened
    (by_volume image volume ranges tree by of (λ m t. EndsWalk (walk_refusals image m t) RefusesChunks (walked_items image m t) answer) ends))

-- ---- the whole

-- an item of a chunk or the device stands in its own tree
own_kind : (i : Item) → IsChunkTreeItem i → has_own_tree CHUNK_TREE i ≡ true
own_kind i (inl device) = ap (λ (k : ℕ). list_all (λ own. not (k == own.0) || (CHUNK_TREE == own.1)) own_kinds) device
own_kind i (inr chunk) =
    ap (λ (k : ℕ). list_all (λ own. not (k == own.0) || (CHUNK_TREE == own.1)) own_kinds) (eqb-true i.0.kind CHUNK_ITEM (and_parts (i.0.objectid == FIRST_CHUNK_TREE_OBJECTID) (i.0.kind == CHUNK_ITEM) chunk).1)

chunks_same : (image : Image) (v : ChunkItems) → WalksChunks image v → v.chunks.items ≡ (recount image).chunks
chunks_same image v walks = walks.tells.chunks_are ∙ ap (λ (b : List ChunkAt). chunks_on b (own_tree image).items) walks.boot

array_same : (image : Image) (v : ChunkItems) → WalksChunks image v → (P : List ChunkAt → List ChunkAt → Type 0) → P v.boot.now v.system.items
    → P (boot_list (boot_chunks (recount image).super)) (system_chunks (own_tree image).items)
array_same image v walks P h =
    subst (λ (b : List ChunkAt). P b (system_chunks (own_tree image).items)) walks.boot (subst (P v.boot.now) walks.tells.system_are h)

-- of the chunks of a walk what is asked of all together holds
pub kept : (image : Image) (v : ChunkItems) (f : ChunksFound) → WalksChunks image v → AreSoundChunks v.sup.now v.boot.now v.system.items v.chunks.items → f.chunks.items ≡ v.chunks.items → f.devices ≡ v.devices
    → KeepsChunkTree image f
kept image v f walks sound chunks devices = record {
  chunks = chunks ∙ chunks_same image v walks;
  devices =
      subst (λ (d : DevicesFound). FindsDevices (recount image).super (dev_items (recount image)) d) (sym devices)
      (subst (λ (s : Super). FindsDevices s (dev_items (recount image)) v.devices) walks.sup walks.tells.devices_are);
  super = subst KeepsSuper walks.sup sound.super;
  array = array_same image v walks AreSystem sound.array;
  sound = walks.sound;
  kinds = all_from_contains (λ (i : Item). has_own_tree CHUNK_TREE i ≡ true) (own_tree image).items (λ i h. own_kind i (All-contains IsChunkTreeItem (own_tree image).items i walks.tells.keys h));
  apart = λ a.
      subst (λ (l : List ChunkAt). AreChunksApart (recount image).super l a) (chunks_same image v walks) (subst (λ (s : Super). AreChunksApart s v.chunks.items a) walks.sup (sound.apart a));
  keys = λ a k d low at. walks.tells.keys k d low;
}

-- or it is a failure where it does not
pub failed : (image : Image) (v : ChunkItems) (part a : ℕ) → WalksChunks image v → FailsChunks v.sup.now v.boot.now v.system.items v.chunks.items part a → FailsIn image part a
failed image v part a walks (bad_super is at fails) = (Trees, sym is, λ keeps. fails (subst KeepsSuper (sym walks.sup) (keeps.super at)))
failed image v part a walks (bad_array is at fails) = (
  Trees,
  sym is,
  λ keeps. array_same image v walks (λ b s. ¬ AreSystem b s) fails (keeps.array at),
)
failed image v part a walks (overlap is fails) = (
  Chunks,
  sym is,
  λ keeps.
      fails
      (subst (λ (s : Super). AreChunksApart s v.chunks.items a) (sym walks.sup)
      (subst (λ (l : List ChunkAt). AreChunksApart (recount image).super l a) (sym (chunks_same image v walks)) keeps.apart)),
)

-- ---- the array

some_wrong : (image : Image) (s : Super) (read : Option (List ChunkAt)) → read ≡ None → or_later (boot_refusals (length image) read) (trees_refusals image s (boot_list read)) ≡ [] → ⊥
some_wrong image s None is none = let long = ap length none in omega (arith, long)
some_wrong image s (Some chunks) is none = cc

-- the array of a volume that was opened is a list of chunks
pub has_array : (image : Image) (volume : Btrfs) → IsVolumeOn image volume → boot_chunks volume.sup ≡ None → ⊥
unfolding opening_refusals
has_array image volume on none =
    some_wrong image volume.sup (boot_chunks volume.sup) none (ap (refusals_after image) (sym on.opened.super) ∙ on.opened.sound)

pub boot_failed : (image : Image) (volume : Btrfs) (sup : Super) (e : Answer) → IsVolumeOn image volume → sup ≡ volume.sup → TellsBy (λ part a. boot_chunks sup ≡ None) ⊥ e → IsPassAnswer image e
boot_failed image volume sup e on same =
    tells_from (λ part a. boot_chunks sup ≡ None) (FailsIn image) ⊥ (λ part a none. absurd (has_array image volume on (ap boot_chunks (sym same) ∙ none))) e

-- ---- what was judged

-- what is judged of a volume, by its superblock and the chunks of its array, is judged of the walk
judged_same : (image : Image) (volume : Btrfs) (v : ChunkItems) (sup : Super) (boot system chunks : List ChunkAt) → IsVolumeOn image volume → WalksChunks image v → sup ≡ volume.sup
    → boot_chunks volume.sup ≡ Some boot → system ≡ v.system.items → chunks ≡ v.chunks.items → (P : Super → List ChunkAt → List ChunkAt → List ChunkAt → Type 0) → P sup boot system chunks
    → P v.sup.now v.boot.now v.system.items v.chunks.items
judged_same image volume v sup boot system chunks on walks super array systems all P said =
    let same : volume.sup ≡ own_super image = opened_super image volume.sup volume.ranges.items on.opened in
    let sups : sup ≡ v.sup.now = super ∙ (same ∙ sym walks.sup) in
    let boots : boot ≡ v.boot.now = ap boot_list (sym array) ∙ (ap (λ (s : Super). boot_list (boot_chunks s)) same ∙ sym walks.boot) in
    subst (λ (s : Super). P s v.boot.now v.system.items v.chunks.items) sups
    (subst (λ (b : List ChunkAt). P sup b v.system.items v.chunks.items) boots
    (subst (λ (l : List ChunkAt). P sup boot l v.chunks.items) systems (subst (λ (l : List ChunkAt). P sup boot system l) all said)))

pub judge_failed : (image : Image) (volume : Btrfs) (v : ChunkItems) (sup : Super) (boot system chunks : List ChunkAt) (e : Answer) → IsVolumeOn image volume → WalksChunks image v → sup ≡ volume.sup
    → boot_chunks volume.sup ≡ Some boot → system ≡ v.system.items → chunks ≡ v.chunks.items → TellsBy (FailsChunks sup boot system chunks) ⊥ e → IsPassAnswer image e
judge_failed image volume v sup boot system chunks e on walks super array systems all told =
    tells_from (FailsChunks v.sup.now v.boot.now v.system.items v.chunks.items) (FailsIn image) ⊥ (λ part a fails. failed image v part a walks fails) e
    (judged_same image volume v sup boot system chunks on walks super array systems all (λ s b l m. TellsBy (FailsChunks s b l m) ⊥ e) told)

pub judge_kept : (image : Image) (volume : Btrfs) (v : ChunkItems) (f : ChunksFound) (sup : Super) (boot system chunks : List ChunkAt) → IsVolumeOn image volume → WalksChunks image v → sup ≡ volume.sup
    → boot_chunks volume.sup ≡ Some boot → system ≡ v.system.items → chunks ≡ v.chunks.items → AreSoundChunks sup boot system chunks → f.chunks.items ≡ v.chunks.items → f.devices ≡ v.devices → KeepsChunkTree image f
judge_kept image volume v f sup boot system chunks on walks super array systems all sound found devices =
    kept image v f walks (judged_same image volume v sup boot system chunks on walks super array systems all AreSoundChunks sound) found devices

-- ---- the tests, one after the other

pub super_fails : (s : Super) (boot system chunks : List ChunkAt) (hold : Bool) (e : Answer) → Decides hold (KeepsSuper s) → hold ≡ false → e ≡ answers.NotSound 1 SUPER_INFO_OFFSET
    → TellsBy (FailsChunks s boot system chunks) ⊥ e
super_fails s boot system chunks hold e decides none is =
    subst (TellsBy (FailsChunks s boot system chunks) ⊥) (sym is) (bad_super refl refl (not_from_Decides hold decides none))

pub array_fails : (s : Super) (boot system chunks : List ChunkAt) (hold : Bool) (e : Answer) → Decides hold (AreSystem boot system) → hold ≡ false → e ≡ answers.NotSound 1 SUPER_INFO_OFFSET
    → TellsBy (FailsChunks s boot system chunks) ⊥ e
array_fails s boot system chunks hold e decides none is =
    subst (TellsBy (FailsChunks s boot system chunks) ⊥) (sym is) (bad_array refl refl (not_from_Decides hold decides none))

-- what is answered of the chunks
abbrev JudgesChunks : Super → List ChunkAt → Option ℕ → Type 0
JudgesChunks s chunks o = Answers ((a : ℕ) → AreChunksApart s chunks a) (λ a. ¬ AreChunksApart s chunks a) o

pub chunks_fail : (s : Super) (boot system chunks : List ChunkAt) (o : Option ℕ) (e : Answer) → JudgesChunks s chunks o → (a : ℕ) × (o ≡ Some a) × (e ≡ answers.NotSound 7 a) → TellsBy (FailsChunks s boot system chunks) ⊥ e
chunks_fail s boot system chunks o e judged (a, found, is) =
    subst (TellsBy (FailsChunks s boot system chunks) ⊥) (sym is) (overlap refl (subst (JudgesChunks s chunks) found judged))

pub all_sound : (s : Super) (boot system chunks : List ChunkAt) (first second : Bool) (o : Option ℕ) → Decides first (KeepsSuper s) → first ≡ true → Decides second (AreSystem boot system) → second ≡ true
    → JudgesChunks s chunks o → o ≡ None → AreSoundChunks s boot system chunks
all_sound s boot system chunks first second o super is_super array is_array judged none = record {
  super = super.0 is_super;
  array = array.0 is_array;
  apart = subst (JudgesChunks s chunks) none judged;
}
