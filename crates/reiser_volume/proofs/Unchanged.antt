-- The used blocks decide an accepted volume.
use Rattle.reiser_volume.proofs.Imports.{◌≡◌, ◌≤◌, ◌↔◌, ◌+◌, ℕ, true, false, Bool, List, [], length, sym, ◌∙◌, ap, subst, arith, ◌≢◌, ◌*◌, ◌<◌, ⊎_elim, cond, eqb, get_or, set, take, true≢false, get_or-set_same, get_or-set_other, list_any, SUPER_BLOCK, Image, block_at, WholeRow, keys, has, bitmap_block, bitmap_of, system_blocks, bitmap_decided, Super, superblock_fields, IsCleanSuper, pending_transactions, IsClean, ReiserTree, is_save_link, ReiserItem, tree_damages, is_system_of, items_of_events, items_of_tree, reached, visits, file_bytes, SameUsed, ObjectKey, stat_of_object, items_of, AreObjects, HasNoted, AreLinks, AreNamedKeys, AreNames, AreReiserRows, IsSameVolume, UsedBlocksDecide, FrontOfSuperDecides, PutBackIsSame, SameButSuper, IsOpened, links_in, superblock, used_of, reiser_tree_of, volume_items, AreRowsOf, IsAccepted, IsSoundTree, MarksSystem, Volume, is_lt, cases_lt, get_or_past, length-set, FitsHead, IsNode, KeepsRules, sound_exactly}
use Rattle.std.specs.Prelude.{All, AllPairs, Contains}
use Rattle.super_turn.specs.PutBack.{put_back}
use Rattle.super_turn.proofs.Backs.{put_front, put_others, put_size}
use Rattle.reiser_volume_objects.specs.reiser_items.Order.{key_order}
use Rattle.reiser_bitmap.proofs.SystemBlocks.{superblock_in, bitmap_in, journal_in}
use Rattle.reiser_super.proofs.Footprint.{same_pending}
use Rattle.reiser_volume_contents.proofs.Same.{same_tree}
use Rattle.reiser_volume.proofs.Fronted.{clean_front, fields_front}
use Rattle.reiser_volume.proofs.Holding.{used_length}
use Rattle.reiser_volume.proofs.SameRows.{bytes_same, rows_same}

-- the bitmap marks the blocks that a volume of this superblock keeps for itself
abbrev Marks : Super → List Bool → Type 0
Marks s used = (b : ℕ) → Contains (system_blocks s.blocks s.journal_first s.journal_size) b → has used b ≡ true

-- the superblock's rules ask of the device only that it has room
clean_elsewhere : (bytes : List ℕ) (device room : ℕ) → (superblock_fields bytes).blocks ≤ room → IsCleanSuper bytes device → IsCleanSuper bytes room
clean_elsewhere bytes device room fits c = record {
  there = omega (arith, c.bounds.blocks, fits);
  magic = c.magic;
  new_magic = c.new_magic;
  blocks_fit = c.blocks_fit;
  journal_here = c.journal_here;
  undamaged = c.undamaged;
  count = c.count;
  unmounted = c.unmounted;
  bounds = c.bounds;
  fits = fits;
}

-- ---- the used blocks but block 16
others_of : List Bool → List Bool
others_of used = set used 16 false

other_has : (used : List Bool) (b : ℕ) → b ≢ 16 → has (others_of used) b ≡ has used b
unfolding others_of
other_has used b rest = get_or-set_other used 16 b false false rest

other_none : (used : List Bool) → has (others_of used) 16 ≡ false
unfolding others_of
other_none used =
    ⊎_elim (λ long. get_or-set_same used 16 false false long)
    (λ short. get_or_past (set used 16 false) 16 false (omega (arith, short, length-set used 16 false))) (cases_lt 16 (length used))

other_length : (used : List Bool) → length (others_of used) ≡ length used
unfolding others_of
other_length used = length-set used 16 false

-- A tree reaches no system block, so it may be told by any other set that has the same blocks but these.
told_by : (tree : ReiserTree) (image : Image) (used told : List Bool) → length told ≡ length used
    → ((b : ℕ) → b ≢ 16 → has used b ≡ true → has told b ≡ true) → tree_damages tree image used ≡ [] → tree_damages tree image told ≡ []
told_by tree image used told size turn sound =
    let k : KeepsRules tree image used = (sound_exactly tree image used).0 sound in
    let never : (b : ℕ) → is_system_of tree b ≡ false → b ≢ 16 = λ b free is. true≢false (subst (λ (n : ℕ). is_system_of tree n ≡ false) is free) in
    (sound_exactly tree image told).1 (record {
      nodes = subst (λ (n : ℕ). All (λ v. IsNode v.level (block_at image v.to.block)) (visits tree image n)) (sym size) k.nodes;
      ascending = subst (λ (n : ℕ). AllPairs (λ i j. is_lt (key_order i.head j.head) ≡ true) (items_of_tree tree image n)) (sym size) k.ascending;
      bodies = subst (λ (n : ℕ). All (λ i. FitsHead i.head i.body) (items_of_tree tree image n)) (sym size) k.bodies;
      inside = subst (λ (n : ℕ). All (λ p. p.block < n) (reached tree image n)) (sym size) k.inside;
      all_used = subst (λ (n : ℕ). All (λ p. has told p.block ≡ true) (reached tree image n)) (sym size)
          (λ i d below. turn (get_or (reached tree image (length used)) i d).block (never (get_or (reached tree image (length used)) i d).block (k.no_system i d below)) (k.all_used i d below));
      no_system = subst (λ (n : ℕ). All (λ p. is_system_of tree p.block ≡ false) (reached tree image n)) (sym size) k.no_system;
      once = subst (λ (n : ℕ). AllPairs (λ p q. p.block ≢ q.block) (reached tree image n)) (sym size) k.once;
    })

-- no bitmap block is block 16
not_bitmap : (k : ℕ) → bitmap_block k ≢ 16
not_bitmap k = by (eqb k 0)
  where
    by : (t : Bool) → cond t 17 (32768 * k) ≢ 16
    by true is = omega (arith, is)
    by false is = omega (arith, is)

module _ (image other : Image) (a : IsAccepted image) (same : SameButSuper image other) where
  abbrev used : List Bool
  used = used_of image

  -- what the volume keeps for itself is the same in both
  system_same : (b : ℕ) → b ≢ 16 → Contains (system_blocks (superblock image).blocks (superblock image).journal_first (superblock image).journal_size) b → block_at other b ≡ block_at image b
  system_same b rest h = same.used b rest (a.system b h)

  fields_same : superblock other ≡ superblock image
  fields_same = fields_front (block_at other SUPER_BLOCK) (block_at image SUPER_BLOCK) same.front

  clean_same : (superblock image).blocks ≤ length other → IsClean other
  clean_same room =
      let s = superblock image in
      let first = a.clean.superblock.bounds.journal_first in
      let none : pending_transactions s other ≡ [] =
      same_pending s other image (λ place low. system_same (s.journal_first + place) (λ is. omega (arith, first, is))
      (journal_in s.blocks s.journal_first s.journal_size (s.journal_first + place) (omega arith) (omega (arith, low)))) ∙ a.clean.journal in
      record {
        superblock =
            clean_front (block_at other SUPER_BLOCK) (block_at image SUPER_BLOCK) same.front (length other)
            (clean_elsewhere (block_at image SUPER_BLOCK) (length image) (length other) room a.clean.superblock);
        journal = subst (λ (t : Super). pending_transactions t other ≡ []) (sym fields_same) none;
      }

  used_same : used_of other ≡ used
  used_same =
      let s = superblock image in
      ap (λ (t : Super). bitmap_of t.blocks other) fields_same
      ∙ bitmap_decided s.blocks other image a.clean.superblock.bounds.blocks (λ k h. system_same (bitmap_block k) (not_bitmap k) (bitmap_in s.blocks s.journal_first s.journal_size k h))

  system_marked : MarksSystem other
  system_marked = subst (λ (t : Super). Marks t (used_of other)) (sym fields_same) (subst (λ (set : List Bool). Marks (superblock image) set) (sym used_same) a.system)

  -- the tree, by the used blocks but block 16
  abbrev tree : ReiserTree
  tree = reiser_tree_of (superblock image)

  rest_sound : tree_damages tree image (others_of used) ≡ []
  rest_sound = told_by tree image used (others_of used) (other_length used) (λ b rest has_it. other_has used b rest ∙ has_it) a.tree

  rest_same : SameUsed (others_of used) image other
  rest_same b has_it =
      let rest : b ≢ 16 = λ is. true≢false (sym (subst (λ (n : ℕ). has (others_of used) n ≡ true) is has_it) ∙ other_none used) in
      same.used b rest (sym (other_has used b rest) ∙ has_it)

  rest_length : length (others_of used) ≡ (superblock image).blocks
  rest_length = other_length used ∙ used_length image

  tree_sound : IsSoundTree other
  tree_sound =
      let sound : tree_damages tree other used ≡ [] =
      told_by tree other (others_of used) used (sym (other_length used)) (λ b rest has_it. sym (other_has used b rest) ∙ has_it) (same_tree tree image other (others_of used) rest_sound rest_same).sound in
      subst (λ (t : Super). tree_damages (reiser_tree_of t) other (used_of other) ≡ []) (sym fields_same)
      (subst (λ (set : List Bool). tree_damages tree other set ≡ []) (sym used_same) sound)

  items_same : volume_items other ≡ volume_items image
  items_same =
      let events = (same_tree tree image other (others_of used) rest_sound rest_same).events in
      ap (λ (t : Super). items_of_tree (reiser_tree_of t) other t.blocks) fields_same
      ∙ subst (λ (n : ℕ). items_of_tree tree other n ≡ items_of_tree tree image n) rest_length (ap items_of_events events)

  files_same : (key : ObjectKey) (size : ℕ) → file_bytes other (items_of key (volume_items image)) size ≡ file_bytes image (items_of key (volume_items image)) size
  files_same =
      let same_in : ℕ → Type 0 = λ n. (key : ObjectKey) (size : ℕ) → file_bytes other (items_of key (items_of_tree tree image n)) size ≡ file_bytes image (items_of key (items_of_tree tree image n)) size in
      let none = subst (λ (n : ℕ). list_any (λ i. is_save_link i.head) (items_of_tree tree image n) ≡ false) (sym rest_length) a.objects.no_save_link in
      subst same_in rest_length (bytes_same tree image other (others_of used) rest_sound rest_same none)

-- the rows of both, where the files have the same bytes
rows_both : (image other : Image) → superblock other ≡ superblock image → volume_items other ≡ volume_items image
    → ((key : ObjectKey) (size : ℕ) → file_bytes other (items_of key (volume_items image)) size ≡ file_bytes image (items_of key (volume_items image)) size)
    → (rows : List WholeRow) → AreRowsOf image rows ↔ AreRowsOf other rows
rows_both image other fields items bytes rows =
    let flags = (superblock image).flags in (
      λ h. subst (λ (s : Super). AreReiserRows other s.flags (volume_items other) rows) (sym fields) (subst (λ (xs : List ReiserItem). AreReiserRows other flags xs rows) (sym items) (rows_same image other flags (volume_items image) bytes rows h)),
      λ h. rows_same other image flags (volume_items image) (λ key size. sym (bytes key size)) rows (subst (λ (xs : List ReiserItem). AreReiserRows other flags xs rows) items (subst (λ (s : Super). AreReiserRows other s.flags (volume_items other) rows) fields h)),
    )

pub front_same_volume : FrontOfSuperDecides
front_same_volume image other a same room =
    let items : volume_items other ≡ volume_items image = items_same image other a same in
    record {
      accepted = record {
        clean = clean_same image other a same room;
        system = system_marked image other a same;
        tree = tree_sound image other a same;
        objects = subst (λ (is : List ReiserItem). AreObjects is) (sym items) a.objects;
        names = subst (λ (is : List ReiserItem). AreNames is) (sym items) a.names;
      };
      fields = fields_same image other a same;
      used = used_same image other a same;
      items = items;
      rows = rows_both image other (fields_same image other a same) items (files_same image other a same);
    }

pub same_volume : UsedBlocksDecide
same_volume image other a same room =
    let s = superblock image in
    front_same_volume image other a
    (record {
      front = ap (take 128) (same 16 (a.system 16 (superblock_in s.blocks s.journal_first s.journal_size)));
      used = λ b rest has_it. same b has_it;
    }) room

pub put_back_same : PutBackIsSame
put_back_same = record {
  before = λ image a. front_same_volume (put_back image) image a
      (record { front = sym (put_front image); used = λ b rest has_it. sym (put_others image b rest) }) (omega (arith, a.clean.superblock.fits, put_size image));
  after = λ image a. front_same_volume image (put_back image) a
      (record { front = put_front image; used = λ b rest has_it. put_others image b rest }) (omega (arith, a.clean.superblock.fits, put_size image));
}

-- an opened volume is that of the other image
pub opened_same : (volume : Volume) (image other : Image) → IsSameVolume image other → IsOpened volume image → IsOpened volume other
opened_same volume image other v o =
    let back : volume_items image ≡ volume_items other = sym v.items in
    record {
      sup = o.sup ∙ sym v.fields;
      bitmap = o.bitmap ∙ sym v.used;
      noted = subst (λ (items : List ReiserItem). HasNoted volume.objects items) back o.noted;
      are_keys = subst (λ (items : List ReiserItem). AreNamedKeys items (keys volume.named)) back o.are_keys;
      ascends = o.ascends;
      stats = λ key named. o.stats key named ∙ ap (λ (items : List ReiserItem). stat_of_object items key) back;
      visible = o.visible;
      are_links = subst (λ (items : List ReiserItem). AreLinks items o.visible (links_in volume)) back o.are_links;
    }
