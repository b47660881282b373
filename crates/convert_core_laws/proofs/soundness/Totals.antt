-- The totals of a converted volume are the sums.
use Rattle.convert_core_laws.proofs.Imports.{◌≡◌, ◌≤◌, ◌<◌, ℕ, ◌*◌, ◌^◌, true, false, List, [], ◌∷◌, length, map, filter, Option, Some, refl, sym, ap, subst, ◌∙◌, arith, eqb, sum_by, option_map_or, append-nil, All-map, sum_by-cons, BLOCK_GROUP_ITEM, DEV_ITEM, DEV_ITEMS_OBJECTID, FIRST_CHUNK_TREE_OBJECTID, Image, Ids, Item, AreTotals, TellsDevice, dev_items, group_used, groups, stripe_bytes, stripes_of, Recount, device_bytes, device_layout, device_of, BlockGroup, Device, block_groups_read_back, devices_read_back, make_key, ChunkAt, IsMaking, Making, new_ids, TreeRoots, blocks_few, is_system_role, NewIdsFit, IsNewVolume, chunk_at, sum_mapped, chunk_item, chunk_kind, device_body, extent_items, group_item, node_item, piece_item, used_in, item_cmp, merged, AreIds, TreeNode, chunk_blocks_fit, all-merge, PlannedChunk, Role, System, Metadata, Data, Options, ConvertedTotalsAreSound, recount_for}
use Rattle.btr_reader.specs.btr_space_items.BlockGroup.{block_group_layout, block_group_of}
use Rattle.convert_core_laws.proofs.reading.Numbers.{used_small}
use Rattle.convert_core_laws.proofs.reading.Superblock.{size}
use Rattle.convert_core_laws.proofs.soundness.Lists.{filter_first, filter_none, filter_on, sum_parts}
use Rattle.convert_core_laws.proofs.soundness.Recounting.{device_is, fsid_is, in_parts, total_is, used_is, volume_for}

-- ---- block groups

abbrev group_of : Making → List TreeNode → PlannedChunk → Item
group_of m nodes c = group_item (used_in m.pieces nodes m.options.nodesize c) c

-- the block groups are the items of this kind
pub groups_are : (image other : Image) (m : Making) (r : TreeRoots) (nodes : List TreeNode) → groups (recount_for image other m r nodes) ≡ map (group_of m nodes) m.chunks
groups_are image other m r nodes =
    let rest : List Item = merged (map node_item nodes) (map piece_item m.pieces) in
    ap (filter (λ (i : Item). eqb i.0.kind BLOCK_GROUP_ITEM)) (append-nil (extent_items m.chunks m.pieces nodes m.options.nodesize))
    ∙ filter_first (λ (i : Item). eqb i.0.kind BLOCK_GROUP_ITEM) item_cmp (map (group_of m nodes) m.chunks) rest (All-map (λ (i : Item). eqb i.0.kind BLOCK_GROUP_ITEM ≡ true) (group_of m nodes) m.chunks (λ k d h. refl))
    (all-merge item_cmp (λ (i : Item). eqb i.0.kind BLOCK_GROUP_ITEM ≡ false) (map node_item nodes) (map piece_item m.pieces)
    (All-map (λ (i : Item). eqb i.0.kind BLOCK_GROUP_ITEM ≡ false) node_item nodes (λ k d h. refl)) (All-map (λ (i : Item). eqb i.0.kind BLOCK_GROUP_ITEM ≡ false) piece_item m.pieces (λ k d h. refl)))

-- what a block group's item tells
pub group_reads : (used : ℕ) (c : PlannedChunk) → used < 2 ^ 64 → block_group_of (group_item used c).1 ≡ Some (record { used = used; chunk_objectid = FIRST_CHUNK_TREE_OBJECTID; flags = chunk_kind c.role })
unfolding block_group_layout
group_reads used c small = block_groups_read_back (record { used = used; chunk_objectid = FIRST_CHUNK_TREE_OBJECTID; flags = chunk_kind c.role }) (((tt, omega (arith, small)), omega arith), kind_low c.role)
  where
    kind_low : (role : Role) → chunk_kind role < 256 ^ 8
    kind_low System = omega arith
    kind_low Metadata = omega arith
    kind_low Data = omega arith

group_tells : (used : ℕ) (c : PlannedChunk) → used < 2 ^ 64 → group_used (group_item used c) ≡ used
group_tells used c small = ap (λ (o : Option BlockGroup). option_map_or (λ (g : BlockGroup). g.used) o 0) (group_reads used c small)

-- each is part of the sum
sum_is : (f : PlannedChunk → ℕ) (m : PlannedChunk → Item) (cs : List PlannedChunk) → sum_by f cs < 2 ^ 64 → ((c : PlannedChunk) → f c < 2 ^ 64 → group_used (m c) ≡ f c) → sum_by (λ c. group_used (m c)) cs ≡ sum_by f cs
sum_is f m [] few each = refl
sum_is f m (c ∷ cs) few each =
    let whole = sum_by-cons f c cs in
    let mapped = sum_by-cons (λ (d : PlannedChunk). group_used (m d)) c cs in
    let here : group_used (m c) ≡ f c = each c (omega (arith, few, whole)) in
    let rest : sum_by (λ d. group_used (m d)) cs ≡ sum_by f cs = sum_is f m cs (omega (arith, few, whole)) each in
    omega (arith, whole, mapped, here, rest)

-- ---- the device

-- as many bytes as 4096 times the blocks
bytes_of : (ids : Ids) (cs : List PlannedChunk) → sum_by (λ c. (chunk_at ids c).chunk.length) cs ≡ 4096 * sum_by (λ c. c.length) cs
bytes_of ids [] = refl
bytes_of ids (c ∷ cs) = omega (arith, sum_by-cons (λ (d : PlannedChunk). (chunk_at ids d).chunk.length) c cs, sum_by-cons (λ (d : PlannedChunk). d.length) c cs, bytes_of ids cs)

-- a chunk has one stripe
stripes_add : (ids : Ids) (cs : List PlannedChunk) → stripe_bytes (map (chunk_at ids) cs) ≡ sum_by (λ (c : ChunkAt). c.chunk.length) (map (chunk_at ids) cs)
stripes_add ids [] = refl
stripes_add ids (c ∷ cs) =
    omega (arith, sum_by-cons (λ (d : ChunkAt). d.chunk.length * length (stripes_of d)) (chunk_at ids c) (map (chunk_at ids) cs), sum_by-cons (λ (d : ChunkAt). d.chunk.length) (chunk_at ids c) (map (chunk_at ids) cs), stripes_add ids cs)

pub chunk_bytes_are : (ids : Ids) (cs : List PlannedChunk) → stripe_bytes (map (chunk_at ids) (in_parts cs)) ≡ 4096 * sum_by (λ c. c.length) cs
chunk_bytes_are ids cs =
    stripes_add ids (in_parts cs)
    ∙ (sum_mapped (chunk_at ids) (λ (c : ChunkAt). c.chunk.length) (in_parts cs)
    ∙ (sum_parts (λ (c : PlannedChunk). is_system_role c.role) (λ (c : PlannedChunk). (chunk_at ids c).chunk.length) cs ∙ bytes_of ids cs))

device_reads : (ids : Ids) (blocks : ℕ) (chunks : List PlannedChunk) → AreIds ids → blocks ≤ 2 ^ 29 → sum_by (λ c. c.length) chunks ≤ blocks → device_of (device_bytes (device_body ids blocks chunks)) ≡ Some (device_body ids blocks chunks)
unfolding device_layout
device_reads ids blocks chunks are few fit =
    devices_read_back (device_body ids blocks chunks)
    ((((((((((((((tt, omega arith), omega (arith, few)), omega (arith, few, fit)), omega arith), omega arith), omega arith), omega arith), omega arith), omega arith), omega arith), omega arith), omega arith), are.device), are.fsid)

module _ (o : Options) (ids : Ids) (now : ℕ) (image other : Image) (m : Making) (r : TreeRoots) (nodes : List TreeNode) (v : IsNewVolume o ids now image other m r nodes) where
  abbrev making : IsMaking image m
  making = v.new.conversion.making

  abbrev k : Recount
  k = recount_for image other m r nodes

  tells : TellsDevice k.super k.chunks (device_body (new_ids m) m.volume.sup.blocks m.chunks)
  tells = record { fsid = sym (fsid_is m r nodes); total = sym (total_is m r nodes); used = sym (chunk_bytes_are (new_ids m) m.chunks) }

  pub totals : AreTotals k.super k.chunks (groups k) (dev_items k)
  totals = record {
    used =
        used_is m r nodes
        ∙ sym (ap (sum_by group_used) (groups_are image other m r nodes)
        ∙ (sum_mapped (group_of m nodes) group_used m.chunks
        ∙ sum_is (used_in m.pieces nodes m.options.nodesize) (group_of m nodes) m.chunks (used_small image m making (size o ids now image other m r nodes v) other r nodes v.new.stands.trees)
        (λ c small. group_tells (used_in m.pieces nodes m.options.nodesize c) c small)));
    device = subst (λ (d : Device). TellsDevice k.super k.chunks d) (sym (device_is m r nodes)) tells;
    one = (
      (make_key DEV_ITEMS_OBJECTID DEV_ITEM 1, device_bytes (device_body (new_ids m) m.volume.sup.blocks m.chunks)),
      filter_on (λ (i : Item). eqb i.0.kind DEV_ITEM) _ (map (chunk_item (new_ids m)) m.chunks) refl
          ∙ ap (λ (l : List Item). (make_key DEV_ITEMS_OBJECTID DEV_ITEM 1, device_bytes (device_body (new_ids m) m.volume.sup.blocks m.chunks)) ∷ l)
          (filter_none (λ (i : Item). eqb i.0.kind DEV_ITEM) (map (chunk_item (new_ids m)) m.chunks) (All-map (λ (i : Item). eqb i.0.kind DEV_ITEM ≡ false) (chunk_item (new_ids m)) m.chunks (λ n d h. refl))),
      record {
        key = ap (λ (d : Device). make_key DEV_ITEMS_OBJECTID DEV_ITEM d.devid) (sym (device_is m r nodes));
        body =
            device_reads (new_ids m) m.volume.sup.blocks m.chunks v.ids_ (blocks_few m.volume image m.options m.plan m.pieces making.has_pieces) (chunk_blocks_fit m.plan m.volume.sup.blocks m.chunks making.chunks_are)
            ∙ ap (λ (d : Device). let o : Option Device = Some d in o) (sym (device_is m r nodes));
      },
    );
  }

pub converted_totals_are_sound : NewIdsFit → ConvertedTotalsAreSound
converted_totals_are_sound fit = λ o ids now image other m r nodes is size low are has bytes.
    λ a at. totals o ids now image other m r nodes (volume_for fit o ids now image other m r nodes is size are has)
