-- The items of the small lists ascend, and are short.
use Rattle.space_items.proofs.Imports.{◌≡◌, ◌≤◌, ◌<◌, ℕ, zero, suc, ◌+◌, ◌*◌, true, List, [], ◌∷◌, ◌++◌, length, length-append, map, get_or, refl, ap, arith, eqb, cond, Bool, false, All, AllPairs, codes, IsTotalOrder, is_lt, nat_cmp, ordering_then, Ordering, Less, Equal, Greater, and_parts, and_from, false≢true, on_total, All-cons, All-nil, AllPairs-cons, DEV_ITEM, ROOT_ITEM, DEV_ITEMS_OBJECTID, Ids, key_cmp, key_layout, IsBefore, make_key, device_layout, device_bytes, Item, keys_of, Ascends, ascends, is_before, PlannedChunk, Plan, IsChunk, AreChunks, role_of, usable_end, merged, item_cmp, TreeRoot, chunk_item, chunk_items, device_body, dev_extent_item, device_items, tree_root_item, other_root_items, saved_ref, default_entry, tree_uuid, zero_uuid, AreIds, ChunkItemsFit, RootItemsFit}
use Rattle.btr_tree.specs.vol_block.declared.mode.TheConstants.{DIRECTORY_MODE}
use Rattle.btr_tree.specs.btr_keys.DirEntry.{dir_entry_head}
use Rattle.btr_tree.specs.btr_keys.InodeRef.{inode_ref_bytes, inode_ref_head}
use Rattle.btr_tree.specs.btr_keys.Stamp.{stamp_layout}
use Rattle.btr_item_list.specs.Inodes.{inode_made}
use Rattle.btr_tree.specs.btr_keys.declared.inode.Inode.{Inode}
use Rattle.btr_tree.specs.btr_keys.Inode.{inode_layout, inode_bytes}
use Rattle.btr_space_items.specs.Chunk.{chunk_layout}
use Rattle.btr_space_items.specs.RootItem.{root_item_layout}
use Rattle.btr_space_items.specs.RootRef.{root_ref_head}
use Rattle.btr_space_items.specs.Stripe.{stripe_layout}
use Rattle.btr_space_items.specs.DevExtent.{dev_extent_layout}
use Rattle.space_items.proofs.Merges.{nat_less, rises-merge, all-merge}
use Rattle.space_items.proofs.Merging.{key_total}

pub item_total : IsTotalOrder item_cmp
item_total = on_total (λ (i : Item). i.0) key_total

-- each item is before all later ones
abbrev pub Rise : List Item → Type 0
Rise items = AllPairs (λ a b. item_cmp a b ≡ Less) items

rise_tail : (x : Item) (xs : List Item) → Rise (x ∷ xs) → Rise xs
rise_tail x xs up = λ i j d l h. up (suc i) (suc j) d (omega (arith, l)) (omega (arith, h))

pub rise_ascends : (items : List Item) → Rise items → Ascends (keys_of items)
rise_ascends [] up = refl
rise_ascends (x ∷ []) up = refl
rise_ascends (x ∷ (y ∷ ys)) up = and_from (is_before x.0 y.0) (ascends (keys_of (y ∷ ys))) (ap is_lt (up 0 1 x (omega arith) (omega arith))) (rise_ascends (y ∷ ys) (rise_tail x (y ∷ ys) up))

less_from_test : (o : Ordering) → is_lt o ≡ true → o ≡ Less
less_from_test Less t = refl
less_from_test Equal t = absurd (false≢true t)
less_from_test Greater t = absurd (false≢true t)

pub ascends_rise : (items : List Item) → Ascends (keys_of items) → Rise items
ascends_rise [] t = λ i j d l h. absurd (omega (arith, h))
ascends_rise (x ∷ []) t = λ i j d l h. absurd (omega (arith, l, h))
ascends_rise (x ∷ (y ∷ ys)) t =
    let parts = and_parts (is_before x.0 y.0) (ascends (keys_of (y ∷ ys))) t in
    let less : item_cmp x y ≡ Less = less_from_test (key_cmp x.0 y.0) parts.0 in
    let rest : Rise (y ∷ ys) = ascends_rise (y ∷ ys) parts.1 in
    AllPairs-cons (λ a b. item_cmp a b ≡ Less) x (y ∷ ys)
    (All-cons (λ b. item_cmp x b ≡ Less) y ys less (λ k d h. item_total.trans x y (get_or ys k d) less (rest 0 (suc k) d (omega arith) (omega (arith, h)))))
    rest

all_mapped : {A : Type 0} (f : A → Item) (P : Item → Type 0) (xs : List A) → All (λ a. P (f a)) xs → All P (map f xs)
all_mapped f P [] all = All-nil P
all_mapped f P (x ∷ xs) all = All-cons P (f x) (map f xs) (all 0 x (omega arith)) (all_mapped f P xs (λ k d h. all (suc k) d (omega (arith, h))))

rise_mapped : {A : Type 0} (f : A → Item) (xs : List A) → AllPairs (λ a b. IsBefore (f a).0 (f b).0) xs → Rise (map f xs)
rise_mapped f [] up = λ i j d l h. absurd (omega (arith, h))
rise_mapped f (x ∷ xs) up =
    AllPairs-cons (λ a b. item_cmp a b ≡ Less) (f x) (map f xs) (all_mapped f (λ b. item_cmp (f x) b ≡ Less) xs (λ k d h. up 0 (suc k) d (omega arith) (omega (arith, h))))
    (rise_mapped f xs (λ i j d l h. up (suc i) (suc j) d (omega (arith, l)) (omega (arith, h))))

-- chunks

module _ (plan : Plan) (blocks : ℕ) (chunks : List PlannedChunk) (are : AreChunks plan blocks chunks) where
  starts_rise : (i j : ℕ) (d : PlannedChunk) → i < j → j < length chunks → 4096 * (get_or chunks i d).start < 4096 * (get_or chunks j d).start
  starts_rise i j d l h =
      let is : IsChunk (role_of plan blocks) (usable_end blocks) (get_or chunks i d) = are.each i d (omega (arith, l, h)) in
      let apart : (get_or chunks i d).start + (get_or chunks i d).length ≤ (get_or chunks j d).start = are.ascending i j d l h in
      omega (arith, is.not_empty, apart)

  chunks_rise : (ids : Ids) → Rise (map (chunk_item ids) chunks)
  chunks_rise ids = rise_mapped (chunk_item ids) chunks (λ i j d l h. nat_less (4096 * (get_or chunks i d).start) (4096 * (get_or chunks j d).start) (starts_rise i j d l h))

  extents_rise : (ids : Ids) → Rise (map (dev_extent_item ids) chunks)
  extents_rise ids = rise_mapped (dev_extent_item ids) chunks (λ i j d l h. nat_less (4096 * (get_or chunks i d).start) (4096 * (get_or chunks j d).start) (starts_rise i j d l h))

-- bodies

short_chunk : (ids : Ids) (c : PlannedChunk) → AreIds ids → length (chunk_item ids c).1 ≤ 439
unfolding chunk_layout stripe_layout
short_chunk ids c are = omega (arith, are.device, length-append (ids.device ++ []) [], length-append ids.device [])

short_extent : (ids : Ids) (c : PlannedChunk) → AreIds ids → length (dev_extent_item ids c).1 ≤ 439
unfolding dev_extent_layout
short_extent ids c are = omega (arith, are.chunk_tree, length-append ids.chunk_tree [])

short_device : (ids : Ids) (blocks : ℕ) (chunks : List PlannedChunk) → AreIds ids → length (device_bytes (device_body ids blocks chunks)) ≤ 439
unfolding device_layout
short_device ids blocks chunks are = omega (arith, are.device, are.fsid, length-append ids.device (ids.fsid ++ []), length-append ids.fsid [])

device_first : (item : Item) (chunks : List PlannedChunk) (f : PlannedChunk → Item) → ((c : PlannedChunk) → IsBefore item.0 (f c).0) → Rise (map f chunks) → Rise (item ∷ map f chunks)
device_first item chunks f low up = AllPairs-cons (λ a b. item_cmp a b ≡ Less) item (map f chunks) (all_mapped f (λ b. item_cmp item b ≡ Less) chunks (λ k d h. low (get_or chunks k d))) up

pub chunk_items_fit : ChunkItemsFit
chunk_items_fit plan blocks ids chunks are chunked =
    let device : Item = (make_key DEV_ITEMS_OBJECTID DEV_ITEM 1, device_bytes (device_body ids blocks chunks)) in (
      record {
        ascend = rise_ascends (chunk_items ids blocks chunks) (device_first device chunks (chunk_item ids) (λ c. refl) (chunks_rise plan blocks chunks chunked ids));
        short = All-cons (λ i. length i.1 ≤ 439) device (map (chunk_item ids) chunks) (short_device ids blocks chunks are) (all_mapped (chunk_item ids) (λ i. length i.1 ≤ 439) chunks (λ k d h. short_chunk ids (get_or chunks k d) are));
      },
      record {
        ascend = rise_ascends (device_items ids chunks) (extents_rise plan blocks chunks chunked ids);
        short = all_mapped (dev_extent_item ids) (λ i. length i.1 ≤ 439) chunks (λ k d h. short_extent ids (get_or chunks k d) are);
      },
    )

uuid_long : (ids : Ids) (tree : ℕ) → AreIds ids → length (tree_uuid ids tree) ≡ 16
uuid_long ids tree are = by_test (eqb tree 256)
  where
    by_test : (t : Bool) → length (cond t ids.subvolume zero_uuid) ≡ 16
    by_test true = are.subvolume
    by_test false = refl

short_root : (ids : Ids) (nodesize : ℕ) (r : TreeRoot) → AreIds ids → length (tree_root_item ids nodesize r).1 ≤ 439
unfolding root_item_layout inode_layout key_layout stamp_layout
short_root ids nodesize r are = omega (arith, uuid_long ids r.tree are, length-append {A = ℕ})

short_saved : (index : ℕ) → length (saved_ref index) ≤ 439
unfolding root_ref_head
short_saved index = omega arith

short_inode : (i : Inode) → length (inode_bytes i) ≤ 439
unfolding inode_layout stamp_layout
short_inode i = omega arith

short_name : (index : ℕ) → length (inode_ref_bytes (record { index = index; name = codes ".." })) ≤ 439
unfolding inode_ref_head
short_name index = omega arith

short_default : length default_entry ≤ 439
unfolding dir_entry_head key_layout
short_default = omega arith

short_others : (index now k : ℕ) (d : Item) → k < length (other_root_items index now) → length (get_or (other_root_items index now) k d).1 ≤ 439
short_others index now zero d h = short_saved index
short_others index now (suc zero) d h = short_inode (inode_made now DIRECTORY_MODE 0 0 0)
short_others index now (suc (suc zero)) d h = short_name 0
short_others index now (suc (suc (suc zero))) d h = short_default
short_others index now (suc (suc (suc (suc zero)))) d h = short_saved index
short_others index now (suc (suc (suc (suc (suc k))))) d h = absurd (omega (arith, h))

others_rise : (index now : ℕ) → Rise (other_root_items index now)
others_rise index now = ascends_rise (other_root_items index now) refl

roots_rise : (ids : Ids) (nodesize : ℕ) (list : List TreeRoot) → AllPairs (λ r s. r.tree < s.tree) list → Rise (map (tree_root_item ids nodesize) list)
roots_rise ids nodesize list up =
    rise_mapped (tree_root_item ids nodesize) list
    (λ i j d l h. ap (λ (o : Ordering). ordering_then o (ordering_then (nat_cmp ROOT_ITEM ROOT_ITEM) (nat_cmp 0 0))) (nat_less (get_or list i d).tree (get_or list j d).tree (up i j d l h)))

pub root_items_fit : RootItemsFit
root_items_fit list index ids now nodesize are up =
    let roots : List Item = map (tree_root_item ids nodesize) list in
    let others : List Item = other_root_items index now in
    record {
      ascend = rise_ascends (merged roots others) (rises-merge item_cmp item_total roots others (roots_rise ids nodesize list up) (others_rise index now));
      short = all-merge item_cmp (λ i. length i.1 ≤ 439) roots others (all_mapped (tree_root_item ids nodesize) (λ i. length i.1 ≤ 439) list (λ k d h. short_root ids nodesize (get_or list k d) are)) (short_others index now);
    }
