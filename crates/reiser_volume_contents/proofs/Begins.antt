-- A reader of an object begins with all its items to give.
use Rattle.reiser_volume_contents.proofs.Imports.{◌≡◌, ◌≢◌, ◌≤◌, ◌<◌, ◌-◌, ℕ, zero, suc, Bool, List, [], ◌∷◌, ◌++◌, length, drop, All, AllPairs, sym, ◌∙◌, ap, subst, arith, flat_map, Image, block_at, IsLeaf, BlockPointer, ReiserTree, ReiserItem, Event, IsNode, tree_damages, Visit, tree_events, visits_in, items_of_events, reached_in, items_of_tree, Each, Pairs, each_from_all, all_from_each, each_both, pairs_from_all_pairs, all_pairs_from_pairs, sound_exactly, ObjectKey, Objects, items_of, leaves_of, ObjectItems, HoldsObject, object_items, leaf_items, items_ahead, IsKeyBelow, IsLeafOf, Reads, Starts, at_first, behind_all}
use Rattle.reiser_volume_objects.specs.Table.{HasNoted}
use Rattle.reiser_volume_contents.proofs.Looking.{no_leaf, none_ahead}
use Rattle.reiser_volume_contents.proofs.Places.{leaves_are, from_first}
use Rattle.reiser_volume_contents.proofs.Trees.{Distinct, leaf_blocks, each_leaf, leaves_distinct, each_is_leaf, items_by_leaves}

-- the leaves of a tree with which nothing is wrong
record TreeLeaves (image : Image) (items : List ReiserItem) : Type 0 where
  blocks : List ℕ
  items_are : items ≡ flat_map (leaf_items image) blocks
  leaves_are : leaves_of items ≡ blocks
  leaves : Each (λ b. IsLeaf (block_at image b)) blocks
  within : Each (IsLeafOf image) blocks
  distinct : Distinct blocks

tree_leaves : (tree : ReiserTree) (image : Image) (used : List Bool) → tree_damages tree image used ≡ [] → length used ≤ length image → TreeLeaves image (items_of_tree tree image (length used))
tree_leaves tree image used sound room =
    let n = length used in
    let events : List Event = tree_events tree image n in
    let k = (sound_exactly tree image used).0 sound in
    let inside : Each (λ b. b < n) (leaf_blocks events) = each_leaf (λ b. b < n) events (each_from_all (λ (p : BlockPointer). p.block < n) (reached_in events) k.inside) in
    let leaves : Each (λ b. IsLeaf (block_at image b)) (leaf_blocks events) = each_is_leaf image events (each_from_all (λ (v : Visit). IsNode v.level (block_at image v.to.block)) (visits_in events) k.nodes) in
    let distinct : Distinct (leaf_blocks events) = leaves_distinct events (pairs_from_all_pairs (λ (p q : BlockPointer). p.block ≢ q.block) (reached_in events) k.once) in
    let items : items_of_events events ≡ flat_map (leaf_items image) (leaf_blocks events) = items_by_leaves image n (tree.height - 1) 16 tree.root inside leaves in
    record {
      blocks = leaf_blocks events;
      items_are = items;
      leaves_are = ap leaves_of items ∙ leaves_are image (leaf_blocks events) leaves distinct;
      leaves = leaves;
      within = each_both (λ b. b < n) (λ b. IsLeaf (block_at image b)) (IsLeafOf image) (leaf_blocks events) (λ b low leaf. record { within = omega (arith, low, room); leaf = leaf }) inside leaves;
      distinct = distinct;
    }

each_drop : (P : ℕ → Type 0) (n : ℕ) (bs : List ℕ) → Each P bs → Each P (drop n bs)
each_drop P zero bs h = h
each_drop P (suc n) [] h = tt
each_drop P (suc n) (b ∷ bs) h = each_drop P n bs h.1

pairs_right : (xs ys : List ReiserItem) → Pairs IsKeyBelow (xs ++ ys) → Pairs IsKeyBelow ys
pairs_right [] ys h = h
pairs_right (x ∷ xs) ys h = pairs_right xs ys h.1

-- the items of the later leaves ascend
pairs_drop : (f : ℕ → List ReiserItem) (n : ℕ) (bs : List ℕ) → Pairs IsKeyBelow (flat_map f bs) → Pairs IsKeyBelow (flat_map f (drop n bs))
pairs_drop f zero bs h = h
pairs_drop f (suc n) [] h = h
pairs_drop f (suc n) (b ∷ bs) h = pairs_drop f n bs (pairs_right (f b) (flat_map f bs) h)

-- the items of the object from where a reader begins
from_start : (image : Image) (items : List ReiserItem) (key : ObjectKey) (t : TreeLeaves image items) (leaves : List ℕ) (place : ℕ) → leaves ≡ t.blocks → Starts key items leaves place
    → items_of key (flat_map (leaf_items image) (drop place leaves)) ≡ items_of key items
from_start image items key t leaves place same (at_first first) =
    ap (λ (bs : List ℕ). items_of key (flat_map (leaf_items image) (drop place bs))) same ∙ from_first image t.blocks key items place t.leaves t.distinct t.items_are first
from_start image items key t leaves place same (behind_all none past) =
    ap (λ (bs : List ℕ). items_of key (flat_map (leaf_items image) bs)) (no_leaf leaves place (omega (arith, past))) ∙ sym none

pub begun : (objects : Objects) (key : ObjectKey) (tree : ReiserTree) (image : Image) (used : List Bool) (r : ObjectItems) → r.key ≡ key → r.leaf.at.left ≡ 0
    → ((items : List ReiserItem) → HasNoted objects items → Starts key items objects.leaves r.place)
    → HoldsObject objects key tree image used → Reads r objects.leaves image [] (object_items tree image used key)
begun objects key tree image used r own done starts holds =
    let t = tree_leaves tree image used holds.sound holds.within in
    let same : objects.leaves ≡ t.blocks = holds.noted.leaves ∙ t.leaves_are in
    let k = (sound_exactly tree image used).0 holds.sound in
    let is : items_ahead image objects.leaves r ≡ flat_map (leaf_items image) (drop r.place objects.leaves) =
    ap (λ (xs : List ReiserItem). xs ++ flat_map (leaf_items image) (drop r.place objects.leaves)) (none_ahead r.leaf.no r.leaf.at.next r.leaf.at.left r.leaf.block.bytes done) in
    let ascend : Pairs IsKeyBelow (flat_map (leaf_items image) (drop r.place objects.leaves)) =
    subst (λ (bs : List ℕ). Pairs IsKeyBelow (flat_map (leaf_items image) (drop r.place bs))) (sym same)
    (pairs_drop (leaf_items image) r.place t.blocks (subst (λ (xs : List ReiserItem). Pairs IsKeyBelow xs) t.items_are (pairs_from_all_pairs IsKeyBelow (items_of_tree tree image (length used)) k.ascending))) in
    record {
      whole =
          ap (λ (o : ObjectKey). items_of o (items_ahead image objects.leaves r)) own
          ∙ (ap (items_of key) is ∙ from_start image (items_of_tree tree image (length used)) key t objects.leaves r.place same (starts (items_of_tree tree image (length used)) holds.noted));
      ascending = subst (λ (xs : List ReiserItem). AllPairs IsKeyBelow xs) (sym is) (all_pairs_from_pairs IsKeyBelow (flat_map (leaf_items image) (drop r.place objects.leaves)) ascend);
      are_leaves = subst (λ (bs : List ℕ). All (IsLeafOf image) (drop r.place bs)) (sym same) (all_from_each (IsLeafOf image) (drop r.place t.blocks) (each_drop (IsLeafOf image) r.place t.blocks t.within));
    }
