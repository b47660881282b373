-- The fields of stat data fit, where the blocks hold bytes.
use Rattle.convert_trees_laws.proofs.Imports.{◌≡◌, ◌<◌, ℕ, zero, suc, ◌+◌, ◌-◌, ◌^◌, ◌==◌, Bool, true, false, List, [], ◌∷◌, length, Contains, Option, Some, None, if◌then◌else◌, refl, sym, ap, subst, ◌∙◌, ⊎_elim, arith, flat_map, option_map, option_or, Contains-append_cases, Image, block_at, at_head, in_tail, head_or_tail, from_filter, from_flat_map, ItemKind, Stat, Indirect, Direct, ReiserItem, Event, item_at, item_of, ObjectKey, ObjectStat, first_stat, stat_by_kind, stat_of_object, items_of, object_key_of, same_key, IsAccepted, superblock, reiser_tree_of, used_of, volume_items, used_length, HasBytes}
use Rattle.convert_steps.specs.reiser_node.declared.head.ItemKind.TheVariants.{Directory as Entries}
use Rattle.convert_steps.specs.reiser_node.declared.head.ItemHead.{ItemHead}
use Rattle.convert_steps.specs.reiser_node.Head.{head_at}
use Rattle.convert_steps.specs.reiser_node.Leaf.{IsLeaf, body_at, body_length, count, head_place, location}
use Rattle.convert_steps.specs.reiser_items.Stat.{stat_fields, stat_length}
use Rattle.convert_steps.specs.reiser_items.declared.stat.StatData.{StatData}
use Rattle.convert_steps.specs.reiser_walk.declared.block_pointer.BlockPointer.{BlockPointer}
use Rattle.convert_steps.specs.reiser_walk.declared.reiser_tree.ReiserTree.{ReiserTree}
use Rattle.convert_steps.specs.reiser_walk.Laws.{IsNode}
use Rattle.convert_steps.specs.reiser_walk.Tree.{Visit, items_of_events, reached_in, tree_events, visits_in, items_of_tree}
use Rattle.convert_steps.proofs.reiser_walk.Lists.{Each, each_from_all}
use Rattle.convert_steps.proofs.reiser_walk.Rules.{sound_exactly}
use Rattle.convert_steps.specs.reiser_volume_contents.Reads.{items_from, leaf_items, listed}
use Rattle.convert_steps.proofs.reiser_volume_contents.Trees.{each_is_leaf, each_leaf, items_by_leaves, leaf_blocks}
use Rattle.convert_trees_laws.proofs.Fields.{AreBytes, field_eight, field_four, field_two, range_bytes}

-- ---- bodies

leaf_bodies : (leaf : ℕ) (bytes : List ℕ) → AreBytes bytes → (i n : ℕ) (x : ReiserItem) → Contains (items_from leaf bytes i n) x → AreBytes x.body
leaf_bodies leaf bytes are i zero x h = absurd (omega (arith, h.1))
leaf_bodies leaf bytes are i (suc n) x h =
    ⊎_elim (λ (first : Contains (listed (item_at leaf bytes i)) x). by (head_at bytes (head_place i)) first) (λ (later : Contains (items_from leaf bytes (suc i) n) x). leaf_bodies leaf bytes are (suc i) n x later)
    (Contains-append_cases (listed (item_at leaf bytes i)) (items_from leaf bytes (suc i) n) x h)
  where
    by : (o : Option ItemHead) → Contains (listed (item_of leaf bytes i o)) x → AreBytes x.body
    by None h = absurd (omega (arith, h.1))
    by (Some head) h =
        ⊎_elim
        (λ (same : record { leaf = leaf; head = head; body = body_at bytes i } ≡ x). subst AreBytes (ap (λ (y : ReiserItem). y.body) same) (range_bytes bytes (location bytes i) (location bytes i + body_length bytes i) are))
        (λ (later : Contains [] x). absurd (omega (arith, later.1)))
        (head_or_tail (record { leaf = leaf; head = head; body = body_at bytes i }) [] x h)

bodies : (image : Image) → IsAccepted image → HasBytes image → (x : ReiserItem) → Contains (volume_items image) x → AreBytes x.body
bodies image a bytes x h =
    let tree : ReiserTree = reiser_tree_of (superblock image) in
    let n : ℕ = length (used_of image) in
    let events : List Event = tree_events tree image n in
    let k = (sound_exactly tree image (used_of image)).0 a.tree in
    let inside : Each (λ b. b < n) (leaf_blocks events) = each_leaf (λ b. b < n) events (each_from_all (λ (p : BlockPointer). p.block < n) (reached_in events) k.inside) in
    let leaves : Each (λ b. IsLeaf (block_at image b)) (leaf_blocks events) = each_is_leaf image events (each_from_all (λ (v : Visit). IsNode v.level (block_at image v.to.block)) (visits_in events) k.nodes) in
    let items : items_of_events events ≡ flat_map (leaf_items image) (leaf_blocks events) = items_by_leaves image n (tree.height - 1) 16 tree.root inside leaves in
    let here : Contains (items_of_tree tree image n) x = subst (λ (m : ℕ). Contains (items_of_tree tree image m) x) (sym (used_length image)) h in
    let at = from_flat_map (leaf_items image) (leaf_blocks events) x (subst (λ (is : List ReiserItem). Contains is x) items here) in
    leaf_bodies at.0 (block_at image at.0) (bytes at.0) 0 (count (block_at image at.0)) x at.2

-- ---- stat data

pub record FitsStat (f : StatData) : Type 0 where
  pub size : f.size < 2 ^ 64
  pub uid : f.uid < 2 ^ 32
  pub gid : f.gid < 2 ^ 32
  pub atime : f.atime < 2 ^ 32
  pub mtime : f.mtime < 2 ^ 32
  pub ctime : f.ctime < 2 ^ 32
  pub rdev : f.rdev < 2 ^ 32

fields_fit : (old : Bool) (body : List ℕ) → AreBytes body → FitsStat (stat_fields old body)
fields_fit true body are =
    let size = field_four body 8 are in
    let uid = field_two body 4 are in
    let gid = field_two body 6 are in
    record {
      size = omega (arith, size);
      uid = omega (arith, uid);
      gid = omega (arith, gid);
      atime = field_four body 12 are;
      mtime = field_four body 16 are;
      ctime = field_four body 20 are;
      rdev = field_four body 24 are;
    }
fields_fit false body are = record {
  size = field_eight body 8 are;
  uid = field_four body 16 are;
  gid = field_four body 20 are;
  atime = field_four body 24 are;
  mtime = field_four body 28 are;
  ctime = field_four body 32 are;
  rdev = field_four body 40 are;
}

no_stat_there : (stat : ObjectStat) → (let o : Option ObjectStat = None in o) ≡ Some stat → ⊥
no_stat_there stat is = absurd (cc)

same_stat : (a b : ObjectStat) → (let o : Option ObjectStat = Some a in o) ≡ Some b → a ≡ b
same_stat a b is = cc

abbrev told_by : ReiserItem → StatData → ObjectStat
told_by i fields = record { leaf = i.leaf; old_form = i.head.old; fields = fields }

item_fits : (kind : ItemKind) (i : ReiserItem) (stat : ObjectStat) → stat_by_kind kind i ≡ Some stat → AreBytes i.body → FitsStat stat.fields
item_fits Stat i stat is are = by (length i.body == stat_length i.head.old) is
  where
    by : (b : Bool) → option_map (told_by i) (if b then Some (stat_fields i.head.old i.body) else None) ≡ Some stat → FitsStat stat.fields
    by true is = subst (λ (s : ObjectStat). FitsStat s.fields) (same_stat (told_by i (stat_fields i.head.old i.body)) stat is) (fields_fit i.head.old i.body are)
    by false is = absurd (no_stat_there stat is)
item_fits Indirect i stat is are = absurd (no_stat_there stat is)
item_fits Direct i stat is are = absurd (no_stat_there stat is)
item_fits Entries i stat is are = absurd (no_stat_there stat is)

first_fits : (own : List ReiserItem) (stat : ObjectStat) → ((x : ReiserItem) → Contains own x → AreBytes x.body) → first_stat own ≡ Some stat → FitsStat stat.fields
first_fits [] stat are is = absurd (no_stat_there stat is)
first_fits (i ∷ own) stat are is = by (stat_by_kind i.head.kind i) refl is (first_fits own stat (λ x h. are x (in_tail i own x h)))
  where
    by : (o : Option ObjectStat) → stat_by_kind i.head.kind i ≡ o → option_or o (first_stat own) ≡ Some stat → (first_stat own ≡ Some stat → FitsStat stat.fields) → FitsStat stat.fields
    by None at is later = later is
    by (Some other) at is later = item_fits i.head.kind i stat (at ∙ is) (are i (at_head i own))

-- what the stat data of an object says fits
pub stat_fits : (image : Image) (key : ObjectKey) (stat : ObjectStat) → IsAccepted image → HasBytes image → stat_of_object (volume_items image) key ≡ Some stat → FitsStat stat.fields
stat_fits image key stat accepted bytes is =
    first_fits (items_of key (volume_items image)) stat (λ x h. bodies image accepted bytes x (from_filter (λ (i : ReiserItem). same_key (object_key_of i.head) key) (volume_items image) x h).0) is
