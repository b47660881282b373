-- What an accepted volume holds is bounded by its blocks.
use Rattle.reiser_volume.proofs.Imports.{◌≡◌, ◌≢◌, ℕ, zero, suc, ◌+◌, ◌-◌, ◌*◌, ◌^◌, ◌<◌, ◌≤◌, Bool, true, false, cond, List, [], ◌∷◌, ◌++◌, map, filter, flat_map, length, drop, sum_by, Contains, AllPairs, Option, Some, None, if◌then◌else◌, eqb, refl, sym, ap, subst, ◌∙◌, arith, eqb-true, ne_eqb, length-append, length-map, length-take, All-contains, sum_by-cons, sum_by-append, sum_by-le, sum_by-le-sum_by, IsDistinct-from_apart, Image, block_at, sum_zero, sum_split, at_head, in_tail, in_map, from_filter, ItemKind, Stat, Indirect, Direct, Directory, IsLeaf, count, head_place, body_length, body_end, location, body_at, are_entries, entries, entries_length, BlockPointer, ReiserTree, ReiserItem, Event, item_of, item_at, IsNode, Visit, tree_events, visits_in, items_of_events, reached_in, items_of_tree, Each, each_from_all, all_from_each, all_pairs_from_pairs, pairs_from_all_pairs, sound_exactly, Distinct, leaf_blocks, each_leaf, leaves_distinct, each_is_leaf, items_by_leaves, ObjectKey, Naming, ObjectStat, first_stat, stat_of_object, same_key, object_key_of, items_of, namings, namings_in, namings_by_kind, naming_by, is_listed, is_followed, same_key-true, AreLinks, AreNamedKeys, AreNames, same_decides, same_laws, links_one, superblock, used_of, reiser_tree_of, volume_items, IsAccepted}
use Rattle.std.proofs.lemmas.Map.Made.{IsDistinct-from_AllPairs, is_member-Decides, length-le_from_is_member}
use Rattle.std.proofs.lemmas.Map.Steps.{length-le_from_distinct_below}
use Rattle.std.proofs.lemmas.Map.Views.{Contains-from_any}
use Rattle.reiser_volume_objects.specs.reiser_node.declared.head.ItemHead.{ItemHead}
use Rattle.reiser_volume_objects.specs.reiser_node.Head.{head_at}
use Rattle.reiser_volume_objects.proofs.reiser_items.Grammar.{entries_decide}
use Rattle.reiser_volume_contents.specs.Reads.{listed, items_from, leaf_items}
use Rattle.reiser_volume.specs.Bounds.{item_bytes, direct_length, direct_bytes, AcceptedIsSmall}
use Rattle.reiser_volume.proofs.Holding.{used_length}
use Rattle.reiser_volume.proofs.Leading.{all_of}

-- what an item of a leaf takes
one_item : (leaf : ℕ) (bytes : List ℕ) (i : ℕ) (o : Option ItemHead) → sum_by item_bytes (listed (item_of leaf bytes i o)) ≤ 24 + body_length bytes i
one_item leaf bytes i None = omega arith
one_item leaf bytes i (Some head) =
    let x : ReiserItem = record { leaf = leaf; head = head; body = body_at bytes i } in
    let one : sum_by item_bytes (x ∷ []) ≡ item_bytes x + sum_by item_bytes [] = sum_by-cons item_bytes x [] in
    let long = length-take (location bytes i + body_length bytes i - location bytes i) (drop (location bytes i) bytes) in
    omega (arith, one, long)

-- what the items of a leaf take, with their bodies packed from the end backwards
leaf_takes : (leaf : ℕ) (bytes : List ℕ) → IsLeaf bytes → (i n : ℕ) → i + n ≤ count bytes → sum_by item_bytes (items_from leaf bytes i n) + body_end bytes (i + n) ≤ 24 * n + body_end bytes i
leaf_takes leaf bytes l i zero within =
    let same : body_end bytes (i + 0) ≡ body_end bytes i = ap (body_end bytes) (omega arith) in
    omega (arith, same)
leaf_takes leaf bytes l i (suc n) within =
    let rest = leaf_takes leaf bytes l (suc i) n (omega (arith, within)) in
    let packed = (l.each i (omega (arith, within))).packed in
    let one = one_item leaf bytes i (head_at bytes (head_place i)) in
    let both : sum_by item_bytes (listed (item_at leaf bytes i) ++ items_from leaf bytes (suc i) n) ≡ sum_by item_bytes (listed (item_at leaf bytes i)) + sum_by item_bytes (items_from leaf bytes (suc i) n) = sum_by-append item_bytes (listed (item_at leaf bytes i)) (items_from leaf bytes (suc i) n) in
    let same : body_end bytes (suc i + n) ≡ body_end bytes (i + suc n) = ap (body_end bytes) (omega arith) in
    omega (arith, rest, packed, one, both, same)

leaf_fits : (image : Image) (b : ℕ) → IsLeaf (block_at image b) → sum_by item_bytes (leaf_items image b) ≤ 4096
leaf_fits image b l =
    let bytes = block_at image b in
    let all = leaf_takes b bytes l 0 (count bytes) (omega arith) in
    let same : body_end bytes (0 + count bytes) ≡ body_end bytes (count bytes) = ap (body_end bytes) (omega arith) in
    let behind = l.apart in
    omega (arith, all, same, behind)

leaves_fit : (image : Image) (bs : List ℕ) → Each (λ b. IsLeaf (block_at image b)) bs → sum_by item_bytes (flat_map (leaf_items image) bs) ≤ 4096 * length bs
leaves_fit image [] leaves = omega arith
leaves_fit image (b ∷ bs) leaves =
    let one = leaf_fits image b leaves.0 in
    let rest = leaves_fit image bs leaves.1 in
    let both : sum_by item_bytes (leaf_items image b ++ flat_map (leaf_items image) bs) ≡ sum_by item_bytes (leaf_items image b) + sum_by item_bytes (flat_map (leaf_items image) bs) = sum_by-append item_bytes (leaf_items image b) (flat_map (leaf_items image) bs) in
    omega (arith, one, rest, both)

-- different numbers below n
few_below : (n : ℕ) (bs : List ℕ) → Each (λ b. b < n) bs → Distinct bs → length bs ≤ n
few_below n bs within distinct =
    length-le_from_distinct_below bs n (IsDistinct-from_apart eqb bs (λ i j d below inside. ne_eqb _ _ (all_pairs_from_pairs (λ (a b : ℕ). a ≢ b) bs distinct i j d below inside)))
    (λ q any. All-contains (λ b. b < n) bs q (all_from_each (λ b. b < n) bs within) (Contains-from_any eqb-true q bs any))

-- the items of a tree with which nothing is wrong take at most its volume's blocks
tree_fits : (image : Image) → IsAccepted image → sum_by item_bytes (volume_items image) ≤ 4096 * (superblock image).blocks
tree_fits image a =
    let tree : ReiserTree = reiser_tree_of (superblock image) in
    let used = used_of image in
    let n : ℕ = length used in
    let events : List Event = tree_events tree image n in
    let k = (sound_exactly tree image used).0 a.tree in
    let inside : Each (λ b. b < n) (leaf_blocks events) = each_leaf (λ b. b < n) events (each_from_all (λ (p : BlockPointer). p.block < n) (reached_in events) k.inside) in
    let leaves : Each (λ b. IsLeaf (block_at image b)) (leaf_blocks events) = each_is_leaf image events (each_from_all (λ (v : Visit). IsNode v.level (block_at image v.to.block)) (visits_in events) k.nodes) in
    let distinct : Distinct (leaf_blocks events) = leaves_distinct events (pairs_from_all_pairs (λ (p q : BlockPointer). p.block ≢ q.block) (reached_in events) k.once) in
    let items : items_of_events events ≡ flat_map (leaf_items image) (leaf_blocks events) = items_by_leaves image n (tree.height - 1) 16 tree.root inside leaves in
    let fits : sum_by item_bytes (items_of_tree tree image n) ≤ 4096 * length (leaf_blocks events) = subst (λ (is : List ReiserItem). sum_by item_bytes is ≤ 4096 * length (leaf_blocks events)) (sym items) (leaves_fit image (leaf_blocks events) leaves) in
    let few : length (leaf_blocks events) ≤ n = few_below n (leaf_blocks events) inside distinct in
    subst (λ (m : ℕ). sum_by item_bytes (items_of_tree tree image m) ≤ 4096 * m) (used_length image) (omega (arith, fits, few))

items_take : (items : List ReiserItem) → 24 * length items ≤ sum_by item_bytes items
items_take [] = omega arith
items_take (i ∷ items) =
    let one : sum_by item_bytes (i ∷ items) ≡ item_bytes i + sum_by item_bytes items = sum_by-cons item_bytes i items in
    let rest = items_take items in
    omega (arith, one, rest)

-- an object with stat data has an item
has_item : (items : List ReiserItem) (key : ObjectKey) (stat : ObjectStat) → stat_of_object items key ≡ Some stat → (i : ReiserItem) × Contains items i × (object_key_of i.head ≡ key)
has_item items key stat is = by (items_of key items) refl is
  where
    by : (own : List ReiserItem) → items_of key items ≡ own → first_stat own ≡ Some stat → (i : ReiserItem) × Contains items i × (object_key_of i.head ≡ key)
    by [] same none = absurd (no none)
      where
        no : None ≡ Some stat → ⊥
        no e = cc
    by (i ∷ own) same has =
        let kept = from_filter (λ (j : ReiserItem). same_key (object_key_of j.head) key) items i (subst (λ (l : List ReiserItem). Contains l i) (sym same) (at_head i own)) in
        (i, kept.0, same_key-true (object_key_of i.head) key kept.1)

-- the named objects are no more than the items
objects_few : (image : Image) → IsAccepted image → (keys : List ObjectKey) → AreNamedKeys (volume_items image) keys → length keys ≤ length (volume_items image)
objects_few image a keys are =
    let items = volume_items image in
    let own : ReiserItem → ObjectKey = λ i. object_key_of i.head in
    let most = length-le_from_is_member same_laws keys (map own items) (IsDistinct-from_AllPairs same_decides keys are.once)
    (λ q member.
    let object = a.objects.each q ((are.exact q).0 ((is_member-Decides same_decides keys q).0 member)) in
    let i = has_item items q object.stat object.has_stat in
    (is_member-Decides same_decides (map own items) q).1 (subst (Contains (map own items)) i.2 (in_map own items i.0 i.1))) in
    let long = length-map items own in
    omega (arith, most, long)

filter_few : {X : Type 0} (p : X → Bool) (xs : List X) → length (filter p xs) ≤ length xs
filter_few p [] = omega arith
filter_few {X} p (x ∷ xs) = by (p x) (filter_few p xs)
  where
    by : (b : Bool) → length (filter p xs) ≤ length xs → length (cond b (x ∷ filter p xs) (filter p xs)) ≤ length (x ∷ xs)
    by true rest = omega (arith, rest)
    by false rest = omega (arith, rest)

entries_few : (leaf : ℕ) (key : ObjectKey) (n : ℕ) (body : List ℕ) (b : Bool) → are_entries n body ≡ b → 16 * length (if b then map (naming_by leaf key) (filter is_listed (entries n body)) else []) ≤ length body
entries_few leaf key n body false is = omega arith
entries_few leaf key n body true is =
    let are = (entries_decide n body).0 is in
    let first = are.each 0 (omega (arith, are.some)) in
    let behind = first.behind in
    let ordered = first.ordered in
    let long = length-map (filter is_listed (entries n body)) (naming_by leaf key) in
    let kept = filter_few is_listed (entries n body) in
    let all = entries_length n body in
    omega (arith, behind, ordered, long, kept, all)

kind_few : (kind : ItemKind) (i : ReiserItem) → 16 * length (namings_by_kind kind i) ≤ length i.body
kind_few Stat i = omega arith
kind_few Indirect i = omega arith
kind_few Direct i = omega arith
kind_few Directory i = entries_few i.leaf (object_key_of i.head) i.head.count i.body (are_entries i.head.count i.body) refl

namings_few : (items : List ReiserItem) → 16 * length (namings items) ≤ sum_by item_bytes items
namings_few [] = omega arith
namings_few (i ∷ items) =
    let one : sum_by item_bytes (i ∷ items) ≡ item_bytes i + sum_by item_bytes items = sum_by-cons item_bytes i items in
    let head = kind_few i.head.kind i in
    let rest = namings_few items in
    let both = length-append (namings_in i) (namings items) in
    omega (arith, one, head, rest, both)

-- elements that a test is true of for one of different keys at most
weighed : {K : Type 0} (q : K → Bool) (w : ℕ) (keys : List K) → AllPairs (λ a b. q a ≡ true → q b ≡ true → ⊥) keys → sum_by (λ k. cond (q k) w 0) keys ≤ w
weighed q w [] apart = omega arith
weighed {K} q w (k ∷ keys) apart = by (q k) refl (weighed q w keys (λ i j d below within. apart (suc i) (suc j) d (omega (arith, below)) (omega (arith, within))))
  where
    none_else : q k ≡ true → (xs : List K) → ((x : K) → Contains xs x → q x ≡ false) → sum_by (λ x. cond (q x) w 0) xs ≡ 0
    none_else is [] none = refl
    none_else is (x ∷ xs) none =
        let head : sum_by (λ x. cond (q x) w 0) (x ∷ xs) ≡ cond (q x) w 0 + sum_by (λ x. cond (q x) w 0) xs = sum_by-cons (λ x. cond (q x) w 0) x xs in
        let own : ◌≡◌ {A = ℕ} (cond (q x) w 0) 0 = ap (λ (b : Bool). cond b w 0) (none x (at_head x xs)) in
        let rest = none_else is xs (λ y among. none y (in_tail x xs y among)) in
        omega (arith, head, own, rest)

    other : q k ≡ true → (x : K) → Contains keys x → (b : Bool) → q x ≡ b → b ≡ false
    other is x among true own = absurd (apart 0 (suc among.0) x (omega arith) (omega (arith, among.1)) is (ap q among.2 ∙ own))
    other is x among false own = refl

    by : (b : Bool) → q k ≡ b → sum_by (λ x. cond (q x) w 0) keys ≤ w → sum_by (λ x. cond (q x) w 0) (k ∷ keys) ≤ w
    by true is rest =
        let head : sum_by (λ x. cond (q x) w 0) (k ∷ keys) ≡ cond (q k) w 0 + sum_by (λ x. cond (q x) w 0) keys = sum_by-cons (λ x. cond (q x) w 0) k keys in
        let own : ◌≡◌ {A = ℕ} (cond (q k) w 0) w = ap (λ (b : Bool). cond b w 0) is in
        let none = none_else is keys (λ x among. other is x among (q x) refl) in
        omega (arith, head, own, none)
    by false is rest =
        let head : sum_by (λ x. cond (q x) w 0) (k ∷ keys) ≡ cond (q k) w 0 + sum_by (λ x. cond (q x) w 0) keys = sum_by-cons (λ x. cond (q x) w 0) k keys in
        let own : ◌≡◌ {A = ℕ} (cond (q k) w 0) 0 = ap (λ (b : Bool). cond b w 0) is in
        omega (arith, head, own, rest)

-- what the items of different objects have is no more than what all items have
module _ (f : ReiserItem → ℕ) (keys : List ObjectKey) (once : AllPairs (λ a b. a ≢ b) keys) where
  abbrev of : ReiserItem → ObjectKey → Bool
  of i key = same_key (object_key_of i.head) key

  one_more : (i : ReiserItem) (items : List ReiserItem) (key : ObjectKey) → sum_by f (items_of key (i ∷ items)) ≡ cond (of i key) (f i) 0 + sum_by f (items_of key items)
  one_more i items key = by (of i key)
    where
      by : (b : Bool) → sum_by f (cond b (i ∷ items_of key items) (items_of key items)) ≡ cond b (f i) 0 + sum_by f (items_of key items)
      by true = sum_by-cons f i (items_of key items)
      by false = omega arith

  pub by_objects : (items : List ReiserItem) → sum_by (λ key. sum_by f (items_of key items)) keys ≤ sum_by f items
  by_objects [] = let none = sum_zero (λ (key : ObjectKey). sum_by f (items_of key [])) keys (λ key. refl) in omega (arith, none)
  by_objects (i ∷ items) =
      let split = sum_split (λ (key : ObjectKey). cond (of i key) (f i) 0) (λ (key : ObjectKey). sum_by f (items_of key items)) (λ (key : ObjectKey). sum_by f (items_of key (i ∷ items))) keys (one_more i items) in
      let own = weighed (of i) (f i) keys (λ x y d below within first second. once x y d below within (sym (same_key-true (object_key_of i.head) _ first) ∙ same_key-true (object_key_of i.head) _ second)) in
      let rest = by_objects items in
      let all : sum_by f (i ∷ items) ≡ f i + sum_by f items = sum_by-cons f i items in
      omega (arith, split, own, rest, all)

direct_few : (kind : ItemKind) (body : List ℕ) → direct_length kind body ≤ 24 + length body
direct_few Stat body = omega arith
direct_few Indirect body = omega arith
direct_few Direct body = omega arith
direct_few Directory body = omega arith

module _ (image : Image) (a : IsAccepted image) where
  abbrev items : List ReiserItem
  items = volume_items image

  blocks : (superblock image).blocks ≤ 2 ^ 29
  blocks = a.clean.superblock.count

  bytes : sum_by item_bytes items ≤ 2 ^ 41
  bytes = let fits = tree_fits image a in let few = blocks in omega (arith, fits, few)

  objects : (keys : List ObjectKey) → AreNamedKeys items keys → length keys ≤ 2 ^ 37
  objects keys are =
      let few = objects_few image a keys are in
      let most = items_take items in
      let all = bytes in
      omega (arith, few, most, all)

  links : (visible links : List Naming) → AreLinks items visible links → length links ≤ 2 ^ 37
  links visible ls are =
      let one : length ls ≤ length visible = subst (λ (l : List Naming). length l ≤ length visible) (sym are.are_links) (filter_few is_followed visible) in
      let two : length visible ≤ length (namings items) = subst (λ (l : List Naming). length l ≤ length (namings items)) (sym are.are_visible) (filter_few (λ n. are.has n.dir) (namings items)) in
      let most = namings_few items in
      let all = bytes in
      omega (arith, one, two, most, all)

  names : (visible links : List Naming) → AreLinks items visible links → sum_by (λ n. length n.name) links ≤ 2 ^ 45
  names visible ls are =
      let known : AreNames items = a.names in
      let same : ls ≡ known.links = links_one items visible ls known.visible known.links are known.are_links in
      let most : sum_by (λ (n : Naming). length n.name) ls ≤ length ls * 255 = sum_by-le (λ (n : Naming). length n.name) 255 ls (all_of (λ (n : Naming). length n.name ≤ 255) ls (λ n among. known.keeps.short n (subst (λ (l : List Naming). Contains l n) same among))) in
      let few = links visible ls are in
      omega (arith, most, few)

  direct : (keys : List ObjectKey) → AllPairs (λ a b. a ≢ b) keys → sum_by (λ key. sum_by direct_bytes (items_of key items)) keys ≤ 2 ^ 41
  direct keys once =
      let most = by_objects direct_bytes keys once items in
      let each = sum_by-le-sum_by direct_bytes item_bytes items (λ i. direct_few i.head.kind i.body) in
      let all = bytes in
      omega (arith, most, each, all)

pub accepted_is_small : AcceptedIsSmall
accepted_is_small image a = record { blocks = blocks image a; bytes = bytes image a; objects = objects image a; links = links image a; names = names image a; direct = direct image a }
