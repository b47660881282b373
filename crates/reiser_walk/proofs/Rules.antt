-- Nothing is wrong with a tree exactly where each rule holds over the whole of its visits, items and reached blocks.
use Rattle.reiser_walk.proofs.Imports.{◌≡◌, ◌≢◌, inl, inr, ℕ, ◌%◌, ◌^◌, ◌==◌, ◌<◌, ◌≤◌, ◌||◌, Bool, true, false, not, nat_lt, nat_le, List, [], ◌∷◌, ◌++◌, length, All, is_some, Some, None, if◌then◌else◌, refl, sym, ap, subst, arith, ⊎_elim, true≢false, flat_map, is_lt, nat_tests, eqb_tells, Decides-and, Decides-or, Decides-eqb, Decides-like, Image, block_at, VolumeRefusal, Rule, KeyOrder, BlockFree, BlockTwice, Body, ItemHead, is_leaf, is_inner, leaf_decides, inner_decides, kind_number, key_order, has, BlockPointer, ReiserTree, is_save_link, fits_kind, is_body, ReiserItem, Event, node, item, pointer, Visit, visits_in, items_of_events, reached_in, tree_events, unless, is_node, visit_damage, is_above, is_in, is_system_of, reach_damage, reach_damages, order_damages, body_damage, tree_damages, IsNode, FitsKind, FitsHead, KeepsRules, SoundTreesKeepRules}
use Rattle.std.specs.Bool.{Decides}
use Rattle.std.specs.declared.cmp.Ordering.{Ordering}
use Rattle.std.specs.declared.cmp.Ordering.TheVariants.{Less, Equal, Greater}
use Rattle.std.specs.Cmp.{IsTotalOrder}
use Rattle.std.proofs.lemmas.Cmp.{nat_cmp_total, on_total, then_total}
use Rattle.reiser_items.specs.reiser_node.declared.head.ItemKind.{ItemKind}
use Rattle.reiser_items.specs.reiser_node.declared.head.ItemKind.TheVariants.{Stat, Indirect, Direct, Directory}
use Rattle.reiser_items.specs.Stat.{stat_length, stat_of, stat_fields}
use Rattle.reiser_items.specs.Pointers.{pointers_of}
use Rattle.reiser_walk.proofs.Lists.{Each, Pairs, all_from_each, each_from_all, each_map, each_both, all_pairs_from_pairs, pairs_from_all_pairs, nil_left, nil_right, both_nil, each_from_flat, flat_from_each}

unless_none : (test : Bool) (b : ℕ) (r : Rule) → unless test b r ≡ [] → test ≡ true
unless_none true b r h = refl
unless_none false b r h = absurd cc

none_unless : (test : Bool) (b : ℕ) (r : Rule) → test ≡ true → unless test b r ≡ []
none_unless test b r h = rw h refl

-- nodes on their grammar

node_by : (one : Bool) (level : ℕ) (bytes : List ℕ) → (level == 1) ≡ one → Decides (if one then is_leaf bytes else is_inner level bytes) (IsNode level bytes)
node_by true level bytes is =
    let low : level ≡ 1 = grind (arith, nat_tests) in
    Decides-like (is_leaf bytes) (λ leaf. inl (low, leaf)) (λ n. ⊎_elim (λ leaf. leaf.1) (λ inner. absurd (inner.0 low)) n) (leaf_decides bytes)
node_by false level bytes is =
    let high : level ≢ 1 = λ low. absurd (grind (arith, nat_tests)) in
    Decides-like (is_inner level bytes) (λ inner. inr (high, inner)) (λ n. ⊎_elim (λ leaf. absurd (high leaf.0)) (λ inner. inner.1) n) (inner_decides level bytes)

node_decides : (level : ℕ) (bytes : List ℕ) → Decides (is_node level bytes) (IsNode level bytes)
node_decides level bytes = node_by (level == 1) level bytes refl

-- bodies that fit

some_if : {X : Type 0} (test : Bool) (x : X) → is_some (if test then Some x else None) ≡ test
some_if true x = refl
some_if false x = refl

leb_decides : (a b : ℕ) → Decides (nat_le a b) (a ≤ b)
leb_decides a b = (λ e. grind (arith, nat_tests), λ h. grind (arith, nat_tests))

stat_decides : (old : Bool) (body : List ℕ) → Decides (is_some (stat_of old body)) (length body ≡ stat_length old)
stat_decides old body =
    subst (λ (t : Bool). Decides t (length body ≡ stat_length old)) (sym (some_if (length body == stat_length old) (stat_fields old body))) (Decides-eqb (length body) (stat_length old))

pointers_decide : (body : List ℕ) → Decides (is_some (pointers_of body)) (length body % 4 ≡ 0)
pointers_decide body = subst (λ (t : Bool). Decides t (length body % 4 ≡ 0)) (sym (some_if (length body % 4 == 0) _)) (Decides-eqb (length body % 4) 0)

kind_decides : (kind : ItemKind) (head : ItemHead) (body : List ℕ) → Decides (fits_kind kind head body) (FitsKind kind head body)
kind_decides Stat head body = Decides-and _ _ (Decides-eqb head.offset 0) (stat_decides head.old body)
kind_decides Indirect head body = Decides-and _ _ (Decides-eqb (head.offset % 4096) 1) (pointers_decide body)
kind_decides Direct head body = leb_decides 1 head.offset
kind_decides Directory head body = (λ _. tt, λ _. refl)

body_decides : (head : ItemHead) (body : List ℕ) → Decides (is_body head body) (FitsHead head body)
body_decides head body =
    Decides-or (is_save_link head) _ (λ e. e, λ e. e) (Decides-and (fits_kind head.kind head body) _ (kind_decides head.kind head body) (leb_decides head.offset (2 ^ 45)))

pub all_fit : (items : List ReiserItem) → flat_map body_damage items ≡ [] → All (λ i. FitsHead i.head i.body) items
all_fit items h =
    all_from_each _ items (each_map (λ i. body_damage i ≡ []) _ items (λ i k. (body_decides i.head i.body).0 (unless_none _ i.leaf Body k)) (each_from_flat body_damage items h))

-- items that ascend

key_total : IsTotalOrder key_order
key_total =
    then_total (then_total (then_total (on_total (λ (h : ItemHead). h.dir) nat_cmp_total) (on_total (λ (h : ItemHead). h.object) nat_cmp_total)) (on_total (λ (h : ItemHead). h.offset) nat_cmp_total))
    (on_total (λ (h : ItemHead). kind_number h.kind) nat_cmp_total)

lt_less : (o : Ordering) → is_lt o ≡ true → o ≡ Less
lt_less Less h = refl
lt_less Equal h = absurd cc
lt_less Greater h = absurd cc

abbrev IsBelow : ReiserItem → ReiserItem → Type 0
IsBelow i j = is_lt (key_order i.head j.head) ≡ true

below_trans : (i j k : ReiserItem) → IsBelow i j → IsBelow j k → IsBelow i k
below_trans i j k a b = ap is_lt (key_total.trans i.head j.head k.head (lt_less _ a) (lt_less _ b))

-- the same of what comes first in a list
pub order_keeps : (last : ReiserItem) (items : List ReiserItem) → order_damages (Some last.head) items ≡ [] → Pairs IsBelow (last ∷ items)
order_keeps last [] h = (tt, tt)
order_keeps last (i ∷ items) h =
    let first = nil_left (unless (is_above (Some last.head) i.head) i.leaf KeyOrder) (order_damages (Some i.head) items) h in
    let others = order_keeps i items (nil_right (unless (is_above (Some last.head) i.head) i.leaf KeyOrder) (order_damages (Some i.head) items) h) in
    let below : IsBelow last i = unless_none _ i.leaf KeyOrder first in
    ((below, each_map (IsBelow i) (IsBelow last) items (λ k above. below_trans last i k below above) others.0), others)

order_kept : (last : ReiserItem) (items : List ReiserItem) → Pairs IsBelow (last ∷ items) → order_damages (Some last.head) items ≡ []
order_kept last [] h = refl
order_kept last (i ∷ items) h = both_nil _ _ (none_unless _ i.leaf KeyOrder h.0.0) (order_kept i items h.1)

pub ascending_from : (items : List ReiserItem) → order_damages None items ≡ [] → Pairs IsBelow items
ascending_from [] h = tt
ascending_from (i ∷ items) h = order_keeps i items h

pub ascending_to : (items : List ReiserItem) → Pairs IsBelow items → order_damages None items ≡ []
ascending_to [] h = refl
ascending_to (i ∷ items) h = order_kept i items h

-- blocks that are reached

pick : (b : Bool) (xs : List VolumeRefusal) (d : VolumeRefusal) → (if b then xs else d ∷ []) ≡ [] → (b ≡ true) × (xs ≡ [])
pick true xs d h = (refl, h)
pick false xs d h = absurd cc

neither : (x y : Bool) → not (x || y) ≡ true → (x ≡ false) × (y ≡ false)
neither true y h = absurd cc
neither false true h = absurd cc
neither false false h = (refl, refl)

record Allowed (tree : ReiserTree) (used : List Bool) (seen : List ℕ) (p : BlockPointer) : Type 0 where
  inside : p.block < length used
  all_used : has used p.block ≡ true
  no_system : is_system_of tree p.block ≡ false
  fresh : is_in seen p.block ≡ false

allowed : (tree : ReiserTree) (used : List Bool) (seen : List ℕ) (p : BlockPointer) → reach_damage tree used seen p ≡ [] → Allowed tree used seen p
allowed tree used seen p h =
    let both = pick (nat_lt p.block (length used)) _ _ h in
    let inside : nat_lt p.block (length used) ≡ true = both.0 in
    let free = unless_none (has used p.block) p.block BlockFree (nil_left (unless (has used p.block) p.block BlockFree) _ both.1) in
    let once = neither (is_system_of tree p.block) (is_in seen p.block) (unless_none _ p.block BlockTwice (nil_right (unless (has used p.block) p.block BlockFree) _ both.1)) in
    record { inside = grind (arith, nat_tests, inside); all_used = free; no_system = once.0; fresh = once.1 }

allows : (tree : ReiserTree) (used : List Bool) (seen : List ℕ) (p : BlockPointer) → Allowed tree used seen p → reach_damage tree used seen p ≡ []
allows tree used seen p a =
    let inside : nat_lt p.block (length used) ≡ true = grind (arith, nat_tests, a.inside) in
    rw (inside, a.all_used, a.no_system, a.fresh) refl

-- what is allowed of each pointer, whatever was seen
abbrev IsIn : ReiserTree → List Bool → BlockPointer → Type 0
IsIn tree used p = (p.block < length used) × (has used p.block ≡ true) × (is_system_of tree p.block ≡ false)

abbrev Differ : BlockPointer → BlockPointer → Type 0
Differ p q = p.block ≢ q.block

seen_first : (b : ℕ) (seen : List ℕ) (c : ℕ) → is_in (b ∷ seen) c ≡ false → (b ≢ c) × (is_in seen c ≡ false)
seen_first b seen c h = ⊎_elim (λ same. absurd (true≢false (rw same.0 at h))) (λ differ. (differ.1, rw differ.0 at h)) (eqb_tells b c)

seen_more : (b : ℕ) (seen : List ℕ) (c : ℕ) → b ≢ c → is_in seen c ≡ false → is_in (b ∷ seen) c ≡ false
seen_more b seen c differ h = ⊎_elim (λ same. absurd (differ same.1)) (λ other. rw other.0 h) (eqb_tells b c)

record Kept (tree : ReiserTree) (used : List Bool) (seen : List ℕ) (ps : List BlockPointer) : Type 0 where
  each : Each (IsIn tree used) ps
  fresh : Each (λ p. is_in seen p.block ≡ false) ps
  once : Pairs Differ ps

reach_keeps : (tree : ReiserTree) (used : List Bool) (seen : List ℕ) (ps : List BlockPointer) → reach_damages tree used seen ps ≡ [] → Kept tree used seen ps
reach_keeps tree used seen [] h = record { each = tt; fresh = tt; once = tt }
reach_keeps tree used seen (p ∷ ps) h =
    let here = allowed tree used seen p (nil_left (reach_damage tree used seen p) (reach_damages tree used (p.block ∷ seen) ps) h) in
    let others = reach_keeps tree used (p.block ∷ seen) ps (nil_right (reach_damage tree used seen p) (reach_damages tree used (p.block ∷ seen) ps) h) in
    record {
      each = ((here.inside, here.all_used, here.no_system), others.each);
      fresh = (here.fresh, each_map _ _ ps (λ q new. (seen_first p.block seen q.block new).1) others.fresh);
      once = (each_map _ (Differ p) ps (λ q new. (seen_first p.block seen q.block new).0) others.fresh, others.once);
    }

reach_kept : (tree : ReiserTree) (used : List Bool) (seen : List ℕ) (ps : List BlockPointer) → Kept tree used seen ps → reach_damages tree used seen ps ≡ []
reach_kept tree used seen [] k = refl
reach_kept tree used seen (p ∷ ps) k =
    both_nil _ _ (allows tree used seen p (record { inside = k.each.0.0; all_used = k.each.0.1; no_system = k.each.0.2; fresh = k.fresh.0 }))
    (reach_kept tree used (p.block ∷ seen) ps (record {
      each = k.each.1;
      fresh = each_both (Differ p) (λ q. is_in seen q.block ≡ false) _ ps (λ q differ new. seen_more p.block seen q.block differ new) k.once.0 k.fresh.1;
      once = k.once.1;
    }))

none_seen : (ps : List BlockPointer) → Each (λ p. is_in [] p.block ≡ false) ps
none_seen [] = tt
none_seen (p ∷ ps) = (refl, none_seen ps)

-- a visit is of a block that is reached
visits_reach : (P : ℕ → Type 0) (events : List Event) → Each (λ p. P p.block) (reached_in events) → Each (λ v. P v.to.block) (visits_in events)
visits_reach P [] h = tt
visits_reach P (node p level ∷ events) h = (h.0, visits_reach P events h.1)
visits_reach P (item i ∷ events) h = visits_reach P events h
visits_reach P (pointer p ∷ events) h = visits_reach P events h.1

visit_keeps : (image : Image) (n : ℕ) (v : Visit) → visit_damage image n v ≡ [] → v.to.block < n → IsNode v.level (block_at image v.to.block)
visit_keeps image n v h within =
    let inside : nat_lt v.to.block n ≡ true = grind (arith, nat_tests) in
    (node_decides v.level (block_at image v.to.block)).0 (unless_none _ v.to.block _ (rw inside at h))

visit_kept : (image : Image) (n : ℕ) (v : Visit) → IsNode v.level (block_at image v.to.block) → v.to.block < n → visit_damage image n v ≡ []
visit_kept image n v h within =
    let inside : nat_lt v.to.block n ≡ true = grind (arith, nat_tests) in
    rw inside (none_unless _ v.to.block _ ((node_decides v.level (block_at image v.to.block)).1 h))

module _ (tree : ReiserTree) (image : Image) (used : List Bool) where
  abbrev n : ℕ
  n = length used

  abbrev events : List Event
  events = tree_events tree image n

  sound_keeps : tree_damages tree image used ≡ [] → KeepsRules tree image used
  sound_keeps h =
      let first = nil_left (flat_map (visit_damage image n) (visits_in events) ++ reach_damages tree used [] (reached_in events)) (order_damages None (items_of_events events) ++ flat_map body_damage (items_of_events events)) h in
      let second = nil_right (flat_map (visit_damage image n) (visits_in events) ++ reach_damages tree used [] (reached_in events)) (order_damages None (items_of_events events) ++ flat_map body_damage (items_of_events events)) h in
      let kept = reach_keeps tree used [] (reached_in events) (nil_right (flat_map (visit_damage image n) (visits_in events)) (reach_damages tree used [] (reached_in events)) first) in
      let inside = each_map (IsIn tree used) (λ p. p.block < n) (reached_in events) (λ p k. k.0) kept.each in
      let visits = each_from_flat (visit_damage image n) (visits_in events) (nil_left (flat_map (visit_damage image n) (visits_in events)) (reach_damages tree used [] (reached_in events)) first) in
      record {
        nodes = all_from_each _ (visits_in events) (each_both (λ v. visit_damage image n v ≡ []) (λ v. v.to.block < n) _ (visits_in events) (visit_keeps image n) visits (visits_reach (λ b. b < n) events inside));
        ascending = all_pairs_from_pairs IsBelow (items_of_events events) (ascending_from (items_of_events events) (nil_left (order_damages None (items_of_events events)) (flat_map body_damage (items_of_events events)) second));
        bodies = all_fit (items_of_events events) (nil_right (order_damages None (items_of_events events)) (flat_map body_damage (items_of_events events)) second);
        inside = all_from_each _ (reached_in events) inside;
        all_used = all_from_each _ (reached_in events) (each_map (IsIn tree used) _ (reached_in events) (λ p k. k.1) kept.each);
        no_system = all_from_each _ (reached_in events) (each_map (IsIn tree used) _ (reached_in events) (λ p k. k.2) kept.each);
        once = all_pairs_from_pairs Differ (reached_in events) kept.once;
      }

  keeps_sound : KeepsRules tree image used → tree_damages tree image used ≡ []
  keeps_sound k =
      let inside = each_from_all (λ p. p.block < n) (reached_in events) k.inside in
      let all_used = each_from_all (λ p. has used p.block ≡ true) (reached_in events) k.all_used in
      let no_system = each_from_all (λ p. is_system_of tree p.block ≡ false) (reached_in events) k.no_system in
      let nodes = each_from_all (λ v. IsNode v.level (block_at image v.to.block)) (visits_in events) k.nodes in
      let visits = each_both (λ v. IsNode v.level (block_at image v.to.block)) (λ v. v.to.block < n) (λ v. visit_damage image n v ≡ []) (visits_in events) (visit_kept image n) nodes (visits_reach (λ b. b < n) events inside) in
      let bodies = each_map (λ i. FitsHead i.head i.body) (λ i. body_damage i ≡ []) (items_of_events events) (λ i fits. none_unless _ i.leaf Body ((body_decides i.head i.body).1 fits)) (each_from_all (λ i. FitsHead i.head i.body) (items_of_events events) k.bodies) in
      let each : Each (IsIn tree used) (reached_in events) =
      each_both (λ p. p.block < n) (λ p. (has used p.block ≡ true) × (is_system_of tree p.block ≡ false)) (IsIn tree used) (reached_in events) (λ p a b. (a, b.0, b.1)) inside
      (each_both (λ p. has used p.block ≡ true) (λ p. is_system_of tree p.block ≡ false) _ (reached_in events) (λ p a b. (a, b)) all_used no_system) in
      both_nil _ _
      (both_nil _ _ (flat_from_each (visit_damage image n) (visits_in events) visits)
      (reach_kept tree used [] (reached_in events) (record { each = each; fresh = none_seen (reached_in events); once = pairs_from_all_pairs Differ (reached_in events) k.once })))
      (both_nil _ _ (ascending_to (items_of_events events) (pairs_from_all_pairs IsBelow (items_of_events events) k.ascending)) (flat_from_each body_damage (items_of_events events) bodies))

pub sound_exactly : SoundTreesKeepRules
sound_exactly tree image used = (sound_keeps tree image used, keeps_sound tree image used)
