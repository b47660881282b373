-- Steps of a walk.
use Rattle.reiser_walk.proofs.Imports.{◌≡◌, ◌≢◌, ℕ, zero, suc, ◌-◌, ◌==◌, ◌≤◌, Bool, true, false, List, [], ◌∷◌, ◌++◌, length, None, Contains, if◌then◌else◌, nat_lt, replicate, refl, sym, ◌∙◌, ap, subst, arith, append_assoc, flat_map, append-nil, length-replicate, get_or-replicate, flat_map-append, Contains-append_left, Contains-append_right, nat_tests, Image, block_at, count, is_leaf, pointer_count, is_inner, has, VolumeRefusal, Damaged, ReiserTree, Step, LeafInHand, BlockPointer, Walker, ReiserItem, Event, node, leaf_events, Visit, node_events, tree_events, at_children, visits_in, items_of_events, reached_in, is_node, broken_rule, node_damage, visit_damage, reach_damage, reach_damages, damages, tree_damages, MarksSeen, seen_after, leaf_rest, step_rest, path_rest, pending, root_rest, rest, level_of, IsSoundSoFar, Walks, IsAt, inner_decides}
use Rattle.reiser_bitmap.specs.reiserfs_format.declared.block.TheConstants.{SUPER_BLOCK}
use Rattle.reiser_walk.proofs.Damages.{unless_in}
use Rattle.reiser_walk.proofs.Events.{visits_in-append, items_in-append, reached_in-append, seen_after-append, reach_damages-append, sound_more}
use Rattle.reiser_walk.proofs.Paths.{path_nil, path_last}

-- the pointer to the root comes last
pub root_next : (image : Image) (n : ℕ) (w : Walker) (steps : List Step) → path_rest image n (w.tree.height - 1) w.path.items ≡ [] → steps ≡ [] → w.at_start ≡ true
    → pending image n w ≡ node_events image n (w.tree.height - 1 - length steps) SUPER_BLOCK w.tree.root ++ (path_rest image n (w.tree.height - 1) steps ++ [])
root_next image n w steps none empty start =
    rw (none, start, empty, path_nil image n (w.tree.height - 1)) (let e : w.tree.height - 1 - 0 ≡ w.tree.height - 1 = omega arith in rw (e, append-nil) refl)

-- a node's pointer is the first of what is met at it
pub node_first : (image : Image) (n level holder b : ℕ) → (below : List Event) × (node_events image n level holder b ≡ node (record { block = b; holder = holder }) level ∷ below)
unfolding node_events
node_first image n zero holder b = (_, refl)
node_first image n (suc zero) holder b = (_, refl)
node_first image n (suc (suc level)) holder b = (_, refl)

pub reach_in_all : (tree : ReiserTree) (image : Image) (used : List Bool) (events : List Event) (d : VolumeRefusal) → Contains (reach_damages tree used [] (reached_in events)) d → Contains (damages tree image used events) d
reach_in_all tree image used events d h =
    Contains-append_left _ _ d (Contains-append_right (flat_map (visit_damage image (length used)) (visits_in events)) _ d h)

pub visit_in_all : (tree : ReiserTree) (image : Image) (used : List Bool) (events : List Event) (d : VolumeRefusal) → Contains (flat_map (visit_damage image (length used)) (visits_in events)) d → Contains (damages tree image used events) d
visit_in_all tree image used events d h = Contains-append_left _ _ d (Contains-append_left _ _ d h)

-- a damage of the block that is reached next
pub reach_blamed : (tree : ReiserTree) (image : Image) (used : List Bool) (done more : List Event) (r : BlockPointer) (rs : List BlockPointer) (d : VolumeRefusal)
    → reached_in more ≡ r ∷ rs → Contains (reach_damage tree used (seen_after [] (reached_in done)) r) d → Contains (damages tree image used (done ++ more)) d
reach_blamed tree image used done more r rs d first h =
    reach_in_all tree image used (done ++ more) d
    (subst (λ (z : List VolumeRefusal). Contains z d)
    (sym (ap (reach_damages tree used []) (reached_in-append done more ∙ ap (λ (z : List BlockPointer). reached_in done ++ z) first) ∙ reach_damages-append tree used [] (reached_in done) (r ∷ rs)))
    (Contains-append_right (reach_damages tree used [] (reached_in done)) _ d (Contains-append_left _ _ d h)))

-- a damage of the node that is visited next
pub visit_blamed : (tree : ReiserTree) (image : Image) (used : List Bool) (done more : List Event) (v : Visit) (vs : List Visit) (d : VolumeRefusal)
    → visits_in more ≡ v ∷ vs → Contains (visit_damage image (length used) v) d → Contains (damages tree image used (done ++ more)) d
visit_blamed tree image used done more v vs d first h =
    visit_in_all tree image used (done ++ more) d
    (subst (λ (z : List VolumeRefusal). Contains z d)
    (sym (ap (flat_map (visit_damage image (length used))) (visits_in-append done more ∙ ap (λ (z : List Visit). visits_in done ++ z) first) ∙ flat_map-append (visit_damage image (length used)) (visits_in done) (v ∷ vs)))
    (Contains-append_right (flat_map (visit_damage image (length used)) (visits_in done)) _ d (Contains-append_left _ _ d h)))

pub none_pending : (image : Image) (n : ℕ) (tree : ReiserTree) (steps : List Step) (start : Bool) → path_rest image n (tree.height - 1) steps ≡ [] → start ≡ false
    → path_rest image n (tree.height - 1) steps ++ (if start then tree_events tree image n else []) ≡ []
none_pending image n tree steps start none stop = rw (none, stop) refl

-- a leaf of which nothing is left gives nothing
pub leaf_done : (l : LeafInHand) → l.at.left ≡ 0 → leaf_rest l ≡ []
leaf_done l e = rw e refl

-- where the leaf in hand is done, the rest begins with the next node
rest_next : (image : Image) (n : ℕ) (w : Walker) (level holder b : ℕ) (others : List Event) → w.leaf.at.left ≡ 0 → pending image n w ≡ node_events image n level holder b ++ others
    → rest image n w ≡ node (record { block = b; holder = holder }) level ∷ ((node_first image n level holder b).0 ++ others)
rest_next image n w level holder b others done next =
    ap (λ (z : List Event). z ++ pending image n w) (leaf_done w.leaf done)
    ∙ (next ∙ ap (λ (z : List Event). z ++ others) (node_first image n level holder b).1)

pub claim_blamed : (w : Walker) (image : Image) (used : List Bool) (given : List ReiserItem) (p : BlockPointer) (level : ℕ) (d : VolumeRefusal) (others : List Event) → (k : Walks w image used given)
    → w.leaf.at.left ≡ 0 → pending image (length used) w ≡ node_events image (length used) level p.holder p.block ++ others
    → Contains (reach_damage w.tree used (seen_after [] (reached_in k.done)) p) d
    → Contains (tree_damages w.tree image used) d
claim_blamed w image used given p level d others k done next h =
    let all : k.done ++ (node p level ∷ ((node_first image (length used) level p.holder p.block).0 ++ others)) ≡ tree_events w.tree image (length used) =
    ap (λ (z : List Event). k.done ++ z) (sym (rest_next image (length used) w level p.holder p.block others done next)) ∙ k.whole in
    subst (λ (z : List Event). Contains (damages w.tree image used z) d) all
    (reach_blamed w.tree image used k.done _ p _ d refl h)

pub node_blamed : (w : Walker) (image : Image) (used : List Bool) (given : List ReiserItem) (p : BlockPointer) (d : VolumeRefusal) → (k : IsAt p w image used given)
    → Contains (node_damage (level_of w) p.block (block_at image p.block)) d → Contains (tree_damages w.tree image used) d
node_blamed w image used given p d k h =
    let n : ℕ = length used in
    let first = node_first image n (level_of w) p.holder p.block in
    let all : k.done ++ (node p (level_of w) ∷ (first.0 ++ pending image n w)) ≡ tree_events w.tree image n =
    ap (λ (z : List Event). k.done ++ (z ++ pending image n w)) (sym first.1) ∙ k.whole in
    let within : nat_lt p.block n ≡ true = grind (arith, nat_tests, k.within) in
    subst (λ (z : List Event). Contains (damages w.tree image used z) d) all
    (visit_blamed w.tree image used k.done _ (record { to = p; level = level_of w }) _ d refl
    (subst (λ (b : Bool). Contains (if b then node_damage (level_of w) p.block (block_at image p.block) else []) d) (sym within) h))

leaf_opened : (image : Image) (n level holder b : ℕ) → level ≡ 1 → is_leaf (block_at image b) ≡ true → nat_lt b n ≡ true
    → node_events image n level holder b ≡ node (record { block = b; holder = holder }) level ∷ leaf_events b (block_at image b) 0 (count (block_at image b))
unfolding node_events
leaf_opened image n zero holder b one grammar within = absurd (omega arith)
leaf_opened image n (suc zero) holder b one grammar within = rw (within, grammar) refl
leaf_opened image n (suc (suc level)) holder b one grammar within = absurd (omega arith)

inner_opened : (image : Image) (n level holder b : ℕ) → 2 ≤ level → is_inner level (block_at image b) ≡ true → nat_lt b n ≡ true
    → node_events image n level holder b ≡ node (record { block = b; holder = holder }) level ∷ at_children (node_events image n (level - 1) b) (block_at image b) 0 (pointer_count (block_at image b))
unfolding node_events
inner_opened image n zero holder b low grammar within = absurd (omega arith)
inner_opened image n (suc zero) holder b low grammar within = absurd (omega arith)
inner_opened image n (suc (suc level)) holder b low grammar within =
    let e : suc (suc level) - 1 ≡ suc level = omega arith in
    rw (within, grammar, e) refl

-- after a node was opened that is on the grammar, and its content is what comes next
node_put : (w v : Walker) (image : Image) (used : List Bool) (given : List ReiserItem) (p : BlockPointer) → IsAt p w image used given
    → v.tree ≡ w.tree → v.reached ≡ w.reached → v.last ≡ w.last
    → is_node (level_of w) (block_at image p.block) ≡ true
    → node_events image (length used) (level_of w) p.holder p.block ++ pending image (length used) w ≡ node p (level_of w) ∷ rest image (length used) v
    → Walks v image used given
node_put w v image used given p k tree reached last grammar next =
    let n : ℕ = length used in
    let e : List Event = node p (level_of w) ∷ [] in
    let within : nat_lt p.block n ≡ true = grind (arith, nat_tests, k.within) in
    let seen : seen_after [] (reached_in (k.done ++ e)) ≡ p.block ∷ seen_after [] (reached_in k.done) = ap (seen_after []) (reached_in-append k.done e) ∙ seen_after-append [] (reached_in k.done) (reached_in e) in
    let visits : flat_map (visit_damage image n) (visits_in e) ≡ [] = rw (within, grammar) refl in
    record {
      done = k.done ++ e;
      size = ap (length {A = Bool}) reached ∙ k.size;
      whole = append_assoc k.done e (rest image n v) ∙ (ap (λ (z : List Event). k.done ++ z) (sym next) ∙ (k.whole ∙ ap (λ (t : ReiserTree). tree_events t image n) (sym tree)));
      items = items_in-append k.done e ∙ (append-nil (items_of_events k.done) ∙ k.items);
      marks = subst (λ (z : List ℕ). MarksSeen v.reached z) (sym seen) (subst (λ (s : List Bool). MarksSeen s (p.block ∷ seen_after [] (reached_in k.done))) (sym reached) k.marks);
      last = last ∙ k.last;
      sound = subst (λ (t : ReiserTree). IsSoundSoFar t image used (k.done ++ e)) (sym tree) (sound_more w.tree image used k.done e k.sound visits (append-nil _ ∙ k.claimed) refl refl);
    }

pub inner_grammar : (level : ℕ) (bytes : List ℕ) → level ≢ 1 → is_inner level bytes ≡ true → is_node level bytes ≡ true
inner_grammar level bytes other grammar =
    let high : (level == 1) ≡ false = grind (arith, nat_tests) in
    rw high grammar

-- a node that is to be read, of a walker with another leaf in hand
pub at_same : (w v : Walker) (image : Image) (used : List Bool) (given : List ReiserItem) (p : BlockPointer)
    → v.tree ≡ w.tree → v.reached ≡ w.reached → v.at_start ≡ w.at_start → v.path ≡ w.path → v.last ≡ w.last → IsAt p w image used given → IsAt p v image used given
at_same w v image used given p tree reached start path last k =
    let n : ℕ = length used in
    record {
      done = k.done;
      size = ap (length {A = Bool}) reached ∙ k.size;
      whole = rw (tree, start, path) k.whole;
      items = k.items;
      marks = subst (λ (s : List Bool). MarksSeen s (p.block ∷ seen_after [] (reached_in k.done))) (sym reached) k.marks;
      last = last ∙ k.last;
      sound = subst (λ (t : ReiserTree). IsSoundSoFar t image used k.done) (sym tree) k.sound;
      claimed = subst (λ (t : ReiserTree). reach_damage t used (seen_after [] (reached_in k.done)) p ≡ []) (sym tree) k.claimed;
      within = k.within;
    }

-- A block off the grammar is damaged: as a leaf, or as an inner node. It is that of the volume.
pub leaf_off : (level num b : ℕ) (read bytes : List ℕ) → level ≡ 1 → num ≡ b → read ≡ bytes → is_leaf read ≡ false
    → Contains (node_damage level b bytes) (Damaged num (broken_rule 1 read))
leaf_off level num b read bytes one same is off =
    let node : is_node 1 read ≡ false = off in
    rw (one, sym same, sym is) (unless_in (is_node 1 read) num (broken_rule 1 read) node)

pub inner_off : (level wanted num b : ℕ) (read bytes : List ℕ) → level ≡ wanted → wanted ≢ 1 → num ≡ b → read ≡ bytes → is_inner wanted read ≡ false
    → Contains (node_damage level b bytes) (Damaged num (broken_rule wanted read))
inner_off level wanted num b read bytes same other number is off =
    let high : (wanted == 1) ≡ false = grind (arith, nat_tests) in
    let node : is_node wanted read ≡ false = rw high off in
    rw (same, sym number, sym is) (unless_in (is_node wanted read) num (broken_rule wanted read) node)

-- after the node was opened as a leaf, whose items come next
pub leaf_put : (w v : Walker) (image : Image) (used : List Bool) (given : List ReiserItem) (p : BlockPointer) → IsAt p w image used given
    → v.tree ≡ w.tree → v.reached ≡ w.reached → v.last ≡ w.last → pending image (length used) v ≡ pending image (length used) w
    → level_of w ≡ 1 → is_leaf (block_at image p.block) ≡ true
    → v.leaf.no ≡ p.block → v.leaf.block.bytes ≡ block_at image p.block → v.leaf.at.next ≡ 0 → v.leaf.at.left ≡ count (block_at image p.block)
    → Walks v image used given
leaf_put w v image used given p k tree reached last same level grammar number bytes next left =
    let n : ℕ = length used in
    let within : nat_lt p.block n ≡ true = grind (arith, nat_tests, k.within) in
    let rest_is : leaf_rest v.leaf ≡ leaf_events p.block (block_at image p.block) 0 (count (block_at image p.block)) = rw (number, bytes, next, left) refl in
    node_put w v image used given p k tree reached last (rw level grammar)
    (ap (λ (z : List Event). z ++ pending image n w) (leaf_opened image n (level_of w) p.holder p.block level grammar within)
    ∙ ap (λ (z : List Event). node p (level_of w) ∷ z)
    (sym (ap (λ (z : List Event). z ++ pending image n v) rest_is ∙ ap (λ (z : List Event). leaf_events p.block (block_at image p.block) 0 (count (block_at image p.block)) ++ z) same)))

-- the children of the step that was put last come first
pending_put : (image : Image) (n : ℕ) (w v : Walker) (s : Step) → v.tree ≡ w.tree → v.at_start ≡ w.at_start → v.path.items ≡ w.path.items ++ s ∷ [] → 2 ≤ level_of w
    → pending image n v ≡ step_rest image n (level_of w - 1) s ++ pending image n w
pending_put image n w v s tree start path low =
    rw (tree, start, path)
    (ap (λ (z : List Event). z ++ root_rest image n w) (path_last image n (level_of w - 1) (w.tree.height - 1) w.path.items s (omega arith))
    ∙ append_assoc (step_rest image n (level_of w - 1) s) (path_rest image n (w.tree.height - 1) w.path.items) (root_rest image n w))

-- after it was opened as an inner node, whose children come next
pub inner_put : (w v : Walker) (image : Image) (used : List Bool) (given : List ReiserItem) (p : BlockPointer) (s : Step) → IsAt p w image used given
    → v.tree ≡ w.tree → v.reached ≡ w.reached → v.last ≡ w.last → v.leaf ≡ w.leaf → v.at_start ≡ w.at_start → v.path.items ≡ w.path.items ++ s ∷ [] → w.leaf.at.left ≡ 0
    → level_of w ≢ 1 → is_inner (level_of w) (block_at image p.block) ≡ true
    → s.no ≡ p.block → s.block.bytes ≡ block_at image p.block → s.at.next ≡ 0 → s.at.left ≡ pointer_count (block_at image p.block)
    → Walks v image used given
inner_put w v image used given p s k tree reached last leaf start path done level grammar number bytes next left =
    let n : ℕ = length used in
    let within : nat_lt p.block n ≡ true = grind (arith, nat_tests, k.within) in
    let low : 2 ≤ level_of w = ((inner_decides (level_of w) (block_at image p.block)).0 grammar).low in
    let step_is : step_rest image n (level_of w - 1) s ≡ at_children (node_events image n (level_of w - 1) p.block) (block_at image p.block) 0 (pointer_count (block_at image p.block)) =
    rw (number, bytes, next, left) refl in
    node_put w v image used given p k tree reached last (inner_grammar (level_of w) (block_at image p.block) level grammar)
    (ap (λ (z : List Event). z ++ pending image n w) (inner_opened image n (level_of w) p.holder p.block low grammar within)
    ∙ ap (λ (z : List Event). node p (level_of w) ∷ z)
    (sym (ap (λ (z : List Event). z ++ pending image n v) (ap leaf_rest leaf ∙ leaf_done w.leaf done)
    ∙ (pending_put image n w v s tree start path low ∙ ap (λ (z : List Event). z ++ pending image n w) step_is))))

pub start_walks : (w : Walker) (image : Image) (used : List Bool) → w.leaf.at.left ≡ 0 → w.path.items ≡ [] → w.at_start ≡ true → w.reached ≡ replicate (length used) false → w.last ≡ None → Walks w image used []
start_walks w image used left path start reached last = record {
  done = [];
  size = ap (length {A = Bool}) reached ∙ length-replicate (length used) false;
  whole = ap (λ (z : List Event). z ++ pending image (length used) w) (leaf_done w.leaf left) ∙ rw (path, start, path_nil image (length used) (w.tree.height - 1)) refl;
  items = refl;
  marks = λ b h. ap (λ (s : List Bool). has s b) reached ∙ get_or-replicate (length used) b false false (omega (arith, ap (length {A = Bool}) reached, length-replicate (length used) false));
  last = last;
  sound = record { visits = refl; reach = refl; order = refl; bodies = refl };
}
