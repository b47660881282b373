-- A tree from its leaves up.
use Rattle.btr_reader_walk.proofs.Imports.{◌≡◌, ℕ, zero, suc, nat_lt, eqb, Bool, true, false, ◌||◌, List, [], ◌∷◌, ◌++◌, map, Option, Some, None, if◌then◌else◌, refl, sym, ◌∙◌, ap, subst, arith, flat_map, map-append, nat_tests, Image, BtrRefusal, BtrRule, KeyOrder, Unmapped, NodeHead, Key, nritems, Item, IsBtrfsLeaf, items_in, keys_of, IsBtrfsInner, children_in, broken, leaf_damages, inner_damages, Child, Expect, both, Form, NodePointer, MapRange, is_mapped, node_at, want, child_pointer, content_damages, node_damages, TreeItem, TreeEvent, leaf_events, unless_damaged, node_events, nodes_in, items_in_events, at_address, bare_item, node_faults, pointer_damages, is_above, order_damages, tree_refusals, when_sound, leaf_items, IsSubtree, AreSubtrees, LeavesGiveItems, ChildrenGiveItems, SubtreesAreTrees}
use Rattle.btr_node.specs.Laws.{DamagesTell}
use Rattle.btr_node.specs.Order.{ascends, is_before_first}
use Rattle.btr_reader_walk.proofs.Events.{items_in-append, leaf_nodes, leaf_own, none_both, node_faults-append}

-- the pointer with these three
abbrev pub to : ℕ → ℕ → ℕ → NodePointer
to address level generation = record { address = address; level = level; generation = generation }

-- what a leaf breaks
pub leaf_damages_none : (tell : DamagesTell) (want : Expect) (bare : Bool) (bytes : List ℕ) → IsBtrfsLeaf want bytes → (bare || nat_lt 0 (nritems bytes)) ≡ true
    → content_damages want bare bytes ≡ []
leaf_damages_none tell want bare bytes leaf some =
    ap (λ (l : ℕ). if eqb l 0 then leaf_damages want bytes ++ broken (bare || nat_lt 0 (nritems bytes)) NodeHead else inner_damages want bytes) leaf.level
    ∙ none_both (leaf_damages want bytes) _ ((tell want bytes).0.1 leaf) (ap (λ t. broken t NodeHead) some)

pub mapped_damages : (image : Image) (ranges : List MapRange) (form : Form) (owner : ℕ) (bare : Bool) (p : NodePointer) → is_mapped ranges form.nodesize p.address ≡ true
    → content_damages (want form owner p) bare (node_at image ranges form.nodesize p.address) ≡ []
    → node_damages image ranges form owner bare p ≡ []
unfolding node_damages
mapped_damages image ranges form owner bare p mapped none =
    ap (λ t. if t then content_damages (want form owner p) bare (node_at image ranges form.nodesize p.address) else Unmapped ∷ []) mapped ∙ none

inner_damages_none : (tell : DamagesTell) (want : Expect) (bare : Bool) (bytes : List ℕ) (level : ℕ) → want.level ≡ suc level → IsBtrfsInner want bytes
    → content_damages want bare bytes ≡ []
inner_damages_none tell want bare bytes level is inner =
    let high : eqb want.level 0 ≡ false = grind (arith, nat_tests, is) in
    ap (λ t. if t then leaf_damages want bytes ++ broken (bare || nat_lt 0 (nritems bytes)) NodeHead else inner_damages want bytes) high
    ∙ (tell want bytes).1.1 inner

-- a leaf that breaks no rule
pub leaf_subtree : (image : Image) (ranges : List MapRange) (form : Form) (owner : ℕ) (bare : Bool) (a l g : ℕ) → l ≡ 0
    → node_damages image ranges form owner bare (to a l g) ≡ []
    → IsSubtree image ranges form owner bare (to a l g) (items_in (node_at image ranges form.nodesize a))
unfolding node_events
leaf_subtree image ranges form owner bare a zero g is none =
    let own : List TreeEvent = leaf_events a (items_in (node_at image ranges form.nodesize a)) in
    let all = pointer_damages image ranges form owner bare in
    record {
      sound =
          ap (λ (d : List BtrRule). at_address a d ++ flat_map all (nodes_in (unless_damaged d own))) none
          ∙ ap (flat_map all) (leaf_nodes a (items_in (node_at image ranges form.nodesize a)));
      items_are =
          ap (λ (d : List BtrRule). map bare_item (items_in_events (unless_damaged d own))) none
          ∙ leaf_own a (items_in (node_at image ranges form.nodesize a));
    }
leaf_subtree image ranges form owner bare a (suc l) g is none = absurd (omega arith)

-- what is below the children of an inner node
abbrev below : Image → List MapRange → Form → ℕ → Bool → ℕ → List Child → List TreeEvent
below image ranges form owner bare level children = flat_map (λ child. node_events image ranges form owner bare level child.address child.generation) children

children_sound : (image : Image) (ranges : List MapRange) (form : Form) (owner : ℕ) (bare : Bool) (level : ℕ) (children : List Child) (lists : List (List Item))
    → AreSubtrees image ranges form owner bare (map (child_pointer level) children) lists
    → node_faults image ranges form owner bare (below image ranges form owner bare level children) ≡ []
children_sound image ranges form owner bare level [] [] are = refl
children_sound image ranges form owner bare level [] (items ∷ lists) are = absurd are
children_sound image ranges form owner bare level (c ∷ cs) [] are = absurd are
children_sound image ranges form owner bare level (c ∷ cs) (items ∷ lists) are =
    node_faults-append image ranges form owner bare (node_events image ranges form owner bare level c.address c.generation) (below image ranges form owner bare level cs)
    ∙ none_both _ _ are.0.sound (children_sound image ranges form owner bare level cs lists are.1)

children_items : (image : Image) (ranges : List MapRange) (form : Form) (owner : ℕ) (bare : Bool) (level : ℕ) (children : List Child) (lists : List (List Item))
    → AreSubtrees image ranges form owner bare (map (child_pointer level) children) lists
    → map bare_item (items_in_events (below image ranges form owner bare level children)) ≡ flat_map (λ items. items) lists
children_items image ranges form owner bare level [] [] are = refl
children_items image ranges form owner bare level [] (items ∷ lists) are = absurd are
children_items image ranges form owner bare level (c ∷ cs) [] are = absurd are
children_items image ranges form owner bare level (c ∷ cs) (items ∷ lists) are =
    let first : List TreeEvent = node_events image ranges form owner bare level c.address c.generation in
    let others : List TreeEvent = below image ranges form owner bare level cs in
    ap (map bare_item) (items_in-append first others)
    ∙ (map-append bare_item (items_in_events first) (items_in_events others)
    ∙ (ap (λ (z : List Item). z ++ map bare_item (items_in_events others)) are.0.items_are
    ∙ ap (λ (z : List Item). items ++ z) (children_items image ranges form owner bare level cs lists are.1)))

-- an inner node that breaks no rule
inner_subtree : (image : Image) (ranges : List MapRange) (form : Form) (owner : ℕ) (bare : Bool) (a l g level : ℕ) (lists : List (List Item)) → l ≡ suc level
    → node_damages image ranges form owner bare (to a l g) ≡ []
    → AreSubtrees image ranges form owner bare (map (child_pointer level) (children_in (node_at image ranges form.nodesize a))) lists
    → IsSubtree image ranges form owner bare (to a l g) (flat_map (λ items. items) lists)
unfolding node_events
inner_subtree image ranges form owner bare a zero g level lists is none are = absurd (omega (arith, is))
inner_subtree image ranges form owner bare a (suc l) g level lists is none are =
    let same : level ≡ l = omega (arith, is) in
    let children : List Child = children_in (node_at image ranges form.nodesize a) in
    let here : AreSubtrees image ranges form owner bare (map (child_pointer l) children) lists =
    subst (λ k. AreSubtrees image ranges form owner bare (map (child_pointer k) children) lists) same are in
    let lower : List TreeEvent = below image ranges form owner bare l children in
    let all = pointer_damages image ranges form owner bare in
    record {
      sound =
          ap (λ (d : List BtrRule). at_address a d ++ flat_map all (nodes_in (unless_damaged d lower))) none
          ∙ children_sound image ranges form owner bare l children lists here;
      items_are =
          ap (λ (d : List BtrRule). map bare_item (items_in_events (unless_damaged d lower))) none
          ∙ children_items image ranges form owner bare l children lists here;
    }

pub leaves_give_items : DamagesTell → LeavesGiveItems
leaves_give_items tell = λ image ranges form owner bare p mapped leaf some.
    leaf_subtree image ranges form owner bare p.address p.level p.generation leaf.level
    (mapped_damages image ranges form owner bare p mapped (leaf_damages_none tell (want form owner p) bare (node_at image ranges form.nodesize p.address) leaf some))

pub children_give_items : DamagesTell → ChildrenGiveItems
children_give_items tell = λ image ranges form owner bare p level lists is mapped inner are.
    inner_subtree image ranges form owner bare p.address p.level p.generation level lists is
    (mapped_damages image ranges form owner bare p mapped
    (inner_damages_none tell (want form owner p) bare (node_at image ranges form.nodesize p.address) level is inner))
    are

-- the last key is before the first of these
abbrev first_above : Option Key → List Key → Bool
first_above None keys = true
first_above (Some last) keys = is_before_first last keys

above : (last : Option Key) (i : TreeItem) (keys : List Key) → first_above last (i.key ∷ keys) ≡ true → is_above last i.key ≡ true
above None i keys h = refl
above (Some last) i keys h = h

order_none : (last : Option Key) (items : List TreeItem) → first_above last (keys_of (map bare_item items)) ≡ true → ascends (keys_of (map bare_item items)) ≡ true
    → order_damages last items ≡ []
order_none last [] first rest = refl
order_none last (i ∷ items) first rest =
    let parts = both (is_before_first i.key (keys_of (map bare_item items))) (ascends (keys_of (map bare_item items))) rest in
    ap (λ t. at_address i.leaf (if t then [] else KeyOrder ∷ []) ++ order_damages (Some i.key) items) (above last i (keys_of (map bare_item items)) first)
    ∙ order_none (Some i.key) items parts.0 parts.1

pub subtrees_are_trees : SubtreesAreTrees
subtrees_are_trees = λ image ranges form owner root items below ascend.
    let met : List TreeItem = leaf_items image ranges form root owner in
    let none : tree_refusals image ranges form root owner ≡ [] =
    none_both _ _ below.sound (order_none None met refl (subst (λ (z : List Item). ascends (keys_of z) ≡ true) (sym below.items_are) ascend)) in
    ap (λ (d : List BtrRefusal). when_sound d (map bare_item met)) none ∙ ap Some below.items_are
