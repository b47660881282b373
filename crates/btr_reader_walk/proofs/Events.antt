-- Events in parts.
use Rattle.btr_reader_walk.proofs.Imports.{◌≡◌, ℕ, Bool, List, [], ◌∷◌, ◌++◌, map, Option, Some, if◌then◌else◌, refl, sym, ◌∙◌, ap, append_assoc, flat_map, Image, BtrRefusal, KeyOrder, Key, Item, Form, NodePointer, MapRange, TreeItem, TreeEvent, node, item, leaf_events, nodes_in, items_in_events, last_after, bare_item, node_faults, pointer_damages, at_address, is_above, order_damages}
use Rattle.std.proofs.lemmas.List.Concat.{flat_map-append}

pub nodes_in-append : (xs ys : List TreeEvent) → nodes_in (xs ++ ys) ≡ nodes_in xs ++ nodes_in ys
nodes_in-append [] ys = refl
nodes_in-append (node p ∷ xs) ys = ap (λ (z : List NodePointer). p ∷ z) (nodes_in-append xs ys)
nodes_in-append (item i ∷ xs) ys = nodes_in-append xs ys

pub items_in-append : (xs ys : List TreeEvent) → items_in_events (xs ++ ys) ≡ items_in_events xs ++ items_in_events ys
items_in-append [] ys = refl
items_in-append (node p ∷ xs) ys = items_in-append xs ys
items_in-append (item i ∷ xs) ys = ap (λ (z : List TreeItem). i ∷ z) (items_in-append xs ys)

-- a leaf has no pointers
pub leaf_nodes : (address : ℕ) (items : List Item) → nodes_in (leaf_events address items) ≡ []
leaf_nodes address [] = refl
leaf_nodes address (i ∷ items) = leaf_nodes address items

-- and its items are its own
pub leaf_own : (address : ℕ) (items : List Item) → map bare_item (items_in_events (leaf_events address items)) ≡ items
leaf_own address [] = refl
leaf_own address (i ∷ items) = ap (λ (z : List Item). i ∷ z) (leaf_own address items)

pub none_both : {A : Type 0} (xs ys : List A) → xs ≡ [] → ys ≡ [] → xs ++ ys ≡ []
none_both xs ys a b = ap (λ z. z ++ ys) a ∙ b

pub node_faults-append : (image : Image) (ranges : List MapRange) (form : Form) (owner : ℕ) (bare : Bool) (xs ys : List TreeEvent)
    → node_faults image ranges form owner bare (xs ++ ys) ≡ node_faults image ranges form owner bare xs ++ node_faults image ranges form owner bare ys
node_faults-append image ranges form owner bare xs ys =
    ap (flat_map (pointer_damages image ranges form owner bare)) (nodes_in-append xs ys)
    ∙ flat_map-append (pointer_damages image ranges form owner bare) (nodes_in xs) (nodes_in ys)

pub last_after-append : (last : Option Key) (xs ys : List TreeItem) → last_after last (xs ++ ys) ≡ last_after (last_after last xs) ys
last_after-append last [] ys = refl
last_after-append last (i ∷ xs) ys = last_after-append (Some i.key) xs ys

abbrev order_at : Option Key → TreeItem → List BtrRefusal
order_at last i = at_address i.leaf (if is_above last i.key then [] else KeyOrder ∷ [])

pub order_damages-append : (last : Option Key) (xs ys : List TreeItem) → order_damages last (xs ++ ys) ≡ order_damages last xs ++ order_damages (last_after last xs) ys
order_damages-append last [] ys = refl
order_damages-append last (i ∷ xs) ys =
    ap (λ (z : List BtrRefusal). order_at last i ++ z) (order_damages-append (Some i.key) xs ys)
    ∙ sym (append_assoc (order_at last i) (order_damages (Some i.key) xs) (order_damages (last_after (Some i.key) xs) ys))
