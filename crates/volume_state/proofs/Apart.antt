-- What lies in none of some blocks, where none of these is in use.
use Rattle.volume_state.proofs.Imports.{◌≡◌, inl, ℕ, ◌+◌, ◌*◌, ◌/◌, ◌<◌, eqb, Bool, true, false, List, ◌∷◌, ◌++◌, length, get_or, Contains, Option, Some, None, refl, sym, ◌∙◌, ap, subst, arith, if◌then◌else◌, option_and_then, and_parts, get_or_default, EXTENT_DATA, FS_TREE, Image, is_extent_of, ContentValue, FileExtentValue, Inline, Prealloc, Regular, file_extent_of, tree_of, own_map, own_super, Super, TreeItem, nodes_in, place, met, MapRange, NodePointer, Tree, AreExtentsApart, AreNodesApart, IsApart, IsContentApart, root_of, saved_tree, from_filter, HoldsExtent, HoldsNodeOf, LieIn, content_range, file_trees, item_range, named_by, numbered, tree_if}

-- an element of a list by its place
at_place : {X : Type 0} (xs : List X) (k : ℕ) (d : X) → k < length xs → Contains xs (get_or xs k d)
at_place xs k d below = (k, below, get_or_default xs k (get_or xs k d) d below)

-- some bytes that lie nowhere in some blocks
module _ (test : ℕ → Bool) (ranges : List MapRange) where
  byte_apart : (address count k : ℕ) → k < count → ((b : ℕ) → LieIn ranges address count b → test b ≡ false) → IsApart test (place ranges (address + k))
  byte_apart address count k below outside = by (place ranges (address + k)) refl
    where
      by : (o : Option ℕ) → place ranges (address + k) ≡ o → IsApart test o
      by None is = tt
      by (Some a) is = outside (a / 4096) (record { k = k; within = below; at = a; place_is = inl is; block = refl })

  pub nodes_apart : (disk : Image) (t : Tree) → ((b : ℕ) → HoldsNodeOf disk ranges t b → test b ≡ false) → AreNodesApart test disk ranges t
  nodes_apart disk t outside i d below k inside =
      byte_apart (get_or (nodes_in (met disk ranges t)) i d).address t.form.nodesize (4096 * k) (omega (arith, inside))
      (λ b lies. outside b (record { node = get_or (nodes_in (met disk ranges t)) i d; among = at_place (nodes_in (met disk ranges t)) i d below; lies = lies }))

  content_apart : (items : List TreeItem) → ((b : ℕ) → HoldsExtent items ranges b → test b ≡ false) → (i : TreeItem) → Contains items i → (c : ContentValue) → item_range i ≡ content_range c → IsContentApart test ranges c
  content_apart items outside i among (Inline bytes) is = tt
  content_apart items outside i among (Prealloc r) is = tt
  content_apart items outside i among (Regular r) is = λ some k below inside.
      let range : item_range i ≡ Some r = is ∙ ap (λ (t : Bool). if t then None else Some r) some in
      let same : r.disk_bytenr + (r.offset + k) ≡ r.disk_bytenr + r.offset + k = omega arith in
      subst (λ (a : ℕ). IsApart test (place ranges a)) same
      (byte_apart r.disk_bytenr r.disk_num_bytes (r.offset + k) inside (λ b lies. outside b (record { item = i; among = among; range = r; range_is = range; lies = lies })))

  pub extents_apart : (items : List TreeItem) → ((b : ℕ) → HoldsExtent items ranges b → test b ≡ false) → AreExtentsApart test ranges items
  extents_apart items outside ino i e among read =
      let from = from_filter (is_extent_of ino) items i among in
      let kind : eqb i.key.kind EXTENT_DATA ≡ true = (and_parts (eqb i.key.objectid ino) (eqb i.key.kind EXTENT_DATA) from.1).1 in
      let range : item_range i ≡ content_range e.content =
      ap (λ (t : Bool). if t then option_and_then (λ x. content_range x.content) (file_extent_of i.body) else None) kind ∙ ap (λ (o : Option FileExtentValue). option_and_then (λ x. content_range x.content) o) read in
      content_apart items outside i from.0 e.content range

module _ (disk : Image) where
  abbrev s : Super
  s = own_super disk

  abbrev ranges : List MapRange
  ranges = own_map disk

  -- the file tree is one of them, and that of the saved image is the other
  pub file_tree_among : (p : NodePointer) → root_of disk FS_TREE ≡ Some p → Contains (file_trees disk s ranges) (tree_of s FS_TREE p)
  file_tree_among p is =
      subst (λ (o : Option NodePointer). Contains (tree_if s FS_TREE o ++ named_by disk s ranges o) (tree_of s FS_TREE p)) (sym is) (0, omega arith, refl)

  pub saved_tree_among : (p : NodePointer) (number : ℕ) (q : NodePointer) → root_of disk FS_TREE ≡ Some p → saved_tree disk p ≡ Some number → root_of disk number ≡ Some q
      → Contains (file_trees disk s ranges) (tree_of s number q)
  saved_tree_among p number q root saved at =
      subst (λ (o : Option NodePointer). Contains (tree_if s FS_TREE o ++ named_by disk s ranges o) (tree_of s number q)) (sym root)
      (subst (λ (o : Option ℕ). Contains (tree_of s FS_TREE p ∷ numbered disk s ranges o) (tree_of s number q)) (sym saved)
      (subst (λ (o : Option NodePointer). Contains (tree_of s FS_TREE p ∷ tree_if s number o) (tree_of s number q)) (sym at) (1, omega arith, refl)))
