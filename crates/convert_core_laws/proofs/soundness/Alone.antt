-- The trees of a converted volume share no nodes.
use Rattle.convert_core_laws.proofs.Imports.{◌≡◌, ◌≢◌, ◌⊎◌, ◌≤◌, ℕ, ◌+◌, ◌*◌, ◌%◌, ◌&&◌, Bool, eqb, true, false, List, [], ◌∷◌, length, map, get_or, refl, sym, ap, subst, ◌∙◌, ⊎_elim, arith, All, AllPairs, Contains, if◌then◌else◌, All-contains, IsPermutation, append-nil, EXTENT_TREE, Image, Ids, Item, keys_of, ascends, is_before, bare_item, IsTree, TreeItem, MapRange, Form, NodePointer, chunk_map, form_of, tree_of, DataUse, Recount, TreeOn, all_trees, data_uses, recounted_items, span_of as data_span, IsExtent, a_node, some_data, EndsBefore, node_kind, Span, AreUnshared, IsOwnNode, IsOwnTree, IsNodeSize, Making, TreeRoots, named_extents, Root, TreeNode, Options, IsNewVolume, super_for, recount_for, tree_for, pointer_to_root, extent_items, all_from_contains, all_at, well, Piece, ascends_rise, Rise, data_kind, metadata_kind, system_kind, met_alone, told, is_relocated, node_bytes, head_in, node_at}
use Rattle.convert_core_laws.proofs.soundness.AllUses.{data_is}
use Rattle.convert_core_laws.proofs.soundness.Apart.{apart, size_some}
use Rattle.convert_core_laws.proofs.soundness.Keyed.{no_two}
use Rattle.convert_core_laws.proofs.soundness.MetOnce.{met_once}
use Rattle.convert_core_laws.proofs.soundness.Nodes.{AreInForm, IsFresh, forms}
use Rattle.convert_core_laws.proofs.soundness.Recounting.{nodesize_is}
use Rattle.convert_core_laws.proofs.soundness.Trees.{IsReadAs, all_read_as, extents_rise}
use Rattle.convert_core_laws.proofs.soundness.Unreserved.{fit_size}

module _ (o : Options) (ids : Ids) (now : ℕ) (image other : Image) (m : Making) (r : TreeRoots) (nodes : List TreeNode) (v : IsNewVolume o ids now image other m r nodes) where
  abbrev k : Recount
  k = recount_for image other m r nodes

  abbrev fit : IsNodeSize m.options.nodesize
  fit = fit_size o ids now image other m r nodes v

  -- ---- each tree

  abbrev AreSettled : TreeOn → Type 0
  AreSettled t = All (λ p. is_relocated (head_in (node_bytes other k p.address)) ≡ false) t.nodes

  all_settled : (t : TreeOn) → Contains (all_trees k) t → AreSettled t
  all_settled t h = λ i d l.
      let fresh = all_at (AreInForm o ids now image other m r nodes v) (all_trees k) t (forms o ids now image other m r nodes v) h i d l in
      subst (λ (n : ℕ). is_relocated (head_in (node_of n (get_or t.nodes i d))) ≡ false) (sym (nodesize_is m r nodes)) fresh.1
    where
      node_of : ℕ → NodePointer → List ℕ
      node_of n p = node_at other (chunk_map other (super_for m r nodes)) n p.address

  abbrev IsOwn : TreeOn → Type 0
  IsOwn t = AreSettled t → IsOwnTree other k t

  own_tree : (number : ℕ) (root : Root) (items : List Item) → IsReadAs o ids now image other m r nodes v number root items → IsOwn (tree_for other (super_for m r nodes) number root items)
  own_tree number root items is settled =
      let s = super_for m r nodes in
      let met = met_alone other (chunk_map other s) (tree_of s number (pointer_to_root root)) is.sound in
      record {
        nodes = λ i d h.
            let tells = told other (chunk_map other s) (tree_of s number (pointer_to_root root)) _ (met.right i d h) in
            record { owner = tells.owner; level = tells.level; settled = settled i d h };
        pointers = met.led;
        items = sym is.items_are ∙ met.leaves_are;
      }

  own_trees : All (IsOwnTree other k) (all_trees k)
  own_trees = all_from_contains (IsOwnTree other k) (all_trees k) (λ t h. All-contains IsOwn (all_trees k) t (all_read_as o ids now image other m r nodes v IsOwn own_tree) h (all_settled t h))

  -- ---- what lies apart

  abbrev node_span : NodePointer → Span
  node_span p = record { start = p.address; length = k.super.nodesize }

  is_node : (t : TreeOn) (p : NodePointer) → Contains (all_trees k) t → Contains t.nodes p → IsExtent k (node_span p) (node_kind t.number)
  is_node t p h l = a_node t h (p, l, refl) refl

  is_data : (u : DataUse) → Contains (data_uses k) u → IsExtent k (data_span u) data_kind
  is_data u h = some_data (u, h, refl) refl

  some_bytes : (u : DataUse) → Contains (data_uses k) u → 1 ≤ u.length
  some_bytes u h =
      let at = data_is image m v.new.conversion.making fit other r nodes (data_span u) (u, h, refl) in
      let some : 1 ≤ at.0.count = all_at (λ (p : Piece). 1 ≤ p.count) m.pieces at.0 (well m.volume image m.options m.plan m.pieces v.new.conversion.making.has_pieces).apart.some at.1 in
      let long : u.length ≡ 4096 * at.0.count = ap (λ (x : Span). x.length) at.2 in
      omega (arith, some, long)

  some_node : 1 ≤ k.super.nodesize
  some_node = let some = size_some m.options.nodesize fit in let is = nodesize_is m r nodes in omega (arith, some, is)

  -- two extents that are not empty begin at one address only where they are one
  one_place : (a b : Span) (kind other_kind : ℕ) → IsExtent k a kind → IsExtent k b other_kind → 1 ≤ a.length → 1 ≤ b.length → a.start ≡ b.start → (a ≡ b) × (kind ≡ other_kind)
  one_place a b kind other_kind is also one two same =
      ⊎_elim (λ both. both) (λ either. ⊎_elim (λ (low : EndsBefore a b). absurd (omega (arith, low, one, same))) (λ (high : EndsBefore b a). absurd (omega (arith, high, two, same))) either)
      (apart o ids now image other m r nodes v a b kind other_kind is also)

  no_data : (number : ℕ) → data_kind ≢ node_kind number
  no_data number e = by (eqb number 3) e
    where
      by : (b : Bool) → data_kind ≡ (if b then system_kind else metadata_kind) → ⊥
      by true is = omega (arith, is)
      by false is = omega (arith, is)

  nodes_apart : (u : DataUse) (t : TreeOn) (p : NodePointer) → Contains (data_uses k) u → Contains (all_trees k) t → Contains t.nodes p → u.start ≢ p.address
  nodes_apart u t p h l at same = no_data t.number (one_place (data_span u) (node_span p) data_kind (node_kind t.number) (is_data u h) (is_node t p l at) (some_bytes u h) some_node same).1

  ranges_apart : (u w : DataUse) → Contains (data_uses k) u → Contains (data_uses k) w → u.start ≡ w.start → u.length ≡ w.length
  ranges_apart u w h l same = ap (λ (x : Span). x.length) (one_place (data_span u) (data_span w) data_kind data_kind (is_data u h) (is_data w l) (some_bytes u h) (some_bytes w l) same).0

  -- ---- keys

  abbrev items : List Item
  items = extent_items m.chunks m.pieces nodes m.options.nodesize

  keys_differ : AllPairs (λ i j. i.0 ≢ j.0) (recounted_items k EXTENT_TREE)
  keys_differ =
      subst (AllPairs (λ i j. i.0 ≢ j.0)) (sym (append-nil items))
      (λ i j d l h. no_two (get_or items i d) (get_or items j d) (ascends_rise items (extents_rise o ids now image other m r nodes v) i j d l h))

  whole_size : (n : ℕ) → IsNodeSize n → n % 4096 ≡ 0
  whole_size n is =
      ⊎_elim (λ (e : n ≡ 4096). omega (arith, e)) (λ rest. ⊎_elim (λ (e : n ≡ 8192). omega (arith, e)) (λ rest'. ⊎_elim (λ (e : n ≡ 16384). omega (arith, e)) (λ rest''. ⊎_elim (λ (e : n ≡ 32768). omega (arith, e)) (λ (e : n ≡ 65536). omega (arith, e)) rest'') rest') rest) is

  pub unshared : AreUnshared other k
  unshared = record {
    size = (subst (λ (n : ℕ). n % 4096 ≡ 0) (sym (nodesize_is m r nodes)) (whole_size m.options.nodesize fit), λ none. let some = some_node in omega (arith, none, some));
    trees = own_trees;
    once = met_once o ids now image other m r nodes v;
    apart = nodes_apart;
    ranges = ranges_apart;
    keys = keys_differ;
  }
