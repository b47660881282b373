-- The keys of the extent tree's items, and how long their bodies are.
use Rattle.space_items.proofs.Imports.{◌≡◌, ⊎_elim, inl, inr, ℕ, ◌+◌, ◌*◌, ◌≤◌, List, [], ◌∷◌, ◌++◌, length, map, refl, sym, ◌∙◌, ap, ap₂, subst₂, arith, sum_by, IsTotalOrder, nat_cmp, ordering_then, All, Ordering, Less, Equal, Greater, nat_cmp_total, on_total, then_total, map-append, length-map, All-cons, All-nil, sum_by-cons, sum_by-le, BLOCK_GROUP_ITEM, METADATA_ITEM, METADATA_ITEM_SIZE, BLOCK_GROUP_BYTES, EXTENT_BYTES, NODE_BYTES, key_cmp, make_key, Key, Item, IsNodeSize, bytes_of, tree_nodes, weight, lengths_of, PlannedChunk, Piece, extent_items, group_item, node_item, piece_item, used_in, item_cmp, TreeNode}
use Rattle.btr_tree.proofs.Falling.{never_fall}
use Rattle.space_items.proofs.BodyLengths.{length-group, length-node, length-piece}
use Rattle.space_items.proofs.Levels.{map-map}
use Rattle.space_items.proofs.Merges.{merge, map-merge, length-merge, sum-merge, all-merge, IsMore, IsPut, IsAbove, more_in_first, more_in_second}
use Rattle.space_items.proofs.NodeMerge.{node_cmp}

abbrev pub Shape : Type 0
Shape = Key × ℕ

abbrev pub shape : Item → Shape
shape item = (item.0, length item.1)

abbrev pub shape_cmp : Shape → Shape → Ordering
shape_cmp a b = key_cmp a.0 b.0

pub shape_total : IsTotalOrder shape_cmp
shape_total =
    then_total {R = λ a b. nat_cmp a.0.objectid b.0.objectid} {S = λ a b. ordering_then (nat_cmp a.0.kind b.0.kind) (nat_cmp a.0.offset b.0.offset)} (on_total (λ (s : Shape). s.0.objectid) nat_cmp_total)
    (then_total {R = λ a b. nat_cmp a.0.kind b.0.kind} {S = λ a b. nat_cmp a.0.offset b.0.offset} (on_total (λ (s : Shape). s.0.kind) nat_cmp_total) (on_total (λ (s : Shape). s.0.offset) nat_cmp_total))

abbrev pub group_shape : PlannedChunk → Shape
group_shape c = (make_key (4096 * c.start) BLOCK_GROUP_ITEM (4096 * c.length), 24)

abbrev pub node_shape : TreeNode → Shape
node_shape n = (make_key n.address METADATA_ITEM n.level, METADATA_ITEM_SIZE)

abbrev pub piece_shape : Piece → Shape
piece_shape p = shape (piece_item p)

abbrev pub shapes : List PlannedChunk → List Piece → List TreeNode → List Shape
shapes chunks pieces nodes = merge shape_cmp (map group_shape chunks) (merge shape_cmp (map node_shape nodes) (map piece_shape pieces))

same_map : {A B : Type 0} (f g : A → B) → ((x : A) → f x ≡ g x) → (xs : List A) → map f xs ≡ map g xs
same_map f g same [] = refl
same_map f g same (x ∷ xs) = ap₂ (λ y ys. y ∷ ys) (same x) (same_map f g same xs)

-- the shapes of the items do not go by how much of a chunk is used
pub shapes_are : (chunks : List PlannedChunk) (pieces : List Piece) (nodes : List TreeNode) (nodesize : ℕ) → map shape (extent_items chunks pieces nodes nodesize) ≡ shapes chunks pieces nodes
shapes_are chunks pieces nodes nodesize =
    let group : PlannedChunk → Item = λ (c : PlannedChunk). group_item (used_in pieces nodes nodesize c) c in
    map-merge item_cmp shape_cmp shape (λ a b. refl) (map group chunks) (merge item_cmp (map node_item nodes) (map piece_item pieces))
    ∙ ap₂ (λ gs is. merge shape_cmp gs is)
    (map-map shape group chunks ∙ same_map (λ c. shape (group c)) group_shape (λ c. ap (λ (n : ℕ). (make_key (4096 * c.start) BLOCK_GROUP_ITEM (4096 * c.length), n)) (length-group (used_in pieces nodes nodesize c) c)) chunks)
    (map-merge item_cmp shape_cmp shape (λ a b. refl) (map node_item nodes) (map piece_item pieces)
    ∙ ap₂ (λ ns ps. merge shape_cmp ns ps)
    (map-map shape node_item nodes ∙ same_map (λ n. shape (node_item n)) node_shape (λ n. ap (λ (l : ℕ). (make_key n.address METADATA_ITEM n.level, l)) (length-node n)) nodes)
    (map-map shape piece_item pieces))

pub lengths_are : (chunks : List PlannedChunk) (pieces : List Piece) (nodes : List TreeNode) (nodesize : ℕ) → lengths_of (extent_items chunks pieces nodes nodesize) ≡ map (λ s. s.1) (shapes chunks pieces nodes)
lengths_are chunks pieces nodes nodesize = sym (map-map (λ (s : Shape). s.1) shape (extent_items chunks pieces nodes nodesize)) ∙ ap (map (λ (s : Shape). s.1)) (shapes_are chunks pieces nodes nodesize)

-- Bodies are short.

pub all_map : {A B : Type 0} (P : B → Type 0) (f : A → B) → ((x : A) → P (f x)) → (xs : List A) → All P (map f xs)
all_map P f h [] = All-nil P
all_map P f h (x ∷ xs) = All-cons P (f x) (map f xs) (h x) (all_map P f h xs)

pub bodies_short : (chunks : List PlannedChunk) (pieces : List Piece) (nodes : List TreeNode) (nodesize : ℕ) → All (λ i. length i.1 ≤ 82) (extent_items chunks pieces nodes nodesize)
bodies_short chunks pieces nodes nodesize =
    let short : Item → Type 0 = λ (i : Item). length i.1 ≤ 82 in
    all-merge item_cmp short (map (λ c. group_item (used_in pieces nodes nodesize c) c) chunks) (merge item_cmp (map node_item nodes) (map piece_item pieces))
    (all_map short (λ c. group_item (used_in pieces nodes nodesize c) c) (λ c. omega (arith, length-group (used_in pieces nodes nodesize c) c)) chunks)
    (all-merge item_cmp short (map node_item nodes) (map piece_item pieces) (all_map short node_item (λ n. omega (arith, length-node n)) nodes) (all_map short piece_item length-piece pieces))

pub items_few : (chunks : List PlannedChunk) (pieces : List Piece) (nodes : List TreeNode) (nodesize : ℕ) → length (extent_items chunks pieces nodes nodesize) ≤ length chunks + length nodes + length pieces
items_few chunks pieces nodes nodesize =
    let group : PlannedChunk → Item = λ (c : PlannedChunk). group_item (used_in pieces nodes nodesize c) c in
    omega (
      arith,
      length-merge item_cmp (map group chunks) (merge item_cmp (map node_item nodes) (map piece_item pieces)),
      length-merge item_cmp (map node_item nodes) (map piece_item pieces),
      length-map chunks group,
      length-map nodes node_item,
      length-map pieces piece_item,
    )

-- The bytes that they take.

sum_map : {A B : Type 0} (g : B → ℕ) (f : A → B) (xs : List A) → sum_by g (map f xs) ≡ sum_by (λ x. g (f x)) xs
sum_map g f [] = refl
sum_map g f (x ∷ xs) = omega (arith, sum_by-cons g (f x) (map f xs), sum_by-cons (λ y. g (f y)) x xs, sum_map g f xs)

pub bytes-le : (chunks : List PlannedChunk) (pieces : List Piece) (nodes : List TreeNode) (nodesize : ℕ) → bytes_of (lengths_of (extent_items chunks pieces nodes nodesize)) ≤ BLOCK_GROUP_BYTES * length chunks + NODE_BYTES * length nodes + EXTENT_BYTES * length pieces
bytes-le chunks pieces nodes nodesize =
    let takes : Shape → ℕ = λ (s : Shape). weight s.1 in
    let gs : List Shape = map group_shape chunks in
    let ns : List Shape = map node_shape nodes in
    let ps : List Shape = map piece_shape pieces in
    let whole : bytes_of (lengths_of (extent_items chunks pieces nodes nodesize)) ≡ sum_by takes (shapes chunks pieces nodes) = ap bytes_of (lengths_are chunks pieces nodes nodesize) ∙ sum_map weight (λ (s : Shape). s.1) (shapes chunks pieces nodes) in
    omega (
      arith,
      whole,
      sum-merge shape_cmp takes gs (merge shape_cmp ns ps),
      sum-merge shape_cmp takes ns ps,
      sum_by-le takes BLOCK_GROUP_BYTES gs (all_map (λ s. takes s ≤ BLOCK_GROUP_BYTES) group_shape (λ c. omega arith) chunks),
      sum_by-le takes NODE_BYTES ns (all_map (λ s. takes s ≤ NODE_BYTES) node_shape (λ n. omega arith) nodes),
      sum_by-le takes EXTENT_BYTES ps (all_map (λ s. takes s ≤ EXTENT_BYTES) piece_shape (λ p. omega (arith, length-piece p)) pieces),
      length-map chunks group_shape,
      length-map nodes node_shape,
      length-map pieces piece_shape,
    )

-- One node more.

before_by_address : (y : TreeNode) (nodes : List TreeNode) → IsAbove node_cmp y nodes → IsAbove shape_cmp (node_shape y) (map node_shape nodes)
before_by_address y [] above = tt
before_by_address y (z ∷ nodes) above = ap (λ k. ordering_then k (ordering_then (nat_cmp METADATA_ITEM METADATA_ITEM) (nat_cmp y.level z.level))) above

node_shapes_more : (y : TreeNode) (xs ys : List TreeNode) → IsMore node_cmp y xs ys → IsMore shape_cmp (node_shape y) (map node_shape xs) (map node_shape ys)
node_shapes_more y xs ys more =
    ⊎_elim
    (λ (same : xs ≡ ys). inl (ap (map node_shape) same))
    (λ (put : IsPut node_cmp y xs ys).
    inr (record {
      before = map node_shape put.before;
      after = map node_shape put.after;
      without = ap (map node_shape) put.without ∙ map-append node_shape put.before put.after;
      with = ap (map node_shape) put.with ∙ map-append node_shape put.before (y ∷ put.after);
      above = before_by_address y put.after put.above;
    }))
    more

other_kind : (k : Ordering) → ordering_then k Greater ≡ Equal → ⊥
other_kind Less e = cc
other_kind Equal e = cc
other_kind Greater e = cc

pub more_shapes : (chunks : List PlannedChunk) (pieces : List Piece) (y : TreeNode) (xs ys : List TreeNode) → IsMore node_cmp y xs ys → IsMore shape_cmp (node_shape y) (shapes chunks pieces xs) (shapes chunks pieces ys)
more_shapes chunks pieces y xs ys more =
    more_in_second shape_cmp shape_total (node_shape y) (map group_shape chunks) (merge shape_cmp (map node_shape xs) (map piece_shape pieces)) (merge shape_cmp (map node_shape ys) (map piece_shape pieces))
    (more_in_first shape_cmp shape_total (node_shape y) (map node_shape xs) (map node_shape ys) (map piece_shape pieces) (node_shapes_more y xs ys more)
    (all_map (λ s. shape_cmp (node_shape y) s ≡ Equal → ⊥) piece_shape (λ p. other_kind (nat_cmp y.address (4096 * p.place))) pieces))

-- there are no fewer nodes with it
pub more_nodes : (chunks : List PlannedChunk) (pieces : List Piece) (nodesize : ℕ) (y : TreeNode) (xs ys : List TreeNode) → IsNodeSize nodesize → IsMore node_cmp y xs ys
    → tree_nodes nodesize (lengths_of (extent_items chunks pieces xs nodesize)) ≤ tree_nodes nodesize (lengths_of (extent_items chunks pieces ys nodesize))
more_nodes chunks pieces nodesize y xs ys size more =
    let old : List Shape = shapes chunks pieces xs in
    let new : List Shape = shapes chunks pieces ys in
    let known : tree_nodes nodesize (map (λ s. s.1) old) ≤ tree_nodes nodesize (map (λ s. s.1) new) =
    ⊎_elim
    (λ (same : old ≡ new). omega (arith, ap (λ ss. tree_nodes nodesize (map (λ (s : Shape). s.1) ss)) same))
    (λ (put : IsPut shape_cmp (node_shape y) old new).
    let without : map (λ s. s.1) old ≡ map (λ s. s.1) put.before ++ map (λ s. s.1) put.after = ap (map (λ (s : Shape). s.1)) put.without ∙ map-append (λ (s : Shape). s.1) put.before put.after in
    let with : map (λ s. s.1) new ≡ map (λ s. s.1) put.before ++ METADATA_ITEM_SIZE ∷ map (λ s. s.1) put.after = ap (map (λ (s : Shape). s.1)) put.with ∙ map-append (λ (s : Shape). s.1) put.before (node_shape y ∷ put.after) in
    subst₂ (λ ls ms. tree_nodes nodesize ls ≤ tree_nodes nodesize ms) (sym without) (sym with) (never_fall nodesize (map (λ s. s.1) put.before) (map (λ s. s.1) put.after) METADATA_ITEM_SIZE size))
    (more_shapes chunks pieces y xs ys more) in
    subst₂ (λ ls ms. tree_nodes nodesize ls ≤ tree_nodes nodesize ms) (sym (lengths_are chunks pieces xs nodesize)) (sym (lengths_are chunks pieces ys nodesize)) known
