-- The bytes of a node that was written are on the grammar, and read as what was put in.
use Rattle.btr_node.proofs.Imports.{◌≡◌, ◌≤◌, inl, inr, ℕ, ◌+◌, ◌-◌, ◌*◌, List, ◌++◌, length, drop, sym, ap, ◌∙◌, arith, length-append, take_at, drop_at, drop-drop, CSUM_SIZE, HEADER_REST_SIZE, HEADER_SIZE, ITEM_SIZE, KEY_PTR_SIZE, spelling, kind_sum, length-kind_sum, HasAreas, Draft, IsDraft, draft_bytes, contents, heads_of, head_of, sealed, node_bytes, head_layout, head_in, nritems, behind_head, expected, HasHead, IsBtrfsInner, children_in, first_keys, IsBtrfsLeaf, HasLeafLayout, item_layout, heads_in, items_in, keys_of, IsNodeSize, ascends, records_in, HasSum, stored_items, stored_children, Head, BtrItemHead}
use Rattle.btr_node.proofs.Putting.{bytes_of-parts}
use Rattle.btr_node.proofs.ReadBack.{length-contents, heads_back, items_back, children_back, heads_have_areas}
use Rattle.btr_node.proofs.Spelled.{head_reads}

pub size_within : (n : ℕ) → IsNodeSize n → (4096 ≤ n) × (n ≤ 65536)
size_within n (inl is) = (omega arith, omega arith)
size_within n (inr (inl is)) = (omega arith, omega arith)
size_within n (inr (inr (inl is))) = (omega arith, omega arith)
size_within n (inr (inr (inr (inl is)))) = (omega arith, omega arith)
size_within n (inr (inr (inr (inr is)))) = (omega arith, omega arith)

-- the bytes that the checksum covers
abbrev pub covered : Draft → List ℕ
covered draft = spelling head_layout (head_of draft) ++ contents (draft.nodesize - HEADER_SIZE) draft.items draft.children

head_size : (head : Head) → head_layout.fits head → length (spelling head_layout head) ≡ HEADER_REST_SIZE
unfolding head_layout
head_size head fits = head_reads.len head fits

pub node_behind_sum : (draft : Draft) → drop CSUM_SIZE (node_bytes draft) ≡ covered draft
unfolding node_bytes sealed
node_behind_sum draft = drop_at (kind_sum draft.want.sums (covered draft)) (covered draft) CSUM_SIZE (length-kind_sum draft.want.sums (covered draft))

pub node_has_sum : (draft : Draft) → HasSum draft.want.sums (node_bytes draft)
unfolding node_bytes sealed
node_has_sum draft =
    take_at (kind_sum draft.want.sums (covered draft)) (covered draft) CSUM_SIZE (length-kind_sum draft.want.sums (covered draft))
    ∙ ap (kind_sum draft.want.sums) (sym (node_behind_sum draft))

pub node_head : (draft : Draft) → IsDraft draft → head_in (node_bytes draft) ≡ head_of draft
node_head draft right =
    let rest : List ℕ = contents (draft.nodesize - HEADER_SIZE) draft.items draft.children in
    ap head_layout.read (node_behind_sum draft ∙ sym (head_reads.apart (head_of draft) rest))
    ∙ head_reads.back (head_of draft) rest right.head

pub node_behind_head : (draft : Draft) → IsDraft draft → behind_head (node_bytes draft) ≡ contents (draft.nodesize - HEADER_SIZE) draft.items draft.children
node_behind_head draft right =
    let rest : List ℕ = contents (draft.nodesize - HEADER_SIZE) draft.items draft.children in
    sym (drop-drop HEADER_REST_SIZE CSUM_SIZE (node_bytes draft))
    ∙ ap (drop HEADER_REST_SIZE) (node_behind_sum draft)
    ∙ drop_at (spelling head_layout (head_of draft)) rest HEADER_REST_SIZE (head_size (head_of draft) right.head)

pub length-node_bytes : (draft : Draft) → IsDraft draft → length (node_bytes draft) ≡ draft.nodesize
unfolding node_bytes sealed
length-node_bytes draft right =
    let head : List ℕ = spelling head_layout (head_of draft) in
    let rest : List ℕ = contents (draft.nodesize - HEADER_SIZE) draft.items draft.children in
    let small = size_within draft.nodesize right.nodesize in
    omega (arith, length-append (kind_sum draft.want.sums (covered draft)) (covered draft), length-kind_sum draft.want.sums (covered draft), length-append head rest, head_size (head_of draft) right.head, length-contents (draft.nodesize - HEADER_SIZE) draft.items draft.children (omega (arith, right.fits)), right.fits)

node_has_head : (draft : Draft) → IsDraft draft → HasHead draft.want (node_bytes draft)
node_has_head draft right = ap (expected draft.want.sums) (node_head draft right)

leaf_count : (draft : Draft) → IsDraft draft → draft.want.level ≡ 0 → nritems (node_bytes draft) ≡ length draft.items
leaf_count draft right leaf =
    ap (λ (h : Head). h.count) (node_head draft right) ∙ omega (arith, ap length (right.leaf leaf))

pub leaf_items : (draft : Draft) → IsDraft draft → draft.want.level ≡ 0 → items_in (node_bytes draft) ≡ draft.items
unfolding items_in heads_in stored_items
leaf_items draft right leaf =
    let small = size_within draft.nodesize right.nodesize in
    ap (stored_items (node_bytes draft)) (leaf_count draft right leaf)
    ∙ items_back (node_bytes draft) (draft.nodesize - HEADER_SIZE) draft.items draft.children (node_behind_head draft right) (omega (arith, small.1)) (omega (arith, right.fits)) right.keys

areas_along : (low low' high high' : ℕ) (heads heads' : List BtrItemHead) → low ≡ low' → high ≡ high' → heads ≡ heads' → HasAreas low' high' heads' → HasAreas low high heads
areas_along low low' high high' heads heads' is-low is-high is-heads areas = rw (is-low, is-high, is-heads) areas

leaf_layout : (draft : Draft) → IsDraft draft → draft.want.level ≡ 0 → HasLeafLayout (node_bytes draft)
unfolding heads_in
leaf_layout draft right leaf =
    let n : ℕ = draft.nodesize - HEADER_SIZE in
    let small = size_within draft.nodesize right.nodesize in
    let counted : nritems (node_bytes draft) ≡ length draft.items = leaf_count draft right leaf in
    let rest : behind_head (node_bytes draft) ≡ contents n draft.items draft.children = node_behind_head draft right in
    let fits : draft_bytes draft.items + KEY_PTR_SIZE * length draft.children ≤ n = omega (arith, right.fits) in
    let long : length (behind_head (node_bytes draft)) ≡ n = ap length rest ∙ length-contents n draft.items draft.children fits in
    let heads : heads_in (node_bytes draft) ≡ heads_of n draft.items =
    ap (λ k. records_in ITEM_SIZE item_layout k (behind_head (node_bytes draft))) counted
    ∙ ap (records_in ITEM_SIZE item_layout (length draft.items)) rest
    ∙ heads_back n draft.items draft.children (omega (arith, small.1)) fits right.keys in
    record {
      heads = omega (arith, counted, length-node_bytes draft right, right.fits, bytes_of-parts draft.items);
      areas = areas_along _ (ITEM_SIZE * length draft.items) _ n _ (heads_of n draft.items) (ap (λ k. ITEM_SIZE * k) counted) long heads
          (heads_have_areas (ITEM_SIZE * length draft.items) n draft.items (omega (arith, fits, bytes_of-parts draft.items)));
    }

pub leaf_back : (draft : Draft) → IsDraft draft → draft.want.level ≡ 0 → IsBtrfsLeaf draft.want (node_bytes draft)
leaf_back draft right leaf =
    record {
      sum = node_has_sum draft;
      head = node_has_head draft right;
      level = leaf;
      layout = leaf_layout draft right leaf;
      order = ap (λ items. ascends (keys_of items)) (leaf_items draft right leaf) ∙ right.item_order;
    }

inner_count : (draft : Draft) → IsDraft draft → 1 ≤ draft.want.level → nritems (node_bytes draft) ≡ length draft.children
inner_count draft right inner =
    ap (λ (h : Head). h.count) (node_head draft right) ∙ omega (arith, ap length (right.inner inner))

pub inner_children : (draft : Draft) → IsDraft draft → 1 ≤ draft.want.level → children_in (node_bytes draft) ≡ draft.children
unfolding children_in stored_children
inner_children draft right inner =
    ap (stored_children (node_bytes draft)) (inner_count draft right inner)
    ∙ children_back (node_bytes draft) (draft.nodesize - HEADER_SIZE) draft.children
    (node_behind_head draft right ∙ ap (λ items. contents (draft.nodesize - HEADER_SIZE) items draft.children) (right.inner inner)) right.links

pub inner_back : (draft : Draft) → IsDraft draft → 1 ≤ draft.want.level → 1 ≤ length draft.children → IsBtrfsInner draft.want (node_bytes draft)
inner_back draft right inner some =
    record {
      sum = node_has_sum draft;
      head = node_has_head draft right;
      level = inner;
      some = omega (arith, inner_count draft right inner);
      layout = omega (arith, inner_count draft right inner, length-node_bytes draft right, right.fits, ap length (right.inner inner));
      order = ap (λ children. ascends (first_keys children)) (inner_children draft right inner) ∙ right.child_order;
    }
