-- The item that comes next where lists are put together by key.
use Rattle.space_items.proofs.Imports.{◌≡◌, ◌<◌, ℕ, zero, suc, ◌+◌, ◌*◌, ◌^◌, Bool, true, false, cond, List, [], ◌∷◌, drop, map, Option, Some, None, refl, sym, ap, subst, ◌∙◌, arith, slice_get, IfSome, nat_cmp, ordering_then, is_lt, match_ordering, Ordering, Less, Equal, Greater, slice_get_within, MatchOption-at_some, key_cmp, Item, is_before, Piece, node_item, piece_item, item_cmp, merged, FitsExtents, IsSmallGroup, IsSmallNext, IsSmallPiece, extents_ahead, first_of, item_of_group, item_of_next, passed, place_of, ExtentStream, Next, Group, TreeNode}
use Rattle.std.specs.Option.{MatchOption, option_map}
use Rattle.space_items.specs.declared.extent_stream.Next.TheVariants as next
use Rattle.space_items.proofs.Counting.{all_at}
use Rattle.space_items.proofs.Merges.{merge-nil}

pub drop_next : {A : Type 0} (xs : List A) (n : ℕ) (x : A) → slice_get xs n ≡ Some x → drop n xs ≡ x ∷ drop (n + 1) xs
drop_next [] n x there = absurd cc
drop_next {A} (y ∷ xs) zero x there = let same : y ≡ x = cc in ap (λ (z : A). z ∷ xs) same
drop_next {A} (y ∷ xs) (suc n) x there = let one : suc n + 1 ≡ suc (n + 1) = omega arith in drop_next xs n x there ∙ ap (λ (k : ℕ). x ∷ drop k (y ∷ xs)) (sym one)

pub drop_none : {A : Type 0} (xs : List A) (n : ℕ) → slice_get xs n ≡ None → drop n xs ≡ []
drop_none [] zero none = refl
drop_none [] (suc n) none = refl
drop_none (x ∷ xs) zero none = absurd cc
drop_none (x ∷ xs) (suc n) none = drop_none xs n none

-- two heads whose keys differ
merge_first : (x y : Item) (xs ys : List Item) → is_before x.0 y.0 ≡ true → merged (x ∷ xs) (y ∷ ys) ≡ x ∷ merged xs (y ∷ ys)
merge_first x y xs ys = by (key_cmp x.0 y.0)
  where
    by : (o : Ordering) → is_lt o ≡ true → match_ordering o (x ∷ merged xs (y ∷ ys)) (cond true (x ∷ merged xs ys) (merged xs ys)) (y ∷ merged (x ∷ xs) ys) ≡ x ∷ merged xs (y ∷ ys)
    by Less is = refl
    by Equal is = absurd cc
    by Greater is = absurd cc

merge_second : (x y : Item) (xs ys : List Item) → is_before x.0 y.0 ≡ false → (key_cmp x.0 y.0 ≡ Equal → ⊥) → merged (x ∷ xs) (y ∷ ys) ≡ y ∷ merged (x ∷ xs) ys
merge_second x y xs ys = by (key_cmp x.0 y.0)
  where
    by : (o : Ordering) → is_lt o ≡ false → (o ≡ Equal → ⊥) → match_ordering o (x ∷ merged xs (y ∷ ys)) (cond true (x ∷ merged xs ys) (merged xs ys)) (y ∷ merged (x ∷ xs) ys) ≡ y ∷ merged (x ∷ xs) ys
    by Less is apart = absurd cc
    by Equal is apart = absurd (apart refl)
    by Greater is apart = refl

-- what comes next of a list, and the list behind it
abbrev pub Ahead : Option Next → List Item → (Next → List Item) → Type 0
Ahead r now after = MatchOption r (now ≡ []) (λ n. now ≡ item_of_next n ∷ after n)

pub merge_ahead : (a b : Option Next) (xs ys : List Item) (fore hind after : Next → List Item) → Ahead a xs fore → Ahead b ys hind → ((m n : Next) → a ≡ Some m → b ≡ Some n → key_cmp (item_of_next m).0 (item_of_next n).0 ≡ Equal → ⊥)
    → ((m : Next) → a ≡ Some m → after m ≡ merged (fore m) ys) → ((n : Next) → b ≡ Some n → after n ≡ merged xs (hind n)) → Ahead (first_of a b) (merged xs ys) after
merge_ahead None None xs ys fore hind after first second apart by_first by_second = ap (λ (l : List Item). merged l ys) first ∙ second
merge_ahead None (Some n) xs ys fore hind after first second apart by_first by_second =
    ap (λ (l : List Item). merged l ys) first ∙ (second ∙ ap (λ (l : List Item). item_of_next n ∷ l) (sym (by_second n refl ∙ ap (λ (l : List Item). merged l (hind n)) first)))
merge_ahead (Some m) None xs ys fore hind after first second apart by_first by_second =
    ap (merged xs) second
    ∙ (merge-nil item_cmp xs
    ∙ (first ∙ ap (λ (l : List Item). item_of_next m ∷ l) (sym (by_first m refl ∙ (ap (merged (fore m)) second ∙ merge-nil item_cmp (fore m))))))
merge_ahead (Some m) (Some n) xs ys fore hind after first second apart by_first by_second =
    by (is_before (item_of_next m).0 (item_of_next n).0) refl
  where
    heads : merged xs ys ≡ merged (item_of_next m ∷ fore m) (item_of_next n ∷ hind n)
    heads = ap (λ (l : List Item). merged l ys) first ∙ ap (merged (item_of_next m ∷ fore m)) second

    by : (b : Bool) → is_before (item_of_next m).0 (item_of_next n).0 ≡ b → Ahead (cond b (Some m) (Some n)) (merged xs ys) after
    by true is =
        heads
        ∙ (merge_first (item_of_next m) (item_of_next n) (fore m) (hind n) is
        ∙ ap (λ (l : List Item). item_of_next m ∷ l) (sym (by_first m refl ∙ ap (merged (fore m)) second)))
    by false is =
        heads
        ∙ (merge_second (item_of_next m) (item_of_next n) (fore m) (hind n) is (apart m n refl refl)
        ∙ ap (λ (l : List Item). item_of_next n ∷ l) (sym (by_second n refl ∙ ap (λ (l : List Item). merged l (hind n)) first)))

-- what holds of each of two holds of the first by key
pub first_keeps : (P : Next → Type 0) (a b : Option Next) → IfSome a P → IfSome b P → IfSome (first_of a b) P
first_keeps P None b first second = second
first_keeps P (Some m) None first second = first
first_keeps P (Some m) (Some n) first second = by (is_before (item_of_next m).0 (item_of_next n).0)
  where
    by : (b : Bool) → IfSome (cond b (Some m) (Some n)) P
    by true = first
    by false = second

pub map_keeps : {A : Type 0} (P : Next → Type 0) (f : A → Next) (o : Option A) → ((x : A) → o ≡ Some x → P (f x)) → IfSome (option_map f o) P
map_keeps P f None each = tt
map_keeps P f (Some x) each = each x refl

-- what each list of a stream gives next
abbrev pub group_here : ExtentStream → Option Next
group_here s = option_map next.Group (slice_get s.groups s.group)

abbrev pub node_here : ExtentStream → List TreeNode → Option Next
node_here s nodes = option_map next.Node (slice_get nodes s.node)

abbrev pub piece_here : ExtentStream → List Piece → Option Next
piece_here s pieces = option_map next.Piece (slice_get pieces s.piece)

greater : (o : Ordering) → ordering_then o Greater ≡ Equal → ⊥
greater Less is = absurd cc
greater Equal is = absurd cc
greater Greater is = absurd cc

-- one list of items
list_ahead : {A : Type 0} (f : A → Next) (item : A → Item) (xs : List A) (k : ℕ) (after : Next → List Item) → ((x : A) → item_of_next (f x) ≡ item x) → ((x : A) → after (f x) ≡ map item (drop (k + 1) xs))
    → Ahead (option_map f (slice_get xs k)) (map item (drop k xs)) after
list_ahead {A} f item xs k after items behind = by (slice_get xs k) refl
  where
    by : (o : Option A) → slice_get xs k ≡ o → Ahead (option_map f o) (map item (drop k xs)) after
    by None is = ap (map item) (drop_none xs k is)
    by (Some x) is = ap (map item) (drop_next xs k x is) ∙ (ap (λ (i : Item). i ∷ map item (drop (k + 1) xs)) (sym (items x)) ∙ ap (λ (l : List Item). item_of_next (f x) ∷ l) (sym (behind x)))

-- the variant of what comes of a list
mapped : {A : Type 0} (f : A → Next) (o : Option A) (n : Next) → option_map f o ≡ Some n → (x : A) × (n ≡ f x)
mapped f None n is = absurd cc
mapped f (Some x) n is = (x, cc)

abbrev below_ahead : ExtentStream → List Piece → List TreeNode → List Item
below_ahead s pieces nodes = merged (map node_item (drop s.node nodes)) (map piece_item (drop s.piece pieces))

nodes_ahead : (s : ExtentStream) (pieces : List Piece) (nodes : List TreeNode) → Ahead (first_of (node_here s nodes) (piece_here s pieces)) (below_ahead s pieces nodes) (λ n. below_ahead (passed s n) pieces nodes)
nodes_ahead s pieces nodes =
    merge_ahead (node_here s nodes) (piece_here s pieces) (map node_item (drop s.node nodes)) (map piece_item (drop s.piece pieces)) by_nodes by_pieces (λ n. below_ahead (passed s n) pieces nodes)
    (list_ahead next.Node node_item nodes s.node by_nodes (λ x. refl) (λ x. refl)) (list_ahead next.Piece piece_item pieces s.piece by_pieces (λ x. refl) (λ x. refl)) apart
    (λ m is. let x = mapped next.Node (slice_get nodes s.node) m is in subst (λ (n : Next). below_ahead (passed s n) pieces nodes ≡ merged (by_nodes n) (map piece_item (drop s.piece pieces))) (sym x.1) refl)
    (λ n is. let x = mapped next.Piece (slice_get pieces s.piece) n is in subst (λ (k : Next). below_ahead (passed s k) pieces nodes ≡ merged (map node_item (drop s.node nodes)) (by_pieces k)) (sym x.1) refl)
  where
    by_nodes : Next → List Item
    by_nodes n = map node_item (drop (passed s n).node nodes)

    by_pieces : Next → List Item
    by_pieces n = map piece_item (drop (passed s n).piece pieces)

    apart : (m n : Next) → node_here s nodes ≡ Some m → piece_here s pieces ≡ Some n → key_cmp (item_of_next m).0 (item_of_next n).0 ≡ Equal → ⊥
    apart m n is_node is_piece =
        let x = mapped next.Node (slice_get nodes s.node) m is_node in
        let y = mapped next.Piece (slice_get pieces s.piece) n is_piece in
        subst (λ (k : Next). key_cmp (item_of_next k).0 (item_of_next n).0 ≡ Equal → ⊥) (sym x.1)
        (subst (λ (k : Next). key_cmp (node_item x.0).0 (item_of_next k).0 ≡ Equal → ⊥) (sym y.1) (greater (nat_cmp x.0.address (4096 * y.0.place))))

-- what comes of the nodes and pieces leaves the groups, and has another key
record IsBelow (s : ExtentStream) (n : Next) : Type 0 where
  same : map item_of_group (drop (passed s n).group (passed s n).groups) ≡ map item_of_group (drop s.group s.groups)
  apart : (x : Group) → key_cmp (item_of_group x).0 (item_of_next n).0 ≡ Equal → ⊥

nodes_below : (s : ExtentStream) (pieces : List Piece) (nodes : List TreeNode) → IfSome (first_of (node_here s nodes) (piece_here s pieces)) (IsBelow s)
nodes_below s pieces nodes =
    first_keeps (IsBelow s) (node_here s nodes) (piece_here s pieces)
    (map_keeps (IsBelow s) next.Node (slice_get nodes s.node) (λ x there. record { same = refl; apart = λ y. greater (nat_cmp (4096 * y.chunk.start) x.address) }))
    (map_keeps (IsBelow s) next.Piece (slice_get pieces s.piece) (λ x there. record { same = refl; apart = λ y. greater (nat_cmp (4096 * y.chunk.start) (4096 * x.place)) }))

pub extents_next : (s : ExtentStream) (pieces : List Piece) (nodes : List TreeNode) → Ahead (first_of (group_here s) (first_of (node_here s nodes) (piece_here s pieces))) (extents_ahead s pieces nodes) (λ n. extents_ahead (passed s n) pieces nodes)
extents_next s pieces nodes =
    merge_ahead (group_here s) (first_of (node_here s nodes) (piece_here s pieces)) (map item_of_group (drop s.group s.groups)) (below_ahead s pieces nodes) by_groups (λ n. below_ahead (passed s n) pieces nodes) (λ n. extents_ahead (passed s n) pieces nodes)
    (list_ahead next.Group item_of_group s.groups s.group by_groups (λ x. refl) (λ x. refl)) (nodes_ahead s pieces nodes)
    (λ m n is_group is_below.
    let x = mapped next.Group (slice_get s.groups s.group) m is_group in
    subst (λ (k : Next). key_cmp (item_of_next k).0 (item_of_next n).0 ≡ Equal → ⊥) (sym x.1) ((below n is_below).apart x.0))
    (λ m is. let x = mapped next.Group (slice_get s.groups s.group) m is in subst (λ (n : Next). extents_ahead (passed s n) pieces nodes ≡ merged (by_groups n) (below_ahead s pieces nodes)) (sym x.1) refl)
    (λ n is. ap (λ (l : List Item). merged l (below_ahead (passed s n) pieces nodes)) (below n is).same)
  where
    by_groups : Next → List Item
    by_groups n = map item_of_group (drop (passed s n).group s.groups)

    below : (n : Next) → first_of (node_here s nodes) (piece_here s pieces) ≡ Some n → IsBelow s n
    below n is = MatchOption-at_some (Unit {0}) (IsBelow s) n is (nodes_below s pieces nodes)

-- what holds of what each list gives holds of what comes next
pub next_keeps : (s : ExtentStream) (pieces : List Piece) (nodes : List TreeNode) (P : Next → Type 0) → ((x : Group) → slice_get s.groups s.group ≡ Some x → P (next.Group x)) → ((x : TreeNode) → slice_get nodes s.node ≡ Some x → P (next.Node x))
    → ((x : Piece) → slice_get pieces s.piece ≡ Some x → P (next.Piece x)) → IfSome (first_of (group_here s) (first_of (node_here s nodes) (piece_here s pieces))) P
next_keeps s pieces nodes P groups others last =
    first_keeps P (group_here s) (first_of (node_here s nodes) (piece_here s pieces)) (map_keeps P next.Group (slice_get s.groups s.group) groups)
    (first_keeps P (node_here s nodes) (piece_here s pieces) (map_keeps P next.Node (slice_get nodes s.node) others) (map_keeps P next.Piece (slice_get pieces s.piece) last))

pub next_small : (s : ExtentStream) (pieces : List Piece) (nodes : List TreeNode) → FitsExtents s pieces nodes → IfSome (first_of (group_here s) (first_of (node_here s nodes) (piece_here s pieces))) IsSmallNext
next_small s pieces nodes fits =
    next_keeps s pieces nodes IsSmallNext (λ x there. all_at IsSmallGroup s.groups s.group x fits.groups_small there) (λ x there. tt) (λ x there. all_at IsSmallPiece pieces s.piece x fits.pieces_small there)

pub below_small : (s : ExtentStream) (pieces : List Piece) (nodes : List TreeNode) → FitsExtents s pieces nodes → IfSome (first_of (node_here s nodes) (piece_here s pieces)) IsSmallNext
below_small s pieces nodes fits =
    first_keeps IsSmallNext (node_here s nodes) (piece_here s pieces) (map_keeps IsSmallNext next.Node (slice_get nodes s.node) (λ x there. tt))
    (map_keeps IsSmallNext next.Piece (slice_get pieces s.piece) (λ x there. all_at IsSmallPiece pieces s.piece x fits.pieces_small there))

pub next_fits : (s : ExtentStream) (pieces : List Piece) (nodes : List TreeNode) → FitsExtents s pieces nodes
    → IfSome (first_of (group_here s) (first_of (node_here s nodes) (piece_here s pieces))) (λ n. FitsExtents (passed s n) pieces nodes)
next_fits s pieces nodes fits =
    next_keeps s pieces nodes (λ n. FitsExtents (passed s n) pieces nodes)
    (λ x there. let within = slice_get_within s.groups s.group x there in record { pieces_small = fits.pieces_small; groups_small = fits.groups_small; group_within = omega (arith, within); node_within = fits.node_within; piece_within = fits.piece_within })
    (λ x there. let within = slice_get_within nodes s.node x there in record { pieces_small = fits.pieces_small; groups_small = fits.groups_small; group_within = fits.group_within; node_within = omega (arith, within); piece_within = fits.piece_within })
    (λ x there. let within = slice_get_within pieces s.piece x there in record { pieces_small = fits.pieces_small; groups_small = fits.groups_small; group_within = fits.group_within; node_within = fits.node_within; piece_within = omega (arith, within) })

-- a place that a count reaches
at_some : {A : Type 0} (f : A → Next) (o : Option A) (k : ℕ) → IfSome (option_map f o) (λ n. k + 1 < 2 ^ 64) → (x : A) → o ≡ Some x → k + 1 < 2 ^ 64
at_some f None k room x there = absurd cc
at_some f (Some y) k room x there = room

pub next_room : (s : ExtentStream) (pieces : List Piece) (nodes : List TreeNode) → IfSome (group_here s) (λ n. s.group + 1 < 2 ^ 64) → IfSome (node_here s nodes) (λ n. s.node + 1 < 2 ^ 64) → IfSome (piece_here s pieces) (λ n. s.piece + 1 < 2 ^ 64)
    → IfSome (first_of (group_here s) (first_of (node_here s nodes) (piece_here s pieces))) (λ n. place_of s n + 1 < 2 ^ 64)
next_room s pieces nodes groups others last =
    next_keeps s pieces nodes (λ n. place_of s n + 1 < 2 ^ 64) (at_some next.Group (slice_get s.groups s.group) s.group groups) (at_some next.Node (slice_get nodes s.node) s.node others) (at_some next.Piece (slice_get pieces s.piece) s.piece last)
