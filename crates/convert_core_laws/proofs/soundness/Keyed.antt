-- A use of data has the key of the file extent that tells it, so no use is told twice.
use Rattle.convert_core_laws.proofs.Imports.{◌≡◌, ◌≢◌, ◌<◌, ℕ, ◌*◌, ◌^◌, eqb, Bool, true, false, List, [], ◌∷◌, filter, get_or, Option, Some, None, refl, sym, ap, subst, ◌∙◌, ⊎_elim, arith, All, AllPairs, Contains, if◌then◌else◌, ordering_reverse, Ordering, Less, Equal, Greater, All-cons, All-contains, Contains-append_cases, Contains-get_or, AllPairs-cons, EXTENT_DATA, CONV_IMAGE_SUBVOL, FS_TREE, from_map, in_filter, in_flat_map, Image, Ids, is_hole, ContentValue, FileExtentValue, Inline, Prealloc, Regular, file_extent_of, make_key, Key, Item, IsNodeSize, DataUse, Recount, TreeOn, all_trees, data_uses, use_by, use_in, uses_in, IsMaking, Making, HasPieces, file_tree_items, image_tree_items, TreeRoots, named_extents, IsNewVolume, extents_at, file_block, piece_bytes, pieces_of_volume, source_block, image_head, image_items, ImageKeysAscend, file_keys_ascend, extent_item, regular_extent, contains_cases, item_cmp, TreeNode, Rise, ascends_rise, item_total, Options, Piece, recount_for, NewTree, Files, SavedImage, AreDistinct, distinct_flat, distinct_nil, distinct_one}
use Rattle.btr_check_rules.specs.Recount.{use_of}
use Rattle.convert_core_laws.proofs.reading.SavedPieces.{member}
use Rattle.convert_core_laws.proofs.soundness.AllUses.{HasUses, from_is, has_uses, none_used, of_files, of_image, of_none, source_low, uses_are}
use Rattle.convert_core_laws.proofs.soundness.Trees.{all_once}
use Rattle.convert_core_laws.proofs.soundness.Unreserved.{fit_size}
use Rattle.convert_core_laws.proofs.soundness.Uses.{IsUse, by_file, by_image, file_piece, owner_low, piece_use, use_at, uses_from}
use Rattle.convert_core_laws.proofs.reading.Named.{extents_named}
use Rattle.convert_core_laws.proofs.soundness.Among.{extents_in, others_all, rooted_there, tree_in, trees_all}
use Rattle.convert_core_laws.proofs.soundness.Listed.{not_chunks, not_root}

-- ---- one item tells at most one use, of its tree

use_tree : (tree : ℕ) (i : Item) (o : Option FileExtentValue) (u : DataUse) → Contains (use_in tree i o) u → u.tree ≡ tree
use_tree tree i None u h = absurd (omega (arith, h.1))
use_tree tree i (Some e) u h = by e.content h
  where
    of_range : (b : Bool) (x : DataUse) → x.tree ≡ tree → Contains (if b then [] else x ∷ []) u → u.tree ≡ tree
    of_range true x is l = absurd (omega (arith, l.1))
    of_range false x is l = ⊎_elim (λ (e : x ≡ u). sym (ap (λ (y : DataUse). y.tree) e) ∙ is) (λ (none : Contains [] u). absurd (omega (arith, none.1))) (contains_cases u x [] l)

    by : (c : ContentValue) → Contains (use_by tree i e.compression c) u → u.tree ≡ tree
    by (Inline bytes) k = absurd (omega (arith, k.1))
    by (Prealloc d) k = of_range (is_hole d) (use_of tree i e.compression false d) refl k
    by (Regular d) k = of_range (is_hole d) (use_of tree i e.compression true d) refl k

one_use : (tree : ℕ) (i : Item) (o : Option FileExtentValue) → AreDistinct (use_in tree i o)
one_use tree i None = distinct_nil [] (λ u h. omega (arith, h.1))
one_use tree i (Some e) = by e.content
  where
    of_range : (b : Bool) (x : DataUse) → AreDistinct (if b then [] else x ∷ [])
    of_range true x = distinct_nil [] (λ u h. omega (arith, h.1))
    of_range false x = distinct_one x

    by : (c : ContentValue) → AreDistinct (use_by tree i e.compression c)
    by (Inline bytes) = distinct_nil [] (λ u h. omega (arith, h.1))
    by (Prealloc d) = of_range (is_hole d) (use_of tree i e.compression false d)
    by (Regular d) = of_range (is_hole d) (use_of tree i e.compression true d)

pub uses_tree : (t : TreeOn) (u : DataUse) → Contains (uses_in t) u → u.tree ≡ t.number
uses_tree t u h = let at = uses_from t u h in use_tree t.number at.0 (file_extent_of at.0.1) u at.3

-- the key of the file extent that tells a use
abbrev pub HasKeyOf : Item → DataUse → Type 0
HasKeyOf i u = i.0 ≡ make_key u.inode EXTENT_DATA u.offset

less_never : (o : Ordering) → o ≡ ordering_reverse o → o ≡ Less → ⊥
less_never Less e less = cc e
less_never Equal e less = cc less
less_never Greater e less = cc less

-- items that ascend have different keys
pub no_two : (a b : Item) → item_cmp a b ≡ Less → a.0 ≡ b.0 → ⊥
no_two a b less same =
    less_never (item_cmp b b) (item_total.antisymm b b) (subst (λ (k : Key). item_cmp (k, a.1) b ≡ Less) same less)

told_of : (t : TreeOn) (i : Item) (u : DataUse) (b : Bool) → Contains (if b then use_in t.number i (file_extent_of i.1) else []) u → (b ≡ true) × Contains (use_in t.number i (file_extent_of i.1)) u
told_of t i u true h = (refl, h)
told_of t i u false h = absurd (omega (arith, h.1))

-- where uses have the keys of their items, and items ascend, no use is told twice
pub tree_distinct : (t : TreeOn) → Rise t.items → ((i : Item) (u : DataUse) → Contains t.items i → eqb i.0.kind EXTENT_DATA ≡ true → Contains (use_in t.number i (file_extent_of i.1)) u → HasKeyOf i u) → AreDistinct (uses_in t)
tree_distinct t up keyed =
    distinct_flat (λ (i : Item). if eqb i.0.kind EXTENT_DATA then use_in t.number i (file_extent_of i.1) else []) t.items (λ i h. each i (eqb i.0.kind EXTENT_DATA))
    (λ i j d l h u one two.
    let a : Item = get_or t.items i d in
    let b : Item = get_or t.items j d in
    let first = told_of t a u (eqb a.0.kind EXTENT_DATA) one in
    let second = told_of t b u (eqb b.0.kind EXTENT_DATA) two in
    let key_a : HasKeyOf a u = keyed a u (Contains-get_or t.items i d (omega (arith, l, h))) first.0 first.1 in
    let key_b : HasKeyOf b u = keyed b u (Contains-get_or t.items j d h) second.0 second.1 in
    no_two a b (up i j d l h) (key_a ∙ sym key_b))
  where
    each : (i : Item) (b : Bool) → AreDistinct (if b then use_in t.number i (file_extent_of i.1) else [])
    each i true = one_use t.number i (file_extent_of i.1)
    each i false = distinct_nil [] (λ u h. omega (arith, h.1))

-- ---- the tree of the saved image

abbrev is_file_extent : Item → Bool
is_file_extent i = eqb i.0.kind EXTENT_DATA

head_kinds : (blocks nbytes now : ℕ) (datasum : Bool) → filter is_file_extent (image_head blocks nbytes datasum now) ≡ []
unfolding image_head
head_kinds blocks nbytes now datasum = refl

pub image_parts : (blocks : ℕ) (pieces : List Piece) (datasum : Bool) (now : ℕ) (i : Item) → Contains (image_items blocks pieces datasum now) i → is_file_extent i ≡ true → Contains (extents_at 257 source_block (pieces_of_volume pieces)) i
unfolding image_items
image_parts blocks pieces datasum now i h is =
    let head : List Item = image_head blocks (piece_bytes (pieces_of_volume pieces)) datasum now in
    ⊎_elim
    (λ (first : Contains head i).
    let empty : Contains [] i = subst (λ (l : List Item). Contains l i) (head_kinds blocks (piece_bytes (pieces_of_volume pieces)) now datasum) (in_filter is_file_extent head i first is) in
    absurd (omega (arith, empty.1)))
    (λ second. second) (Contains-append_cases head (extents_at 257 source_block (pieces_of_volume pieces)) i h)

module _ (image : Image) (m : Making) (made : IsMaking image m) (size : IsNodeSize m.options.nodesize) where
  abbrev of : HasPieces m.volume image m.options m.plan m.pieces
  of = made.has_pieces

  piece_key : (tree inode block : ℕ) (p : Piece) → Contains m.pieces p → 4096 * block < 2 ^ 64 → (i : Item) → extent_item inode block (regular_extent p.place p.count) ≡ i → (u : DataUse) → Contains (use_in tree i (file_extent_of i.1)) u → HasKeyOf i u
  piece_key tree inode block p h low i is u k =
      let told = piece_use image m made tree inode block p h low in
      let one : Contains (use_at tree inode block p ∷ []) u =
      subst (λ (l : List DataUse). Contains l u) told (subst (λ (j : Item). Contains (use_in tree j (file_extent_of j.1)) u) (sym is) k) in
      ⊎_elim (λ (e : use_at tree inode block p ≡ u). sym (ap (λ (j : Item). j.0) is) ∙ ap (λ (x : DataUse). make_key x.inode EXTENT_DATA x.offset) e)
      (λ (none : Contains [] u). absurd (omega (arith, none.1))) (contains_cases u (use_at tree inode block p) [] one)

  image_key : (i : Item) (u : DataUse) → Contains (image_tree_items m) i → eqb i.0.kind EXTENT_DATA ≡ true → Contains (use_in CONV_IMAGE_SUBVOL i (file_extent_of i.1)) u → HasKeyOf i u
  image_key i u h is k =
      let at = from_map (λ (p : Piece). extent_item 257 (source_block p) (regular_extent p.place p.count)) (pieces_of_volume m.pieces) i (image_parts m.volume.sup.blocks m.pieces m.options.datasum m.now i h is) in
      let p : Piece = at.0 in
      let of_all = member image m made size p at.1 in
      let low = source_low image m made size p of_all.0 (from_is image m made size p of_all.1) in
      piece_key CONV_IMAGE_SUBVOL 257 (source_block p) p of_all.0 (omega (arith, low)) i at.2 u k

  -- ---- the file tree

  file_key : (i : Item) (u : DataUse) → Contains (file_tree_items image m) i → eqb i.0.kind EXTENT_DATA ≡ true → Contains (use_in FS_TREE i (file_extent_of i.1)) u → HasKeyOf i u
  file_key i u h is k =
      let at = file_piece image m made i u h is k in
      let low = owner_low image m made at.0 at.1 at.2 at.3 in
      piece_key FS_TREE at.1 (file_block at.0) at.0 at.2 (omega (arith, low)) i at.4 u k

  -- the items of both trees ascend
  pub files_rise : Rise (file_tree_items image m)
  files_rise = ascends_rise (file_tree_items image m) (file_keys_ascend m.volume image m.options m.plan m.pieces of)

  pub saved_rise : ImageKeysAscend → Rise (image_tree_items m)
  saved_rise rising = ascends_rise (image_tree_items m) (rising m.volume image m.options m.plan m.pieces m.now of).saved

-- ---- all trees

module _ (o : Options) (ids : Ids) (now : ℕ) (image other : Image) (m : Making) (r : TreeRoots) (nodes : List TreeNode) (v : IsNewVolume o ids now image other m r nodes) (rising : ImageKeysAscend) where
  abbrev making : IsMaking image m
  making = v.new.conversion.making

  abbrev fit : IsNodeSize m.options.nodesize
  fit = fit_size o ids now image other m r nodes v

  abbrev k : Recount
  k = recount_for image other m r nodes

  abbrev Other : TreeOn → TreeOn → Type 0
  Other t u = t.number ≢ u.number

  -- trees by their numbers
  pub all_other : AllPairs (λ t u. t.number ≢ u.number) (all_trees k)
  all_other =
      AllPairs-cons Other k.chunk_tree (k.root_tree ∷ k.others)
      (All-cons (Other k.chunk_tree) k.root_tree k.others (λ e. omega (arith, e))
      (others_all image other m r nodes (Other k.chunk_tree) (λ e. omega (arith, e)) (λ t e. not_chunks t (sym e))))
      (AllPairs-cons Other k.root_tree k.others
      (others_all image other m r nodes (Other k.root_tree) (λ e. omega (arith, e)) (λ t e. not_root t (sym e)))
      (λ i j d l h e. let less : (get_or k.others i d).number < (get_or k.others j d).number = all_once o ids now image other m r nodes v i j d l h in omega (arith, less, e)))

  -- data is used by two trees
  pub use_numbers : (u : DataUse) → Contains (data_uses k) u → (u.tree ≢ FS_TREE) → (u.tree ≢ CONV_IMAGE_SUBVOL) → ⊥
  use_numbers u h not_files not_saved = by (uses_are image m making fit other r nodes u h)
    where
      by : IsUse m u → ⊥
      by (by_file p inode block l own e) = not_files (ap (λ (x : DataUse). x.tree) e)
      by (by_image p block l from e) = not_saved (ap (λ (x : DataUse). x.tree) e)

  abbrev Once : TreeOn → Type 0
  Once t = AreDistinct (uses_in t)

  no_uses : (t : TreeOn) → Contains (all_trees k) t → t.number ≢ FS_TREE → t.number ≢ CONV_IMAGE_SUBVOL → Once t
  no_uses t h one two =
      distinct_nil (uses_in t) (λ u l.
      let is = uses_tree t u l in
      use_numbers u (in_flat_map uses_in (all_trees k) t u h l) (λ e. one (sym is ∙ e)) (λ e. two (sym is ∙ e)))

  files_once : Once (tree_in image other m r nodes Files)
  files_once = tree_distinct (tree_in image other m r nodes Files) (files_rise image m making fit) (λ i u h is l. file_key image m making fit i u h is l)

  image_once : Once (tree_in image other m r nodes SavedImage)
  image_once = tree_distinct (tree_in image other m r nodes SavedImage) (saved_rise image m making fit rising) (λ i u h is l. image_key image m making fit i u h is l)

  -- each tree of the list
  tree_once : (t : NewTree) → Once (tree_in image other m r nodes t)
  tree_once t = by (has_uses image m making fit other r nodes t)
    where
      by : HasUses image m making fit other r nodes t → Once (tree_in image other m r nodes t)
      by (of_files is) = subst (λ (x : NewTree). Once (tree_in image other m r nodes x)) (sym is) files_once
      by (of_image is) = subst (λ (x : NewTree). Once (tree_in image other m r nodes x)) (sym is) image_once
      by (of_none none) = distinct_nil (uses_in (tree_in image other m r nodes t)) (λ u h. absurd (none_used image m making fit other r nodes t none u h))

  each_once : All Once (all_trees k)
  each_once =
      trees_all image other m r nodes Once (no_uses k.chunk_tree (0, omega arith, refl) (λ e. omega (arith, e)) (λ e. omega (arith, e)))
      (no_uses k.root_tree (1, omega arith, refl) (λ e. omega (arith, e)) (λ e. omega (arith, e)))
      (no_uses (extents_in image other m r nodes) (rooted_there image other m r nodes (named_extents m r nodes) (extents_named image other m r nodes)) (λ e. omega (arith, e)) (λ e. omega (arith, e))) tree_once

  -- no use of data is found twice
  pub uses_distinct : AreDistinct (data_uses k)
  uses_distinct =
      distinct_flat uses_in (all_trees k) (λ t h. All-contains Once (all_trees k) t each_once h)
      (λ i j d l h u one two. all_other i j d l h (sym (uses_tree (get_or (all_trees k) i d) u one) ∙ uses_tree (get_or (all_trees k) j d) u two))
