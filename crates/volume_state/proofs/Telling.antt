-- What is told of reserved blocks, from the parts of a volume to the whole.
use Rattle.volume_state.proofs.Imports.{◌≡◌, ⊎_elim, inl, inr, ℕ, List, [], ◌∷◌, ◌++◌, Contains, Option, Some, None, Result, Ok, Err, refl, sym, ◌∙◌, ap, subst, arith, option_and_then, option_or, Contains-append_right, FS_TREE, Image, BtrAnswer, BtrRefusal, entry_refusals, if_there, image_refusals, image_refusals_in, items_at, pointer_in, refusals_below, root_refusals, saved_location, saved_refusals, tree_number, IsBtrfsOpened, or_later, tree_of, own_map, own_super, way_refusals, FindsNumbered, FindsSaved, FindsTree, pointer_of, root_item, roots_on, of_disk, Super, TreeItem, IsAmong, found, wrong, MapRange, NodePointer, Tree, at_head, head_or_tail, HoldsExtent, HoldsNodeOf, HoldsPartOf, IsInFiles, TellsReserved, file_trees, named_by, numbered, tree_if, among_first, among_left}
use Rattle.std.specs.Result.{MatchResult}
use Rattle.volume_state.proofs.Placed.{no_some, some_is}
use Rattle.volume_state.proofs.Reaching.{at_root, there}

-- another refusal, or another fact of what is told
pub match_so : {T E : Type 0} (r : Result T E) (P Q : T → Type 0) (A B : E → Type 0) → ((x : T) → P x → Q x) → ((e : E) → A e → B e) → MatchResult r P A → MatchResult r Q B
match_so (Ok x) P Q A B good bad is = good x is
match_so (Err e) P Q A B good bad is = bad e is

pub tells_so : (P Q : ℕ → Type 0) (blocks : ℕ) → ((b : ℕ) → P b → Q b) → ((b : ℕ) → Q b → P b) → (o : Option ℕ) → TellsReserved P blocks o → TellsReserved Q blocks o
tells_so P Q blocks to back None none = λ b reserved is. none b reserved (back b is)
tells_so P Q blocks to back (Some b) one = (one.0, to b one.1)

-- a tree whose nodes lie in no reserved block, by its extents
pub part_told : (image : Image) (ranges : List MapRange) (t : Tree) (blocks : ℕ) (o : Option ℕ) → TellsReserved (HoldsNodeOf image ranges t) blocks None → TellsReserved (HoldsExtent (found image ranges t) ranges) blocks o
    → TellsReserved (HoldsPartOf image ranges t) blocks o
part_told image ranges t blocks None nodes extents = λ b reserved holds. ⊎_elim (nodes b reserved) (extents b reserved) holds
part_told image ranges t blocks (Some b) nodes extents = (extents.0, inr extents.1)

-- a tree by what was found of its nodes and of its extents, the nodes first
pub parts_told : (image : Image) (ranges : List MapRange) (t : Tree) (blocks : ℕ) (first second : Option ℕ) → TellsReserved (HoldsNodeOf image ranges t) blocks first → TellsReserved (HoldsExtent (found image ranges t) ranges) blocks second
    → TellsReserved (HoldsPartOf image ranges t) blocks (option_or first second)
parts_told image ranges t blocks None second nodes extents = part_told image ranges t blocks second nodes extents
parts_told image ranges t blocks (Some b) second nodes extents = (nodes.0, inl nodes.1)

-- ---- the two trees of files
module _ (image : Image) (s : Super) (ranges : List MapRange) where
  abbrev roots : List TreeItem
  roots = roots_on image s ranges

  abbrev entries : NodePointer → List BtrRefusal
  entries p = entry_refusals image ranges (tree_of s FS_TREE p)

  abbrev named_number : NodePointer → Option ℕ
  named_number p = option_and_then tree_number (saved_location (items_at image s ranges FS_TREE p))

  -- a part of the two lies in the block
  pub record InTrees (b : ℕ) : Type 0 where
    pub tree : Tree
    pub among : Contains (file_trees image s ranges) tree
    pub holds : HoldsPartOf image ranges tree b

  pointer_at : (root : Option TreeItem) (i : TreeItem) (p : NodePointer) → root ≡ Some i → pointer_of i.body ≡ Some p → pointer_in root ≡ Some p
  pointer_at root i p is at = ap pointer_in is ∙ at

  -- no file tree
  pub no_trees : (blocks : ℕ) → root_item FS_TREE roots ≡ None → TellsReserved InTrees blocks None
  no_trees blocks none b reserved holds =
      let empty : file_trees image s ranges ≡ [] = ap (λ (o : Option TreeItem). tree_if s FS_TREE (pointer_in o) ++ named_by image s ranges (pointer_in o)) none in
      absurd (omega (arith, (subst (λ (ts : List Tree). Contains ts holds.tree) empty holds.among).1))

  -- ---- a file tree
  module _ (i : TreeItem) (p : NodePointer) (is : root_item FS_TREE roots ≡ Some i) (at : pointer_of i.body ≡ Some p) where
    abbrev file : Tree
    file = tree_of s FS_TREE p

    trees_are : file_trees image s ranges ≡ file ∷ numbered image s ranges (named_number p)
    trees_are = ap (λ (o : Option NodePointer). tree_if s FS_TREE o ++ named_by image s ranges o) (pointer_at (root_item FS_TREE roots) i p is at)

    pub file_told : (blocks b : ℕ) → TellsReserved (HoldsPartOf image ranges file) blocks (Some b) → TellsReserved InTrees blocks (Some b)
    file_told blocks b one = (one.0, record { tree = file; among = subst (λ (ts : List Tree). Contains ts file) (sym trees_are) (at_head file (numbered image s ranges (named_number p))); holds = one.1 })

    -- where there is none, the file tree is alone
    alone_by : (o : Option ℕ) → FindsNumbered s roots o (Ok None) → numbered image s ranges o ≡ []
    alone_by None finds = refl
    alone_by (Some number) finds = ap (λ (root : Option TreeItem). tree_if s number (pointer_in root)) finds

    alone : FindsSaved s roots (entries p) (found image ranges file) (Ok None) → numbered image s ranges (named_number p) ≡ []
    alone finds = ⊎_elim (λ early. absurd (cc (early.1))) (λ late. alone_by (named_number p) late.1) finds

    pub alone_told : (blocks : ℕ) → FindsSaved s roots (entries p) (found image ranges file) (Ok None) → TellsReserved (HoldsPartOf image ranges file) blocks None → TellsReserved InTrees blocks None
    alone_told blocks finds none b reserved holds =
        let among : Contains (file ∷ []) holds.tree = subst (λ (ts : List Tree). Contains (file ∷ ts) holds.tree) (alone finds) (subst (λ (ts : List Tree). Contains ts holds.tree) trees_are holds.among) in
        ⊎_elim (λ first. none b reserved (subst (λ (t : Tree). HoldsPartOf image ranges t b) (sym first) holds.holds)) (λ later. absurd (omega (arith, later.1))) (head_or_tail file [] holds.tree among)

    -- where there is one, it is the other
    pub record IsOther (t : Tree) : Type 0 where
      pub clear : entries p ≡ []
      pub number : ℕ
      pub named : named_number p ≡ Some number
      pub q : NodePointer
      pub root : pointer_in (root_item number roots) ≡ Some q
      pub tree : t ≡ tree_of s number q

    other_by : (o : Option ℕ) (t : Tree) → named_number p ≡ o → entries p ≡ [] → FindsNumbered s roots o (Ok (Some t)) → IsOther t
    other_by None t named clear finds = absurd (cc finds)
    other_by (Some number) t named clear finds = record {
      clear = clear;
      number = number;
      named = named;
      q = finds.1;
      root = pointer_at (root_item number roots) finds.0 finds.1 finds.2 finds.3;
      tree = finds.4;
    }

    pub other_of : (t : Tree) → FindsSaved s roots (entries p) (found image ranges file) (Ok (Some t)) → IsOther t
    other_of t finds = ⊎_elim (λ early. absurd (cc (early.1))) (λ late. other_by (named_number p) t refl late.0 late.1) finds

    both_are : (t : Tree) → IsOther t → file_trees image s ranges ≡ file ∷ t ∷ []
    both_are t is_other =
        trees_are
        ∙ (ap (λ (o : Option ℕ). file ∷ numbered image s ranges o) is_other.named
        ∙ (ap (λ (o : Option NodePointer). file ∷ tree_if s is_other.number o) is_other.root ∙ ap (λ (x : Tree). file ∷ x ∷ []) (sym is_other.tree)))

    pub both_told : (blocks : ℕ) (t : Tree) (o : Option ℕ) → IsOther t → TellsReserved (HoldsPartOf image ranges file) blocks None → TellsReserved (HoldsPartOf image ranges t) blocks o → TellsReserved InTrees blocks o
    both_told blocks t None is_other none other = λ b reserved holds.
        ⊎_elim (λ first. none b reserved (subst (λ (x : Tree). HoldsPartOf image ranges x b) (sym first) holds.holds))
        (λ rest. ⊎_elim (λ second. other b reserved (subst (λ (x : Tree). HoldsPartOf image ranges x b) (sym second) holds.holds)) (λ later. absurd (omega (arith, later.1))) (head_or_tail t [] holds.tree rest))
        (head_or_tail file (t ∷ []) holds.tree (subst (λ (ts : List Tree). Contains ts holds.tree) (both_are t is_other) holds.among))
    both_told blocks t (Some b) is_other none other =
        (other.0, record { tree = t; among = subst (λ (ts : List Tree). Contains ts t) (sym (both_are t is_other)) (Contains-append_right (file ∷ []) (t ∷ []) t (at_head t [])); holds = other.1 })

    -- by what was found of each
    pub alone_by_own : (blocks : ℕ) (own : Option ℕ) → FindsSaved s roots (entries p) (found image ranges file) (Ok None) → TellsReserved (HoldsPartOf image ranges file) blocks own → TellsReserved InTrees blocks own
    alone_by_own blocks None finds told = alone_told blocks finds told
    alone_by_own blocks (Some b) finds told = file_told blocks b told

    pub both_by_each : (blocks : ℕ) (t : Tree) (own other : Option ℕ) → IsOther t → TellsReserved (HoldsPartOf image ranges file) blocks own → TellsReserved (HoldsPartOf image ranges t) blocks other → TellsReserved InTrees blocks (option_or own other)
    both_by_each blocks t None other is_other first second = both_told blocks t other is_other first second
    both_by_each blocks t (Some b) other is_other first second = file_told blocks b first

-- the file tree that was found
pub record IsFile (image : Image) (s : Super) (ranges : List MapRange) (t : Tree) : Type 0 where
  pub i : TreeItem
  pub p : NodePointer
  pub is : root_item FS_TREE (roots_on image s ranges) ≡ Some i
  pub at : pointer_of i.body ≡ Some p
  pub tree : tree_of s FS_TREE p ≡ t

pub file_of : (image : Image) (s : Super) (ranges : List MapRange) (o : Option Tree) (t : Tree) → o ≡ Some t → FindsTree s FS_TREE (root_item FS_TREE (roots_on image s ranges)) (Ok o) → IsFile image s ranges t
file_of image s ranges None t is finds = absurd (no_some t is)
file_of image s ranges (Some x) t is finds = record { i = finds.0; p = finds.1; is = finds.2; at = finds.3; tree = sym finds.4 ∙ some_is x t is }

pub no_file : (image : Image) (s : Super) (ranges : List MapRange) (o : Option Tree) → o ≡ None → FindsTree s FS_TREE (root_item FS_TREE (roots_on image s ranges)) (Ok o) → root_item FS_TREE (roots_on image s ranges) ≡ None
no_file image s ranges None is finds = finds
no_file image s ranges (Some x) is finds = absurd (no_some x (sym is))

-- ---- of the disk
module _ (image : Image) (s : Super) (ranges : List MapRange) (opened : IsBtrfsOpened image s ranges) where
  pub files_told : (blocks : ℕ) (o : Option ℕ) → TellsReserved (InTrees image s ranges) blocks o → TellsReserved (IsInFiles image) blocks o
  files_told blocks o told =
      tells_so (InTrees image (own_super image) (own_map image)) (IsInFiles image) blocks (λ b is. record { tree = is.tree; among = is.among; holds = is.holds }) (λ b is. record { tree = is.tree; among = is.among; holds = is.holds }) o
      (of_disk image s ranges (λ x m. TellsReserved (InTrees image x m) blocks o) opened told)

  pub way_among : (e : BtrAnswer) → IsAmong (image_refusals image s ranges) e → IsAmong (way_refusals image) e
  way_among e among = of_disk image s ranges (λ x m. IsAmong (image_refusals image x m) e) opened among
