-- What is answered where the rows of a volume are read.
use Rattle.btr_reader.proofs.Imports.{◌≡◌, inl, inr, ℕ, Bool, List, [], map, Contains, Option, Some, None, ◌∙◌, ap, subst, OnOk, MatchResult, FS_TREE, Image, BtrAnswer, Refused, Fault, Memory, BtrRefusal, Super, MapRange, NodePointer, Tree, TreeItem, found, wrong, WholeRow, row_of, Row, NodeId, has_root, BreaksNames, KeepsNames, NameTable, AreNamed, links_of, AreTreeLinks, wanted_at, RefusesContents, IsChecked, IsMemory, RefusesChecked, RefusesRows, RefusesTree, tree_of, FindsTree, root_item, pointer_of, AreRows, AreBtrfsRows, BreaksExtents, CanBeRead, roots_on, IsFileTreeRefusal, no_root_item, bad_root_item, bad_tree, bad_names, bad_extents}
use Rattle.std.specs.Prelude.{Result, Ok, Err, IfOk, IfErr}
use Rattle.btr_reader_names.specs.Read.{BlamesTree}
use Rattle.btr_reader_names.specs.Refuses.{RefusesNames}
use Rattle.btr_reader.proofs.Bridging.{breaks_named, none_among}

some_none : {X : Type 0} (x : X) (o : Option X) → o ≡ Some x → o ≡ None → ⊥
some_none x o some none = cc

same_some : {X : Type 0} (x y : X) (o : Option X) → o ≡ Some x → o ≡ Some y → x ≡ y
same_some x y o first second = cc

refused_checked : (items : List TreeItem) (root : ℕ) (roots : ℕ → Bool) (e : BtrAnswer) → RefusesNames roots items root e → RefusesChecked roots items root e
refused_checked items root roots (Refused r) h = h
refused_checked items root roots Fault h = tt
refused_checked items root roots Memory h = tt

-- what a check of names answers, by numbers that are those of the trees of the root tree
pub checked_by : {X : Type 0} (has : X → NodeId → Bool) (names : NameTable) (result : Result X BtrAnswer) (items : List TreeItem) (root : ℕ) (told roots : ℕ → Bool) → told ≡ roots
    → IfOk result (λ x. AreNamed items (has x)) → OnOk result (KeepsNames told items root) → IfOk result (λ x. AreTreeLinks items (links_of names (has x))) → IfErr result (RefusesNames told items root)
    → MatchResult result (λ x. IsChecked names (has x) items root roots) (RefusesChecked roots items root)
checked_by has names (Ok x) items root told roots same named keeps links refused =
    record { are_named = named; keeps = subst (λ (t : ℕ → Bool). KeepsNames t items root) same keeps; links = links }
checked_by has names (Err e) items root told roots same named keeps links refused =
    refused_checked items root roots e (subst (λ (t : ℕ → Bool). RefusesNames t items root e) same refused)

pub of_memory : (image : Image) (s : Super) (ranges : List MapRange) (e : BtrAnswer) → IsMemory e → RefusesTree image s ranges e
of_memory image s ranges (Refused r) h = absurd h
of_memory image s ranges Fault h = absurd h
of_memory image s ranges Memory h = tt

-- no file tree is found
pub not_found : (image : Image) (s : Super) (ranges : List MapRange) (e : BtrAnswer) → FindsTree s FS_TREE (root_item FS_TREE (roots_on image s ranges)) (Err e) → RefusesTree image s ranges e
not_found image s ranges (Refused r) (i, there, off, is) = bad_root_item i there off is
not_found image s ranges Fault h = tt
not_found image s ranges Memory h = tt

-- a volume without a log tree
pub tree_or_log : (image : Image) (s : Super) (ranges : List MapRange) (e : BtrAnswer) → s.log_root ≡ 0 → RefusesTree image s ranges e → RefusesRows image s ranges e
tree_or_log image s ranges (Refused r) none h = inr (none, h)
tree_or_log image s ranges Fault none h = tt
tree_or_log image s ranges Memory none h = tt

pub without_log : (image : Image) (s : Super) (ranges : List MapRange) (result : Result (List Row) BtrAnswer) → s.log_root ≡ 0
    → MatchResult result (λ rows. (whole : List WholeRow) × AreBtrfsRows image s ranges whole × (rows ≡ map row_of whole)) (RefusesTree image s ranges)
    → MatchResult result (λ rows. (s.log_root ≡ 0) × ((whole : List WholeRow) × AreBtrfsRows image s ranges whole × (rows ≡ map row_of whole))) (RefusesRows image s ranges)
without_log image s ranges (Ok rows) none h = (none, h)
without_log image s ranges (Err e) none h = tree_or_log image s ranges e none h

module _ (image : Image) (s : Super) (ranges : List MapRange) (i : TreeItem) (p : NodePointer) (there : root_item FS_TREE (roots_on image s ranges) ≡ Some i) (at : pointer_of i.body ≡ Some p) where
  abbrev items : List TreeItem
  items = found image ranges (tree_of s FS_TREE p)

  abbrev roots : ℕ → Bool
  roots = has_root (roots_on image s ranges)

  tree_blamed : (e : BtrAnswer) → BlamesTree image ranges (tree_of s FS_TREE p) e → RefusesTree image s ranges e
  tree_blamed (Refused r) among = bad_tree i p there at among
  tree_blamed Fault h = tt
  tree_blamed Memory h = tt

  pub names_refused : (e : BtrAnswer) → RefusesChecked roots items p.address e → RefusesTree image s ranges e
  names_refused (Refused r) broken = bad_names i p there at broken
  names_refused Fault h = tt
  names_refused Memory h = tt

  contents_blamed : (has : NodeId → Bool) (e : BtrAnswer) → AreNamed items has → RefusesContents (wanted_at has items) image ranges (tree_of s FS_TREE p) e → RefusesTree image s ranges e
  contents_blamed has (Refused r) named (inl among) = bad_tree i p there at among
  contents_blamed has (Refused r) named (inr broken) = bad_extents i p there at (breaks_named has ranges items r named broken)
  contents_blamed has Fault named h = tt
  contents_blamed has Memory named h = tt

  -- the tree that is read is the file tree
  module _ (slice : List MapRange) (t : Tree) (same : slice ≡ ranges) (is : t ≡ tree_of s FS_TREE p) where
    pub here : (P : List MapRange → Tree → Type 0) → P slice t → P ranges (tree_of s FS_TREE p)
    here P h = subst (P ranges) is (subst (λ (r : List MapRange). P r t) same h)

    pub tree_refused : (e : BtrAnswer) → BlamesTree image slice t e → RefusesTree image s ranges e
    tree_refused e h = tree_blamed e (here (λ r x. BlamesTree image r x e) h)

    pub contents_refused : (has : NodeId → Bool) (e : BtrAnswer) → AreNamed items has → RefusesContents (wanted_at has (found image slice t)) image slice t e → RefusesTree image s ranges e
    contents_refused has e named h = contents_blamed has e named (here (λ r x. RefusesContents (wanted_at has (found image r x)) image r x e) h)

  module _ (sound : wrong image ranges (tree_of s FS_TREE p) ≡ []) (keeps : KeepsNames roots items p.address) (right : (r : BtrRefusal) → BreaksExtents ranges items r → ⊥) where
    same_at : (j : TreeItem) (q : NodePointer) → root_item FS_TREE (roots_on image s ranges) ≡ Some j → pointer_of j.body ≡ Some q → q ≡ p
    same_at j q other off = same_some q p (pointer_of i.body) (ap (λ (x : TreeItem). pointer_of x.body) (same_some i j (root_item FS_TREE (roots_on image s ranges)) there other) ∙ off) at

    readable : (r : BtrRefusal) → IsFileTreeRefusal image s ranges r → ⊥
    readable r (no_root_item none is) = some_none i (root_item FS_TREE (roots_on image s ranges)) there none
    readable r (bad_root_item j other off is) =
        some_none p (pointer_of i.body) at (ap (λ (x : TreeItem). pointer_of x.body) (same_some i j (root_item FS_TREE (roots_on image s ranges)) there other) ∙ off)
    readable r (bad_tree j q other off among) =
        none_among (wrong image ranges (tree_of s FS_TREE p)) r sound (subst (λ (x : NodePointer). Contains (wrong image ranges (tree_of s FS_TREE x)) r) (same_at j q other off) among)
    readable r (bad_names j q other off broken) = keeps r (subst (λ (x : NodePointer). BreaksNames roots (found image ranges (tree_of s FS_TREE x)) x.address r) (same_at j q other off) broken)
    readable r (bad_extents j q other off broken) = right r (subst (λ (x : NodePointer). BreaksExtents ranges (found image ranges (tree_of s FS_TREE x)) r) (same_at j q other off) broken)

    pub rows_answered : (result : Result (List Row) BtrAnswer) → MatchResult result (λ rows. (whole : List WholeRow) × AreRows image ranges items whole × (rows ≡ map row_of whole)) IsMemory
        → MatchResult result (λ rows. (whole : List WholeRow) × AreBtrfsRows image s ranges whole × (rows ≡ map row_of whole)) (RefusesTree image s ranges)
    rows_answered (Ok rows) (whole, are, made) = (whole, record { readable = readable; item = i; has_item = there; at = p; has_root = at; rows_are = are }, made)
    rows_answered (Err e) h = of_memory image s ranges e h
