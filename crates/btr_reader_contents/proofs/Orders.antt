-- The numbers of inodes ascend over the items of a tree.
use Rattle.btr_reader_contents.proofs.Imports.{◌≡◌, ℕ, ◌≤◌, nat_cmp, Bool, true, false, List, [], ◌∷◌, ◌++◌, Option, Some, None, Ordering, Less, Equal, Greater, is_lt, refl, sym, ◌∙◌, ap, arith, option_map_or, nat_tests, Image, Key, MapRange, TreeItem, Walks, last_after, last_after-append, order_damages-append, last_inode}
use Rattle.std.specs.Ordering.{ordering_then}
use Rattle.btr_reader_walk.specs.btr_node.Order.{is_before}
use Rattle.btr_reader_walk.specs.declared.walker.TreeWalker.{TreeWalker}
use Rattle.btr_reader_walk.specs.Tree.{order_damages}
use Rattle.btr_reader_contents.proofs.ExtentLists.{none_right}

first_less : (a b : ℕ) (o r : Ordering) → nat_cmp a b ≡ o → is_lt (ordering_then o r) ≡ true → a ≤ b
first_less a b Less r is h = grind (arith, nat_tests, is)
first_less a b Equal r is h = grind (arith, nat_tests, is)
first_less a b Greater r is h = absurd (cc h)

before : (a b : Key) → is_before a b ≡ true → a.objectid ≤ b.objectid
before a b h = first_less a.objectid b.objectid (nat_cmp a.objectid b.objectid) (ordering_then (nat_cmp a.kind b.kind) (nat_cmp a.offset b.offset)) refl h

by_test : (a : Key) (i : TreeItem) (t : Bool) → is_before a i.key ≡ t → order_damages (Some a) (i ∷ []) ≡ [] → a.objectid ≤ i.key.objectid
by_test a i true is none = before a i.key is
by_test a i false is none = absurd (cc (is, none))

after_last : (last : Option Key) (i : TreeItem) → order_damages last (i ∷ []) ≡ [] → option_map_or (λ key. key.objectid) last 0 ≤ i.key.objectid
after_last None i none = omega arith
after_last (Some a) i none = by_test a i (is_before a i.key) refl none

-- the next item is of the last inode or of a later one
pub next_inode : (w : TreeWalker) (image : Image) (ranges : List MapRange) (given : List TreeItem) (i : TreeItem) → Walks w image ranges (given ++ i ∷ []) → last_inode given ≤ i.key.objectid
next_inode w image ranges given i walks =
    after_last (last_after None given) i (none_right (order_damages None given) (order_damages (last_after None given) (i ∷ [])) (sym (order_damages-append None given (i ∷ [])) ∙ walks.order))

pub now_last : (given : List TreeItem) (i : TreeItem) → last_inode (given ++ i ∷ []) ≡ i.key.objectid
now_last given i = ap (λ (o : Option Key). option_map_or (λ key. key.objectid) o 0) (last_after-append None given (i ∷ []))
