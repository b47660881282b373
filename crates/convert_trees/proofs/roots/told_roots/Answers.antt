use Rattle.convert_trees.proofs.Imports.{◌≡◌, ◌∙◌, ◌++◌, ◌∷◌, ◌+◌, ◌<◌, ℕ, List, [], map, drop, get_or, length, refl, sym, ap, ap₂, arith, EXTENT_TREE, drop_all, drop_more, Root, TreeRoot, inserted, with_all, told_root, tree_number, PlacedTree}
use Rattle.convert_trees.proofs.roots.told_roots.Goals as goal

pub loop-one-init : goal.loop-one-init
loop-one-init c =
    ap (λ (list : List TreeRoot). with_all (λ (t : TreeRoot). t.tree) list (map told_root c.args.placed.now))
    (c.in_ok-add.ensures.ok ∙ ap (λ (list : List TreeRoot). list ++ record { tree = EXTENT_TREE; root = c.args.extents } ∷ []) c.new-list.ensures)

-- the next one is taken up
taken_up : (placed : List PlacedTree) (i : ℕ) (d : PlacedTree) (list seen now : List TreeRoot) (n : ℕ) (root : Root) → i < length placed → n ≡ tree_number (get_or placed i d).tree → root ≡ (get_or placed i d).root
    → seen ≡ list → now ≡ inserted (λ t. t.tree) (record { tree = n; root = root }) seen
    → with_all (λ t. t.tree) now (map told_root (drop (i + 1) placed)) ≡ with_all (λ t. t.tree) list (map told_root (drop i placed))
taken_up placed i d list seen now n root inside at begins same is =
    ap (λ (l : List TreeRoot). with_all (λ (t : TreeRoot). t.tree) l (map told_root (drop (i + 1) placed)))
    (is
    ∙ (ap (λ (l : List TreeRoot). inserted (λ (t : TreeRoot). t.tree) (record { tree = n; root = root }) l) same
    ∙ ap₂ (λ (k : ℕ) (x : Root). inserted (λ (t : TreeRoot). t.tree) (record { tree = k; root = x }) list) at begins))
    ∙ sym (ap (λ (ps : List PlacedTree). with_all (λ (t : TreeRoot). t.tree) list (map told_root ps)) (drop_more placed i d inside))

pub loop-one-preserved : goal.loop-one-preserved
loop-one-preserved c = taken_up c.args.placed.now c.loop-one.one-index _ c.loop-one.list _ _ _ _ c.loop-one-test.true c.number.ensures refl c.as_slice.ensures c.in_ok-list.ensures ∙ c.loop-one.invariant

pub returns : goal.returns
returns c =
    sym (ap (λ (ps : List PlacedTree). with_all (λ (t : TreeRoot). t.tree) c.loop-one.list (map told_root ps)) (drop_all c.loop-one.one-index c.args.placed.now (omega (arith, c.loop-one-test.false))))
    ∙ c.loop-one.invariant
