use Rattle.convert_trees.proofs.Imports.{◌≡◌, ◌∙◌, ℕ, ◌+◌, ◌-◌, ◌<◌, ◌++◌, ◌∷◌, List, [], map, take, drop, get_or, length, refl, sym, ap, ap₂, subst, arith, ◌*◌, ◌≤◌, All, map-append, take_more, take_all, History, reads, WritesOnly, writes_none, Root, Item, AreWritable, NodeForm, Trees, Adds, first_items, AddsRow, tree_number, NewTree, behind-append, behind_least, slot_behind, PlacedTree}
use Rattle.unit_plan.specs.declared.tree.NewTree.TheVariants.{Files}
use Rattle.convert_trees.proofs.Adding.{failed}
use Rattle.convert_trees.proofs.Behind.{IsInRest, later_by, writes_behind}
use Rattle.convert_trees.proofs.Going.{Goes}
use Rattle.convert_trees.proofs.Opening.{Begins, adds_more, adds_none, has_still, items_still, next_writable, placed_still, used_still}
use Rattle.convert_trees.proofs.write.write_row.Goals as goal

-- how far the row is, by the slots that are taken
later_goes : (row mid : Trees) (placed : List PlacedTree) (h₀ h : History) → (mid.form ≡ row.form) × (mid.slots ≡ row.slots) → mid.taken ≡ slot_behind row.taken placed → WritesOnly (λ b _. IsInRest row b) h₀ h
    → Goes row mid (slot_behind row.taken placed - row.taken) h₀ h
later_goes row mid placed h₀ h same taken only = record { form = same.0; slots = same.1; taken = omega (arith, taken, behind_least row.taken placed); only = only }

pub write_new_tree-requires-clause-in_range : goal.write_new_tree-requires-clause-in_range
write_new_tree-requires-clause-in_range g c =
    let before = c.loop-tree.invariant in
    subst (λ (s : List ℕ). All (λ a. a + c.loop-tree.row.form.nodesize ≤ 4096 * g.D.BlockSource.size c.loop-tree.disk) s) (sym before.same.1)
    (λ i d h. omega (arith, c.requires.in_range i d h, ap (λ (f : NodeForm). f.nodesize) before.same.0, before.size))

pub returns-in_err-root-clause-only : goal.returns-in_err-root-clause-only
returns-in_err-root-clause-only g c = λ tells.
    let before = c.loop-tree.invariant in
    let row = c.args.row.now in
    let goes = later_goes row c.loop-tree.row c.loop-tree.placed _ _ before.same before.taken (before.only tells) in
    writes_behind row c.loop-tree.row _ _ _ (later_by row c.loop-tree.row _ before.same goes.taken) (before.only tells) (c.write_new_tree.ensures.only tells)

pub returns-in_err-add-clause-only : goal.returns-in_err-add-clause-only
returns-in_err-add-clause-only g c = λ tells.
    let before = c.loop-tree.invariant in
    let row = c.args.row.now in
    let goes = later_goes row c.loop-tree.row c.loop-tree.placed _ _ before.same before.taken (before.only tells) in
    writes_behind row c.loop-tree.row _ _ _ (later_by row c.loop-tree.row _ before.same goes.taken) (before.only tells) (c.write_new_tree.ensures.only tells)

-- what a step takes up
listed_more : (placed new : List PlacedTree) (t d : NewTree) (root : Root) (i : ℕ) (trees : List NewTree) → new ≡ placed ++ record { tree = t; root = root } ∷ [] → map (λ p. p.tree) placed ≡ take i trees → i < length trees
    → t ≡ get_or trees i d → map (λ p. p.tree) new ≡ take (i + 1) trees
listed_more placed new t d root i trees is are inside at =
    let one : PlacedTree = record { tree = t; root = root } in
    ap (map (λ (p : PlacedTree). p.tree)) is
    ∙ (map-append (λ (p : PlacedTree). p.tree) placed (one ∷ [])
    ∙ (ap₂ (λ (ts : List NewTree) (u : NewTree). ts ++ u ∷ []) are at ∙ sym (take_more trees i d inside)))

taken_more : (n : ℕ) (placed new : List PlacedTree) (t : NewTree) (root : Root) (mid after : ℕ) → new ≡ placed ++ record { tree = t; root = root } ∷ [] → mid ≡ slot_behind n placed → after ≡ mid + root.nodes → after ≡ slot_behind n new
taken_more n placed new t root mid after is at more =
    more ∙ (ap (λ (k : ℕ). k + root.nodes) at ∙ (sym (behind-append n placed (record { tree = t; root = root } ∷ [])) ∙ ap (slot_behind n) (sym is)))

pub returns-in_err-root-clause-stand : goal.returns-in_err-root-clause-stand
returns-in_err-root-clause-stand g c = λ tells other is chunks are has used placed fit.
    let before = c.loop-tree.invariant in
    let row = c.args.row.now in
    let w = c.args.w.now in
    let volume = w.volume.now in
    let pieces = g.P.PieceList.pieces w.pieces.now in
    let items : NewTree → List Item = first_items volume pieces w.options.now w.form.ids w.time chunks other in
    let start = g.D.Disk.history c.args.disk.now in
    let here = g.D.Disk.history c.loop-tree.disk in
    let t : NewTree = get_or c.args.trees.now c.loop-tree.tree-index Files in
    let n : ℕ = slot_behind row.taken c.loop-tree.placed - row.taken in
    let begins : Begins volume pieces row other start = record { is_row = c.requires.row; blocks = sym (g.met.D.Disk.open_blocks c.args.disk.now _ tells c.requires.«open») ∙ is; there = has; used = used; placed = placed } in
    let goes = later_goes row c.loop-tree.row c.loop-tree.placed start here before.same before.taken (before.only tells) in
    let still = items_still volume pieces row other start begins c.loop-tree.row n here goes w.options.now w.form.ids w.time chunks in
    failed _ _ _ c.from_residual.ensures.1
    (c.in_err-root.ensures.tree tells _ (g.met.D.Disk.open_blocks c.loop-tree.disk _ tells (before.open_ ∙ c.requires.«open»)) chunks are
    (has_still volume pieces row other start begins c.loop-tree.row n here goes) (used_still volume pieces row other start begins c.loop-tree.row n here goes) (placed_still volume pieces row other start begins c.loop-tree.row n here goes)
    (subst (λ (list : List Item). AreWritable c.loop-tree.row.form.nodesize (drop c.loop-tree.row.taken c.loop-tree.row.slots) list) (sym (still t))
    (next_writable row items c.args.trees.now (reads here) c.loop-tree.row c.loop-tree.placed c.loop-tree.tree-index Files start here c.requires.row fit (before.stand tells other is chunks are has used placed fit) goes before.trees c.loop-tree-test.true)))

pub loop-tree-init : goal.loop-tree-init
loop-tree-init g c = record {
  is_row = c.requires.row;
  same = (refl, refl);
  taken = ap (slot_behind c.args.row.now.taken) (sym c.new-placed.ensures);
  trees = ap (map (λ (p : PlacedTree). p.tree)) c.new-placed.ensures;
  open_ = refl;
  size = refl;
  borrow = refl;
  faults = refl;
  only = λ tells. writes_none (λ b _. IsInRest c.args.row.now b) (g.D.Disk.history c.args.disk.now);
  stand = λ tells other is chunks are has used placed fit.
      let w = c.args.w.now in
      let items : NewTree → List Item = first_items w.volume.now (g.P.PieceList.pieces w.pieces.now) w.options.now w.form.ids w.time chunks other in
      subst (λ (ps : List PlacedTree). AddsRow (reads (g.D.Disk.history c.args.disk.now)) c.args.row.now c.args.row.now items ps) (sym c.new-placed.ensures)
      (adds_none c.args.row.now items c.args.trees.now (reads (g.D.Disk.history c.args.disk.now)));
}

pub loop-tree-preserved : goal.loop-tree-preserved
loop-tree-preserved g c =
    let before = c.loop-tree.invariant in
    let row = c.args.row.now in
    let mid = c.loop-tree.row in
    let new = c.write_new_tree.new.row in
    let root = c.in_ok-root.root in
    let start = g.D.Disk.history c.args.disk.now in
    let here = g.D.Disk.history c.loop-tree.disk in
    let there = g.D.Disk.history c.write_new_tree.new.disk in
    let listed = c.in_ok-add.ensures.ok in
    record {
      is_row = c.in_ok-root.ensures.row;
      same = (c.in_ok-root.ensures.same.0 ∙ before.same.0, c.in_ok-root.ensures.same.1 ∙ before.same.1);
      taken = taken_more row.taken c.loop-tree.placed _ _ root mid.taken new.taken listed before.taken c.in_ok-root.ensures.taken;
      trees = listed_more c.loop-tree.placed _ _ _ root c.loop-tree.tree-index c.args.trees.now listed before.trees c.loop-tree-test.true refl;
      open_ = c.write_new_tree.ensures.«open» ∙ before.open_;
      size = c.write_new_tree.ensures.size ∙ before.size;
      borrow = c.write_new_tree.ensures.borrow ∙ before.borrow;
      faults = c.in_ok-root.ensures.cause.kept (λ e. absurd cc) ∙ before.faults;
      only = λ tells.
          let goes = later_goes row mid c.loop-tree.placed start here before.same before.taken (before.only tells) in
          writes_behind row mid start here there (later_by row mid _ before.same goes.taken) (before.only tells) (c.write_new_tree.ensures.only tells);
      stand = λ tells other is chunks are has used placed fit.
          let w = c.args.w.now in
          let volume = w.volume.now in
          let pieces = g.P.PieceList.pieces w.pieces.now in
          let items : NewTree → List Item = first_items volume pieces w.options.now w.form.ids w.time chunks other in
          let n : ℕ = slot_behind row.taken c.loop-tree.placed - row.taken in
          let begins : Begins volume pieces row other start = record { is_row = c.requires.row; blocks = sym (g.met.D.Disk.open_blocks c.args.disk.now _ tells c.requires.«open») ∙ is; there = has; used = used; placed = placed } in
          let goes = later_goes row mid c.loop-tree.placed start here before.same before.taken (before.only tells) in
          let still = items_still volume pieces row other start begins mid n here goes w.options.now w.form.ids w.time chunks in
          let adds = before.stand tells other is chunks are has used placed fit in
          let t : NewTree = get_or c.args.trees.now c.loop-tree.tree-index Files in
          let one : Adds (reads there) mid new (tree_number t) (items t) root =
          subst (λ (list : List Item). Adds (reads there) mid new (tree_number t) list root) (still t)
          (c.in_ok-root.ensures.tree tells _ (g.met.D.Disk.open_blocks c.loop-tree.disk _ tells (before.open_ ∙ c.requires.«open»)) chunks are
          (has_still volume pieces row other start begins mid n here goes) (used_still volume pieces row other start begins mid n here goes) (placed_still volume pieces row other start begins mid n here goes)
          (subst (λ (list : List Item). AreWritable mid.form.nodesize (drop mid.taken mid.slots) list) (sym (still t))
          (next_writable row items c.args.trees.now (reads here) mid c.loop-tree.placed c.loop-tree.tree-index Files start here c.requires.row fit adds goes before.trees c.loop-tree-test.true))) in
          subst (λ (ps : List PlacedTree). AddsRow (reads there) row new items ps) (sym listed)
          (adds_more row items c.args.trees.now mid new c.loop-tree.placed t root here there c.requires.row before.same before.taken adds (c.write_new_tree.ensures.only tells) one);
    }

pub returns-clause-trees : goal.returns-clause-trees
returns-clause-trees g c = c.loop-tree.invariant.trees ∙ take_all c.loop-tree.tree-index c.args.trees.now c.loop-tree-test.false

pub returns-clause-stand : goal.returns-clause-stand
returns-clause-stand g c = λ tells other is chunks are has used placed fit. c.loop-tree.invariant.stand tells other is chunks are has used placed fit
