use Rattle.convert_trees.proofs.Imports.{◌≡◌, ℕ, List, drop, sym, subst, arith, Image, reads, Item, Root, AreWritable, Trees, Adds, first_items, tree_number, NewTree, MatchResult, IsFailure, WriteAnswer}
use Rattle.std.specs.Prelude.{Result}
use Rattle.convert_trees.proofs.first.write_new_tree.Goals as goal

-- a tree of these items is added, where they can be written
abbrev IsWritten : Image → Trees → Trees → Result Root WriteAnswer → ℕ → List Item → Type 0
IsWritten image old new result number items = AreWritable old.form.nodesize (drop old.taken old.slots) items → MatchResult result (λ root. Adds image old new number items root) IsFailure

-- by the case that a tree is
as_tree : (image : Image) (old new : Trees) (result : Result Root WriteAnswer) (items : NewTree → List Item) (t u : NewTree) → t ≡ u
    → IsWritten image old new result (tree_number u) (items u) → IsWritten image old new result (tree_number t) (items t)
as_tree image old new result items t u is known = subst (λ (x : NewTree). IsWritten image old new result (tree_number x) (items x)) (sym is) known

pub returns-in-Files-clause-tree : goal.returns-in-Files-clause-tree
returns-in-Files-clause-tree g c = λ tells other is chunks are has used placed.
    let w = c.args.w.now in
    let items : NewTree → List Item = first_items w.volume.now (g.P.PieceList.pieces w.pieces.now) w.options.now w.form.ids w.time chunks other in
    as_tree (reads (g.D.Disk.history c.write_files.new.disk)) c.args.row.now c.write_files.new.row c.write_files.result items _ _ c.in-Files.is (c.write_files.ensures.tree tells other is has used)

pub returns-in-SavedImage-clause-tree : goal.returns-in-SavedImage-clause-tree
returns-in-SavedImage-clause-tree g c = λ tells other is chunks are has used placed.
    let w = c.args.w.now in
    let items : NewTree → List Item = first_items w.volume.now (g.P.PieceList.pieces w.pieces.now) w.options.now w.form.ids w.time chunks other in
    as_tree (reads (g.D.Disk.history c.write_image.new.disk)) c.args.row.now c.write_image.new.row c.write_image.result items _ _ c.in-SavedImage.is
    (c.write_image.ensures.tree tells other is has used (omega (arith, c.requires.small)))

pub returns-in-Relocation-clause-tree : goal.returns-in-Relocation-clause-tree
returns-in-Relocation-clause-tree g c = λ tells other is chunks are has used placed.
    let w = c.args.w.now in
    let items : NewTree → List Item = first_items w.volume.now (g.P.PieceList.pieces w.pieces.now) w.options.now w.form.ids w.time chunks other in
    as_tree (reads (g.D.Disk.history c.write_relocation.new.disk)) c.args.row.now c.write_relocation.new.row c.write_relocation.result items _ _ c.in-Relocation.is
    (c.write_relocation.ensures.tree tells other is has used)

pub returns-in-Checksums-clause-tree : goal.returns-in-Checksums-clause-tree
returns-in-Checksums-clause-tree g c = λ tells other is chunks are has used placed.
    let w = c.args.w.now in
    let items : NewTree → List Item = first_items w.volume.now (g.P.PieceList.pieces w.pieces.now) w.options.now w.form.ids w.time chunks other in
    as_tree (reads (g.D.Disk.history c.write_sums.new.disk)) c.args.row.now c.write_sums.new.row c.write_sums.result items _ _ c.in-Checksums.is (c.write_sums.ensures.tree tells other is placed)

pub returns-in-Devices-clause-tree : goal.returns-in-Devices-clause-tree
returns-in-Devices-clause-tree g c = λ tells other is chunks are has used placed.
    let w = c.args.w.now in
    let items : NewTree → List Item = first_items w.volume.now (g.P.PieceList.pieces w.pieces.now) w.options.now w.form.ids w.time chunks other in
    as_tree (reads (g.D.Disk.history c.write_devices.new.disk)) c.args.row.now c.write_devices.new.row c.write_devices.result items _ _ c.in-Devices.is
    (c.write_devices.ensures.tree tells other is chunks are)
