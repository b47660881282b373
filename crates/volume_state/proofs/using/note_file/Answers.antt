use Rattle.volume_state.proofs.Imports.{◌≡◌, ℕ, List, [], Err, inl, refl, sym, ◌∙◌, subst, err_from_is_err_and, BtrAnswer, entry_refusals, root_refusals, FindsSaved, IsAmong, found, wrong, MapRange, IsMapApart, HoldsExtent, HoldsNodeOf, HoldsPartOf, TellsReserved, among_left}
use Rattle.volume_state.proofs.Telling.{parts_told}
use Rattle.volume_state.proofs.using.note_file.Goals as goal

pub returns-in_err-node-clause-finds : goal.returns-in_err-node-clause-finds
returns-in_err-node-clause-finds g c = λ tells image is apart roots has.
    let ranges : List MapRange = c.args.volume.now.ranges.items in
    let same : c.as_slice-ranges.result.now ≡ ranges = c.as_slice-ranges.ensures.value in
    let apart_here : IsMapApart c.as_slice-ranges.result.now = subst IsMapApart (sym same) apart in
    let among = subst (λ (m : List MapRange). IsAmong (wrong image m c.args.file) c.in_err-node.field-0.0) same (c.in_err-node.ensures.told tells image is apart_here) in
    let err = err_from_is_err_and c.from_residual.result c.from_residual.ensures.1 in
    rw err.1
    (inl (err.0, refl, subst (IsAmong (entry_refusals image ranges c.args.file)) (sym err.2) (among_left (wrong image ranges c.args.file) (root_refusals (found image ranges c.args.file)) c.in_err-node.field-0.0 among)))

pub returns-in_err-saved-clause-finds : goal.returns-in_err-saved-clause-finds
returns-in_err-saved-clause-finds g c = λ tells image is apart roots has.
    let ranges : List MapRange = c.args.volume.now.ranges.items in
    let here : g.S.BlockSource.blocks c.reserved_node.new.src ≡ image = g.met.S.BlockSource.kept_blocks c.args.src.now c.reserved_node.new.src tells c.in_ok-node.ensures.kept ∙ is in
    let err = err_from_is_err_and c.from_residual-in_err-saved.result c.from_residual-in_err-saved.ensures.1 in
    rw err.1
    (subst (λ (e : BtrAnswer). FindsSaved c.args.volume.now.sup roots (entry_refusals image ranges c.args.file) (found image ranges c.args.file) (Err e)) (sym err.2)
    (c.in_err-saved.ensures.finds tells image here roots has))

pub saved_tree-requires-clause-begun : goal.saved_tree-requires-clause-begun
saved_tree-requires-clause-begun g c = (
  refl,
  refl,
  λ apart.
      let extent = c.new-extent.result in
      let ranges : List MapRange = c.as_slice-ranges.result.now in
      let map_is : extent.ranges.now ≡ ranges = c.new-extent.ensures.ranges in
      subst (λ (n : ℕ). TellsReserved (HoldsExtent [] extent.ranges.now) n extent.found) (sym c.new-extent.ensures.blocks)
      (subst (λ (m : List MapRange). TellsReserved (HoldsExtent [] m) c.args.blocks extent.found) (sym map_is) (c.new-extent.ensures.begun (subst IsMapApart map_is apart))),
)

pub returns-clause-finds : goal.returns-clause-finds
returns-clause-finds g c = λ tells image is apart roots has.
    let here : g.S.BlockSource.blocks c.reserved_node.new.src ≡ image = g.met.S.BlockSource.kept_blocks c.args.src.now c.reserved_node.new.src tells c.in_ok-node.ensures.kept ∙ is in
    c.in_ok-saved.ensures.finds tells image here roots has

pub returns-clause-used : goal.returns-clause-used
returns-clause-used g c = λ tells image is apart.
    let ranges : List MapRange = c.args.volume.now.ranges.items in
    let same : c.as_slice-ranges.result.now ≡ ranges = c.as_slice-ranges.ensures.value in
    let apart_here : IsMapApart c.as_slice-ranges.result.now = subst IsMapApart (sym same) apart in
    let here : g.S.BlockSource.blocks c.reserved_node.new.src ≡ image = g.met.S.BlockSource.kept_blocks c.args.src.now c.reserved_node.new.src tells c.in_ok-node.ensures.kept ∙ is in
    let nodes = subst (λ (m : List MapRange). TellsReserved (HoldsNodeOf image m c.args.file) c.args.blocks c.in_ok-node.node) same (c.in_ok-node.ensures.told tells image is apart_here) in
    let noted = c.in_ok-saved.ensures.noted tells image here in
    let map_is : c.saved_tree.new.notes.ranges.now ≡ ranges = noted.0 ∙ (c.new-extent.ensures.ranges ∙ same) in
    let count_is : c.saved_tree.new.notes.blocks ≡ c.args.blocks = noted.1 ∙ c.new-extent.ensures.blocks in
    let extents =
    subst (λ (n : ℕ). TellsReserved (HoldsExtent (found image ranges c.args.file) ranges) n c.saved_tree.new.notes.found) count_is
    (subst (λ (m : List MapRange). TellsReserved (HoldsExtent (found image ranges c.args.file) m) c.saved_tree.new.notes.blocks c.saved_tree.new.notes.found) map_is (noted.2 (subst IsMapApart (sym map_is) apart))) in
    subst (TellsReserved (HoldsPartOf image ranges c.args.file) c.args.blocks) (sym c.or.ensures) (parts_told image ranges c.args.file c.args.blocks _ _ nodes extents)
