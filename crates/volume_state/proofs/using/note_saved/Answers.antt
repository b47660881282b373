use Rattle.volume_state.proofs.Imports.{◌≡◌, ℕ, List, [], refl, sym, ◌∙◌, subst, err_from_is_err_and, entry_refusals, image_refusals_in, root_refusals, saved_refusals, IsAmong, found, wrong, MapRange, IsMapApart, HoldsExtent, HoldsNodeOf, HoldsPartOf, TellsReserved, among_first, among_left}
use Rattle.volume_state.proofs.Telling.{parts_told}
use Rattle.volume_state.proofs.using.note_saved.Goals as goal

pub returns-in_err-node-clause-reads : goal.returns-in_err-node-clause-reads
returns-in_err-node-clause-reads g c = λ tells image is apart.
    let ranges : List MapRange = c.args.volume.now.ranges.items in
    let same : c.as_slice-ranges.result.now ≡ ranges = c.as_slice-ranges.ensures.value in
    let apart_here : IsMapApart c.as_slice-ranges.result.now = subst IsMapApart (sym same) apart in
    let items = found image ranges c.args.tree in
    let among = subst (λ (m : List MapRange). IsAmong (wrong image m c.args.tree) c.in_err-node.field-0.0) same (c.in_err-node.ensures.told tells image is apart_here) in
    let err = err_from_is_err_and c.from_residual.result c.from_residual.ensures.1 in
    rw err.1
    (subst (IsAmong (saved_refusals image ranges c.args.tree)) (sym err.2)
    (among_first (entry_refusals image ranges c.args.tree) (image_refusals_in ranges items) c.in_err-node.field-0.0 (among_left (wrong image ranges c.args.tree) (root_refusals items) c.in_err-node.field-0.0 among)))

pub returns-in_err-map-clause-reads : goal.returns-in_err-map-clause-reads
returns-in_err-map-clause-reads g c = λ tells image is apart.
    let here : g.S.BlockSource.blocks c.reserved_node.new.src ≡ image = g.met.S.BlockSource.kept_blocks c.args.src.now c.reserved_node.new.src tells c.in_ok-node.ensures.kept ∙ is in
    let err = err_from_is_err_and c.from_residual-in_err-map.result c.from_residual-in_err-map.ensures.1 in
    rw err.1 (subst (IsAmong (saved_refusals image c.args.volume.now.ranges.items c.args.tree)) (sym err.2) (c.in_err-map.ensures.reads tells image here))

pub read_saved-requires-clause-begun : goal.read_saved-requires-clause-begun
read_saved-requires-clause-begun g c = (
  refl,
  refl,
  λ apart.
      let extent = c.new-extent.result in
      let ranges : List MapRange = c.as_slice-ranges.result.now in
      let map_is : extent.ranges.now ≡ ranges = c.new-extent.ensures.ranges in
      subst (λ (n : ℕ). TellsReserved (HoldsExtent [] extent.ranges.now) n extent.found) (sym c.new-extent.ensures.blocks)
      (subst (λ (m : List MapRange). TellsReserved (HoldsExtent [] m) c.args.blocks extent.found) (sym map_is) (c.new-extent.ensures.begun (subst IsMapApart map_is apart))),
)

pub returns-clause-reads : goal.returns-clause-reads
returns-clause-reads g c = λ tells image is apart.
    let here : g.S.BlockSource.blocks c.reserved_node.new.src ≡ image = g.met.S.BlockSource.kept_blocks c.args.src.now c.reserved_node.new.src tells c.in_ok-node.ensures.kept ∙ is in
    c.in_ok-map.ensures.reads tells image here

pub returns-clause-used : goal.returns-clause-used
returns-clause-used g c = λ tells image is apart.
    let ranges : List MapRange = c.args.volume.now.ranges.items in
    let same : c.as_slice-ranges.result.now ≡ ranges = c.as_slice-ranges.ensures.value in
    let apart_here : IsMapApart c.as_slice-ranges.result.now = subst IsMapApart (sym same) apart in
    let here : g.S.BlockSource.blocks c.reserved_node.new.src ≡ image = g.met.S.BlockSource.kept_blocks c.args.src.now c.reserved_node.new.src tells c.in_ok-node.ensures.kept ∙ is in
    let nodes = subst (λ (m : List MapRange). TellsReserved (HoldsNodeOf image m c.args.tree) c.args.blocks c.in_ok-node.node) same (c.in_ok-node.ensures.told tells image is apart_here) in
    let noted = c.in_ok-map.ensures.noted tells image here in
    let map_is : c.read_saved.new.notes.ranges.now ≡ ranges = noted.0 ∙ (c.new-extent.ensures.ranges ∙ same) in
    let count_is : c.read_saved.new.notes.blocks ≡ c.args.blocks = noted.1 ∙ c.new-extent.ensures.blocks in
    let extents =
    subst (λ (n : ℕ). TellsReserved (HoldsExtent (found image ranges c.args.tree) ranges) n c.read_saved.new.notes.found) count_is
    (subst (λ (m : List MapRange). TellsReserved (HoldsExtent (found image ranges c.args.tree) m) c.read_saved.new.notes.blocks c.read_saved.new.notes.found) map_is (noted.2 (subst IsMapApart (sym map_is) apart))) in
    subst (TellsReserved (HoldsPartOf image ranges c.args.tree) c.args.blocks) (sym c.or.ensures) (parts_told image ranges c.args.tree c.args.blocks _ _ nodes extents)
