use Rattle.volume_state.proofs.Imports.{◌≡◌, List, [], inl, sym, ◌∙◌, subst, err_from_is_err_and, chunk_tree, root_tree, BtrRefusal, IsAmong, wrong, MapRange, Tree, IsMapApart, HoldsNodeOf, TellsReserved, opened_apart}
use Rattle.volume_state.proofs.InUse.{chunks_sound, roots_sound, roots_told}
use Rattle.volume_state.proofs.Telling.{match_so}
use Rattle.volume_state.proofs.using.reserved_root.Goals as goal

pub returns-in_err-block-clause-told : goal.returns-in_err-block-clause-told
returns-in_err-block-clause-told g c = λ tells image is on.
    let ranges : List MapRange = c.args.volume.now.ranges.items in
    let same : c.as_slice-ranges.result.now ≡ ranges = c.as_slice-ranges.ensures.value in
    let apart : IsMapApart c.as_slice-ranges.result.now = subst IsMapApart (sym same) (opened_apart image c.args.volume.now.sup ranges on.opened) in
    let err = err_from_is_err_and c.from_residual.result c.from_residual.ensures.1 in
    let among : IsAmong (wrong image ranges (chunk_tree c.args.volume.now.sup)) c.in_err-block.field-0.0 =
    subst (λ (t : Tree). IsAmong (wrong image ranges t) c.in_err-block.field-0.0) c.chunk_tree.ensures.tree
    (subst (λ (m : List MapRange). IsAmong (wrong image m c.chunk_tree.result) c.in_err-block.field-0.0) same (c.in_err-block.ensures.told tells image is apart)) in
    rw err.1
    (subst (IsAmong []) (sym err.2)
    (subst (λ (rs : List BtrRefusal). IsAmong rs c.in_err-block.field-0.0) (chunks_sound image c.args.volume.now.sup ranges on.opened) among))

pub returns-in-Some-clause-told : goal.returns-in-Some-clause-told
returns-in-Some-clause-told g c = λ tells image is on.
    let ranges : List MapRange = c.args.volume.now.ranges.items in
    let same : c.as_slice-ranges.result.now ≡ ranges = c.as_slice-ranges.ensures.value in
    let apart : IsMapApart c.as_slice-ranges.result.now = subst IsMapApart (sym same) (opened_apart image c.args.volume.now.sup ranges on.opened) in
    let told =
    subst (λ (t : Tree). TellsReserved (HoldsNodeOf image ranges t) c.args.blocks c.in_ok-block.field-0) c.chunk_tree.ensures.tree
    (subst (λ (m : List MapRange). TellsReserved (HoldsNodeOf image m c.chunk_tree.result) c.args.blocks c.in_ok-block.field-0) same (c.in_ok-block.ensures.told tells image is apart)) in
    let one = subst (TellsReserved (HoldsNodeOf image ranges (chunk_tree c.args.volume.now.sup)) c.args.blocks) c.in-Some.is told in
    (one.0, inl one.1)

pub returns-clause-told : goal.returns-clause-told
returns-clause-told g c = λ tells image is on.
    let ranges : List MapRange = c.args.volume.now.ranges.items in
    let same : c.as_slice-ranges.result.now ≡ ranges = c.as_slice-ranges.ensures.value in
    let apart : IsMapApart c.as_slice-ranges.result.now = subst IsMapApart (sym same) (opened_apart image c.args.volume.now.sup ranges on.opened) in
    let here : g.S.BlockSource.blocks c.reserved_node.new.src ≡ image = g.met.S.BlockSource.kept_blocks c.args.src.now c.reserved_node.new.src tells c.in_ok-block.ensures.kept ∙ is in
    let chunks =
    subst (λ (t : Tree). TellsReserved (HoldsNodeOf image ranges t) c.args.blocks c.in_ok-block.field-0) c.chunk_tree.ensures.tree
    (subst (λ (m : List MapRange). TellsReserved (HoldsNodeOf image m c.chunk_tree.result) c.args.blocks c.in_ok-block.field-0) same (c.in_ok-block.ensures.told tells image is apart)) in
    let none = subst (TellsReserved (HoldsNodeOf image ranges (chunk_tree c.args.volume.now.sup)) c.args.blocks) c.in_default.is chunks in
    match_so c.reserved_node-2.result _ _ _ _
    (λ o told. roots_told image c.args.volume.now.sup ranges on.opened c.args.blocks o none
    (subst (λ (t : Tree). TellsReserved (HoldsNodeOf image ranges t) c.args.blocks o) c.root_tree.ensures.tree
    (subst (λ (m : List MapRange). TellsReserved (HoldsNodeOf image m c.root_tree.result) c.args.blocks o) same told)))
    (λ e among. subst (λ (rs : List BtrRefusal). IsAmong rs e) (roots_sound image c.args.volume.now.sup ranges on.opened)
    (subst (λ (t : Tree). IsAmong (wrong image ranges t) e) c.root_tree.ensures.tree
    (subst (λ (m : List MapRange). IsAmong (wrong image m c.root_tree.result) e) same among)))
    (c.reserved_node-2.ensures.told tells image here apart)
