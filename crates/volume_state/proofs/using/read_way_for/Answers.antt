use Rattle.volume_state.proofs.Imports.{◌≡◌, List, sym, ◌∙◌, subst, err_from_is_err_and, image_refusals, IsAmong, MapRange, IsMapApart, IsInUse, TellsReserved, among_none, opened_apart}
use Rattle.volume_state.proofs.InUse.{whole_told}
use Rattle.volume_state.proofs.using.read_way_for.Goals as goal

pub returns-in_err-used-clause-reads : goal.returns-in_err-used-clause-reads
returns-in_err-used-clause-reads g c = λ tells image is on.
    let refusals = image_refusals image c.args.volume.now.sup c.args.volume.now.ranges.items in
    let err = err_from_is_err_and c.from_residual.result c.from_residual.ensures.1 in
    rw err.1 (subst (IsAmong refusals) (sym err.2) (among_none refusals c.in_err-used.field-0.0 (c.in_err-used.ensures.told tells image is on)))

pub returns-in_err-files-clause-reads : goal.returns-in_err-files-clause-reads
returns-in_err-files-clause-reads g c = λ tells image is on.
    let ranges : List MapRange = c.args.volume.now.ranges.items in
    let apart : IsMapApart ranges = opened_apart image c.args.volume.now.sup ranges on.opened in
    let here : g.S.BlockSource.blocks c.reserved_root.new.src ≡ image = g.met.S.BlockSource.kept_blocks c.args.src.now c.reserved_root.new.src tells c.in_ok-used.ensures.kept ∙ is in
    let err = err_from_is_err_and c.from_residual-in_err-files.result c.from_residual-in_err-files.ensures.1 in
    rw err.1 (subst (IsAmong (image_refusals image c.args.volume.now.sup ranges)) (sym err.2) (c.in_err-files.ensures.reads tells image here on apart))

pub returns-clause-reads : goal.returns-clause-reads
returns-clause-reads g c = λ tells image is on.
    let ranges : List MapRange = c.args.volume.now.ranges.items in
    let apart : IsMapApart ranges = opened_apart image c.args.volume.now.sup ranges on.opened in
    let here : g.S.BlockSource.blocks c.reserved_root.new.src ≡ image = g.met.S.BlockSource.kept_blocks c.args.src.now c.reserved_root.new.src tells c.in_ok-used.ensures.kept ∙ is in
    c.in_ok-files.ensures.reads tells image here on apart

pub returns-clause-reserved : goal.returns-clause-reserved
returns-clause-reserved g c = λ tells image is on.
    let ranges : List MapRange = c.args.volume.now.ranges.items in
    let apart : IsMapApart ranges = opened_apart image c.args.volume.now.sup ranges on.opened in
    let here : g.S.BlockSource.blocks c.reserved_root.new.src ≡ image = g.met.S.BlockSource.kept_blocks c.args.src.now c.reserved_root.new.src tells c.in_ok-used.ensures.kept ∙ is in
    subst (TellsReserved (IsInUse image) c.args.blocks) (sym c.or.ensures)
    (whole_told image c.args.volume.now.sup ranges on.opened c.args.blocks _ _ (c.in_ok-used.ensures.told tells image is on) (c.in_ok-files.ensures.used tells image here on apart))
