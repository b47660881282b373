use Rattle.volume_state.proofs.Imports.{None, Some, Ok, Err, sym, ◌∙◌, subst, err_from_is_err_and, entry_refusals, image_refusals, FindsSaved, roots_on, IsAmong, found, Tree, HoldsPartOf, IsInFiles, TellsReserved, file_tree_refused, none_saved, saved_refused, top_read}
use Rattle.volume_state.proofs.Telling.{alone_by_own, both_by_each, file_of, files_told, no_file, no_trees, other_of}
use Rattle.volume_state.proofs.using.read_files.Goals as goal

pub returns-in_err-file-clause-reads : goal.returns-in_err-file-clause-reads
returns-in_err-file-clause-reads g c = λ tells image is on apart.
    let sup = c.args.volume.now.sup in
    let ranges = c.args.volume.now.ranges.items in
    let err = err_from_is_err_and c.from_residual.result c.from_residual.ensures.1 in
    rw err.1 (subst (IsAmong (image_refusals image sup ranges)) (sym err.2) (file_tree_refused image sup ranges c.in_err-file.field-0.0 (c.in_err-file.ensures.finds (roots_on image sup ranges) on.roots)))

pub returns-in-None-clause-used : goal.returns-in-None-clause-used
returns-in-None-clause-used g c = λ tells image is on apart.
    let sup = c.args.volume.now.sup in
    let ranges = c.args.volume.now.ranges.items in
    files_told image sup ranges on.opened c.args.blocks None (no_trees image sup ranges c.args.blocks (no_file image sup ranges c.in_ok-file.field-0 c.in-None.is (c.in_ok-file.ensures.finds _ on.roots)))

pub returns-in_err-own-clause-reads : goal.returns-in_err-own-clause-reads
returns-in_err-own-clause-reads g c = λ tells image is on apart.
    let sup = c.args.volume.now.sup in
    let ranges = c.args.volume.now.ranges.items in
    let there = rw c.in-Some.is at (c.in_ok-file.ensures.finds (roots_on image sup ranges) on.roots) in
    let err = err_from_is_err_and c.from_residual-in_err-own.result c.from_residual-in_err-own.ensures.1 in
    rw err.1 (subst (IsAmong (image_refusals image sup ranges)) (sym err.2)
    (saved_refused image sup ranges c.in-Some.file there c.in_err-own.field-0.0 (c.in_err-own.ensures.finds tells image is apart (roots_on image sup ranges) on.roots)))

pub returns-in-None-found-clause-reads : goal.returns-in-None-found-clause-reads
returns-in-None-found-clause-reads g c = λ tells image is on apart.
    let sup = c.args.volume.now.sup in
    let ranges = c.args.volume.now.ranges.items in
    let there = rw c.in-Some.is at (c.in_ok-file.ensures.finds (roots_on image sup ranges) on.roots) in
    none_saved image sup ranges c.in-Some.file there (rw c.in-None-found.is at (c.in_ok-own.ensures.finds tells image is apart (roots_on image sup ranges) on.roots))

pub returns-in-None-found-clause-used : goal.returns-in-None-found-clause-used
returns-in-None-found-clause-used g c = λ tells image is on apart.
    let sup = c.args.volume.now.sup in
    let ranges = c.args.volume.now.ranges.items in
    let file = file_of image sup ranges c.in_ok-file.field-0 c.in-Some.file c.in-Some.is (c.in_ok-file.ensures.finds _ on.roots) in
    let own = subst (λ (t : Tree). TellsReserved (HoldsPartOf image ranges t) c.args.blocks c.in_ok-own.own.used) (sym file.tree) (c.in_ok-own.ensures.used tells image is apart) in
    let finds =
    subst (λ (t : Tree). FindsSaved sup (roots_on image sup ranges) (entry_refusals image ranges t) (found image ranges t) (Ok None)) (sym file.tree)
    (rw c.in-None-found.is at (c.in_ok-own.ensures.finds tells image is apart (roots_on image sup ranges) on.roots)) in
    files_told image sup ranges on.opened c.args.blocks c.in_ok-own.own.used (alone_by_own image sup ranges file.i file.p file.is file.at c.args.blocks c.in_ok-own.own.used finds own)

pub returns-in_err-other-clause-reads : goal.returns-in_err-other-clause-reads
returns-in_err-other-clause-reads g c = λ tells image is on apart.
    let sup = c.args.volume.now.sup in
    let ranges = c.args.volume.now.ranges.items in
    let later = g.met.S.BlockSource.kept_blocks c.args.src.now c.note_file.new.src tells c.in_ok-own.ensures.kept ∙ is in
    let there = rw c.in-Some.is at (c.in_ok-file.ensures.finds (roots_on image sup ranges) on.roots) in
    let finds = rw c.in-Some-found.is at (c.in_ok-own.ensures.finds tells image is apart (roots_on image sup ranges) on.roots) in
    let err = err_from_is_err_and c.from_residual-in_err-other.result c.from_residual-in_err-other.ensures.1 in
    rw err.1 (subst (IsAmong (image_refusals image sup ranges)) (sym err.2)
    (top_read image sup ranges c.in-Some.file there c.in-Some-found.saved (Err c.in_err-other.field-0.0) finds (c.in_err-other.ensures.reads tells image later apart)))

pub returns-clause-reads : goal.returns-clause-reads
returns-clause-reads g c = λ tells image is on apart.
    let sup = c.args.volume.now.sup in
    let ranges = c.args.volume.now.ranges.items in
    let later = g.met.S.BlockSource.kept_blocks c.args.src.now c.note_file.new.src tells c.in_ok-own.ensures.kept ∙ is in
    let there = rw c.in-Some.is at (c.in_ok-file.ensures.finds (roots_on image sup ranges) on.roots) in
    let finds = rw c.in-Some-found.is at (c.in_ok-own.ensures.finds tells image is apart (roots_on image sup ranges) on.roots) in
    top_read image sup ranges c.in-Some.file there c.in-Some-found.saved (Ok c.in_ok-other.other.found) finds (c.in_ok-other.ensures.reads tells image later apart)

pub returns-clause-used : goal.returns-clause-used
returns-clause-used g c = λ tells image is on apart.
    let sup = c.args.volume.now.sup in
    let ranges = c.args.volume.now.ranges.items in
    let later = g.met.S.BlockSource.kept_blocks c.args.src.now c.note_file.new.src tells c.in_ok-own.ensures.kept ∙ is in
    let file = file_of image sup ranges c.in_ok-file.field-0 c.in-Some.file c.in-Some.is (c.in_ok-file.ensures.finds _ on.roots) in
    let own = subst (λ (t : Tree). TellsReserved (HoldsPartOf image ranges t) c.args.blocks c.in_ok-own.own.used) (sym file.tree) (c.in_ok-own.ensures.used tells image is apart) in
    let finds =
    subst (λ (t : Tree). FindsSaved sup (roots_on image sup ranges) (entry_refusals image ranges t) (found image ranges t) (Ok (Some c.in-Some-found.saved))) (sym file.tree)
    (rw c.in-Some-found.is at (c.in_ok-own.ensures.finds tells image is apart (roots_on image sup ranges) on.roots)) in
    let other = other_of image sup ranges file.i file.p file.is file.at c.in-Some-found.saved finds in
    subst (TellsReserved (IsInFiles image) c.args.blocks) (sym c.or.ensures)
    (files_told image sup ranges on.opened c.args.blocks _
    (both_by_each image sup ranges file.i file.p file.is file.at c.args.blocks c.in-Some-found.saved _ _ other own (c.in_ok-other.ensures.used tells image later apart)))
