use Rattle.btr_reader.proofs.Imports.{sym, ◌∙◌, subst, err_from_is_err_and, image_refusals, IsAmong, roots_on}
use Rattle.btr_reader.proofs.Stages.{file_tree_refused, none_saved, saved_refused, top_read}
use Rattle.btr_reader.proofs.volume.Btrfs.read_image.Goals as goal

pub returns-in_err-file-clause-reads : goal.returns-in_err-file-clause-reads
returns-in_err-file-clause-reads g c = λ tells image is right.
    let sup = c.args.self.now.sup in
    let ranges = c.args.self.now.ranges.items in
    let err = err_from_is_err_and c.from_residual.result c.from_residual.ensures.1 in
    rw err.1 (subst (IsAmong (image_refusals image sup ranges)) (sym err.2) (file_tree_refused image sup ranges c.in_err-file.field-0.0 (c.in_err-file.ensures.finds (roots_on image sup ranges) right)))

pub returns-in_err-saved-clause-reads : goal.returns-in_err-saved-clause-reads
returns-in_err-saved-clause-reads g c = λ tells image is right.
    let sup = c.args.self.now.sup in
    let ranges = c.args.self.now.ranges.items in
    let there = rw c.in-Some.is at (c.in_ok-file.ensures.finds (roots_on image sup ranges) right) in
    let err = err_from_is_err_and c.from_residual-in_err-saved.result c.from_residual-in_err-saved.ensures.1 in
    rw err.1 (subst (IsAmong (image_refusals image sup ranges)) (sym err.2)
    (saved_refused image sup ranges c.in-Some.file there c.in_err-saved.field-0.0 (c.in_err-saved.ensures.finds tells image is (roots_on image sup ranges) right)))

pub returns-in-None-2-clause-reads : goal.returns-in-None-2-clause-reads
returns-in-None-2-clause-reads g c = λ tells image is right.
    let sup = c.args.self.now.sup in
    let ranges = c.args.self.now.ranges.items in
    let there = rw c.in-Some.is at (c.in_ok-file.ensures.finds (roots_on image sup ranges) right) in
    none_saved image sup ranges c.in-Some.file there (rw c.in-None-2.is at (c.in_ok-saved.ensures.finds tells image is (roots_on image sup ranges) right))

pub returns-clause-reads : goal.returns-clause-reads
returns-clause-reads g c = λ tells image is right.
    let sup = c.args.self.now.sup in
    let ranges = c.args.self.now.ranges.items in
    let later = g.met.S.BlockSource.kept_blocks c.args.src.now c.saved_tree.new.src tells c.saved_tree.ensures.kept ∙ is in
    let there = rw c.in-Some.is at (c.in_ok-file.ensures.finds (roots_on image sup ranges) right) in
    top_read image sup ranges c.in-Some.file there c.in-Some-2.saved c.read_saved.result (rw c.in-Some-2.is at (c.in_ok-saved.ensures.finds tells image is (roots_on image sup ranges) right))
    (c.read_saved.ensures.reads tells image later)
