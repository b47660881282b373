use Rattle.reiser_volume.proofs.Imports.{sym, subst, refl, err_from_is_err_and, IsFaultOrMemory, superblock, used_of, reiser_tree_of}
use Rattle.reiser_volume.proofs.Holding.{holds_link, link_read}
use Rattle.reiser_volume.proofs.content.link_content.Goals as goal

pub returns-in_err-target-clause-content : goal.returns-in_err-target-clause-content
returns-in_err-target-clause-content g c = λ tells image is of at link.
    let fault = c.in_err-target.ensures.target tells (reiser_tree_of (superblock image)) image (used_of image) is (holds_link image c.args.volume.now c.args.key of c.args.known.now at link) in
    let err = err_from_is_err_and c.from_residual.result c.from_residual.ensures.1 in
    rw err.1 (subst IsFaultOrMemory (sym err.2) fault)

pub returns-clause-content : goal.returns-clause-content
returns-clause-content g c = λ tells image is of at link.
    let target = c.in_ok-target.ensures.target tells (reiser_tree_of (superblock image)) image (used_of image) is (holds_link image c.args.volume.now c.args.key of c.args.known.now at link) in
    link_read image c.args.volume.now c.args.key of c.args.known.now at _ c.in_ok-target.target refl target
