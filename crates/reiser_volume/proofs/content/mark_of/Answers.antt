use Rattle.reiser_volume.proofs.Imports.{MatchResult-weaker, superblock, used_of, reiser_tree_of}
use Rattle.reiser_volume.proofs.Holding.{holds, mark_kept}
use Rattle.reiser_volume.proofs.content.mark_of.Goals as goal

pub returns-in-None-clause-mark : goal.returns-in-None-clause-mark
returns-in-None-clause-mark g c = λ tells image is of size kept.
    let mark = c.file_mark.ensures.mark tells (reiser_tree_of (superblock image)) image (used_of image) is (holds image c.args.volume.now c.args.key of) in
    MatchResult-weaker c.file_mark.result mark (λ m made. mark_kept image c.args.key m c.args.size made size) (λ e failed. failed)
