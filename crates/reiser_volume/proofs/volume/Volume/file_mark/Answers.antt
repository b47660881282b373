use Rattle.reiser_volume.proofs.Imports.{Some, subst, MatchResult-weaker, ObjectKey, IsKeptMark, some_same, superblock, used_of, reiser_tree_of}
use Rattle.reiser_volume.proofs.Filing.{placed, size_there}
use Rattle.reiser_volume.proofs.Holding.{holds, mark_kept}
use Rattle.reiser_volume.proofs.volume.Volume.file_mark.Goals as goal

pub returns-clause-mark : goal.returns-clause-mark
returns-clause-mark g c = λ tells image is accepted opened.
    let volume = c.args.self.now in
    let key = c.object.result in
    let at = c.object.ensures in
    let size = size_there image volume accepted opened c.args.i key at c.stat.result.now (c.stat.ensures key at) in
    let held = holds image volume key (placed image volume accepted opened c.args.i key at) in
    let mark = c.file_mark.ensures.mark tells (reiser_tree_of (superblock image)) image (used_of image) is held in
    MatchResult-weaker c.file_mark.result mark
    (λ m made other there. subst (λ (k : ObjectKey). IsKeptMark image k (Some m)) (some_same _ key other at there) (mark_kept image key m _ made size))
    (λ e failed. failed)
