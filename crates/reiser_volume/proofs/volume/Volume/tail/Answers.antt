use Rattle.reiser_volume.proofs.Imports.{◌≡◌, ℕ, List, sym, ap, subst, ◌∙◌, MatchResult-weaker, HoldsObject, object_items, ReiserItem, tail_block, ObjectKey, items_of, some_same, superblock, used_of, reiser_tree_of, volume_items}
use Rattle.reiser_volume.proofs.Filing.{placed, size_there}
use Rattle.reiser_volume.proofs.Holding.{holds, same_items}
use Rattle.reiser_volume.proofs.volume.Volume.tail.Goals as goal

pub returns-clause-tail : goal.returns-clause-tail
returns-clause-tail g c = λ tells image is accepted opened key at.
    let volume = c.args.self.now in
    let same : c.object.result ≡ key = some_same _ c.object.result key c.object.ensures at in
    let size = size_there image volume accepted opened c.args.i key at c.stat.result.now (c.stat.ensures key at) in
    let held = holds image volume key (placed image volume accepted opened c.args.i key at) in
    let tail = c.file_tail.ensures.tail tells (reiser_tree_of (superblock image)) image (used_of image) is (subst (λ (k : ObjectKey). HoldsObject volume.objects k (reiser_tree_of (superblock image)) image (used_of image)) (sym same) held) in
    MatchResult-weaker c.file_tail.result tail
    (λ m made. made
    ∙ (ap (λ (k : ObjectKey). tail_block (object_items (reiser_tree_of (superblock image)) image (used_of image) k) c.stat.result.now.fields.size c.args.at) same
    ∙ (ap (λ (l : List ReiserItem). tail_block l c.stat.result.now.fields.size c.args.at) (same_items image key)
    ∙ ap (λ (n : ℕ). tail_block (items_of key (volume_items image)) n c.args.at) size)))
    (λ e failed. failed)
