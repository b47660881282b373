use Rattle.reiser_volume.proofs.Imports.{◌≡◌, List, sym, ap, subst, ◌∙◌, MatchResult-weaker, HoldsObject, object_items, ReiserItem, IsFaultOrMemory, FileRun, file_runs, ObjectKey, items_of, some_same, match_ok, stat_at, TellsOwned, superblock, used_of, reiser_tree_of, volume_items}
use Rattle.reiser_volume.proofs.Filing.{placed, size_there}
use Rattle.reiser_volume.proofs.Holding.{holds, same_items}
use Rattle.reiser_volume.proofs.Mapping.{maps_tell_owned}
use Rattle.reiser_volume.proofs.volume.Volume.file_map.Goals as goal

pub returns-clause-map : goal.returns-clause-map
returns-clause-map g c = λ tells image is accepted opened key at.
    let volume = c.args.self.now in
    let same : c.object.result ≡ key = some_same _ c.object.result key c.object.ensures at in
    let size = size_there image volume accepted opened c.args.i key at c.stat.result.now (c.stat.ensures key at) in
    let held = holds image volume key (placed image volume accepted opened c.args.i key at) in
    let map = c.file_map.ensures.map tells (reiser_tree_of (superblock image)) image (used_of image) is (subst (λ (k : ObjectKey). HoldsObject volume.objects k (reiser_tree_of (superblock image)) image (used_of image)) (sym same) held) in
    MatchResult-weaker c.file_map.result map
    (λ m made. made
    ∙ (ap (λ (k : ObjectKey). file_runs (object_items (reiser_tree_of (superblock image)) image (used_of image) k) c.stat.result.now.fields.size) same
    ∙ (ap (λ (l : List ReiserItem). file_runs l c.stat.result.now.fields.size) (same_items image key)
    ∙ ap (file_runs (items_of key (volume_items image))) size)))
    (λ e failed. failed)

pub returns-clause-owned : goal.returns-clause-owned
returns-clause-owned g c = λ tells image is accepted opened key at.
    let runs = file_runs (items_of key (volume_items image)) (stat_at (volume_items image) key).fields.size in
    let tells_owned : TellsOwned image key runs = maps_tell_owned image accepted key (placed image c.args.self.now accepted opened c.args.i key at).named in
    match_ok (λ (map : List FileRun). map ≡ runs) (TellsOwned image key) IsFaultOrMemory c.file_map.result (returns-clause-map g c tells image is accepted opened key at) (λ map same. subst (TellsOwned image key) (sym same) tells_owned)
