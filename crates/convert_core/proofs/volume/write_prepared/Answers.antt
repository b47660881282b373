use Rattle.convert_core.proofs.Imports.{◌∙◌, inl, refl, ap, reads, sync_only, writes_then, sync_reads, Super, Counts, IsFree, summary_by, handed_on, volume_cause}
use Rattle.convert_steps.proofs.Preparing.{volume_answers}
use Rattle.convert_steps.proofs.space_items.ChunksExist.{chunks_exist}
use Rattle.convert_core.proofs.Answering.{fault_of_volume}
use Rattle.convert_core.proofs.Moving.{can_move}
use Rattle.convert_core.proofs.Nodes.{need_small}
use Rattle.convert_core.proofs.Putting.{all_fit, made, made_for, making, nodes_only, places_only, put_down, same_volume}
use Rattle.convert_core.proofs.volume.write_prepared.Goals as goal

pub returns-in_err-write_moved-clause-only : goal.returns-in_err-write_moved-clause-only
returns-in_err-write_moved-clause-only g c = λ tells image is ids prepared.
    places_only c.args.prepared.now.volume image c.args.options.now c.args.prepared.now.plan c.args.prepared.now.pieces.items.items prepared.has_pieces _ _ (c.write_moved.ensures.only tells)

pub returns-in_err-roots-clause-only : goal.returns-in_err-roots-clause-only
returns-in_err-roots-clause-only g c = λ tells image is ids prepared.
    writes_then (λ b _. IsFree image b) _ _ _
    (places_only c.args.prepared.now.volume image c.args.options.now c.args.prepared.now.plan c.args.prepared.now.pieces.items.items prepared.has_pieces _ _ (c.write_moved.ensures.only tells))
    (nodes_only c.args.prepared.now.volume image c.args.options.now c.args.prepared.now.plan c.args.prepared.now.pieces.items.items prepared.has_pieces c.requires.size _ _ (c.write_nodes.ensures.only tells))

pub returns-in_err-superblock-clause-only : goal.returns-in_err-superblock-clause-only
returns-in_err-superblock-clause-only g c = λ tells image is ids prepared.
    writes_then (λ b _. IsFree image b) _ _ _
    (places_only c.args.prepared.now.volume image c.args.options.now c.args.prepared.now.plan c.args.prepared.now.pieces.items.items prepared.has_pieces _ _ (c.write_moved.ensures.only tells))
    (nodes_only c.args.prepared.now.volume image c.args.options.now c.args.prepared.now.plan c.args.prepared.now.pieces.items.items prepared.has_pieces c.requires.size _ _ (c.write_nodes.ensures.only tells))

pub returns-clause-only : goal.returns-clause-only
returns-clause-only g c = λ tells image is ids prepared.
    writes_then (λ b _. IsFree image b) _ _ _
    (writes_then (λ b _. IsFree image b) _ _ _
    (places_only c.args.prepared.now.volume image c.args.options.now c.args.prepared.now.plan c.args.prepared.now.pieces.items.items prepared.has_pieces _ _ (c.write_moved.ensures.only tells))
    (nodes_only c.args.prepared.now.volume image c.args.options.now c.args.prepared.now.plan c.args.prepared.now.pieces.items.items prepared.has_pieces c.requires.size _ _ (c.write_nodes.ensures.only tells)))
    (sync_only (λ b _. IsFree image b) _ _ c.sync.result (c.sync.ensures.effect tells))

pub returns-in_err-sync-clause-only : goal.returns-in_err-sync-clause-only
returns-in_err-sync-clause-only g c = λ tells image is ids prepared.
    writes_then (λ b _. IsFree image b) _ _ _
    (writes_then (λ b _. IsFree image b) _ _ _
    (places_only c.args.prepared.now.volume image c.args.options.now c.args.prepared.now.plan c.args.prepared.now.pieces.items.items prepared.has_pieces _ _ (c.write_moved.ensures.only tells))
    (nodes_only c.args.prepared.now.volume image c.args.options.now c.args.prepared.now.plan c.args.prepared.now.pieces.items.items prepared.has_pieces c.requires.size _ _ (c.write_nodes.ensures.only tells)))
    (sync_only (λ b _. IsFree image b) _ _ c.sync.result (c.sync.ensures.effect tells))

pub returns-in_err-write_moved-clause-cause : goal.returns-in_err-write_moved-clause-cause
returns-in_err-write_moved-clause-cause g c = volume_cause c.from_residual.result c.in_err-write_moved.field-0.0 _ _ _ refl c.from_residual.ensures.1 c.in_err-write_moved.ensures.cause

pub returns-in_err-write_moved-clause-answers : goal.returns-in_err-write_moved-clause-answers
returns-in_err-write_moved-clause-answers g c = handed_on c.from_residual.result _ _ _ c.from_residual.ensures.1 (volume_answers c.in_err-write_moved.field-0.0)

pub returns-in_err-write_moved-clause-written : goal.returns-in_err-write_moved-clause-written
returns-in_err-write_moved-clause-written g c = λ tells image is ids prepared.
    let p = c.args.prepared.now in
    let movable = can_move p.volume image c.args.options.now p.plan p.pieces.items.items prepared.has_pieces in
    handed_on c.from_residual.result _ _ _ c.from_residual.ensures.1 (inl (fault_of_volume c.in_err-write_moved.field-0.0 (c.in_err-write_moved.ensures.written tells image is movable)))

pub returns-in_err-roots-clause-written : goal.returns-in_err-roots-clause-written
returns-in_err-roots-clause-written g c = λ tells image is ids prepared.
    let p = c.args.prepared.now in
    let o = c.args.options.now in
    let mid = g.D.Disk.history c.write_moved.new.disk in
    let chunks = chunks_exist p.plan p.volume.sup.blocks in
    let m = made o ids c.args.now p chunks.0 in
    let there = g.met.D.Disk.open_blocks c.write_moved.new.disk _ tells (c.write_moved.ensures.«open» ∙ c.requires.«open») in
    handed_on c.from_residual-in_err-roots.result _ _ _ c.from_residual-in_err-roots.ensures.1
    (c.in_err-roots.ensures.trees tells (reads mid) there image m (making image o ids p prepared c.args.now chunks.0 chunks.1) (made_for image o ids p prepared c.args.now chunks.0 chunks.1)
    (same_volume image o ids p prepared c.args.now chunks.0 chunks.1 _ mid is (c.write_moved.ensures.only tells))
    (all_fit image o ids p prepared c.args.now chunks.0 chunks.1 c.plans_suffice.ensures c.requires.size c.know_ids.ensures (reads mid)))

pub returns-clause-written : goal.returns-clause-written
returns-clause-written g c = λ tells image is ids prepared.
    let p = c.args.prepared.now in
    let o = c.args.options.now in
    let mid = g.D.Disk.history c.write_moved.new.disk in
    let chunks = chunks_exist p.plan p.volume.sup.blocks in
    let m = made o ids c.args.now p chunks.0 in
    let there = g.met.D.Disk.open_blocks c.write_moved.new.disk _ tells (c.write_moved.ensures.«open» ∙ c.requires.«open») in
    let movable = can_move p.volume image o p.plan p.pieces.items.items prepared.has_pieces in
    let hold = c.in_ok-write_moved.ensures.written tells image is movable in
    let stand = c.in_ok-roots.ensures.trees tells (reads mid) there image m (making image o ids p prepared c.args.now chunks.0 chunks.1) (made_for image o ids p prepared c.args.now chunks.0 chunks.1)
    (same_volume image o ids p prepared c.args.now chunks.0 chunks.1 _ mid is (c.write_moved.ensures.only tells))
    (all_fit image o ids p prepared c.args.now chunks.0 chunks.1 c.plans_suffice.ensures c.requires.size c.know_ids.ensures (reads mid)) in
    let start = g.D.Disk.history c.args.disk.now in
    let laid = g.D.Disk.history c.write_nodes.new.disk in
    let end = g.D.Disk.history c.sync.new.self in
    put_down image o ids p prepared c.args.now chunks.0 chunks.1 c.requires.size start mid laid end is (c.write_moved.ensures.only tells) (c.write_nodes.ensures.only tells)
    (sync_reads laid end c.sync.result (c.sync.ensures.effect tells)) _ c.in_ok-roots.roots hold stand (c.in_ok-superblock.ensures.bytes chunks.0 chunks.1) (ap (λ (s : Super). s.blocks) c.sup.ensures) c.superblock_copy.ensures
    (c.summary_of.ensures ∙ ap (λ (n : Counts). summary_by n p.need) c.counts.ensures)

pub summary_of-requires : goal.summary_of-requires
summary_of-requires g c = need_small c.args.prepared.now _ c.requires.plan c.requires.whole
