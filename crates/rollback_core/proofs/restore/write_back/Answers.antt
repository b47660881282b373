use Rattle.rollback_core.proofs.Imports.{◌≡◌, List, inl, inr, ⊎_elim, View, Writes, view, left_then, on_ok, then_writes, weaker_writes, Saved, WayBack, IsWayBackPart, IsSavedPlace, IsWiping}
use Rattle.rollback_core.proofs.Phases.{saved_crash, superblock_crash, superblock_stands, wiping_crash, wiping_stands, saved_here, saved_part, superblock_part, wiping_part, written_here}
use Rattle.rollback_core.proofs.restore.write_back.Goals as goal

-- the first two steps write parts
written_parts : {D : Type 0} {d : View D} {a b c : D} (way : WayBack) (saved : List Saved) → saved ≡ way.reserved.items
    → Writes d (λ b _. IsSavedPlace saved b) a b → Writes d (λ b _. b ≡ 16) b c → Writes d (IsWayBackPart way) a c
written_parts way saved same first second =
    then_writes (weaker_writes (λ b bytes. saved_part way b bytes saved same) first) (weaker_writes (superblock_part way) second)

pub returns-in_err-write_reserved-clause-crash : goal.returns-in_err-write_reserved-clause-crash
returns-in_err-write_reserved-clause-crash g c = λ tells settled image left.
    inl (saved_crash c.args.way.now _ _ settled (saved_here _ _ _ _ c.as_slice.ensures.value (c.write_reserved.ensures.writes.only tells)) image left)

pub returns-in_err-to_reiser-clause-crash : goal.returns-in_err-to_reiser-clause-crash
returns-in_err-to_reiser-clause-crash g c = λ tells settled image left.
    superblock_crash c.args.way.now _ _ _ c.requires.apart settled (saved_here _ _ _ _ c.as_slice.ensures.value (c.write_reserved.ensures.writes.only tells))
    (written_here _ _ _ c.as_slice.ensures.value (c.in_ok-write_reserved.ensures.written tells)) (c.to_reiser.ensures.writes.only tells)
    (c.to_reiser.ensures.crash tells (c.in_ok-write_reserved.ensures.settled tells)) image left

pub returns-clause-crash : goal.returns-clause-crash
returns-clause-crash g c = λ tells settled image left.
    let stands = superblock_stands c.args.way.now (g.D.Disk.history c.args.disk.now) (g.D.Disk.history c.write_reserved.new.disk) (g.D.Disk.history c.to_reiser.new.disk)
    c.requires.apart (saved_here _ _ _ _ c.as_slice.ensures.value (c.write_reserved.ensures.writes.only tells)) (written_here _ _ _ c.as_slice.ensures.value (c.in_ok-write_reserved.ensures.written tells)) (c.in_ok-to_reiser.ensures.written tells) in
    let parts : Writes (view g.D.BlockSource g.D.Disk) (IsWayBackPart c.args.way.now) c.args.disk.now c.to_reiser.new.disk = written_parts c.args.way.now _ c.as_slice.ensures.value c.write_reserved.ensures.writes c.to_reiser.ensures.writes in
    ⊎_elim
    (λ early. superblock_crash c.args.way.now _ _ _ c.requires.apart settled (saved_here _ _ _ _ c.as_slice.ensures.value (c.write_reserved.ensures.writes.only tells))
    (written_here _ _ _ c.as_slice.ensures.value (c.in_ok-write_reserved.ensures.written tells)) (c.to_reiser.ensures.writes.only tells)
    (c.to_reiser.ensures.crash tells (c.in_ok-write_reserved.ensures.settled tells)) image early)
    (λ late. inr (inr (wiping_crash c.args.way.now c.requires.apart _ _ _ (c.in_ok-to_reiser.ensures.settled tells) stands (c.wipe_copies.ensures.writes.only tells) image late)))
    (left_then (IsWayBackPart c.args.way.now) (IsWiping c.args.way.now)
    (g.D.Disk.history c.args.disk.now) (g.D.Disk.history c.to_reiser.new.disk) (g.D.Disk.history c.wipe_copies.new.disk)
    (parts.only tells)
    (c.wipe_copies.ensures.writes.only tells) image left)

pub returns-in_err-write_reserved-clause-writes : goal.returns-in_err-write_reserved-clause-writes
returns-in_err-write_reserved-clause-writes g c = weaker_writes (λ b bytes. saved_part c.args.way.now b bytes _ c.as_slice.ensures.value) c.write_reserved.ensures.writes

pub returns-in_err-to_reiser-clause-writes : goal.returns-in_err-to_reiser-clause-writes
returns-in_err-to_reiser-clause-writes g c = written_parts c.args.way.now _ c.as_slice.ensures.value c.write_reserved.ensures.writes c.to_reiser.ensures.writes

pub returns-clause-writes : goal.returns-clause-writes
returns-clause-writes g c =
    then_writes (written_parts c.args.way.now _ c.as_slice.ensures.value c.write_reserved.ensures.writes c.to_reiser.ensures.writes) (weaker_writes (wiping_part c.args.way.now) c.wipe_copies.ensures.writes)

pub returns-clause-written : goal.returns-clause-written
returns-clause-written g c = λ tells.
    let stands = superblock_stands c.args.way.now (g.D.Disk.history c.args.disk.now) (g.D.Disk.history c.write_reserved.new.disk) (g.D.Disk.history c.to_reiser.new.disk)
    c.requires.apart (saved_here _ _ _ _ c.as_slice.ensures.value (c.write_reserved.ensures.writes.only tells)) (written_here _ _ _ c.as_slice.ensures.value (c.in_ok-write_reserved.ensures.written tells)) (c.in_ok-to_reiser.ensures.written tells) in
    on_ok c.wipe_copies.result _ (wiping_stands c.args.way.now c.requires.apart _ _ _ stands (c.wipe_copies.ensures.writes.only tells))
