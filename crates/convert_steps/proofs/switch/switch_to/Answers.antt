use Rattle.convert_steps.proofs.Imports.{◌≡◌, inr, ⊎_elim, reads, left_then, on_ok, IsCopy}
use Rattle.convert_steps.proofs.Phases.{superblock_crash, superblock_stands, copies_crash, copies_stand, superblock_part, copies_part}
use Rattle.convert_steps.proofs.switch.switch_to.Goals as goal

pub returns-in_err-to_btrfs-clause-crash : goal.returns-in_err-to_btrfs-clause-crash
returns-in_err-to_btrfs-clause-crash g c = λ tells settled image left.
    superblock_crash c.args.superblock.now.bytes c.args.place c.args.blocks _ image (c.to_btrfs.ensures.crash tells settled image left)

pub returns-clause-crash : goal.returns-clause-crash
returns-clause-crash g c = λ tells settled image left.
    let stands = superblock_stands c.args.superblock.now.bytes c.args.blocks (reads (g.D.Disk.history c.args.disk.now)) (reads (g.D.Disk.history c.to_btrfs.new.disk)) (c.in_ok-to_btrfs.ensures.written tells) in
    ⊎_elim
    (λ early. superblock_crash c.args.superblock.now.bytes c.args.place c.args.blocks _ image (c.to_btrfs.ensures.crash tells settled image early))
    (λ late. inr (inr (copies_crash c.args.superblock.now.bytes c.args.blocks _ _ _ (c.in_ok-to_btrfs.ensures.settled tells) stands (c.write_copies.ensures.only tells) image late)))
    (left_then (λ b _. b ≡ 16) (IsCopy c.args.superblock.now.bytes c.args.blocks)
    (g.D.Disk.history c.args.disk.now) (g.D.Disk.history c.to_btrfs.new.disk) (g.D.Disk.history c.write_copies.new.disk)
    (c.to_btrfs.ensures.writes.only tells) (c.write_copies.ensures.only tells) image left)

pub returns-in_err-to_btrfs-clause-only : goal.returns-in_err-to_btrfs-clause-only
returns-in_err-to_btrfs-clause-only g c = λ tells.
    superblock_part c.args.superblock.now.bytes c.args.blocks _ _ (c.to_btrfs.ensures.writes.only tells)

pub returns-clause-only : goal.returns-clause-only
returns-clause-only g c = λ tells.
    copies_part c.args.superblock.now.bytes c.args.blocks _ _ _ (c.to_btrfs.ensures.writes.only tells) (c.write_copies.ensures.only tells)

pub returns-clause-written : goal.returns-clause-written
returns-clause-written g c = λ tells.
    let stands = superblock_stands c.args.superblock.now.bytes c.args.blocks (reads (g.D.Disk.history c.args.disk.now)) (reads (g.D.Disk.history c.to_btrfs.new.disk)) (c.in_ok-to_btrfs.ensures.written tells) in
    on_ok c.write_copies.result _ (copies_stand c.args.superblock.now.bytes c.args.blocks _ _ _ stands (c.write_copies.ensures.only tells))
