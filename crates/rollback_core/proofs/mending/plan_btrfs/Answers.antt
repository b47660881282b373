use Rattle.rollback_core.proofs.Imports.{◌≡◌, ◌∙◌, ◌≤◌, ◌/◌, ℕ, List, length, Ok, sym, ap, subst, SUPER_BLOCK, Image, block_at, super_of}
use Rattle.rollback_core.proofs.Plans.{btrfs_planned}
use Rattle.rollback_core.proofs.Supers.{super_fits}
use Rattle.rollback_core.proofs.mending.plan_btrfs.Goals as goal

pub copy_both-requires : goal.copy_both-requires
copy_both-requires g c = record {
  device =
      let fits : c.in_ok-sup.sup.total_bytes / 4096 ≤ c.len.result = super_fits c.args.superblock.now.bytes c.len.result c.in_ok-sup.sup (sym c.in_ok-sup.ensures.value) in
      subst (λ (n : ℕ). c.in_ok-sup.sup.total_bytes / 4096 ≤ n) c.len.ensures fits;
}

pub returns-clause-planned : goal.returns-clause-planned
returns-clause-planned g c = λ tells image is format block.
    let size = c.len.ensures ∙ (g.met.S.BlockSource.size_is c.args.src.now tells ∙ ap (λ (i : Image). length i) is) in
    let read : super_of (block_at image SUPER_BLOCK) SUPER_BLOCK (length image) ≡ Ok c.in_ok-sup.sup =
    ap (λ (bytes : List ℕ). super_of bytes SUPER_BLOCK (length image)) (sym block) ∙ (ap (λ (n : ℕ). super_of c.args.superblock.now.bytes SUPER_BLOCK n) (sym size) ∙ sym c.in_ok-sup.ensures.value) in
    btrfs_planned image c.in_ok-copy_both.field-0 c.args.superblock.now.bytes c.in_ok-sup.sup block read format c.in_ok-copy_both.ensures.format
    (c.in_ok-copy_both.ensures.first tells image is) (c.in_ok-copy_both.ensures.second tells image is)
