use Rattle.reiser_volume.proofs.Imports.{sym, arith, slice_get_within}
use Rattle.reiser_volume.proofs.Numbered.{inode_before, inode_behind, inode_of_root}
use Rattle.reiser_volume.proofs.inode_numbers.InodeNumbers.inode.Goals as goal

pub returns-then-place-self : goal.returns-then-place-self
returns-then-place-self c all key numbered there = sym (inode_of_root all c.args.self.root numbered c.args.place key there (omega (arith, c.if-place-self.true)))

pub returns-then-place-self-2 : goal.returns-then-place-self-2
returns-then-place-self-2 c all key numbered there =
    let within = slice_get_within all c.args.place key there in
    let number = inode_before all c.args.self.root numbered c.args.place key there (omega (arith, c.if-place-self-2.true)) in
    omega (arith, within, numbered.small, number, c.saturating_add.ensures)

pub returns-else-place-self-2 : goal.returns-else-place-self-2
returns-else-place-self-2 c all key numbered there =
    let within = slice_get_within all c.args.place key there in
    let number = inode_behind all c.args.self.root numbered c.args.place key there (omega (arith, c.if-place-self.false, c.if-place-self-2.false)) in
    omega (arith, within, numbered.small, number, c.saturating_add-else-place-self-2.ensures)
