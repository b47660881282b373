use Rattle.btr_super.proofs.Imports.{◌-◌, length, ap, arith, length-take, drop, take, length-kind_sum}
use Rattle.btr_super.proofs.sums.put_sum.Goals as goal

pub copy_from_slice-requires : goal.copy_from_slice-requires
copy_from_slice-requires c = omega (arith, length-take 32 c.args.block.now, ap length c.kind_sum-sum.ensures, length-kind_sum c.args.kind (take (length c.args.block.now - 32) (drop 32 c.args.block.now)))
