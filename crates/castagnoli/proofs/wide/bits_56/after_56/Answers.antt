use Rattle.castagnoli.proofs.Imports.{refl, arith, shifted}
use Rattle.castagnoli.specs.declared.wide.bits_56.TheConstants.{TABLE_56}
use Rattle.castagnoli.proofs.Linear.{entry_of}
use Rattle.castagnoli.proofs.wide.bits_56.after_56.Goals as goal

pub returns : goal.returns
unfolding shifted
returns c = entry_of 56 TABLE_56 refl c.args.low (omega arith)
