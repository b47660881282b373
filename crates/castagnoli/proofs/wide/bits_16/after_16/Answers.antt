use Rattle.castagnoli.proofs.Imports.{refl, arith, shifted}
use Rattle.castagnoli.specs.declared.wide.bits_16.TheConstants.{TABLE_16}
use Rattle.castagnoli.proofs.Linear.{entry_of}
use Rattle.castagnoli.proofs.wide.bits_16.after_16.Goals as goal

pub returns : goal.returns
unfolding shifted
returns c = entry_of 16 TABLE_16 refl c.args.low (omega arith)
