use Rattle.castagnoli.proofs.Imports.{refl, arith, shifted}
use Rattle.castagnoli.specs.declared.wide.bits_40.TheConstants.{TABLE_40}
use Rattle.castagnoli.proofs.Linear.{entry_of}
use Rattle.castagnoli.proofs.wide.bits_40.after_40.Goals as goal

pub returns : goal.returns
unfolding shifted
returns c = entry_of 40 TABLE_40 refl c.args.low (omega arith)
