use Rattle.castagnoli.proofs.Imports.{refl, arith, shifted}
use Rattle.castagnoli.specs.declared.wide.bits_24.TheConstants.{TABLE_24}
use Rattle.castagnoli.proofs.Linear.{entry_of}
use Rattle.castagnoli.proofs.wide.bits_24.after_24.Goals as goal

pub returns : goal.returns
unfolding shifted
returns c = entry_of 24 TABLE_24 refl c.args.low (omega arith)
