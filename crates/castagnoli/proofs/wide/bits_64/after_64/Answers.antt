use Rattle.castagnoli.proofs.Imports.{refl, arith, shifted}
use Rattle.castagnoli.specs.declared.wide.bits_64.TheConstants.{TABLE_64}
use Rattle.castagnoli.proofs.Linear.{entry_of}
use Rattle.castagnoli.proofs.wide.bits_64.after_64.Goals as goal

pub returns : goal.returns
unfolding shifted
returns c = entry_of 64 TABLE_64 refl c.args.low (omega arith)
