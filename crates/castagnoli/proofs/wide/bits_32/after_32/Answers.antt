use Rattle.castagnoli.proofs.Imports.{refl, arith, shifted}
use Rattle.castagnoli.specs.declared.wide.bits_32.TheConstants.{TABLE_32}
use Rattle.castagnoli.proofs.Linear.{entry_of}
use Rattle.castagnoli.proofs.wide.bits_32.after_32.Goals as goal

pub returns : goal.returns
unfolding shifted
returns c = entry_of 32 TABLE_32 refl c.args.low (omega arith)
