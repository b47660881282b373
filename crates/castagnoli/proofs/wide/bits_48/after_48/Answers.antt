use Rattle.castagnoli.proofs.Imports.{refl, arith, shifted}
use Rattle.castagnoli.specs.declared.wide.bits_48.TheConstants.{TABLE_48}
use Rattle.castagnoli.proofs.Linear.{entry_of}
use Rattle.castagnoli.proofs.wide.bits_48.after_48.Goals as goal

pub returns : goal.returns
unfolding shifted
returns c = entry_of 48 TABLE_48 refl c.args.low (omega arith)
