use Rattle.castagnoli.proofs.Imports.{refl, arith, shifted}
use Rattle.castagnoli.specs.declared.table.TheConstants.{TABLE}
use Rattle.castagnoli.proofs.Linear.{entry_of}
use Rattle.castagnoli.proofs.table.after_eight.Goals as goal

pub returns : goal.returns
unfolding shifted
returns c = entry_of 8 TABLE refl c.args.low (omega arith)
