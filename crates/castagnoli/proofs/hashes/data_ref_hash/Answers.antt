use Rattle.castagnoli.proofs.Imports.{arith, data_ref_hash}
use Rattle.std.specs.Int.{w64, to_le_bytes}
use Rattle.castagnoli.proofs.Linear.{hash_is, hash_below}
use Rattle.castagnoli.proofs.hashes.data_ref_hash.Goals as goal

pub returns-clause-value : goal.returns-clause-value
unfolding data_ref_hash
returns-clause-value c = hash_is (to_le_bytes w64 c.args.root) (to_le_bytes w64 c.args.objectid) (to_le_bytes w64 c.args.offset) c.from.result c.raw_crc.result c.from-2.result (omega arith) (cc) (cc) (cc)

pub returns-clause-bound : goal.returns-clause-bound
returns-clause-bound c = hash_below c.from.result c.from-2.result (omega arith) (omega arith)
