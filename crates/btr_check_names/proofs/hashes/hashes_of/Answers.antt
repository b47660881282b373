use Rattle.btr_check_names.proofs.Imports.{rules, arith}
use Rattle.btr_check_names.proofs.Hashing.{hash_next}
use Rattle.btr_check_names.proofs.hashes.hashes_of.Goals as goal

pub loop-i-preserved : goal.loop-i-preserved
loop-i-preserved c =
    hash_next c.args.list.now c.loop-i.keys.items c.push.new.self.items c.loop-i.i _ _ c.head.result.dir c.name.result.now (omega arith) c.loop-i.invariant c.head.ensures.dir c.name.ensures
    c.extref_hash-hash.ensures c.in_ok-number_of.ensures c.in_ok-push.ensures.items
