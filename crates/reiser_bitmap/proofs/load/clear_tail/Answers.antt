use Rattle.reiser_bitmap.proofs.Imports.{◌/◌, ◌<◌, length, arith}
use Rattle.reiser_bitmap.proofs.BitLemmas.{read}
use Rattle.reiser_bitmap.proofs.LoadLemmas.{with_end, bits_kept, end_stored}
use Rattle.reiser_bitmap.proofs.load.clear_tail.Goals as goal

pub returns-clause-bits : goal.returns-clause-bits
unfolding with_end
returns-clause-bits c =
    let room : c.args.count / 8 < length c.args.bytes.now.items = omega (arith, c.requires, c.if-used-eq0.false) in
    bits_kept c.args.count c.args.bytes.now.items c.index_mut.result.now room (read c.args.bytes.now.items (c.args.count / 8) c.index_mut.result.now room c.index_mut.ensures.value)

pub returns-clause-stored : goal.returns-clause-stored
unfolding with_end
returns-clause-stored c =
    let room : c.args.count / 8 < length c.args.bytes.now.items = omega (arith, c.requires, c.if-used-eq0.false) in
    end_stored c.args.count c.args.bytes.now.items c.index_mut.result.now (omega arith) c.requires room
