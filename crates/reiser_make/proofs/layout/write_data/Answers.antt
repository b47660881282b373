use Rattle.reiser_make.proofs.Imports.{◌+◌, sym, arith, range_with_len, flat_map, IsUsed, data_of_name}
use Rattle.reiser_make.proofs.Laying.{goes_on, only_on}
use Rattle.reiser_make.proofs.Lists.{flat_map_more}
use Rattle.reiser_make.proofs.layout.write_data.Goals as goal

pub returns-in_err-write_file-clause-only : goal.returns-in_err-write_file-clause-only
returns-in_err-write_file-clause-only g c =
    only_on _ (IsUsed c.args.usage.now) _ _ _ _ _ _ _ _ _ (flat_map (data_of_name c.args.plan.now.sample) (range_with_len 0 c.loop-i.i)) c.loop-i.invariant c.write_file.ensures.only

pub loop-i-preserved : goal.loop-i-preserved
loop-i-preserved g c =
    goes_on _ (IsUsed c.args.usage.now) _ _ _ _ _ _ _ _ _ _ _ _ (flat_map (data_of_name c.args.plan.now.sample) (range_with_len 0 c.loop-i.i)) (data_of_name c.args.plan.now.sample c.loop-i.i)
    (flat_map (data_of_name c.args.plan.now.sample) (range_with_len 0 (c.loop-i.i + 1)))
    (sym (flat_map_more (data_of_name c.args.plan.now.sample) 0 c.loop-i.i c.loop-i.i (omega arith)))
    c.loop-i.invariant c.write_file.ensures.open c.write_file.ensures.size c.in_ok-write_file.ensures.cause.kept c.write_file.ensures.only c.in_ok-write_file.ensures.written
