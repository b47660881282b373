use Rattle.btr_check_forms.proofs.Imports.{arith, extref_value, IsTold}
use Rattle.btr_check_forms.proofs.Deciding.{all_are, all_more, not_all}
use Rattle.btr_check_forms.proofs.forms.are_told.Goals as goal

pub loop-i-preserved : goal.loop-i-preserved
loop-i-preserved c =
    all_more (IsTold c.args.hash) c.args.names.now c.loop-i.i (extref_value c.get.result) (omega arith) c.get.ensures c.loop-i.invariant c.is_told.result c.is_told.ensures c.if-not-is_told.false

pub returns-then-not-is_told : goal.returns-then-not-is_told
returns-then-not-is_told c =
    not_all (IsTold c.args.hash) c.args.names.now c.loop-i.i (extref_value c.get.result) (omega arith) c.get.ensures c.is_told.result c.is_told.ensures c.if-not-is_told.true

pub returns : goal.returns
returns c = all_are (IsTold c.args.hash) c.args.names.now c.loop-i.i (omega arith) c.loop-i.invariant
