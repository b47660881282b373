use Rattle.btr_check_forms.proofs.Imports.{arith, dir_entry_value, IsHashed}
use Rattle.btr_check_forms.proofs.Deciding.{all_are, all_more, not_all}
use Rattle.btr_check_forms.proofs.forms.are_hashed.Goals as goal

pub loop-i-preserved : goal.loop-i-preserved
loop-i-preserved c =
    all_more (IsHashed c.args.hash) c.args.entries.now c.loop-i.i (dir_entry_value c.get.result) (omega arith) c.get.ensures c.loop-i.invariant c.is_hashed.result c.is_hashed.ensures c.if-not-is_hashed.false

pub returns-then-not-is_hashed : goal.returns-then-not-is_hashed
returns-then-not-is_hashed c =
    not_all (IsHashed c.args.hash) c.args.entries.now c.loop-i.i (dir_entry_value c.get.result) (omega arith) c.get.ensures c.is_hashed.result c.is_hashed.ensures c.if-not-is_hashed.true

pub returns : goal.returns
returns c = all_are (IsHashed c.args.hash) c.args.entries.now c.loop-i.i (omega arith) c.loop-i.invariant
