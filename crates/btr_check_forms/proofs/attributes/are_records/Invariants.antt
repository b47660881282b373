use Rattle.btr_check_forms.proofs.Imports.{length, AreRecords}
use Rattle.btr_check_forms.proofs.attributes.are_records.Given as goal

abbrev pub invariant-loop-rest : goal.invariant-loop-rest
invariant-loop-rest l = record {
  to : AreRecords l.hash l.rest → AreRecords l.hash l.body;
  back : AreRecords l.hash l.body → AreRecords l.hash l.rest;
}

abbrev pub decreases-loop-rest : goal.decreases-loop-rest
decreases-loop-rest l = length l.rest
