use Rattle.btr_check_sums.proofs.Imports.{◌≡◌, IsTrue, take, All, IsRight}
use Rattle.btr_check_sums.proofs.judging.judge_all.Given as goal

abbrev pub invariant-loop-d : goal.invariant-loop-d
invariant-loop-d g l = record {
  kept : g.S.BlockSource.kept l.fn.src l.src;
  same : g.S.BlockSource.faults l.src ≡ g.S.BlockSource.faults l.fn.src;
  right : IsTrue g.S.BlockSource.tells → All (IsRight (g.S.BlockSource.blocks l.fn.src) l.kind) (take l.d-index l.due);
}
