use Rattle.btr_check_sums.proofs.Imports.{◌<◌, ◌∙◌, ℕ, List, subst, sym, All-permutation, All, MatchResult, TellsPart, IsRight, IsWrongDue, DueSum}
use Rattle.btr_check_sums.proofs.Data.{sorted_right}
use Rattle.btr_check_sums.proofs.due_sum.DataPass.judge.Goals as goal

pub judge_all-judged-requires : goal.judge_all-judged-requires
judge_all-judged-requires g c =
    let sorted = c.sort_unstable_by_key.new.self.items in
    let all = All-permutation (λ (d : DueSum). d.block < g.S.BlockSource.size c.args.src.now) c.args.self.now.due.items sorted c.sort_unstable_by_key.ensures.permutation c.requires.inside in
    let here = subst (λ (n : ℕ). All (λ (d : DueSum). d.block < n) sorted) (sym (g.met.S.BlockSource.kept_size c.args.src.now c.tell_blocks.new.src c.tell_blocks.ensures.kept)) all in
    record { inside = subst (λ (xs : List DueSum). All (λ (d : DueSum). d.block < g.S.BlockSource.size c.tell_blocks.new.src) xs) (sym c.deref-2.ensures.value) here }

pub returns-clause-right : goal.returns-clause-right
returns-clause-right g c = λ tells image is.
    let sums = c.args.self.now.kind in
    let sorted = c.sort_unstable_by_key.new.self.items in
    let right = c.judge_all-judged.ensures.right tells image (g.met.S.BlockSource.kept_blocks c.args.src.now c.tell_blocks.new.src tells c.tell_blocks.ensures.kept ∙ is) in
    sorted_right image sums c.args.self.now.due.items sorted c.judge_all-judged.result c.sort_unstable_by_key.ensures.permutation
    (subst (λ (xs : List DueSum). MatchResult c.judge_all-judged.result (λ _. All (IsRight image sums) xs) (TellsPart (IsWrongDue image sums xs))) c.deref-2.ensures.value right)
