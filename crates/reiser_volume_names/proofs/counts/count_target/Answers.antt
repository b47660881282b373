use Rattle.reiser_volume_names.proofs.Imports.{◌≡◌, ◌∙◌, false, sym, arith, is_directory_at}
use Rattle.reiser_volume_names.proofs.Counting.{uncounted, counted_more, counted_over, counts_it, not_counted}
use Rattle.reiser_volume_names.proofs.counts.count_target.Goals as goal

pub returns-then-is_directory-clause-checked : goal.returns-then-is_directory-clause-checked
returns-then-is_directory-clause-checked c = λ items links noted has.
    uncounted items c.args.counts.now links c.args.naming.now has (not_counted items c.args.naming.now.target (sym (c.is_directory.ensures items noted) ∙ c.if-is_directory.true))

pub returns-else-branch-clause-checked : goal.returns-else-branch-clause-checked
returns-else-branch-clause-checked c = λ items links noted has.
    let other : is_directory_at items c.args.naming.now.target ≡ false = sym (c.is_directory.ensures items noted) ∙ c.if-is_directory.false in
    let counted = counts_it items c.args.naming.now.target c.in-Some.stat (sym (c.stat.ensures items noted) ∙ c.in-Some.is) other in
    counted_more items c.args.counts.now links c.args.naming.now has c.add.new.counts c.in_ok-add-in-Some.field-0 counted c.in_ok-add-in-Some.ensures.count c.in_ok-add-in-Some.ensures.counts (omega (arith, c.if-branch.false))

pub returns-then-branch-clause-checked : goal.returns-then-branch-clause-checked
returns-then-branch-clause-checked c = λ items links noted has.
    let other : is_directory_at items c.args.naming.now.target ≡ false = sym (c.is_directory.ensures items noted) ∙ c.if-is_directory.false in
    let there = sym (c.stat.ensures items noted) ∙ c.in-Some.is in
    let counted = counts_it items c.args.naming.now.target c.in-Some.stat there other in
    counted_over items c.args.counts.now links c.args.naming.now has c.add.new.counts c.in_ok-add-in-Some.field-0 counted c.in_ok-add-in-Some.ensures.count c.in-Some.stat there other c.if-branch.true
