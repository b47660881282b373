use Rattle.btr_reader_names.proofs.Imports.{◌<◌, ◌≤◌, ◌+◌, ◌∙◌, List, length, get_or, drop, AllPairs, sym, ap, subst, arith, take_all, err_from_is_err_and, BtrAnswer, contains, same_node, DirIndex, HasDirectories, BlamesAgain, LeadApart}
use Rattle.btr_reader_names.proofs.Members.{one_more, with_rest}
use Rattle.btr_reader_names.proofs.Seeing.{again_of_part, no_directories}
use Rattle.btr_reader_names.proofs.seen.check_directories.Goals as goal

pub loop-naming-init : goal.loop-naming-init
loop-naming-init c = no_directories c.args.names.now (contains same_node c.args.named.now) c.new-seen.result c.new-seen.ensures.empty

pub loop-naming-preserved : goal.loop-naming-preserved
loop-naming-preserved c =
    let all : List DirIndex = c.args.names.now.namings.items in
    let within : c.loop-naming.naming-index < length all = omega (arith, c.loop-naming-test.true, ap length c.deref-naming-items.ensures.value) in
    let at = c.naming-item.is ∙ ap (λ (l : List DirIndex). get_or l c.loop-naming.naming-index c.naming-item.result) c.deref-naming-items.ensures.value in
    subst (λ (l : List DirIndex). HasDirectories c.args.names.now (contains same_node c.args.named.now) c.see_target.new.seen l) (sym (one_more all c.loop-naming.naming-index c.naming-item.result within at))
    (c.in_ok-see_target.ensures _ c.loop-naming.invariant)

pub returns-in_err-see_target-clause-again : goal.returns-in_err-see_target-clause-again
returns-in_err-see_target-clause-again c =
    let all : List DirIndex = c.args.names.now.namings.items in
    let within : c.loop-naming.naming-index < length all = omega (arith, c.loop-naming-test.true, ap length c.deref-naming-items.ensures.value) in
    let at = c.naming-item.is ∙ ap (λ (l : List DirIndex). get_or l c.loop-naming.naming-index c.naming-item.result) c.deref-naming-items.ensures.value in
    let err = err_from_is_err_and c.from_residual.result c.from_residual.ensures.1 in
    rw err.1 (subst (λ (e : BtrAnswer). BlamesAgain c.args.names.now (contains same_node c.args.named.now) all e) (sym err.2)
    (again_of_part c.args.names.now (contains same_node c.args.named.now) _ (drop (c.loop-naming.naming-index + 1) all) _ _ (with_rest all c.loop-naming.naming-index c.naming-item.result within at) (c.in_err-see_target.ensures _ c.loop-naming.invariant)))

pub returns-clause-apart : goal.returns-clause-apart
returns-clause-apart c =
    let all : List DirIndex = c.args.names.now.namings.items in
    let past : length all ≤ c.loop-naming.naming-index = omega (arith, c.loop-naming-test.false, ap length c.deref-naming-items.ensures.value) in
    subst (λ (l : List DirIndex). AllPairs (LeadApart c.args.names.now (contains same_node c.args.named.now)) l) (take_all c.loop-naming.naming-index all past) c.loop-naming.invariant.once
