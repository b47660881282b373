use Rattle.btr_reader_names.proofs.Imports.{◌<◌, ◌≤◌, ◌∙◌, nat_eq, List, length, get_or, sym, ap, subst, arith, err_from_is_err_and, BtrRefusal, DirIndex, contains, same_node, IsGoodEntry, BlamesEntry, is_open}
use Rattle.btr_reader_names.proofs.Members.{each_more, each_among, indexed}
use Rattle.btr_reader_names.proofs.entry_rules.check_entries.Goals as goal

pub returns-in_err-check_entry-clause-blamed : goal.returns-in_err-check_entry-clause-blamed
returns-in_err-check_entry-clause-blamed c =
    let all : List DirIndex = c.args.names.now.namings.items in
    let within : c.loop-naming.naming-index < length all = omega (arith, c.loop-naming-test.true, ap length c.deref-naming-items.ensures.value) in
    let at = c.naming-item.is ∙ ap (λ (l : List DirIndex). get_or l c.loop-naming.naming-index c.naming-item.result) c.deref-naming-items.ensures.value in
    let err = err_from_is_err_and c.from_residual.result c.from_residual.ensures.1 in
    rw err.1 (c.naming-item.result, indexed all c.loop-naming.naming-index c.naming-item.result within at, subst (λ (r : BtrRefusal). BlamesEntry c.args.names.now (is_open c.args.names.now (contains same_node c.args.named.now)) (contains nat_eq c.args.roots.now) c.naming-item.result r) (sym err.2) c.in_err-check_entry.ensures.blamed)

pub loop-naming-preserved : goal.loop-naming-preserved
loop-naming-preserved c =
    let all : List DirIndex = c.args.names.now.namings.items in
    let within : c.loop-naming.naming-index < length all = omega (arith, c.loop-naming-test.true, ap length c.deref-naming-items.ensures.value) in
    let at = c.naming-item.is ∙ ap (λ (l : List DirIndex). get_or l c.loop-naming.naming-index c.naming-item.result) c.deref-naming-items.ensures.value in
    each_more (λ (x : DirIndex). IsGoodEntry c.args.names.now (is_open c.args.names.now (contains same_node c.args.named.now)) (contains nat_eq c.args.roots.now) (x)) all c.loop-naming.naming-index c.naming-item.result c.loop-naming.invariant within at c.in_ok-check_entry.ensures.good

pub returns-clause-good : goal.returns-clause-good
returns-clause-good c = λ x among.
    let all : List DirIndex = c.args.names.now.namings.items in
    let past : length all ≤ c.loop-naming.naming-index = omega (arith, c.loop-naming-test.false, ap length c.deref-naming-items.ensures.value) in
    each_among (λ (x : DirIndex). IsGoodEntry c.args.names.now (is_open c.args.names.now (contains same_node c.args.named.now)) (contains nat_eq c.args.roots.now) (x)) all c.loop-naming.naming-index past c.loop-naming.invariant x among
