use Rattle.btr_reader_names.proofs.Imports.{nat_eq, sym, subst, err_from_is_err_and, contains, same_node, NameTable, RefusesNames, IsNoFault}
use Rattle.btr_reader_names.proofs.Checking.{one_refused, refused_twice, refused_again, all_kept, twice_no_fault, again_no_fault}
use Rattle.btr_reader_names.proofs.Leading.{tree_links}
use Rattle.btr_reader_names.proofs.check.check_all.Goals as goal

pub returns-in_err-check_each-clause-all : goal.returns-in_err-check_each-clause-all
returns-in_err-check_each-clause-all c = λ items noted named.
    let err = err_from_is_err_and c.from_residual.result c.from_residual.ensures.1 in
    rw err.1 (subst (RefusesNames (contains nat_eq c.args.roots.now) items c.args.root) (sym err.2)
    (one_refused c.args.names.now items noted (contains nat_eq c.args.roots.now) c.args.root c.args.named.now.keys named _ c.in_err-check_each.ensures.blamed))

pub returns-in_err-check_once-clause-all : goal.returns-in_err-check_once-clause-all
returns-in_err-check_once-clause-all c = λ items noted named.
    let err = err_from_is_err_and c.from_residual-in_err-check_once.result c.from_residual-in_err-check_once.ensures.1 in
    rw err.1 (subst (RefusesNames (contains nat_eq c.args.roots.now) items c.args.root) (sym err.2)
    (refused_twice c.args.names.now items noted (contains nat_eq c.args.roots.now) c.args.root c.args.named.now.keys named _ c.in_err-check_once.ensures.twice))

pub returns-in_err-check_directories-clause-all : goal.returns-in_err-check_directories-clause-all
returns-in_err-check_directories-clause-all c = λ items noted named.
    let err = err_from_is_err_and c.from_residual-in_err-check_directories.result c.from_residual-in_err-check_directories.ensures.1 in
    rw err.1 (subst (RefusesNames (contains nat_eq c.args.roots.now) items c.args.root) (sym err.2)
    (refused_again c.args.names.now items noted (contains nat_eq c.args.roots.now) c.args.root c.args.named.now.keys named _ c.in_err-check_directories.ensures.again))

pub returns-clause-all : goal.returns-clause-all
returns-clause-all c = λ items noted named.
    let t : NameTable = c.args.names.now in
    let kept = all_kept t items noted (contains nat_eq c.args.roots.now) c.args.root c.args.named.now.keys named c.in_ok-check_each.ensures.good c.in_ok-check_once.ensures.once c.in_ok-check_directories.ensures.apart in
    (kept, tree_links t items noted (contains nat_eq c.args.roots.now) c.args.root (contains same_node c.args.named.now) named kept c.in_ok-check_once.ensures.once c.in_ok-check_directories.ensures.apart)

pub returns-in_err-check_once-clause-cause : goal.returns-in_err-check_once-clause-cause
returns-in_err-check_once-clause-cause c =
    let err = err_from_is_err_and c.from_residual-in_err-check_once.result c.from_residual-in_err-check_once.ensures.1 in
    rw err.1 (subst IsNoFault (sym err.2) (twice_no_fault _ _ _ c.in_err-check_once.ensures.twice))

pub returns-in_err-check_directories-clause-cause : goal.returns-in_err-check_directories-clause-cause
returns-in_err-check_directories-clause-cause c =
    let err = err_from_is_err_and c.from_residual-in_err-check_directories.result c.from_residual-in_err-check_directories.ensures.1 in
    rw err.1 (subst IsNoFault (sym err.2) (again_no_fault c.args.names.now (contains same_node c.args.named.now) c.args.names.now.namings.items _ c.in_err-check_directories.ensures.again))
