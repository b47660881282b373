use Rattle.btr_reader_names.proofs.Imports.{nat_eq, sym, subst, err_from_is_err_and, contains, same_node, BlamesOne, by_root, by_inode, by_form, by_entry}
use Rattle.btr_reader_names.proofs.check.check_each.Goals as goal

pub returns-in_err-check_root-clause-blamed : goal.returns-in_err-check_root-clause-blamed
returns-in_err-check_root-clause-blamed c =
    let err = err_from_is_err_and c.from_residual.result c.from_residual.ensures.1 in
    rw err.1 (subst (BlamesOne c.args.names.now (contains same_node c.args.named.now) (contains nat_eq c.args.roots.now) c.args.named.now.keys c.args.root) (sym err.2) (by_root c.in_err-check_root.ensures.blamed))

pub returns-in_err-check_inodes-clause-blamed : goal.returns-in_err-check_inodes-clause-blamed
returns-in_err-check_inodes-clause-blamed c =
    let b = c.in_err-check_inodes.ensures.blamed in
    let err = err_from_is_err_and c.from_residual-in_err-check_inodes.result c.from_residual-in_err-check_inodes.ensures.1 in
    rw err.1 (subst (BlamesOne c.args.names.now (contains same_node c.args.named.now) (contains nat_eq c.args.roots.now) c.args.named.now.keys c.args.root) (sym err.2) (by_inode b.0 b.1 b.2))

pub returns-in_err-check_forms-clause-blamed : goal.returns-in_err-check_forms-clause-blamed
returns-in_err-check_forms-clause-blamed c =
    let b = c.in_err-check_forms.ensures.blamed in
    let err = err_from_is_err_and c.from_residual-in_err-check_forms.result c.from_residual-in_err-check_forms.ensures.1 in
    rw err.1 (subst (BlamesOne c.args.names.now (contains same_node c.args.named.now) (contains nat_eq c.args.roots.now) c.args.named.now.keys c.args.root) (sym err.2) (by_form b.0 b.1 b.2))

pub returns-in_err-check_entries-clause-blamed : goal.returns-in_err-check_entries-clause-blamed
returns-in_err-check_entries-clause-blamed c =
    let b = c.in_err-check_entries.ensures.blamed in
    let err = err_from_is_err_and c.from_residual-in_err-check_entries.result c.from_residual-in_err-check_entries.ensures.1 in
    rw err.1 (subst (BlamesOne c.args.names.now (contains same_node c.args.named.now) (contains nat_eq c.args.roots.now) c.args.named.now.keys c.args.root) (sym err.2) (by_entry b.0 b.1 b.2))

pub returns-clause-good : goal.returns-clause-good
returns-clause-good c = record {
  root_directory = c.in_ok-check_root.ensures.good;
  inodes = c.in_ok-check_inodes.ensures.good;
  forms = c.in_ok-check_forms.ensures.good;
  entries = c.in_ok-check_entries.ensures.good;
}
