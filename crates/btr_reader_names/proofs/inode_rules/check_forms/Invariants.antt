use Rattle.btr_reader_names.proofs.Imports.{ℕ, ◌<◌, get_or, ◌≡◌, false, OffForm, contains, same_node, is_open}
use Rattle.btr_reader_names.proofs.inode_rules.check_forms.Given as goal

abbrev pub invariant-loop-off : goal.invariant-loop-off
invariant-loop-off l = (k : ℕ) (d : OffForm) → k < l.off-index → is_open l.names (contains same_node l.named) (get_or l.names.off_form.items k d).dir ≡ false
