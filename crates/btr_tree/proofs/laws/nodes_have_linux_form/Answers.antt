use Rattle.btr_tree.proofs.LinuxForm.{have_form}
use Rattle.btr_tree.proofs.laws.nodes_have_linux_form.Goals as goal

pub returns : goal.returns
returns c = have_form
