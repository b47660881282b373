use Rattle.trial_core.proofs.Imports.{sym}
use Rattle.std.proofs.lemmas.Slice.Eq.{slice_eq-Decides, bytes_eq-Decides}
use Rattle.trial_core.proofs.same.same_path.Goals as goal

pub returns : goal.returns
returns c =
    let decides = slice_eq-Decides (λ a b. bytes_eq-Decides a b) c.args.path.now c.args.other.now c.eq.result c.eq.ensures in
    (λ is. sym (decides.0 is), λ same. decides.1 (sym same))
