use Rattle.convert_core_laws.proofs.Imports.{sym, ◌∙◌, true≢false}
use Rattle.convert_core_laws.proofs.soundness.Recounting.{without_free_space_tree}
use Rattle.convert_core_laws.proofs.soundness.converted_free_space_is_sound.Goals as goal

pub returns : goal.returns
returns c = λ o ids now image other m r nodes is size low are has bytes. λ a has_tree. absurd (true≢false (sym has_tree ∙ without_free_space_tree m r nodes))
