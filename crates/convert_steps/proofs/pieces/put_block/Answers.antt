use Rattle.convert_steps.proofs.Imports.{◌≡◌, refl, write_only}
use Rattle.convert_steps.proofs.pieces.put_block.Goals as goal

pub returns-in_err-write-clause-only : goal.returns-in_err-write-clause-only
returns-in_err-write-clause-only g c = λ tells. write_only (λ b _. b ≡ c.args.place) _ _ _ _ _ refl (c.write.ensures.effect tells)

pub returns-clause-only : goal.returns-clause-only
returns-clause-only g c = λ tells. write_only (λ b _. b ≡ c.args.place) _ _ _ _ _ refl (c.write.ensures.effect tells)
