use Rattle.btr_reader.proofs.Imports.{◌≡◌, length, sym, subst, ◌∙◌, ap, arith, SUPER_BLOCK, block_at, super_of, IsSuperAnswer, super_on}
use Rattle.btr_reader.proofs.Supers.{no_super}
use Rattle.btr_reader.proofs.open.read_super.Goals as goal

pub returns-then-device-le-SUPER_BLOCK-clause-err : goal.returns-then-device-le-SUPER_BLOCK-clause-err
returns-then-device-le-SUPER_BLOCK-clause-err g c = λ tells image is.
    let size : c.args.device ≡ length image = c.requires ∙ (g.met.S.BlockSource.size_is c.args.src.now tells ∙ ap length is) in
    subst (IsSuperAnswer (super_on image)) (sym c.refused.ensures) (ap (super_of (block_at image SUPER_BLOCK) SUPER_BLOCK) (sym size) ∙ no_super (block_at image SUPER_BLOCK) c.args.device (omega arith))
