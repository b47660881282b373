use Rattle.reiser_super.proofs.Imports.{◌≤◌, ◌^◌, refl, sym, subst, ◌∙◌, Super, IsInBounds}
use Rattle.std.proofs.lemmas.Result.{err_from_is_err_and}
use Rattle.reiser_super.proofs.Clean.{clean_from_none, none_from_clean}
use Rattle.reiser_super.proofs.superblock.Super.read.Goals as goal

pub returns-clause-clean : goal.returns-clause-clean
returns-clause-clean c = (λ _. clean_from_none c.args.block.now.bytes c.args.device (sym c.in_ok-check_rules.ensures), λ _. refl)

pub returns-clause-bounds : goal.returns-clause-bounds
returns-clause-bounds c = subst IsInBounds (sym c.fields_of-found.ensures) (clean_from_none c.args.block.now.bytes c.args.device (sym c.in_ok-check_rules.ensures)).bounds

pub returns-clause-few : goal.returns-clause-few
returns-clause-few c = subst (λ (s : Super). s.blocks ≤ 2 ^ 29) (sym c.fields_of-found.ensures) (clean_from_none c.args.block.now.bytes c.args.device (sym c.in_ok-check_rules.ensures)).count

pub returns-clause-fits : goal.returns-clause-fits
returns-clause-fits c = subst (λ (s : Super). s.blocks ≤ c.args.device) (sym c.fields_of-found.ensures) (clean_from_none c.args.block.now.bytes c.args.device (sym c.in_ok-check_rules.ensures)).fits

pub returns-in_err-check_rules-clause-clean : goal.returns-in_err-check_rules-clause-clean
returns-in_err-check_rules-clause-clean c =
    let err = err_from_is_err_and c.from_residual.result c.from_residual.ensures.1 in
    rw err.1 (λ ok. cc, λ clean. let none = c.in_err-check_rules.ensures ∙ none_from_clean c.args.block.now.bytes c.args.device clean in cc)
