use Rattle.btr_super.proofs.Imports.{◌≡◌, List, Err, Ok, ◌∙◌, ap, sym, BtrRefusal, Super, super_in, block_rules, field_rules, super_of, failing, unless_refused, super_refusals}
use Rattle.std.proofs.lemmas.Result.{err_from_is_err_and}
use Rattle.btr_super.proofs.Answers.{first_refuses, others_decide, same_refusal, none_refused, ok_where_none}
use Rattle.btr_super.proofs.superblock.Super.read.Goals as goal

pub returns-in_err-check_block-clause-value : goal.returns-in_err-check_block-clause-value
unfolding super_of
returns-in_err-check_block-clause-value c =
    let p = err_from_is_err_and c.from_residual.result c.from_residual.ensures.1 in
    rw (p.1, p.2) (first_refuses (block_rules c.args.block.now.bytes c.args.place c.args.device) (field_rules (super_in c.args.block.now.bytes) c.args.place c.args.device) tt (super_in c.args.block.now.bytes) c.in_err-check_block.field-0.0 c.in_err-check_block.ensures.value)

pub returns-clause-value : goal.returns-clause-value
unfolding super_of
returns-clause-value c =
    let block = c.args.block.now.bytes in
    let rules = field_rules (super_in block) c.args.place c.args.device in
    let others = others_decide (block_rules block c.args.place c.args.device) rules tt c.in_ok-check_block.ensures.value in
    let fields : Ok tt ≡ unless_refused (failing rules) tt = c.in_ok-check_fields.ensures.value ∙ ap (λ (s : Super). unless_refused (failing (field_rules s c.args.place c.args.device)) tt) c.first-found.ensures in
    ap Ok c.first-found.ensures ∙ none_refused (failing rules) tt (super_in block) fields ∙ ap (λ (rs : List BtrRefusal). unless_refused rs (super_in block)) (sym others)

pub returns-in_err-check_fields-clause-value : goal.returns-in_err-check_fields-clause-value
unfolding super_of
returns-in_err-check_fields-clause-value c =
    let block = c.args.block.now.bytes in
    let rules = field_rules (super_in block) c.args.place c.args.device in
    let others = others_decide (block_rules block c.args.place c.args.device) rules tt c.in_ok-check_block.ensures.value in
    let p = err_from_is_err_and c.from_residual-in_err-check_fields.result c.from_residual-in_err-check_fields.ensures.1 in
    let fields : Err c.in_err-check_fields.field-0.0 ≡ unless_refused (failing rules) tt =
    c.in_err-check_fields.ensures.value ∙ ap (λ (s : Super). unless_refused (failing (field_rules s c.args.place c.args.device)) tt) c.first-found.ensures in
    rw (p.1, p.2) (same_refusal (failing rules) tt (super_in block) c.in_err-check_fields.field-0.0 fields ∙ ap (λ (rs : List BtrRefusal). unless_refused rs (super_in block)) (sym others))

pub returns-in_err-check_block-clause-rules : goal.returns-in_err-check_block-clause-rules
unfolding super_of
returns-in_err-check_block-clause-rules c = ok_where_none (super_refusals c.args.block.now.bytes c.args.place c.args.device) (super_in c.args.block.now.bytes) _ (returns-in_err-check_block-clause-value c)

pub returns-in_err-check_fields-clause-rules : goal.returns-in_err-check_fields-clause-rules
unfolding super_of
returns-in_err-check_fields-clause-rules c = ok_where_none (super_refusals c.args.block.now.bytes c.args.place c.args.device) (super_in c.args.block.now.bytes) _ (returns-in_err-check_fields-clause-value c)

pub returns-clause-rules : goal.returns-clause-rules
unfolding super_of
returns-clause-rules c = ok_where_none (super_refusals c.args.block.now.bytes c.args.place c.args.device) (super_in c.args.block.now.bytes) _ (returns-clause-value c)
