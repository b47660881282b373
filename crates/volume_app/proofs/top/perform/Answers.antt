use Rattle.volume_app.proofs.Imports.{◌≡◌, ◌∙◌, sym, ap, subst, map, string_bytes, Some, None, command, convert, help, inspect, list, recover, rollback, seen, trial, version, convert_meaning, inspect_meaning, list_meaning, Knows, recover_meaning, rollback_meaning, trial_meaning}
use Rattle.volume_app.specs.declared.command.Command.{Command}
use Rattle.volume_app.specs.Texts.{help_text, version_text}
use Rattle.volume_app.proofs.Performing.{no_words, said, some_is_not}
use Rattle.volume_app.proofs.top.perform.Goals as goal

pub returns-in-None-clause-performs : goal.returns-in-None-clause-performs
returns-in-None-clause-performs g c =
    let asked : command (map string_bytes c.args.words.now) ≡ None = sym c.in-None.ensures.read in
    rw asked (no_words _ _ _ _ _ _)

pub returns-in-Some-Inspect-clause-performs : goal.returns-in-Some-Inspect-clause-performs
returns-in-Some-Inspect-clause-performs g c =
    let asked : command (map string_bytes c.args.words.now) ≡ Some (inspect c.in-Some-Inspect.options c.in-Some-Inspect.path.now) =
    sym c.in-Some-Inspect.ensures.read ∙ ap (λ (k : Command). Some (seen k)) c.in-Some-Inspect.field-0-is in
    rw asked c.inspect_volume.ensures

pub returns-in-Some-List-clause-performs : goal.returns-in-Some-List-clause-performs
returns-in-Some-List-clause-performs g c =
    let asked : command (map string_bytes c.args.words.now) ≡ Some (list c.in-Some-List.path.now) =
    sym c.in-Some-List.ensures.read ∙ ap (λ (k : Command). Some (seen k)) c.in-Some-List.field-0-is in
    rw asked c.list_volume.ensures

pub returns-in-Some-Convert-clause-performs : goal.returns-in-Some-Convert-clause-performs
returns-in-Some-Convert-clause-performs g c =
    let asked : command (map string_bytes c.args.words.now) ≡ Some (convert c.in-Some-Convert.options c.in-Some-Convert.path.now) =
    sym c.in-Some-Convert.ensures.read ∙ ap (λ (k : Command). Some (seen k)) c.in-Some-Convert.field-0-is in
    rw asked c.convert_volume.ensures

pub returns-in-Some-Recover-clause-performs : goal.returns-in-Some-Recover-clause-performs
returns-in-Some-Recover-clause-performs g c =
    let asked : command (map string_bytes c.args.words.now) ≡ Some (recover c.in-Some-Recover.path.now) =
    sym c.in-Some-Recover.ensures.read ∙ ap (λ (k : Command). Some (seen k)) c.in-Some-Recover.field-0-is in
    rw asked c.recover_volume.ensures

pub returns-in-Some-Rollback-clause-performs : goal.returns-in-Some-Rollback-clause-performs
returns-in-Some-Rollback-clause-performs g c =
    let asked : command (map string_bytes c.args.words.now) ≡ Some (rollback c.in-Some-Rollback.path.now) =
    sym c.in-Some-Rollback.ensures.read ∙ ap (λ (k : Command). Some (seen k)) c.in-Some-Rollback.field-0-is in
    rw asked c.roll_back_volume.ensures

pub returns-in-Some-Trial-clause-performs : goal.returns-in-Some-Trial-clause-performs
returns-in-Some-Trial-clause-performs g c =
    let asked : command (map string_bytes c.args.words.now) ≡ Some (trial c.in-Some-Trial.number c.in-Some-Trial.path.now) =
    sym c.in-Some-Trial.ensures.read ∙ ap (λ (k : Command). Some (seen k)) c.in-Some-Trial.field-0-is in
    rw asked c.try_on_path.ensures

pub returns-in-Some-Help-clause-performs : goal.returns-in-Some-Help-clause-performs
returns-in-Some-Help-clause-performs g c =
    let asked : command (map string_bytes c.args.words.now) ≡ Some help =
    sym c.in-Some-Help.ensures.read ∙ ap (λ (k : Command). Some (seen k)) c.in-Some-Help.field-0-is in
    rw asked (rw c.printed.ensures (said help_text _ _ _ _ _ _ _ _ c.write.result c.write.ensures.taken c.write.ensures.cause))

pub returns-in-Some-Version-clause-performs : goal.returns-in-Some-Version-clause-performs
returns-in-Some-Version-clause-performs g c =
    let asked : command (map string_bytes c.args.words.now) ≡ Some version =
    sym c.in-Some-Version.ensures.read ∙ ap (λ (k : Command). Some (seen k)) c.in-Some-Version.field-0-is in
    rw asked (rw c.printed-in-Some-Version.ensures (said version_text _ _ _ _ _ _ _ _ c.write-in-Some-Version.result c.write-in-Some-Version.ensures.taken c.write-in-Some-Version.ensures.cause))

pub returns-in-Some-Inspect-clause-usage : goal.returns-in-Some-Inspect-clause-usage
returns-in-Some-Inspect-clause-usage g c =
    let asked : command (map string_bytes c.args.words.now) ≡ Some (inspect c.in-Some-Inspect.options c.in-Some-Inspect.path.now) =
    sym c.in-Some-Inspect.ensures.read ∙ ap (λ (k : Command). Some (seen k)) c.in-Some-Inspect.field-0-is in
    (λ is. absurd (subst (Knows (inspect_meaning c.in-Some-Inspect.options)) is c.inspect_volume.ensures.known), λ none. absurd (some_is_not _ _ asked none))

pub returns-in-Some-List-clause-usage : goal.returns-in-Some-List-clause-usage
returns-in-Some-List-clause-usage g c =
    let asked : command (map string_bytes c.args.words.now) ≡ Some (list c.in-Some-List.path.now) =
    sym c.in-Some-List.ensures.read ∙ ap (λ (k : Command). Some (seen k)) c.in-Some-List.field-0-is in
    (λ is. absurd (subst (Knows list_meaning) is c.list_volume.ensures.known), λ none. absurd (some_is_not _ _ asked none))

pub returns-in-Some-Convert-clause-usage : goal.returns-in-Some-Convert-clause-usage
returns-in-Some-Convert-clause-usage g c =
    let asked : command (map string_bytes c.args.words.now) ≡ Some (convert c.in-Some-Convert.options c.in-Some-Convert.path.now) =
    sym c.in-Some-Convert.ensures.read ∙ ap (λ (k : Command). Some (seen k)) c.in-Some-Convert.field-0-is in
    (λ is. absurd (subst (Knows (convert_meaning c.args.ids.now c.args.now c.in-Some-Convert.options)) is c.convert_volume.ensures.known), λ none. absurd (some_is_not _ _ asked none))

pub returns-in-Some-Recover-clause-usage : goal.returns-in-Some-Recover-clause-usage
returns-in-Some-Recover-clause-usage g c =
    let asked : command (map string_bytes c.args.words.now) ≡ Some (recover c.in-Some-Recover.path.now) =
    sym c.in-Some-Recover.ensures.read ∙ ap (λ (k : Command). Some (seen k)) c.in-Some-Recover.field-0-is in
    (λ is. absurd (subst (Knows recover_meaning) is c.recover_volume.ensures.known), λ none. absurd (some_is_not _ _ asked none))

pub returns-in-Some-Rollback-clause-usage : goal.returns-in-Some-Rollback-clause-usage
returns-in-Some-Rollback-clause-usage g c =
    let asked : command (map string_bytes c.args.words.now) ≡ Some (rollback c.in-Some-Rollback.path.now) =
    sym c.in-Some-Rollback.ensures.read ∙ ap (λ (k : Command). Some (seen k)) c.in-Some-Rollback.field-0-is in
    (λ is. absurd (subst (Knows rollback_meaning) is c.roll_back_volume.ensures.known), λ none. absurd (some_is_not _ _ asked none))

pub returns-in-Some-Trial-clause-usage : goal.returns-in-Some-Trial-clause-usage
returns-in-Some-Trial-clause-usage g c =
    let asked : command (map string_bytes c.args.words.now) ≡ Some (trial c.in-Some-Trial.number c.in-Some-Trial.path.now) =
    sym c.in-Some-Trial.ensures.read ∙ ap (λ (k : Command). Some (seen k)) c.in-Some-Trial.field-0-is in
    (λ is. absurd (subst (Knows (trial_meaning c.args.ids.now c.args.now c.in-Some-Trial.number)) is c.try_on_path.ensures.known), λ none. absurd (some_is_not _ _ asked none))
