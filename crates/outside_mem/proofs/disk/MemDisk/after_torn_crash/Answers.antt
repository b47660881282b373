use Rattle.outside_mem.proofs.Imports.{◌≡◌, ◌∙◌, sym, ap, subst, same_from_all_zip, reads, MayLeave, torn_image, HasWholeBlocks, State, fresh, undone_at}
use Rattle.outside_mem.proofs.TornChoices.{torn_choice_may}
use Rattle.outside_mem.proofs.Left.{left_torn, long_torn}
use Rattle.outside_mem.proofs.disk.MemDisk.after_torn_crash.Goals as goal

pub holding-requires : goal.holding-requires
holding-requires c =
    let copied : c.in_ok-blocks.blocks.entries ≡ c.self.inside.present.entries =
    same_from_all_zip _ c.self.inside.present.entries c.in_ok-blocks.blocks.entries c.in_ok-blocks.ensures.cases (λ x y r. λ i. (r.0 i, r.1 i)) in
    long_torn c.self.inside.count c.self.inside.present c.in_ok-blocks.blocks c.self.inside.unsynced c.choose_torn.new.blocks copied
    (undone_at c.self.inside.first c.self.inside.present) c.self.inside.calls.items c.deref.result.now c.deref.ensures.value c.self.invariant c.in_ok-choose_torn.ensures.ordered
    c.args.choice.now c.in_ok-choose_torn.ensures.chosen

pub returns-clause-chosen : goal.returns-clause-chosen
returns-clause-chosen c =
    let copied : c.in_ok-blocks.blocks.entries ≡ c.self.inside.present.entries =
    same_from_all_zip _ c.self.inside.present.entries c.in_ok-blocks.blocks.entries c.in_ok-blocks.ensures.cases (λ x y r. λ i. (r.0 i, r.1 i)) in
    c.holding.ensures
    ∙ ap fresh (left_torn c.self.inside.count c.self.inside.present c.in_ok-blocks.blocks c.self.inside.unsynced c.choose_torn.new.blocks copied
    (undone_at c.self.inside.first c.self.inside.present) c.self.inside.calls.items c.deref.result.now c.deref.ensures.value c.self.invariant c.in_ok-choose_torn.ensures.ordered
    c.args.choice.now c.in_ok-choose_torn.ensures.chosen
    ∙ ap (λ (s : State). torn_image s.history c.args.choice.now) c.self.view_is)

pub returns-clause-left : goal.returns-clause-left
returns-clause-left c =
    subst (λ (s : State). MayLeave c.args.self.now.history.start c.args.self.now.history.calls (reads s.history)) (sym (returns-clause-chosen c)) (torn_choice_may c.args.self.now.history (subst (λ (s : State). HasWholeBlocks s.history) c.self.view_is c.self.invariant.whole) c.args.choice.now)

-- ---- at each exit
pub returns-clause-whole : goal.returns-clause-whole
returns-clause-whole c = subst (λ (s : State). HasWholeBlocks s.history) c.self.view_is c.self.invariant.whole

pub returns-in_err-blocks-clause-whole : goal.returns-in_err-blocks-clause-whole
returns-in_err-blocks-clause-whole c = subst (λ (s : State). HasWholeBlocks s.history) c.self.view_is c.self.invariant.whole

pub returns-in_err-choose_torn-clause-whole : goal.returns-in_err-choose_torn-clause-whole
returns-in_err-choose_torn-clause-whole c = subst (λ (s : State). HasWholeBlocks s.history) c.self.view_is c.self.invariant.whole
