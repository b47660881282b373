use Rattle.outside_mem.proofs.Imports.{◌≡◌, ◌∙◌, sym, ap, subst, same_from_all_zip, reads, MayLeave, crash_image, State, fresh, undone_at}
use Rattle.outside_mem.proofs.Choices.{choice_may}
use Rattle.outside_mem.proofs.Left.{left_whole, long_whole}
use Rattle.outside_mem.proofs.disk.MemDisk.after_crash.Goals as goal

pub holding-requires : goal.holding-requires
holding-requires c =
    let copied : c.in_ok-blocks.blocks.entries ≡ c.self.inside.present.entries =
    same_from_all_zip _ c.self.inside.present.entries c.in_ok-blocks.blocks.entries c.in_ok-blocks.ensures.cases (λ x y r. λ i. (r.0 i, r.1 i)) in
    long_whole c.self.inside.count c.self.inside.present c.in_ok-blocks.blocks c.self.inside.unsynced c.choose.new.blocks copied
    (undone_at c.self.inside.first c.self.inside.present) c.self.inside.calls.items c.deref.result.now c.deref.ensures.value c.self.invariant c.in_ok-choose.ensures.ordered
    c.args.choice.now c.in_ok-choose.ensures.chosen

pub returns-clause-chosen : goal.returns-clause-chosen
returns-clause-chosen c =
    let copied : c.in_ok-blocks.blocks.entries ≡ c.self.inside.present.entries =
    same_from_all_zip _ c.self.inside.present.entries c.in_ok-blocks.blocks.entries c.in_ok-blocks.ensures.cases (λ x y r. λ i. (r.0 i, r.1 i)) in
    c.holding.ensures
    ∙ ap fresh (left_whole c.self.inside.count c.self.inside.present c.in_ok-blocks.blocks c.self.inside.unsynced c.choose.new.blocks copied
    (undone_at c.self.inside.first c.self.inside.present) c.self.inside.calls.items c.deref.result.now c.deref.ensures.value c.self.invariant c.in_ok-choose.ensures.ordered
    c.args.choice.now c.in_ok-choose.ensures.chosen
    ∙ ap (λ (s : State). crash_image s.history c.args.choice.now) c.self.view_is)

pub returns-clause-left : goal.returns-clause-left
returns-clause-left c =
    subst (λ (s : State). MayLeave c.args.self.now.history.start c.args.self.now.history.calls (reads s.history)) (sym (returns-clause-chosen c)) (choice_may c.args.self.now.history c.args.choice.now)
