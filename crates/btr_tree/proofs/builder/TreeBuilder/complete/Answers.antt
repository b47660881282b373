use Rattle.btr_tree.proofs.Imports.{◌≡◌, ◌<◌, length, refl, sym, ◌∙◌, ap, subst, reads, Goes, taken, Building, Standing, nodes_above, HasForest, IsClimbed, IsCompleted}
use Rattle.btr_tree.proofs.Closing.{if_ok_map, closed_taken, closed_has, closed_short, completed_goes, empty_short}
use Rattle.btr_tree.proofs.Fronts.{taken_from}
use Rattle.btr_tree.proofs.builder.TreeBuilder.complete.Goals as goal

pub returns-in-None-clause-out : goal.returns-in-None-clause-out
returns-in-None-clause-out g c = λ items holds is.
    empty_short c.args.self.now items (sym (ap (λ (x : Building). x.hand) c.self.view_is) ∙ c.in_default.is) holds (c.in-None.ensures.out refl)

pub complete_levels-requires-clause-made : goal.complete_levels-requires-clause-made
complete_levels-requires-clause-made g c =
    subst (λ (x : Building). taken x.made ≡ length x.children) (sym c.in_ok-close_leaf.ensures.ok)
    (closed_taken c.leaves_give_items.ensures c.args.self.now c.in-Some.child (sym (ap (λ (x : Building). x.hand) c.self.view_is) ∙ c.in-Some.is) c.in_ok-close_leaf.ensures.read c.requires.ready.0 c.requires.ready.1)

pub complete_levels-requires-clause-forest : goal.complete_levels-requires-clause-forest
complete_levels-requires-clause-forest g c =
    subst (λ (x : Building). HasForest x.made x.children) (sym c.in_ok-close_leaf.ensures.ok)
    (closed_has c.leaves_give_items.ensures c.args.self.now c.in-Some.child (sym (ap (λ (x : Building). x.hand) c.self.view_is) ∙ c.in-Some.is) c.in_ok-close_leaf.ensures.read c.requires.ready.0 c.requires.ready.1)

pub returns-clause-completed : goal.returns-clause-completed
returns-clause-completed g c =
    let b : Building = c.args.self.now in
    let new : Building = c.complete_levels.new.self in
    if_ok_map c.complete_levels.result
    (λ root. Goes g.D.BlockSource.tells (reads (g.D.Disk.history c.args.disk.now)) (reads (g.D.Disk.history c.complete_levels.new.disk)) c.close_leaf.new.self.made new.made (λ m n. IsClimbed m c.close_leaf.new.self.children n root))
    (λ root. Goes g.D.BlockSource.tells (reads (g.D.Disk.history c.args.disk.now)) (reads (g.D.Disk.history c.complete_levels.new.disk)) b.made new.made
    (λ m n. Standing (record b { made = m }) → IsCompleted (record b { made = m }) (record new { made = n }) root))
    (λ root climbed.
    completed_goes c.leaves_give_items.ensures b c.in-Some.child (sym (ap (λ (x : Building). x.hand) c.self.view_is) ∙ c.in-Some.is) c.in_ok-close_leaf.ensures.read
    g.D.BlockSource.tells (reads (g.D.Disk.history c.args.disk.now)) (reads (g.D.Disk.history c.complete_levels.new.disk)) new root
    (subst (λ (x : Building). Goes g.D.BlockSource.tells (reads (g.D.Disk.history c.args.disk.now)) (reads (g.D.Disk.history c.complete_levels.new.disk)) x.made new.made (λ m n. IsClimbed m x.children n root))
    c.in_ok-close_leaf.ensures.ok climbed))
    c.complete_levels.ensures.climbed

pub returns-clause-out : goal.returns-clause-out
returns-clause-out g c = λ items holds is.
    closed_short c.leaves_give_items.ensures c.args.self.now c.in-Some.child (sym (ap (λ (x : Building). x.hand) c.self.view_is) ∙ c.in-Some.is) c.in_ok-close_leaf.ensures.read items holds
    (subst (λ (x : Building). length x.made.slots < nodes_above x.made.form.nodesize (length x.children)) c.in_ok-close_leaf.ensures.ok (c.complete_levels.ensures.out is))

pub returns-clause-only : goal.returns-clause-only
returns-clause-only g c = λ tells.
    taken_from c.args.self.now.made c.close_leaf.new.self.made c.complete_levels.new.self.made (g.D.Disk.history c.args.disk.now) (g.D.Disk.history c.complete_levels.new.disk) c.close_leaf.ensures.later
    (c.complete_levels.ensures.only tells)
