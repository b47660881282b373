use Rattle.convert_trees.proofs.Imports.{◌<◌, ◌≤◌, ◌+◌, ◌*◌, ◌^◌, ℕ, List, length, sym, subst, ◌∙◌, All, AllPairs, AreSlots}
use Rattle.convert_trees.proofs.Placing.{served, small_units, slots_inside, few_slots}
use Rattle.convert_trees.proofs.write.row_of.Goals as goal

pub slots_of-requires-clause-size : goal.slots_of-requires-clause-size
slots_of-requires-clause-size g c = c.requires.size

pub slots_of-requires-clause-small : goal.slots_of-requires-clause-small
slots_of-requires-clause-small g c = small_units c.args.w.now.form.nodesize c.args.w.now.volume.now.sup.blocks _ c.requires.size c.requires.small c.requires.ascending c.requires.within

pub new-requires-clause-slots : goal.new-requires-clause-slots
new-requires-clause-slots g c =
    subst (λ (x : List ℕ). AreSlots c.args.w.now.form.nodesize x) (sym c.in_ok-slots.ensures)
    (served c.args.w.now.form.nodesize c.args.w.now.volume.now.sup.blocks c.args.units.now c.requires.size c.requires.small c.requires.ascending c.requires.within).slots

pub new-requires-clause-ascending : goal.new-requires-clause-ascending
new-requires-clause-ascending g c =
    subst (λ (x : List ℕ). AllPairs (λ a b. a < b) x) (sym c.in_ok-slots.ensures)
    (served c.args.w.now.form.nodesize c.args.w.now.volume.now.sup.blocks c.args.units.now c.requires.size c.requires.small c.requires.ascending c.requires.within).ascending

pub new-requires-clause-few : goal.new-requires-clause-few
new-requires-clause-few g c =
    subst (λ (x : List ℕ). length x < 2 ^ 43) (sym c.in_ok-slots.ensures)
    (few_slots c.args.w.now.form.nodesize c.args.w.now.volume.now.sup.blocks c.args.units.now c.requires.size c.requires.small c.requires.ascending c.requires.within)

pub returns-clause-in_range : goal.returns-clause-in_range
returns-clause-in_range g c =
    subst (λ (x : List ℕ). All (λ a. a + c.args.w.now.form.nodesize ≤ 4096 * c.args.w.now.volume.now.sup.blocks) x) (sym (c.new.ensures.fields.1 ∙ c.in_ok-slots.ensures))
    (slots_inside c.args.w.now.form.nodesize c.args.w.now.volume.now.sup.blocks c.args.units.now c.requires.size c.requires.small c.requires.ascending c.requires.within)
