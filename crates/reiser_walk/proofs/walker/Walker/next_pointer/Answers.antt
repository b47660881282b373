use Rattle.reiser_walk.proofs.Imports.{◌≡◌, ℕ, ◌-◌, length, ap, ◌∙◌, false, arith, Step, ReiserTree, path_rest}
use Rattle.reiser_walk.proofs.Paths.{path_nil}
use Rattle.reiser_walk.proofs.Walking.{root_next, none_pending}
use Rattle.reiser_walk.proofs.walker.Walker.next_pointer.Goals as goal

pub returns-then-not-self-clause-none : goal.returns-then-not-self-clause-none
returns-then-not-self-clause-none c = λ image n.
    let top : ℕ = c.args.self.now.tree.height - 1 in
    let stop : c.args.self.now.at_start ≡ false = grind arith in
    let tree : ReiserTree = c.args.self.now.tree in (
      none_pending image n tree c.args.self.now.path.items c.args.self.now.at_start (c.in_default.ensures.none image n top) stop,
      none_pending image n tree c.next_child.new.path.items c.args.self.now.at_start (ap (path_rest image n top) c.in_default.ensures.emptied ∙ path_nil image n top) stop,
    )

pub returns-clause-next : goal.returns-clause-next
returns-clause-next c = λ image n.
    root_next image n c.args.self.now c.next_child.new.path.items (c.in_default.ensures.none image n (c.args.self.now.tree.height - 1)) c.in_default.ensures.emptied (grind arith)

pub returns-in-Some-clause-again : goal.returns-in-Some-clause-again
returns-in-Some-clause-again c = λ done. absurd (omega (arith, c.in-Some.ensures.some, ap (length {A = Step}) done.path))
