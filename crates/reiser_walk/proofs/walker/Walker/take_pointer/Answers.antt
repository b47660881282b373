use Rattle.reiser_walk.proofs.Imports.{Contains, sym, subst, List, [], Bool, ℕ, ReiserTree, MarksSeen, seen_after, reach_damage, reached_in}
use Rattle.reiser_walk.proofs.Walking.{claim_blamed}
use Rattle.reiser_walk.proofs.walker.Walker.take_pointer.Goals as goal

pub returns-in-Err-clause-takes : goal.returns-in-Err-clause-takes
returns-in-Err-clause-takes c = λ image given k.
    let seen : List ℕ = seen_after [] (reached_in k.done) in
    let before = c.in-Some.ensures in
    claim_blamed c.args.self.now image c.args.map.now given c.in-Some.pointer _ c.in-Err.e _ k c.requires.done (before.next image _)
    (subst (λ (t : ReiserTree). Contains (reach_damage t c.args.map.now seen c.in-Some.pointer) c.in-Err.e) before.tree (c.in-Err.ensures.claimed seen (subst (λ (s : List Bool). MarksSeen s seen) (sym before.reached) k.marks)))
