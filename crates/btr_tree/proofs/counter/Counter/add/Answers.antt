use Rattle.btr_tree.proofs.Imports.{ℕ, ◌+◌, List, ◌++◌, ◌∷◌, [], subst, sym, zero-add, Tally, Counted, weight}
use Rattle.btr_tree.specs.declared.counter.Counter.TheInside.{Inside}
use Rattle.btr_tree.proofs.Groups.{counts_fit, counts_next}
use Rattle.btr_tree.proofs.counter.Counter.add.Goals as goal
use Rattle.btr_tree.proofs.counter.Counter.add.Goals.{then-self-weight, else-self-weight}

abbrev tally_of : Inside → Tally
tally_of i = record { nodesize = i.nodesize; leaves = i.leaves; fill = i.fill; bytes = i.bytes }

begun : (i : Inside) (lengths : List ℕ) (n : ℕ) → Counted (record { nodesize = i.nodesize; leaves = i.leaves + 1; fill = weight n; bytes = i.bytes + weight n }) (lengths ++ n ∷ [])
    → Counted (record { nodesize = i.nodesize; leaves = i.leaves + 1; fill = 0 + weight n; bytes = i.bytes + weight n }) (lengths ++ n ∷ [])
begun i lengths n known =
    subst (λ (fill : ℕ). Counted (record { nodesize = i.nodesize; leaves = i.leaves + 1; fill = fill; bytes = i.bytes + weight n }) (lengths ++ n ∷ [])) (sym (zero-add (weight n))) known

pub returns-clause-counted : goal.returns-clause-counted
returns-clause-counted c = λ lengths known.
    let n = c.args.length in
    let P : Inside → Type 0 = λ i. Counted (record { nodesize = i.nodesize; leaves = i.leaves; fill = i.fill + weight n; bytes = i.bytes + weight n }) (lengths ++ n ∷ []) in
    let was : Counted (tally_of c.self.inside) lengths = subst (λ (t : Tally). Counted t lengths) (sym c.self.view_is) known in
    elim c.if-self-weight.branch [
      | then-self-weight w ↦ subst P (sym w.self-inside-is) (begun c.self.inside lengths n (counts_next (tally_of c.self.inside) lengths n was w.if-self-weight.true))
      | else-self-weight w ↦ subst P (sym w.self-inside-is) (counts_fit (tally_of c.self.inside) lengths n was w.if-self-weight.false)
    ]
