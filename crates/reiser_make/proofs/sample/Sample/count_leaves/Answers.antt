use Rattle.reiser_make.proofs.Imports.{◌≡◌, ◌≤◌, ℕ, length, ap, arith, leaves, leaves_of, items_behind}
use Rattle.reiser_make.proofs.Counting.{leaves_bound, leaves_some, leaves_first}
use Rattle.reiser_make.proofs.sample.Sample.count_leaves.Goals as goal

pub loop-leaf-init : goal.loop-leaf-init
loop-leaf-init c = leaves_first c.args.self.now c.first-at.result c.first-at.ensures

few : (n m : ℕ) → n ≡ m → n ≤ 4000 → m ≤ 4000
few n m is le = omega arith

pub overflow_add-count : goal.overflow_add-count
overflow_add-count c =
    let most : length (leaves c.args.self.now) ≤ 12123 = leaves_bound c.args.self.now (few _ _ c.number-few.ensures.number c.number-few.ensures.most) in
    omega (arith, most, c.loop-leaf.invariant)

pub returns-clause-some : goal.returns-clause-some
returns-clause-some c =
    let none : length (leaves_of (items_behind c.args.self.now c.loop-leaf.at)) ≡ 0 = ap (λ z. length (leaves_of z)) c.in_default.ensures in
    omega (arith, leaves_some c.args.self.now, c.loop-leaf.invariant, none)

pub returns-clause-most : goal.returns-clause-most
returns-clause-most c =
    let most : length (leaves c.args.self.now) ≤ 12123 = leaves_bound c.args.self.now (few _ _ c.number-few.ensures.number c.number-few.ensures.most) in
    omega (arith, most, c.loop-leaf.invariant)
