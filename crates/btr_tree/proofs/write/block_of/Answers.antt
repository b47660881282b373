use Rattle.btr_tree.proofs.Imports.{◌≡◌, ℕ, ◌+◌, ◌-◌, ◌*◌, take, drop, ◌∙◌, ap, arith}
use Rattle.btr_tree.proofs.write.block_of.Goals as goal

pub returns : goal.returns
returns c =
    let size : 4096 * c.args.j + 4096 - 4096 * c.args.j ≡ 4096 = omega arith in
    c.copy_from_slice.ensures.after ∙ ap (λ (n : ℕ). take n (drop (4096 * c.args.j) c.args.bytes.now)) size
