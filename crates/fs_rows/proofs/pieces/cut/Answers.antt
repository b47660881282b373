use Rattle.fs_rows.proofs.Imports.{◌≡◌, ◌-◌, ◌*◌, ◌∙◌, ◌≤◌, ℕ, min, length, replicate, ap, arith}
use Rattle.fs_rows.proofs.Copies.{cut_is, part_length, rest_length}
use Rattle.fs_rows.proofs.pieces.cut.Goals as goal

pub returns : goal.returns
returns c = λ f g k at replaces.
    let long : length c.args.block.now.bytes ≡ 4096 = omega arith in
    let small : c.min-keep.result ≤ 4096 = omega (arith, c.min-keep.ensures) in
    let keep : c.min-keep.result ≡ min (c.args.size - 4096 * k) 4096 = omega (arith, c.min-keep.ensures, c.saturating_sub.ensures, at) in
    cut_is c.args.block.now.bytes c.fill.new.self _ c.min-keep.result k c.args.size f g long keep
    (c.fill.ensures.after (λ y is. is) ∙ ap (λ (n : ℕ). replicate n 0) (part_length c.args.block.now.bytes c.min-keep.result (4096 - c.min-keep.result) (omega (arith, long, small))))
    (rest_length c.args.block.now.bytes c.min-keep.result (4096 - c.min-keep.result) (omega (arith, long, small))) replaces
