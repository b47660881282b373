use Rattle.super_turn.proofs.Imports.{◌≡◌, ◌++◌, ◌∙◌, ℕ, List, length, take, drop, sym, ap, arith, length-take}
use Rattle.super_turn.proofs.mark.with_first.Goals as goal

pub slice_bounds-copy_from_slice-end : goal.slice_bounds-copy_from_slice-end
slice_bounds-copy_from_slice-end c =
    let long : length c.args.rest.now.bytes ≡ 4096 = omega arith in
    omega (arith, long, length-take 512 c.args.rest.now.bytes)

pub copy_from_slice-requires : goal.copy_from_slice-requires
copy_from_slice-requires c =
    let one : length c.args.rest.now.bytes ≡ 4096 = omega arith in
    let two : length c.args.first.now.bytes ≡ 4096 = omega arith in
    omega (arith, one, two, length-take 512 c.args.rest.now.bytes, length-take 512 c.args.first.now.bytes)

pub returns-clause-joined : goal.returns-clause-joined
returns-clause-joined c = ap (λ (zs : List ℕ). zs ++ drop 512 c.args.rest.now.bytes) c.copy_from_slice.ensures.after
