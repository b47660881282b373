use Rattle.fs_rows.proofs.Imports.{◌≡◌, ◌-◌, ◌+◌, ◌∙◌, ◌≤◌, ℕ, List, length, get_or, sym, ap, arith, block_by}
use Rattle.fs_rows.proofs.Copies.{copy_is, part_length, part_at}
use Rattle.fs_rows.proofs.Functions.{same_block}
use Rattle.fs_rows.proofs.pieces.copy_piece.Goals as goal
use Rattle.fs_rows.proofs.pieces.copy_piece.Goals.{else-end-start-via-then-end-start+else-from-start-lt4096, else-end-start-via-else-end-start}

pub returns-then-from-start-lt4096 : goal.returns-then-from-start-lt4096
returns-then-from-start-lt4096 c = λ f g k at over is.
    let long : length c.args.block.now.bytes ≡ 4096 = omega arith in
    let from : ℕ = c.max-from.result - c.args.start in
    let n : ℕ = c.min-to.result - (c.max-from.result - c.args.start) in
    let fits : c.max-from.result - c.args.start + (c.min-to.result - (c.max-from.result - c.args.start)) ≤ 4096 =
    omega (arith, c.if-end-start.true, c.if-from-start-lt4096.true, c.min-to.ensures, c.max-from.ensures) in
    let many = part_length c.args.block.now.bytes (c.max-from.result - c.args.start) (c.min-to.result - (c.max-from.result - c.args.start)) (omega (arith, fits, long)) in
    let size : length c.copy_from_slice.new.self ≡ c.min-to.result - (c.max-from.result - c.args.start) = c.copy_from_slice.ensures.len ∙ many in
    copy_is c.args.block.now.bytes c.copy_from_slice.new.self c.args.bytes.now from n c.args.at k f g
    long is over size fits (omega (arith, c.max-from.ensures, at))
    (λ j h. ap (λ (xs : List ℕ). get_or xs j 0) c.copy_from_slice.ensures.after
    ∙ part_at c.args.bytes.now (c.max-from.result - c.args.at) (c.args.start + c.min-to.result - c.args.at - (c.max-from.result - c.args.at)) j (omega (arith, h, c.max-from.ensures))
    ∙ ap (λ (i : ℕ). get_or c.args.bytes.now i 0) (omega (arith, c.max-from.ensures, at)))
    (omega (arith, c.max-from.ensures, c.min-to.ensures, at, c.if-end-start.true, c.if-from-start-lt4096.true))

pub returns-else-end-start : goal.returns-else-end-start
returns-else-end-start c = λ f g k at over is.
    elim c.else-end-start.branch as (λ _. c.args.block.now.bytes ≡ block_by g k) [
      | else-end-start-via-then-end-start+else-from-start-lt4096 w ↦ is ∙ same_block f g k (λ n from to. sym (over.below n (omega (arith, from, to, at, w.if-from-start-lt4096.false, c.max-from.ensures))))
      | else-end-start-via-else-end-start w ↦ is ∙ same_block f g k (λ n from to. sym (over.above n (omega (arith, from, to, at, w.if-end-start.false))))
    ]
