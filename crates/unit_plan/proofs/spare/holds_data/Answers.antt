use Rattle.unit_plan.proofs.Imports.{◌≡◌, ℕ, ◌+◌, ◌-◌, ◌*◌, ◌≤◌, false, length, sym, ◌∙◌, ap, arith, not, ◌<◌, ⊎_elim, list_any, range_with_len, and_left, cases_lt, get_or_past, is_reserved, has, is_data, holds_data}
use Rattle.unit_plan.proofs.Lists.{any_range_more, any_range_passes, any_range_past}
use Rattle.unit_plan.proofs.spare.holds_data.Goals as goal

pub returns-then-is_data : goal.returns-then-is_data
unfolding holds_data
returns-then-is_data c =
    let first : ℕ = 256 * c.args.u in
    let at : first + (c.loop-block.block - first) ≡ c.loop-block.block = omega (arith, c.loop-block.auto.block) in
    let whole : c.loop-block.block - first + (255 - (c.loop-block.block - first) + 1) ≡ 256 = omega (arith, c.loop-block.auto.block, c.loop-block-test.true, c.min-count.ensures) in
    sym (any_range_passes (is_data c.args.map.now) first (c.loop-block.block - first) (255 - (c.loop-block.block - first)) 256 c.loop-block.block whole at (sym c.is_data.ensures ∙ c.if-is_data.true))

pub loop-block-preserved : goal.loop-block-preserved
loop-block-preserved c =
    let first : ℕ = 256 * c.args.u in
    let at : first + (c.loop-block.block - first) ≡ c.loop-block.block = omega (arith, c.loop-block.auto.block) in
    let next : c.loop-block.block + 1 - first ≡ c.loop-block.block - first + 1 = omega (arith, c.loop-block.auto.block) in
    ap (λ (n : ℕ). list_any (is_data c.args.map.now) (range_with_len first n)) next
    ∙ any_range_more (is_data c.args.map.now) first (c.loop-block.block - first) c.loop-block.block at c.loop-block.invariant (sym c.is_data.ensures ∙ c.if-is_data.false)

pub returns : goal.returns
unfolding holds_data
returns c =
    let first : ℕ = 256 * c.args.u in
    let seen : ℕ = c.loop-block.block - first in
    let at : first + seen ≡ c.loop-block.block = omega (arith, c.loop-block.auto.block) in
    let whole : seen + (256 - seen) ≡ 256 = omega (arith, c.loop-block.auto.block, c.loop-block.auto.block-end, c.min-count.ensures) in
    ⊎_elim
    (λ (short : length c.args.map.now - first < 256).
    sym (any_range_past (is_data c.args.map.now) first seen (256 - seen) 256 c.loop-block.block whole at c.loop-block.invariant
    (λ b low. and_left (has c.args.map.now b) (not (is_reserved b (length c.args.map.now)))
    (get_or_past c.args.map.now b false (omega (arith, c.loop-block-test.false, c.min-count.ensures, c.len-blocks.ensures, c.requires)))))
    )
    (λ (long : 256 ≤ length c.args.map.now - first).
    let all : seen ≡ 256 = omega (arith, c.loop-block-test.false, c.loop-block.auto.block-end, c.min-count.ensures, c.len-blocks.ensures) in
    sym (sym (ap (λ (n : ℕ). list_any (is_data c.args.map.now) (range_with_len first n)) all) ∙ c.loop-block.invariant))
    (cases_lt (length c.args.map.now - first) 256)
