use Rattle.reiser_volume_names.proofs.Imports.{ℕ, ◌+◌, ◌∙◌, length, ap, List, arith, name_hash, capped}
use Rattle.reiser_volume_names.proofs.Crowding.{joined_at, crowded_at}
use Rattle.reiser_volume_names.proofs.crowd.join.Goals as goal

pub returns-then-sum-gt3900 : goal.returns-then-sum-gt3900
returns-then-sum-gt3900 c = λ links counts.
    crowded_at c.args.sums.now c.add.new.sums links c.args.naming.now c.name_hash.result c.size_with.result c.in_ok-sum.sum counts (c.name_hash.ensures ∙ ap name_hash c.bytes-name.ensures) (c.size_with.ensures ∙ ap (λ (l : List ℕ). capped (length l + 30)) c.bytes-name.ensures) c.in_ok-sum.ensures.sum
    (omega (arith, c.if-sum-gt3900.true))

pub returns : goal.returns
returns c = λ links counts.
    joined_at c.args.sums.now c.add.new.sums links c.args.naming.now c.name_hash.result c.size_with.result c.in_ok-sum.sum counts (c.name_hash.ensures ∙ ap name_hash c.bytes-name.ensures) (c.size_with.ensures ∙ ap (λ (l : List ℕ). capped (length l + 30)) c.bytes-name.ensures) c.in_ok-sum.ensures.sum
    c.in_ok-sum.ensures.sums c.if-sum-gt3900.false
