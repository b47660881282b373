use Rattle.rollback_core.proofs.Imports.{◌≡◌, ◌≢◌, ◌∙◌, ◌+◌, nat_lt, true, false, sym, ap, arith, true≢false, nat_tests, bytes_eq-Decides, Image, block_at, copied}
use Rattle.rollback_core.proofs.Mended.{copy_beyond, copy_wanted, gives_other, gives_same}
use Rattle.rollback_core.proofs.mending.copy.Goals as goal

pub returns-then-place-blocks-clause-gives : goal.returns-then-place-blocks-clause-gives
returns-then-place-blocks-clause-gives g c = λ tells image is.
    let high : nat_lt (c.args.place + 1) c.args.blocks ≡ false = grind (arith, nat_tests, c.if-place-blocks.true) in
    gives_same (block_at image c.args.place) _ (copy_beyond c.args.blocks c.args.superblock.now.bytes c.args.place (block_at image c.args.place) high)

pub returns-then-eq-clause-gives : goal.returns-then-eq-clause-gives
returns-then-eq-clause-gives g c = λ tells image is.
    let low : nat_lt (c.args.place + 1) c.args.blocks ≡ true = grind (arith, nat_tests, c.if-place-blocks.false) in
    let here = c.in_ok-read.ensures.block tells ∙ ap (λ (i : Image). block_at i c.args.place) is in
    let wanted = copy_wanted c.args.blocks c.args.superblock.now.bytes c.args.place (block_at image c.args.place) low ∙ sym c.mirror.ensures in
    let equal = (bytes_eq-Decides c.read.new.into.bytes c.mirror.new.into.bytes).0 (sym c.if-eq.ensures) in
    gives_same (block_at image c.args.place) _ (wanted ∙ (sym equal ∙ here))

pub returns-else-eq-clause-gives : goal.returns-else-eq-clause-gives
returns-else-eq-clause-gives g c = λ tells image is.
    let low : nat_lt (c.args.place + 1) c.args.blocks ≡ true = grind (arith, nat_tests, c.if-place-blocks.false) in
    let here = c.in_ok-read.ensures.block tells ∙ ap (λ (i : Image). block_at i c.args.place) is in
    let wanted = copy_wanted c.args.blocks c.args.superblock.now.bytes c.args.place (block_at image c.args.place) low ∙ sym c.mirror.ensures in
    let differ : copied c.args.blocks c.args.superblock.now.bytes c.args.place (block_at image c.args.place) ≢ block_at image c.args.place =
    λ same. true≢false (sym ((bytes_eq-Decides c.read.new.into.bytes c.mirror.new.into.bytes).1 (here ∙ (sym same ∙ wanted))) ∙ sym c.if-eq.ensures) in
    gives_other (block_at image c.args.place) _ c.mirror.new.into (sym wanted) differ
