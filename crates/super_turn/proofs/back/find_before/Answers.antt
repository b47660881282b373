use Rattle.super_turn.proofs.Imports.{◌≡◌, true, false, List, length, sym, ◌∙◌, ap, arith, block_at}
use Rattle.super_turn.proofs.Backs.{named_inside, none_short}
use Rattle.super_turn.proofs.Finding.{copy_is, half_is, none_named}
use Rattle.super_turn.proofs.back.find_before.Goals as goal

pub read_block-requires-2 : goal.read_block-requires-2
read_block-requires-2 g c =
    let size = g.met.S.BlockSource.kept_size _ _ c.read_block.ensures.kept in
    let inside = named_inside c.in_ok-block.block.bytes c.len-blocks.result (sym c.names_copy.ensures ∙ c.if-not-names_copy.false) in
    record { inside = omega (arith, size, inside, c.len-blocks.ensures, c.marked_place.ensures) }

pub returns-then-not-is_half-clause-kept : goal.returns-then-not-is_half-clause-kept
returns-then-not-is_half-clause-kept g c = g.met.S.BlockSource.kept_trans _ _ _ c.read_block.ensures.kept c.read_block-2.ensures.kept

pub returns-clause-kept : goal.returns-clause-kept
returns-clause-kept g c = g.met.S.BlockSource.kept_trans _ _ _ c.read_block.ensures.kept c.read_block-2.ensures.kept

pub returns-then-blocks-le-SUPER_BLOCK-clause-found : goal.returns-then-blocks-le-SUPER_BLOCK-clause-found
returns-then-blocks-le-SUPER_BLOCK-clause-found g c = λ tells image is.
    let size = g.met.S.BlockSource.size_is c.args.src.now tells ∙ ap length is in
    none_short image (omega (arith, size, c.len-blocks.ensures, c.if-blocks-le-SUPER_BLOCK.true))

pub returns-then-not-names_copy-clause-found : goal.returns-then-not-names_copy-clause-found
returns-then-not-names_copy-clause-found g c = λ tells image is.
    let size = g.met.S.BlockSource.size_is c.args.src.now tells ∙ ap length is in
    none_named image c.in_ok-block.block.bytes c.len-blocks.result (c.in_ok-block.ensures.block tells image is) (c.len-blocks.ensures ∙ size) (sym c.names_copy.ensures ∙ c.if-not-names_copy.true)

pub returns-then-not-is_half-clause-found : goal.returns-then-not-is_half-clause-found
returns-then-not-is_half-clause-found g c = λ tells image is.
    let size = g.met.S.BlockSource.size_is c.args.src.now tells ∙ ap length is in
    let again = g.met.S.BlockSource.kept_blocks _ _ tells c.read_block.ensures.kept ∙ is in
    half_is image c.in_ok-block.block.bytes c.len-blocks.result (c.in_ok-block.ensures.block tells image is) (c.len-blocks.ensures ∙ size)
    c.in_ok-before.before.bytes (c.in_ok-before.ensures.block tells image again ∙ ap (block_at image) c.marked_place.ensures) (sym c.names_copy.ensures ∙ c.if-not-names_copy.false)
    false (sym c.is_half.ensures ∙ c.if-not-is_half.true)

pub returns-clause-found : goal.returns-clause-found
returns-clause-found g c = λ tells image is.
    let size = g.met.S.BlockSource.size_is c.args.src.now tells ∙ ap length is in
    let again = g.met.S.BlockSource.kept_blocks _ _ tells c.read_block.ensures.kept ∙ is in
    let here = c.in_ok-block.ensures.block tells image is in
    let count = c.len-blocks.ensures ∙ size in
    let copy = c.in_ok-before.ensures.block tells image again ∙ ap (block_at image) c.marked_place.ensures in
    let named = sym c.names_copy.ensures ∙ c.if-not-names_copy.false in (
      half_is image c.in_ok-block.block.bytes c.len-blocks.result here count c.in_ok-before.before.bytes copy named true (sym c.is_half.ensures ∙ c.if-not-is_half.false),
      here,
      copy_is image c.in_ok-block.block.bytes c.len-blocks.result here count c.in_ok-before.before.bytes copy named,
    )
