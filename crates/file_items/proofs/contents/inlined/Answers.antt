use Rattle.file_items.proofs.Imports.{sym, subst, ◌∙◌, err_from_is_err_and, IsFaultOrMemory, items_of, stat_at, volume_items}
use Rattle.file_items.proofs.Held.{inline_low, holds_inline, holds_nothing}
use Rattle.file_items.proofs.contents.inlined.Goals as goal

pub returns-in_err-is_inline-clause-held : goal.returns-in_err-is_inline-clause-held
returns-in_err-is_inline-clause-held g c = λ tells image is accepted opened key at kind_is.
    let fault = c.in_err-is_inline.ensures.test tells image is accepted opened key at in
    let err = err_from_is_err_and c.from_residual.result c.from_residual.ensures.1 in
    rw err.1 (subst IsFaultOrMemory (sym err.2) fault)

pub returns-in_err-length-clause-held : goal.returns-in_err-length-clause-held
returns-in_err-length-clause-held g c = λ tells image is accepted opened key at kind_is.
    let same = g.met.S.BlockSource.kept_blocks c.args.src.now c.is_inline.new.src tells c.is_inline.ensures.kept ∙ is in
    let test = sym (c.in_ok-is_inline.ensures.test tells image is accepted opened key at) ∙ c.if-branch.true in
    let low = inline_low c.args.volume.now image c.args.place key c.args.inline c.args.kind accepted opened at kind_is test in
    let fault = c.in_err-length.ensures.held tells image same accepted opened key at low in
    let err = err_from_is_err_and c.from_residual-in_err-length.result c.from_residual-in_err-length.ensures.1 in
    rw err.1 (subst IsFaultOrMemory (sym err.2) fault)

pub returns-in_ok-length-clause-held : goal.returns-in_ok-length-clause-held
returns-in_ok-length-clause-held g c = λ tells image is accepted opened key at kind_is.
    let same = g.met.S.BlockSource.kept_blocks c.args.src.now c.is_inline.new.src tells c.is_inline.ensures.kept ∙ is in
    let test = sym (c.in_ok-is_inline.ensures.test tells image is accepted opened key at) ∙ c.if-branch.true in
    let low = inline_low c.args.volume.now image c.args.place key c.args.inline c.args.kind accepted opened at kind_is test in
    holds_inline c.args.inline (items_of key (volume_items image)) (stat_at (volume_items image) key).fields.size c.args.kind c.in_ok-length.length c.read_bytes.new.into.bytes test (c.in_ok-length.ensures.held tells image same accepted opened key at low)

pub returns-else-branch-clause-held : goal.returns-else-branch-clause-held
returns-else-branch-clause-held g c = λ tells image is accepted opened key at kind_is.
    let test = sym (c.in_ok-is_inline.ensures.test tells image is accepted opened key at) ∙ c.if-branch.false in
    holds_nothing c.args.inline (items_of key (volume_items image)) (stat_at (volume_items image) key).fields.size c.args.kind c.args.into.now.bytes test
