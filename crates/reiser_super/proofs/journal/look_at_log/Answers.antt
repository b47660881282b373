use Rattle.reiser_super.proofs.Imports.{◌≡◌, ◌+◌, ◌∙◌, ap, arith, Image, block_at, log_block}
use Rattle.reiser_super.proofs.Waiting.{among_all, none_more, none_at_all}
use Rattle.reiser_super.proofs.journal.look_at_log.Goals as goal

pub returns-then-is_descriptor-clause-pending : goal.returns-then-is_descriptor-clause-pending
returns-then-is_descriptor-clause-pending g c = λ tells image is.
    let same = g.met.S.BlockSource.kept_blocks c.args.src.now c.loop-place.src tells c.loop-place.invariant.kept ∙ is in
    let read : c.read.new.into.bytes ≡ log_block c.args.sup.now image c.loop-place.place =
    c.in_ok-read.ensures.block tells ∙ ap (λ (i : Image). block_at i (c.args.sup.now.journal_first + c.loop-place.place)) same in
    among_all c.args.sup.now image c.loop-place.place c.read.new.into.bytes c.transaction-trans.result c.loop-place-test.true read c.if-is_descriptor.ensures c.transaction-trans.ensures

pub loop-place-preserved : goal.loop-place-preserved
loop-place-preserved g c =
    let before = c.loop-place.invariant in
    record {
      kept = g.met.S.BlockSource.kept_trans _ _ _ before.kept c.read.ensures.kept;
      same = omega (arith, before.same, c.in_ok-read.ensures.cause.kept);
      none = λ tells.
          let same = g.met.S.BlockSource.kept_blocks c.args.src.now c.loop-place.src tells before.kept in
          let read : c.read.new.into.bytes ≡ log_block c.args.sup.now (g.S.BlockSource.blocks c.args.src.now) c.loop-place.place =
          c.in_ok-read.ensures.block tells ∙ ap (λ (i : Image). block_at i (c.args.sup.now.journal_first + c.loop-place.place)) same in
          none_more c.args.sup.now (g.S.BlockSource.blocks c.args.src.now) c.loop-place.place c.read.new.into.bytes (before.none tells) read c.if-is_descriptor.ensures;
    }

pub returns-clause-clean : goal.returns-clause-clean
returns-clause-clean g c = λ tells image is.
    let end : c.loop-place.place ≡ c.args.sup.now.journal_size = omega arith in
    none_at_all c.args.sup.now _ image _ is end (c.loop-place.invariant.none tells)
