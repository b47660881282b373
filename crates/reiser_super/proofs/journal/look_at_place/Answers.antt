use Rattle.reiser_super.proofs.Imports.{◌≡◌, ◌+◌, ◌∙◌, ap, Image, block_at, log_block}
use Rattle.reiser_super.proofs.Waiting.{not_newer, not_committed, committed}
use Rattle.reiser_super.proofs.journal.look_at_place.Goals as goal

pub returns-then-not-is_newer-clause-clean : goal.returns-then-not-is_newer-clause-clean
returns-then-not-is_newer-clause-clean g c = λ tells image is.
    let read : c.read.new.into.bytes ≡ log_block c.args.sup.now image c.args.place =
    c.in_ok-read.ensures.block tells ∙ ap (λ (i : Image). block_at i (c.args.sup.now.journal_first + c.args.place)) is in
    not_newer c.args.sup.now image c.args.flushed c.args.place c.read.new.into.bytes read c.if-not-is_newer.ensures.test

pub returns-then-commits-clause-pending : goal.returns-then-commits-clause-pending
returns-then-commits-clause-pending g c = λ tells image is.
    let read : c.read.new.into.bytes ≡ log_block c.args.sup.now image c.args.place =
    c.in_ok-read.ensures.block tells ∙ ap (λ (i : Image). block_at i (c.args.sup.now.journal_first + c.args.place)) is in
    let same = g.met.S.BlockSource.kept_blocks c.args.src.now c.read.new.self tells c.read.ensures.kept ∙ is in
    let commit : c.read-2.new.into.bytes ≡ log_block c.args.sup.now image c.commit_place-commit.result =
    c.in_ok-read-2.ensures.block tells ∙ ap (λ (i : Image). block_at i (c.args.sup.now.journal_first + c.commit_place-commit.result)) same in
    committed c.args.sup.now image c.args.flushed c.args.place c.read.new.into.bytes c.read-2.new.into.bytes _ _ _ read c.if-not-is_newer.ensures.test c.transaction-trans.ensures
    c.transaction_length-length.ensures c.commit_place-commit.ensures commit c.if-commits.ensures

pub returns-clause-clean : goal.returns-clause-clean
returns-clause-clean g c = λ tells image is.
    let read : c.read.new.into.bytes ≡ log_block c.args.sup.now image c.args.place =
    c.in_ok-read.ensures.block tells ∙ ap (λ (i : Image). block_at i (c.args.sup.now.journal_first + c.args.place)) is in
    let same = g.met.S.BlockSource.kept_blocks c.args.src.now c.read.new.self tells c.read.ensures.kept ∙ is in
    let commit : c.read-2.new.into.bytes ≡ log_block c.args.sup.now image c.commit_place-commit.result =
    c.in_ok-read-2.ensures.block tells ∙ ap (λ (i : Image). block_at i (c.args.sup.now.journal_first + c.commit_place-commit.result)) same in
    not_committed c.args.sup.now image c.args.flushed c.args.place c.read.new.into.bytes c.read-2.new.into.bytes _ _ _ read c.if-not-is_newer.ensures.test c.transaction-trans.ensures
    c.transaction_length-length.ensures c.commit_place-commit.ensures commit c.if-commits.ensures
