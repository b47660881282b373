use Rattle.reiser_super.proofs.Imports.{◌≡◌, ◌+◌, ◌∙◌, ap, subst, List, ℕ, [], OnOk, IfErr, Image, block_at}
use Rattle.reiser_super.specs.State.{IsPendingIn}
use Rattle.reiser_super.proofs.Waiting.{at_place, at_log}
use Rattle.reiser_super.proofs.journal.journal_state.Goals as goal

pub returns-then-names_place-clause-clean : goal.returns-then-names_place-clause-clean
returns-then-names_place-clause-clean g c = λ tells image is.
    let same = g.met.S.BlockSource.kept_blocks c.args.src.now c.read.new.self tells c.read.ensures.kept ∙ is in
    let header : c.read.new.into.bytes ≡ block_at image (c.args.sup.now.journal_first + c.args.sup.now.journal_size) =
    c.in_ok-read.ensures.block tells ∙ ap (λ (i : Image). block_at i (c.args.sup.now.journal_first + c.args.sup.now.journal_size)) is in
    subst (λ (pending : List ℕ). OnOk c.look_at_place.result (pending ≡ []))
    (at_place c.args.sup.now image c.read.new.into.bytes _ _ header c.if-names_place.ensures.test c.last_flushed-flushed.ensures c.next_place-place.ensures)
    (c.look_at_place.ensures.clean tells image same)

pub returns-then-names_place-clause-pending : goal.returns-then-names_place-clause-pending
returns-then-names_place-clause-pending g c = λ tells image is.
    let same = g.met.S.BlockSource.kept_blocks c.args.src.now c.read.new.self tells c.read.ensures.kept ∙ is in
    let header : c.read.new.into.bytes ≡ block_at image (c.args.sup.now.journal_first + c.args.sup.now.journal_size) =
    c.in_ok-read.ensures.block tells ∙ ap (λ (i : Image). block_at i (c.args.sup.now.journal_first + c.args.sup.now.journal_size)) is in
    subst (λ (pending : List ℕ). IfErr c.look_at_place.result (IsPendingIn pending))
    (at_place c.args.sup.now image c.read.new.into.bytes _ _ header c.if-names_place.ensures.test c.last_flushed-flushed.ensures c.next_place-place.ensures)
    (c.look_at_place.ensures.pending tells image same)

pub returns-else-names_place-clause-clean : goal.returns-else-names_place-clause-clean
returns-else-names_place-clause-clean g c = λ tells image is.
    let same = g.met.S.BlockSource.kept_blocks c.args.src.now c.read.new.self tells c.read.ensures.kept ∙ is in
    let header : c.read.new.into.bytes ≡ block_at image (c.args.sup.now.journal_first + c.args.sup.now.journal_size) =
    c.in_ok-read.ensures.block tells ∙ ap (λ (i : Image). block_at i (c.args.sup.now.journal_first + c.args.sup.now.journal_size)) is in
    subst (λ (pending : List ℕ). OnOk c.look_at_log.result (pending ≡ [])) (at_log c.args.sup.now image c.read.new.into.bytes header c.if-names_place.ensures.test) (c.look_at_log.ensures.clean tells image same)

pub returns-else-names_place-clause-pending : goal.returns-else-names_place-clause-pending
returns-else-names_place-clause-pending g c = λ tells image is.
    let same = g.met.S.BlockSource.kept_blocks c.args.src.now c.read.new.self tells c.read.ensures.kept ∙ is in
    let header : c.read.new.into.bytes ≡ block_at image (c.args.sup.now.journal_first + c.args.sup.now.journal_size) =
    c.in_ok-read.ensures.block tells ∙ ap (λ (i : Image). block_at i (c.args.sup.now.journal_first + c.args.sup.now.journal_size)) is in
    subst (λ (pending : List ℕ). IfErr c.look_at_log.result (IsPendingIn pending)) (at_log c.args.sup.now image c.read.new.into.bytes header c.if-names_place.ensures.test) (c.look_at_log.ensures.pending tells image same)
