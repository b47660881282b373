use Rattle.btr_reader.proofs.Imports.{◌≡◌, length, ap, sym, subst, ◌∙◌, refl, arith, err_from_is_err_and, Super, RefusesBtrfsRows, has_log}
use Rattle.btr_reader.proofs.PartsRead.{no_log, opening_refuses, read_here, one_log, super_answer, super_refuses, rows_listed}
use Rattle.btr_reader.proofs.volume.Btrfs.list.Goals as goal

pub returns-in_err-sup-clause-rows : goal.returns-in_err-sup-clause-rows
returns-in_err-sup-clause-rows g c = λ tells image is block.
    let size : c.len.result ≡ length image = c.len.ensures ∙ (g.met.S.BlockSource.size_is c.args.src.now tells ∙ ap length is) in
    let err = err_from_is_err_and c.from_residual.result c.from_residual.ensures.1 in
    rw err.1 (subst (RefusesBtrfsRows image) (sym err.2)
    (super_refuses image c.in_err-sup.field-0.0 (super_answer image c.args.block.now.bytes c.len.result c.in_err-sup.field-0.0 block size c.in_err-sup.ensures.err)))

pub returns-then-sup-ne0-clause-rows : goal.returns-then-sup-ne0-clause-rows
returns-then-sup-ne0-clause-rows g c = λ tells image is block.
    let size : c.len.result ≡ length image = c.len.ensures ∙ (g.met.S.BlockSource.size_is c.args.src.now tells ∙ ap length is) in
    has_log c.in_ok-sup.sup.log_root (one_log image c.in_ok-sup.sup (read_here image c.args.block.now.bytes c.len.result _ block size c.in_ok-sup.ensures.ok) c.if-sup-ne0.true) refl

pub returns-in_err-volume-clause-rows : goal.returns-in_err-volume-clause-rows
returns-in_err-volume-clause-rows g c = λ tells image is block.
    let size : c.len.result ≡ length image = c.len.ensures ∙ (g.met.S.BlockSource.size_is c.args.src.now tells ∙ ap length is) in
    let read = read_here image c.args.block.now.bytes c.len.result _ block size c.in_ok-sup.ensures.ok in
    let err = err_from_is_err_and c.from_residual-in_err-volume.result c.from_residual-in_err-volume.ensures.1 in
    rw err.1 (subst (RefusesBtrfsRows image) (sym err.2)
    (opening_refuses image c.in_err-volume.field-0.0 (no_log image c.in_ok-sup.sup read (omega (arith, c.if-sup-ne0.false))) (c.in_err-volume.ensures.refused tells image is read)))

pub returns-clause-rows : goal.returns-clause-rows
returns-clause-rows g c = λ tells image is block.
    let size : c.len.result ≡ length image = c.len.ensures ∙ (g.met.S.BlockSource.size_is c.args.src.now tells ∙ ap length is) in
    let read = read_here image c.args.block.now.bytes c.len.result _ block size c.in_ok-sup.ensures.ok in
    let there = g.met.S.BlockSource.kept_blocks c.args.src.now c.open_with.new.src tells c.open_with.ensures.kept ∙ is in
    let on = c.in_ok-volume.ensures.opened tells image is read in
    let none = ap (λ (s : Super). s.log_root) c.in_ok-volume.ensures.sup ∙ omega (arith, c.if-sup-ne0.false) in
    rows_listed image c.in_ok-volume.volume c.rows.result on none (c.rows.ensures.rows tells image there on)

pub returns-clause-kept : goal.returns-clause-kept
returns-clause-kept g c = g.met.S.BlockSource.kept_trans _ _ _ c.open_with.ensures.kept c.rows.ensures.kept
