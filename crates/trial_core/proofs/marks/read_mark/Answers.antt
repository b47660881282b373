use Rattle.trial_core.proofs.Imports.{◌≡◌, ℕ, ◌+◌, ◌<◌, List, sym, ◌∙◌, ap, subst, arith, slice_index, Marks, mark_of, has}
use Rattle.reiser_volume.specs.fs_rows.declared.mark.Marker.{Marker}
use Rattle.trial_core.proofs.Marking.{all_marked, before, is_free, more_bytes, more_marked, none_marked}
use Rattle.trial_core.proofs.marks.read_mark.Goals as goal
use Rattle.trial_core.proofs.marks.read_mark.Goals.{then-is_used+in_ok-block, else-is_used}

pub loop-b-preserved : goal.loop-b-preserved
loop-b-preserved g c =
    let used = c.args.used.now in
    let n : ℕ = c.loop-b.b in
    let old = c.loop-b.invariant in
    record {
      kept = elim c.if-is_used.branch [
        | then-is_used+in_ok-block w ↦ subst (g.S.BlockSource.kept c.args.src.now) (sym w.src-is) (g.met.S.BlockSource.kept_trans _ _ _ old.kept w.read_block.ensures.kept)
        | else-is_used w ↦ subst (g.S.BlockSource.kept c.args.src.now) (sym w.src-is) old.kept
      ];
      same = elim c.if-is_used.branch [
        | then-is_used+in_ok-block w ↦ ap g.S.BlockSource.faults w.src-is ∙ (w.in_ok-block.ensures.cause.kept ∙ old.same)
        | else-is_used w ↦ ap g.S.BlockSource.faults w.src-is ∙ old.same
      ];
      marks = λ tells image is.
          let here : g.S.BlockSource.blocks c.loop-b.src ≡ image = g.met.S.BlockSource.kept_blocks _ _ tells old.kept ∙ is in
          elim c.if-is_used.branch [
            | then-is_used+in_ok-block w ↦
                subst (λ (m : Marker). Marks m (before image used (n + 1))) (sym w.marker-is)
                (subst (λ (bs : List (ℕ × List ℕ)). Marks w.add.new.self bs) (more_marked image used n _ (sym c.is_used.ensures ∙ w.if-is_used.true) (w.in_ok-block.ensures.block tells image here))
                (w.add.ensures (before image used n) (old.marks tells image is)))
            | else-is_used w ↦
                subst (λ (m : Marker). Marks m (before image used (n + 1))) (sym w.marker-is)
                (subst (λ (bs : List (ℕ × List ℕ)). Marks c.loop-b.marker bs) (none_marked image used n (sym c.is_used.ensures ∙ w.if-is_used.false)) (old.marks tells image is))
          ];
      bytes = λ tells image is.
          let here : g.S.BlockSource.blocks c.loop-b.src ≡ image = g.met.S.BlockSource.kept_blocks _ _ tells old.kept ∙ is in
          elim c.if-is_used.branch [
            | then-is_used+in_ok-block w ↦
                more_bytes image used n (old.bytes tells image is)
                (λ marked i. subst (λ (bs : List ℕ). slice_index bs i < 256) (w.in_ok-block.ensures.block tells image here) (w.in_ok-block.ensures.bytes i))
            | else-is_used w ↦ more_bytes image used n (old.bytes tells image is) (λ marked i. is_free (has used n) (sym c.is_used.ensures ∙ w.if-is_used.false) marked)
          ];
    }

pub returns-clause-mark : goal.returns-clause-mark
returns-clause-mark g c = λ tells image is.
    let n : ℕ = c.loop-b.b in
    c.finish.ensures _ (c.loop-b.invariant.marks tells image is) ∙ ap (λ (bs : List (ℕ × List ℕ)). mark_of bs) (all_marked image c.args.used.now n (omega (arith, c.loop-b-test.false, c.loop-b.auto.b-end, c.len-b-end.ensures)))
