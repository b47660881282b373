use Rattle.convert_trees.proofs.Imports.{◌∙◌, ap, sym, subst, Super, chunk_items, AreChunks}
use Rattle.convert_trees.proofs.Adding.{adds_of, all_of_list}
use Rattle.convert_trees.proofs.first.write_chunks.Goals as goal

pub returns-clause-tree : goal.returns-clause-tree
returns-clause-tree g c = λ tells other is chunks are writable.
    let known = subst (λ (s : Super). AreChunks c.args.w.now.plan.now s.blocks chunks) (sym c.sup.ensures) are in
    let same = ap (λ (s : Super). chunk_items c.args.w.now.form.ids s.blocks chunks) c.sup.ensures in
    adds_of _ _ _ _ _ _
    (c.write.ensures.tree tells other is tt (λ b never inside. never) _ (all_of_list _ _ _ _ c.new.ensures.all c.new.ensures.none_given (c.in_ok-list.ensures chunks known ∙ same)) writable)
