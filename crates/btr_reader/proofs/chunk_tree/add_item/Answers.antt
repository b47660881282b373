use Rattle.btr_reader.proofs.Imports.{◌≡◌, false, Option, IfErr, sym, ◌∙◌, subst, list_any, ChunkAt, same_chunk, chunk_item_refusals, IsAmong}
use Rattle.btr_reader.proofs.Adding.{chunk_is_new}
use Rattle.btr_reader.proofs.chunk_tree.add_item.Goals as goal

pub returns-clause-err : goal.returns-clause-err
returns-clause-err c =
    let key = c.args.key.now in
    let fresh : list_any (same_chunk c.in-Some.c) c.args.boot.now ≡ false = sym c.is_among.ensures ∙ c.if-is_among.false in
    subst (λ (o : Option (Option ChunkAt)). IfErr c.add_chunk.result (IsAmong (chunk_item_refusals c.args.device c.args.ranges.now.items key.offset o)))
    (sym (chunk_is_new c.args.boot.now key c.args.body.now c.in-Some.c (sym c.is_chunk_key.ensures ∙ c.if-not-is_chunk_key.false) (sym c.read.ensures ∙ c.in-Some.is) fresh))
    c.add_chunk.ensures.err
