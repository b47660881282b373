use Rattle.btr_check_trees.proofs.Imports.{◌≡◌, refl, sym, ◌∙◌, arith, DEV_ITEM}
use Rattle.btr_check_trees.proofs.ChunkItems.{chunk_held, device_held, item_refused}
use Rattle.btr_check_trees.proofs.chunk_items.ChunkItemsItemVisitor.visit.Goals as goal

pub returns-then-is_chunk_key-clause-visited : goal.returns-then-is_chunk_key-clause-visited
returns-then-is_chunk_key-clause-visited c = λ begun items holds order.
    let added = c.in_ok-add_chunk.ensures in
    chunk_held begun c.args.self.now _ items _ (c.args.key.now, c.args.body.now) c.read-read.result (sym c.is_chunk_key.ensures ∙ c.if-is_chunk_key.true) c.read-read.ensures refl refl refl added.chunks added.system holds

pub returns-then-key-clause-visited : goal.returns-then-key-clause-visited
returns-then-key-clause-visited c = λ begun items holds order.
    let other : ¬ (c.args.key.now.kind ≡ DEV_ITEM) = λ is. absurd (omega (arith, c.if-key.true, is)) in
    rw c.fails_at.ensures (item_refused items _ (c.args.key.now, c.args.body.now) (sym c.is_chunk_key.ensures ∙ c.if-is_chunk_key.false) other)

pub returns-clause-visited : goal.returns-clause-visited
returns-clause-visited c = λ begun items holds order.
    let kind : c.args.key.now.kind ≡ DEV_ITEM = omega (arith, c.if-key.false) in
    device_held begun c.args.self.now _ items _ (c.args.key.now, c.args.body.now) (sym c.is_chunk_key.ensures ∙ c.if-is_chunk_key.false) kind refl refl refl refl c.with-self.ensures holds
