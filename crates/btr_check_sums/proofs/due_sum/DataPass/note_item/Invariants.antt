use Rattle.btr_check_sums.proofs.Imports.{◌≡◌, IsTrue, List, Key, Item, HoldsDue, HoldsFirst, IsReady}
use Rattle.btr_check_sums.proofs.due_sum.DataPass.note_item.Given as goal

abbrev pub invariant-loop-k : goal.invariant-loop-k
invariant-loop-k g l = record {
  kept : g.S.BlockSource.kept l.fn.src l.src;
  same : g.S.BlockSource.faults l.src ≡ g.S.BlockSource.faults l.fn.src;
  kind : l.self.kind ≡ l.fn.self.kind;
  ready : IsReady (g.S.BlockSource.size l.fn.src) l.ranges l.self;
  holds :
      IsTrue g.S.BlockSource.tells → (items : List Item) (key : Key) → key.offset ≡ l.address
      → HoldsDue (g.S.BlockSource.blocks l.fn.src) l.ranges l.fn.self.kind items l.fn.self.due.items
      → HoldsFirst (g.S.BlockSource.blocks l.fn.src) l.ranges l.fn.self.kind items (key, l.body) l.k l.self.due.items;
}
