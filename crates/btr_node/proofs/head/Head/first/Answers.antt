use Rattle.btr_node.proofs.Imports.{sym, get_or-drop, head_layout}
use Rattle.btr_node.proofs.head.Head.first.Goals as goal

pub returns : goal.returns
unfolding head_layout
returns c = λ i. record {
  fsid = c.copy_from_slice.ensures.after i;
  address = c.u64_at.ensures i;
  flags = c.copy_from_slice-2.ensures.after i;
  revision = sym (get_or-drop 31 c.args.bytes.now 0 0) i;
  chunk_tree = c.copy_from_slice-3.ensures.after i;
  generation = c.u64_at-2.ensures i;
  owner = c.u64_at-3.ensures i;
  count = c.u32_at.ensures i;
  level = sym (get_or-drop 68 c.args.bytes.now 0 0) i;
}
