use Rattle.btr_space_items.proofs.Imports.{sym, get_or-drop, root_item_layout, inode_layout, stamp_layout, key_layout}
use Rattle.btr_space_items.proofs.root_item.RootItem.first.Goals as goal

pub returns : goal.returns
unfolding root_item_layout inode_layout stamp_layout key_layout
returns c = λ i. record {
  inode = c.at.ensures i;
  generation = c.u64_at.ensures i;
  root_dirid = c.u64_at-2.ensures i;
  bytenr = c.u64_at-3.ensures i;
  byte_limit = c.u64_at-4.ensures i;
  bytes_used = c.u64_at-5.ensures i;
  last_snapshot = c.u64_at-6.ensures i;
  flags = c.u64_at-7.ensures i;
  refs = c.u32_at.ensures i;
  drop_progress = c.at-2.ensures i;
  drop_level = sym (get_or-drop 237 c.args.bytes.now 0 0) i;
  level = sym (get_or-drop 238 c.args.bytes.now 0 0) i;
  generation_v2 = c.u64_at-8.ensures i;
  uuid = c.array_at.ensures i;
  parent_uuid = c.array_at-2.ensures i;
  received_uuid = c.array_at-3.ensures i;
  ctransid = c.u64_at-9.ensures i;
  otransid = c.u64_at-10.ensures i;
  stransid = c.u64_at-11.ensures i;
  rtransid = c.u64_at-12.ensures i;
  ctime = c.at-3.ensures i;
  otime = c.at-4.ensures i;
  stime = c.at-5.ensures i;
  rtime = c.at-6.ensures i;
}
