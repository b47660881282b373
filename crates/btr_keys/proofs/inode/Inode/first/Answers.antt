use Rattle.btr_keys.proofs.Imports.{stamp_layout, inode_layout}
use Rattle.btr_keys.proofs.inode.Inode.first.Goals as goal

pub returns : goal.returns
unfolding inode_layout stamp_layout
returns c = λ i. record {
  generation = c.u64_at.ensures i;
  transid = c.u64_at-2.ensures i;
  size = c.u64_at-3.ensures i;
  nbytes = c.u64_at-4.ensures i;
  block_group = c.u64_at-5.ensures i;
  nlink = c.u32_at.ensures i;
  uid = c.u32_at-2.ensures i;
  gid = c.u32_at-3.ensures i;
  mode = c.u32_at-4.ensures i;
  rdev = c.u64_at-6.ensures i;
  flags = c.u64_at-7.ensures i;
  sequence = c.u64_at-8.ensures i;
  atime = c.at.ensures i;
  ctime = c.at-2.ensures i;
  mtime = c.at-3.ensures i;
  otime = c.at-4.ensures i;
}
