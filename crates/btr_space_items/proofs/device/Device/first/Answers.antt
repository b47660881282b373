use Rattle.btr_space_items.proofs.Imports.{sym, get_or-drop, device_layout}
use Rattle.btr_space_items.proofs.device.Device.first.Goals as goal

pub returns : goal.returns
unfolding device_layout
returns c = λ i. record {
  devid = c.u64_at.ensures i;
  total_bytes = c.u64_at-2.ensures i;
  bytes_used = c.u64_at-3.ensures i;
  io_align = c.u32_at.ensures i;
  io_width = c.u32_at-2.ensures i;
  sector_size = c.u32_at-3.ensures i;
  kind = c.u64_at-4.ensures i;
  generation = c.u64_at-5.ensures i;
  start_offset = c.u64_at-6.ensures i;
  dev_group = c.u32_at-4.ensures i;
  seek_speed = sym (get_or-drop 64 c.args.bytes.now 0 0) i;
  bandwidth = sym (get_or-drop 65 c.args.bytes.now 0 0) i;
  uuid = c.array_at.ensures i;
  fsid = c.array_at-2.ensures i;
}
