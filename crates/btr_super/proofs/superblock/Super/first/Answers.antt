use Rattle.btr_super.proofs.Imports.{ℕ, List, ap, sym, ◌∙◌, take, get_or-drop, slice_index, drop-drop, little_number, device_layout, super_layout}
use Rattle.btr_super.proofs.superblock.Super.first.Goals as goal

pub returns : goal.returns
unfolding super_layout device_layout
returns c = λ i. record {
  fsid = (c.array_at.ensures ∙ ap (take 16) (sym (drop-drop 0 32 c.args.bytes.now))) i;
  bytenr = (c.u64_at.ensures ∙ ap (little_number 8) (sym (drop-drop 16 32 c.args.bytes.now))) i;
  flags = (c.u64_at-2.ensures ∙ ap (little_number 8) (sym (drop-drop 24 32 c.args.bytes.now))) i;
  generation = (c.u64_at-3.ensures ∙ ap (little_number 8) (sym (drop-drop 40 32 c.args.bytes.now))) i;
  root = (c.u64_at-4.ensures ∙ ap (little_number 8) (sym (drop-drop 48 32 c.args.bytes.now))) i;
  chunk_root = (c.u64_at-5.ensures ∙ ap (little_number 8) (sym (drop-drop 56 32 c.args.bytes.now))) i;
  log_root = (c.u64_at-6.ensures ∙ ap (little_number 8) (sym (drop-drop 64 32 c.args.bytes.now))) i;
  log_root_transid = (c.u64_at-7.ensures ∙ ap (little_number 8) (sym (drop-drop 72 32 c.args.bytes.now))) i;
  total_bytes = (c.u64_at-8.ensures ∙ ap (little_number 8) (sym (drop-drop 80 32 c.args.bytes.now))) i;
  bytes_used = (c.u64_at-9.ensures ∙ ap (little_number 8) (sym (drop-drop 88 32 c.args.bytes.now))) i;
  root_dir_objectid = (c.u64_at-10.ensures ∙ ap (little_number 8) (sym (drop-drop 96 32 c.args.bytes.now))) i;
  num_devices = (c.u64_at-11.ensures ∙ ap (little_number 8) (sym (drop-drop 104 32 c.args.bytes.now))) i;
  sectorsize = (c.u32_at.ensures ∙ ap (little_number 4) (sym (drop-drop 112 32 c.args.bytes.now))) i;
  nodesize = (c.u32_at-2.ensures ∙ ap (little_number 4) (sym (drop-drop 116 32 c.args.bytes.now))) i;
  leafsize = (c.u32_at-3.ensures ∙ ap (little_number 4) (sym (drop-drop 120 32 c.args.bytes.now))) i;
  stripesize = (c.u32_at-4.ensures ∙ ap (little_number 4) (sym (drop-drop 124 32 c.args.bytes.now))) i;
  sys_chunk_array_size = (c.u32_at-5.ensures ∙ ap (little_number 4) (sym (drop-drop 128 32 c.args.bytes.now))) i;
  chunk_root_generation = (c.u64_at-12.ensures ∙ ap (little_number 8) (sym (drop-drop 132 32 c.args.bytes.now))) i;
  compat = (c.u64_at-13.ensures ∙ ap (little_number 8) (sym (drop-drop 140 32 c.args.bytes.now))) i;
  compat_ro = (c.u64_at-14.ensures ∙ ap (little_number 8) (sym (drop-drop 148 32 c.args.bytes.now))) i;
  incompat = (c.u64_at-15.ensures ∙ ap (little_number 8) (sym (drop-drop 156 32 c.args.bytes.now))) i;
  csum_type = (c.u16_at.ensures ∙ ap (little_number 2) (sym (drop-drop 164 32 c.args.bytes.now))) i;
  root_level = (sym (get_or-drop 198 c.args.bytes.now 0 0) ∙ ap (λ (z : List ℕ). slice_index z 0) (sym (drop-drop 166 32 c.args.bytes.now))) i;
  chunk_root_level = (sym (get_or-drop 199 c.args.bytes.now 0 0) ∙ ap (λ (z : List ℕ). slice_index z 0) (sym (drop-drop 167 32 c.args.bytes.now))) i;
  log_root_level = (sym (get_or-drop 200 c.args.bytes.now 0 0) ∙ ap (λ (z : List ℕ). slice_index z 0) (sym (drop-drop 168 32 c.args.bytes.now))) i;
  dev_item = (c.at.ensures ∙ ap device_layout.read (sym (drop-drop 169 32 c.args.bytes.now))) i;
  label = (c.array_at-2.ensures ∙ ap (take 256) (sym (drop-drop 267 32 c.args.bytes.now))) i;
  cache_generation = (c.u64_at-16.ensures ∙ ap (little_number 8) (sym (drop-drop 523 32 c.args.bytes.now))) i;
  uuid_tree_generation = (c.u64_at-17.ensures ∙ ap (little_number 8) (sym (drop-drop 531 32 c.args.bytes.now))) i;
  metadata_uuid = (c.array_at-3.ensures ∙ ap (take 16) (sym (drop-drop 539 32 c.args.bytes.now))) i;
  sys_chunk_array = (c.array_at-4.ensures ∙ ap (take 2048) (sym (drop-drop 779 32 c.args.bytes.now))) i;
  backup_roots = (c.array_at-5.ensures ∙ ap (take 672) (sym (drop-drop 2827 32 c.args.bytes.now))) i;
}
