use Rattle.convert_core_laws.proofs.opening.Opening.{converted_volumes_open}
use Rattle.convert_core_laws.proofs.opening.converted_volumes_open.Goals as goal

pub returns : goal.returns
returns c =
    converted_volumes_open c.new_ids_fit.ensures c.superblock_reads.ensures c.converted_is_readable.ensures c.saved_image_is_readable.ensures c.names_keep_rules.ensures c.rows_are_kept.ensures
    c.bytes_are_kept.ensures c.converted_files_are_read.ensures c.btrfs_rows_are_one.ensures
