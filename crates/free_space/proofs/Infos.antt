-- Bodies of block groups' items read as what they were written from.
use Rattle.free_space.proofs.Imports.{refl, free_info_layout, make_free_info, FreeInfosReadBack}
use Rattle.btr_keys.proofs.Layouts.{Reads, start, ◌▹◌, u32_reads, reads_back}

free_info_reads : Reads free_info_layout (λ v. v)
unfolding free_info_layout
free_info_reads = start make_free_info ▹ u32_reads ▹ u32_reads

pub free_infos_read_back : FreeInfosReadBack
unfolding free_info_layout
free_infos_read_back = reads_back refl free_info_reads
