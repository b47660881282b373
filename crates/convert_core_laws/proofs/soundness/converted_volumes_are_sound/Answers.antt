use Rattle.convert_core_laws.proofs.Imports.{ℕ, subst, sym, Recount, recount_for, Keeps, SoundPart}
use Rattle.convert_core_laws.proofs.soundness.Parts.{all_kept}
use Rattle.convert_core_laws.proofs.soundness.converted_volumes_are_sound.Goals as goal

pub returns : goal.returns
returns c = λ o ids now image other m r nodes is size low are has bytes.
    let told = c.converted_volumes_are_recounted.ensures o ids now image other m r nodes is size low are has bytes in
    record {
      opened = told.0;
      keeps = subst (λ (k : Recount). (part : SoundPart) (a : ℕ) → Keeps other k part a) (sym told.1) (all_kept other (recount_for image other m r nodes) (record {
        trees = c.converted_trees_are_sound.ensures o ids now image other m r nodes is size low are has bytes;
        names = c.converted_names_are_sound.ensures o ids now image other m r nodes is size low are has bytes;
        inodes = c.converted_inodes_are_sound.ensures o ids now image other m r nodes is size low are has bytes;
        extents = c.converted_file_extents_are_sound.ensures o ids now image other m r nodes is size low are has bytes;
        references = c.converted_references_are_sound.ensures o ids now image other m r nodes is size low are has bytes;
        placement = c.converted_placement_is_sound.ensures o ids now image other m r nodes is size low are has bytes;
        checksums = c.converted_checksums_are_sound.ensures o ids now image other m r nodes is size low are has bytes;
        block_groups = c.converted_block_groups_are_sound.ensures o ids now image other m r nodes is size low are has bytes;
        chunks = c.converted_chunks_are_sound.ensures o ids now image other m r nodes is size low are has bytes;
        reserved = c.converted_reserved_are_sound.ensures o ids now image other m r nodes is size low are has bytes;
        totals = c.converted_totals_are_sound.ensures o ids now image other m r nodes is size low are has bytes;
        free_space = c.converted_free_space_is_sound.ensures o ids now image other m r nodes is size low are has bytes;
      }));
    }
