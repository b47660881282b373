-- What commands do to the tree of files, from the laws on what they do to the blocks.
use Rattle.volume_app.proofs.Imports.{◌≡◌, inl, inr, ⊎_elim, ◌<◌, ◌^◌, ℕ, false, sym, subst, arith, Bool, List, true, cond, refl, ap, ◌∙◌, FIRST_MIRROR, SECOND_MIRROR, SUPER_BLOCK, Image, block_at, Ids, IsConverted, IsConvertible, IsSomeNew, IsLeftByConvert, SpareBlocksDecideNothing, is_spare, CanGoBackToo, IsRecovered, IsLeftByRollback, IsRolledBack, AreIds, Options, IsConvertedWhole, IsEitherWhole, AreBlocks, HasId, IsConvertedTree, KeepsTree, LeavesConvertedTree, LeavesRestoredTree, IsPuttingBackTree, slice_index, WholeRow, Format, CanGoBack, IsPuttingBack, copy_place, is_half_turned, put_back, ConvertedVolumesGoBack, front_same_volume, put_back_same, image_blocks, btrfs_stays, putting_front, putting_recovers, recovery_goes_on, btrfs_magic, has_format, format_read, half_stands, stands, then_same, ConvertedVolumesOpen, IsSameVolume, UsedBlocksDecide, IsAccepted}
use Rattle.std.specs.Prelude.{length}
use Rattle.std.proofs.lemmas.Bool.{cases_eq}
use Rattle.volume_state.proofs.Staying.{spare_blocks_decide_nothing}
use Rattle.rollback_core.specs.Opens.{OpensAs}
use Rattle.super_turn.proofs.Backs.{half_inside, none_btrfs, put_none, put_others, put_size, super_put}
use Rattle.btr_reader.specs.btr_node.NodeSize.{IsNodeSize}
use Rattle.convert_core.specs.convert_steps.Switch.{IsMirror}
use Rattle.convert_core_laws.specs.reading.Identifiers.{HasFsid}
use Rattle.rollback_core.specs.RecoveryLaws.{RecoveryKeeps, RecoveryOpens}
use Rattle.rollback_core.specs.RollbackLaws.{RollbackKeeps}
use Rattle.convert_core_laws.specs.placement.InPlace.{ConvertedDataStays}
use Rattle.convert_core_laws.specs.soundness.Laws.{ConvertedVolumesAreSound}
use Rattle.unit_plan.specs.convert_options.declared.options.UuidChoice.{UuidChoice}
use Rattle.unit_plan.specs.convert_options.declared.options.UuidChoice.TheVariants.{New, Copy, Given}
use Rattle.reiser_volume.specs.vol_block.declared.format.Format.TheVariants as formats
use Rattle.rollback_core.specs.Recovered as recovery
use Rattle.volume_app.specs.Recovering as recovering
use Rattle.volume_app.specs.RollingBack as rolling
use Rattle.volume_app.proofs.Convertible.{converted_was}

-- ---- what is put back

-- blocks are blocks when block 16 is put back
blocks_back : (disk : Image) → AreBlocks disk → AreBlocks (put_back disk)
blocks_back disk blocks = by (is_half_turned disk) refl
  where
    by : (t : Bool) → is_half_turned disk ≡ t → AreBlocks (put_back disk)
    by false none = subst AreBlocks (sym (put_none disk none)) blocks
    by true half = record {
      lengths = λ b below.
          let within : b < length disk = omega (arith, below, put_size disk) in
          ⊎_elim (λ here. subst (λ (n : ℕ). length (block_at (put_back disk) n) ≡ 4096) (sym here) (ap (λ (bytes : List ℕ). length bytes) (copied half) ∙ blocks.lengths (copy_place disk) (half_inside disk half)))
          (λ rest. ap (λ (bytes : List ℕ). length bytes) (put_others disk b rest) ∙ blocks.lengths b within) (cases_eq b 16);
      bytes = λ b i.
          ⊎_elim (λ here. subst (λ (n : ℕ). slice_index (block_at (put_back disk) n) i < 256) (sym here) (subst (λ (bytes : List ℕ). slice_index bytes i < 256) (sym (copied half)) (blocks.bytes (copy_place disk) i)))
          (λ rest. subst (λ (bytes : List ℕ). slice_index bytes i < 256) (sym (put_others disk b rest)) (blocks.bytes b i)) (cases_eq b 16);
    }
      where
        copied : is_half_turned disk ≡ true → block_at (put_back disk) 16 ≡ block_at disk (copy_place disk)
        copied half = super_put disk ∙ ap (λ (t : Bool). cond t (block_at disk (copy_place disk)) (block_at disk SUPER_BLOCK)) half

-- a disk that is put back is one that may be left on the way there
put_back_putting : (disk other : Image) → other ≡ put_back disk → IsPuttingBack disk other
put_back_putting disk other same = subst (IsPuttingBack disk) (sym same) (record { size = put_size disk; others = put_others disk; superblock = inl (super_put disk) })

-- and so is one that is as it was
pub as_it_was : (disk : Image) → IsPuttingBack disk disk
as_it_was disk = by (is_half_turned disk) refl
  where
    by : (t : Bool) → is_half_turned disk ≡ t → IsPuttingBack disk disk
    by true half = record { size = refl; others = λ b rest. refl; superblock = inr (half, refl) }
    by false none = subst (IsPuttingBack disk) (put_none disk none) (put_back_putting disk (put_back disk) refl)

-- an accepted volume is the same while its block 16 is put back
putting_volume : (disk other : Image) → IsPuttingBack disk other → IsAccepted disk → IsSameVolume disk other
putting_volume disk other is accepted =
    front_same_volume disk other accepted (record { front = putting_front disk other is; used = λ b rest has_it. is.others b rest }) (omega (arith, accepted.clean.superblock.fits, is.size))

-- so a volume keeps its tree
pub keeps_putting : (disk other : Image) → IsPuttingBack disk other → KeepsTree disk other
keeps_putting disk other is = record {
  opens = λ f rows opened. by f rows opened;
  volume = putting_volume disk other is;
  goes_back = λ can.
      let same : other ≡ disk = btrfs_stays disk other is (format_read disk can.way) in
      subst (CanGoBackToo disk) (sym same) (spare_blocks_decide_nothing disk disk can (record { size = refl; others = λ b free. refl }));
  recovers = putting_recovers disk other is;
}
  where
    by : (f : Format) (rows : List WholeRow) → OpensAs f disk rows → OpensAs f other rows
    by formats.Reiser rows opened = let same = putting_volume disk other is opened.accepted in record { accepted = same.accepted; rows_are = (same.rows rows).0 opened.rows_are }
    by formats.Btrfs rows opened = subst (λ (i : Image). OpensAs formats.Btrfs i rows) (sym (btrfs_stays disk other is opened.format)) opened
    by formats.Neither rows opened = absurd opened

pub putting_tree : (disk other : Image) → IsPuttingBack disk other → IsPuttingBackTree disk other
putting_tree disk other is = record { putting = is; tree = keeps_putting disk other is }

-- ---- convert

-- the identifier is there, where block 16 is
fsid : (disk : Image) (choice : UuidChoice) → HasId choice → AreBlocks disk → 16 < length disk → HasFsid disk choice
fsid disk New has blocks there = tt
fsid disk Copy has blocks there = (let long = blocks.lengths 16 there in omega (arith, long))
fsid disk (Given id) has blocks there = has

module _ (o : Options) (ids : Ids) (now : ℕ) (disk : Image) (size : IsNodeSize o.nodesize) (low : now < 2 ^ 63) (are : AreIds ids) (has : HasId o.uuid) where
  fsid_of : IsConvertible o disk → AreBlocks disk → HasFsid disk o.uuid
  fsid_of can blocks = fsid disk o.uuid has blocks can.sorted.accepted.clean.superblock.there

  module _ (opens : ConvertedVolumesOpen) (sounds : ConvertedVolumesAreSound) (stays : ConvertedDataStays) (back : ConvertedVolumesGoBack) where
    converted_tree : (other : Image) → IsConvertible o disk → IsSomeNew o ids now disk other → AreBlocks disk → IsConvertedTree disk other
    converted_tree other can new blocks =
        let id = fsid_of can blocks in
        record {
          opens = opens o ids now disk other new size low are id blocks.bytes;
          sound = sounds o ids now disk other new.0 new.1 new.2 new.3 size low are id blocks.bytes;
          in_place = stays o ids now disk other new size low are id blocks.bytes;
          back = back o ids now disk other new size low are id blocks.bytes;
        }

module _ (o : Options) (ids : Ids) (now : ℕ) (disk : Image) (size : IsNodeSize o.nodesize) (low : now < 2 ^ 63) (are : AreIds ids) (has : HasId o.uuid)
    (opens : ConvertedVolumesOpen) (sounds : ConvertedVolumesAreSound) (stays : ConvertedDataStays) (back : ConvertedVolumesGoBack) where
  pub converted_whole : (other : Image) → IsConverted o ids now (put_back disk) other → IsConvertedWhole o ids now disk other
  converted_whole other c = record {
    converted = c;
    tree = λ blocks. converted_tree o ids now (put_back disk) size low are has opens sounds stays back other (converted_was o ids now (put_back disk) other c) (c.m, c.r, c.nodes, c.new) (blocks_back disk blocks);
  }

  left_tree : UsedBlocksDecide → (other : Image) → AreBlocks disk → IsLeftByConvert o ids now disk other → LeavesConvertedTree disk other
  left_tree decide other blocks (inl putting) = inl (putting_tree disk other putting)
  left_tree decide other blocks (inr (inl same)) = inl (putting_tree disk other (put_back_putting disk other same))
  left_tree decide other blocks (inr (inr rest)) =
      inr (⊎_elim (λ before. inl (stands decide o (put_back disk) other rest.0 rest.1 before))
      (λ turned. ⊎_elim (λ half. inl (half_stands decide o (put_back disk) other rest.0 rest.1 half))
      (λ new. inr (converted_tree o ids now (put_back disk) size low are has opens sounds stays back other rest.1 new (blocks_back disk blocks))) turned) rest.2)

  pub either_whole : UsedBlocksDecide → (other : Image) → IsLeftByConvert o ids now disk other → IsEitherWhole o ids now disk other
  either_whole decide other either = record { either = either; tree = λ blocks. left_tree decide other blocks either }

-- ---- rollback

module _ (keeps : RollbackKeeps) (disk other : Image) where
  pub rolled_back_whole : IsRolledBack disk other → rolling.IsRolledBackWhole disk other
  rolled_back_whole r = record {
    rolled_back = r;
    tree = record { restored = r.back.used; volume = keeps.back disk other r.can r.back };
  }

  restored_left : IsLeftByRollback disk other → LeavesRestoredTree disk other
  restored_left (inl same) = inl same
  restored_left (inr rest) =
      inr (
        rest.0,
        ⊎_elim (λ standing. inl (keeps.standing disk other rest.0 standing)) (λ turned. inr (⊎_elim (λ half. inl (record {
          half = half.half;
          restored = half.back.used;
          volume = then_same (image_blocks disk) (put_back other) other (keeps.half disk other rest.0 half) (put_back_same.before other (keeps.half disk other rest.0 half).accepted);
        })) (λ back. inr (record { restored = back.used; volume = keeps.back disk other rest.0 back })) turned)) rest.1,
      )

  pub rollback_left_whole : IsLeftByRollback disk other → rolling.IsRollbackLeftWhole disk other
  rollback_left_whole left = record { left = left; tree = restored_left left }

-- ---- recover

-- the blocks of copies are reserved on every volume, and none is that of the superblock
mirror_spare : (disk : Image) (b : ℕ) → is_spare disk b ≡ false → ¬ IsMirror b
mirror_spare disk b spare = λ is. ⊎_elim (λ (e : b ≡ FIRST_MIRROR). absurd (subst (λ (n : ℕ). is_spare disk n ≡ false → ⊥) (sym e) (λ is. cc) spare)) (λ (e : b ≡ SECOND_MIRROR). absurd (subst (λ (n : ℕ). is_spare disk n ≡ false → ⊥) (sym e) (λ is. cc) spare)) is

module _ (keeps : RecoveryKeeps) (spare : SpareBlocksDecideNothing) (disk other : Image) where
  kept_volume : recovery.IsLeftByRecover disk other → IsAccepted disk → IsSameVolume disk other
  kept_volume left accepted = (keeps.left disk other left).volume (has_format.accepted disk accepted).0 accepted

  kept_back : recovery.IsLeftByRecover disk other → CanGoBack disk → CanGoBackToo disk other
  kept_back left can =
      spare disk other can (record {
        size = (keeps.left disk other left).size;
        others = λ b outside. (keeps.left disk other left).others b (mirror_spare disk b outside);
      })

module _ (keeps : RecoveryKeeps) (opens : RecoveryOpens) (spare : SpareBlocksDecideNothing) (disk other : Image) where
  kept_after : recovery.IsLeftByRecover (put_back disk) other → KeepsTree disk other
  kept_after left =
      let first : KeepsTree disk (put_back disk) = keeps_putting disk (put_back disk) (put_back_putting disk (put_back disk) refl) in
      record {
        opens = λ f rows is. opens.left f (put_back disk) other rows (first.opens f rows is) left;
        volume = λ accepted.
            let back : IsSameVolume disk (put_back disk) = first.volume accepted in
            then_same disk (put_back disk) other back (kept_volume keeps spare (put_back disk) other left back.accepted);
        goes_back = λ can.
            let same : put_back disk ≡ disk = put_none disk (none_btrfs disk (btrfs_magic disk (format_read disk can.way))) in
            subst (λ (i : Image). CanGoBackToo i other) same (kept_back keeps spare (put_back disk) other left (subst CanGoBack (sym same) can));
        recovers = recovery_goes_on disk other (inr left);
      }

  pub recovered_whole : IsRecovered (put_back disk) other → recovering.IsRecoveredWhole disk other
  recovered_whole r = record { recovered = r; tree = kept_after (keeps.recovered (put_back disk) other r) }

  pub recovery_left_whole : recovery.IsLeftByRecovery disk other → recovering.IsRecoverLeftWhole disk other
  recovery_left_whole left = record { left = left; tree = ⊎_elim (keeps_putting disk other) kept_after left }
