-- `recover` opens what a crash leaves, and what crashes of its own leave after that.
use Rattle.volume_app.proofs.Imports.{◌≡◌, ◌⊎◌, inl, inr, ⊎_elim, ◌∙◌, List, Some, None, sym, ap, subst, ◌≢◌, Option, ◌∷◌, Image, block_at, SpareBlocksDecideNothing, CanGoBackToo, Asked, inspect, list, convert, recover, rollback, trial, help, version, IsToBeDone, LeavesTree, CanRecover, KeepsTree, IsConvertedTree, LeavesConvertedTree, LeavesRestoredTree, IsConvertible, Options, CanGoBack, IsRecoverable, put_back, IsAccepted, superblock, used_of, SavedImage, Tree, image_place, MapRange, then_same, GoesBack, OpensAsBefore, StandsAsBefore, FirstSyncParts, put_back_same, IsSameVolume, has_format, super_readable, image_blocks, AreCutOff, IsCutOff, RecoversAfterCrashes, StandsInTheEnd}
use Rattle.std.specs.Prelude.{ℕ, []}
use Rattle.convert_core_laws.specs.reading.Saved.{ReadsSavedImage}
use Rattle.rollback_core.specs.SavedLaws.{UnusedBlocksDecideNothing, UsedBlocksDecideUse}
use Rattle.volume_app.proofs.Convertible.{accepted_is_reiser}
use Rattle.volume_app.proofs.Moments.{at_any_moment}
use Rattle.volume_app.proofs.Trees.{as_it_was, keeps_putting}

-- ---- what a crash leaves
accepted_recovers : (image : Image) → IsAccepted image → IsRecoverable image
accepted_recovers image accepted = (has_format.accepted image accepted).1

btrfs_recovers : (image : Image) → CanGoBack image → IsRecoverable image
btrfs_recovers image can = (has_format.btrfs image (super_readable image can.way.readable)).1

converted_recovers : (o : Options) (disk left : Image) → IsConvertible o disk → LeavesConvertedTree disk left → IsRecoverable left
converted_recovers o disk left can is =
    ⊎_elim (λ putting. putting.tree.recovers (accepted_recovers disk can.sorted.accepted))
    (λ rest. ⊎_elim (λ before. accepted_recovers left before.same.accepted) (λ made. btrfs_recovers left made.back.can) rest) is

restored_recovers : (disk left : Image) → CanGoBack disk → LeavesRestoredTree disk left → IsRecoverable left
restored_recovers disk left can is =
    ⊎_elim (λ same. subst IsRecoverable (sym same) (btrfs_recovers disk can))
    (λ rest. ⊎_elim (λ too. btrfs_recovers left too.can)
    (λ turned. ⊎_elim (λ half. accepted_recovers left half.volume.accepted) (λ back. accepted_recovers left back.volume.accepted) turned) rest.1) is

pub can_recover : (asked : Option Asked) (disk left : Image) → IsToBeDone asked disk → LeavesTree asked disk left → CanRecover asked left
can_recover None disk left done is = tt
can_recover (Some (inspect o path)) disk left done is = tt
can_recover (Some (list path)) disk left done is = tt
can_recover (Some (convert o path)) disk left done is = converted_recovers o disk left done is
can_recover (Some (recover path)) disk left done is = is.recovers done
can_recover (Some (rollback path)) disk left done is = restored_recovers disk left done is
can_recover (Some (trial number path)) disk left done is = tt
can_recover (Some help) disk left done is = tt
can_recover (Some version) disk left done is = tt

-- ---- one tree that stays, and then another
module _ (unused : UnusedBlocksDecideNothing) (in_use : UsedBlocksDecideUse) where
  then_back : (one two three : Image) → CanGoBack one → CanGoBackToo one two → CanGoBackToo two three → CanGoBackToo one three
  then_back one two three can first second =
      unused one three can (record {
        size = second.blocks.size ∙ first.blocks.size;
        superblock = second.blocks.superblock ∙ first.blocks.superblock;
        used = λ b used. second.blocks.used b ((in_use one two first.blocks b).0 used) ∙ first.blocks.used b used;
      })

  then_keeps : (one two three : Image) → KeepsTree one two → KeepsTree two three → KeepsTree one three
  then_keeps one two three first second = record {
    opens = λ f rows is. second.opens f rows (first.opens f rows is);
    volume = λ accepted. let same : IsSameVolume one two = first.volume accepted in then_same one two three same (second.volume same.accepted);
    goes_back = λ can. let too : CanGoBackToo one two = first.goes_back can in then_back one two three can too (second.goes_back too.can);
    recovers = λ can. second.recovers (first.recovers can);
  }

-- ---- runs of `recover` that are cut off
module _ (parts : FirstSyncParts) (spare : SpareBlocksDecideNothing) (unused : UnusedBlocksDecideNothing) (in_use : UsedBlocksDecideUse) where
  cut_keeps : (disk left : Image) → IsCutOff disk left → KeepsTree disk left
  cut_keeps disk left cut =
      subst (λ (i : Image). KeepsTree i left) cut.begins ((at_any_moment parts spare).settled (Some (recover cut.path)) cut.old cut.new cut.crash cut.settled left cut.moment)

  -- what the first one kept stays to the end
  cuts_keep : (disk left last : Image) (cuts : List Image) → KeepsTree disk left → AreCutOff left cuts last → KeepsTree disk last
  cuts_keep disk left last [] kept are = subst (KeepsTree disk) (sym are) kept
  cuts_keep disk left last (next ∷ more) kept are = cuts_keep disk next last more (then_keeps unused in_use disk left next kept (cut_keeps left next are.0)) are.1

-- ---- what stands in the end
-- the Btrfs volume that has the tree of the old one
module _ (image left last : Image) (opens : OpensAsBefore image left) (back : GoesBack image left) (too : CanGoBackToo left last) where
  saved_too : ReadsSavedImage image last (superblock image).blocks
  saved_too =
      let saved = opens.saved in
      record {
        readable = λ r refused. saved.readable r ((too.same.refusals SavedImage r).1 refused);
        file = saved.file;
        saved = too.same.saved ∙ saved.saved;
        is = record {
          blocks_are = saved.is.blocks_are;
          used_ = λ b marked.
              let at = saved.is.used_ b marked in
              (at.0, ap (λ (m : List MapRange). image_place m saved.file b) too.same.map ∙ at.1, too.same.contents saved.file b at.0 saved.saved at.1 ∙ at.2);
          holes = λ b free. ap (λ (m : List MapRange). image_place m saved.file b) too.same.map ∙ saved.is.holes b free;
        };
      }

  opens_too : OpensAsBefore image last
  opens_too = record {
    format = too.same.format ∙ opens.format;
    has_rows = record { log = too.same.log ∙ opens.has_rows.log; tree = λ r refused. opens.has_rows.tree r ((too.same.refusals Tree r).1 refused) };
    rows = λ rows are. (too.same.rows rows).0 (opens.rows rows are);
    only = λ rows others are theirs. opens.only rows others are ((too.same.rows others).1 theirs);
    saved = saved_too;
  }

  back_too : GoesBack image last
  back_too = record {
    can = too.can;
    used = ap used_of too.image ∙ back.used;
    blocks = λ b marked. ap (λ (i : Image). block_at i b) too.image ∙ back.blocks b marked;
    volume = subst (IsSameVolume image) (sym too.image) back.volume;
  }

stands_by : (image last : Image) → IsSameVolume image last → StandsAsBefore image last
stands_by image last same = record { format = accepted_is_reiser last same.accepted; same = same }

converted_end : (o : Options) (path : List ℕ) (disk left last : Image) → IsConvertible o disk → LeavesConvertedTree disk left → KeepsTree left last → (KeepsTree disk left → KeepsTree disk last)
    → StandsInTheEnd (Some (convert o path)) disk last
converted_end o path disk left last can is kept whole =
    ⊎_elim
    (λ putting.
    let before : IsSameVolume (put_back disk) disk = put_back_same.before disk (put_back_same.after disk can.sorted.accepted).accepted in
    inl (stands_by (put_back disk) last (then_same (put_back disk) disk last before ((whole putting.tree).volume before.accepted))))
    (λ rest. ⊎_elim (λ before. inl (stands_by (put_back disk) last (then_same (put_back disk) left last before.same (kept.volume before.same.accepted))))
    (λ made.
    let too : CanGoBackToo left last = kept.goes_back made.back.can in
    inr (opens_too (put_back disk) left last made.opens made.back too, back_too (put_back disk) left last made.opens made.back too)) rest) is

restored_end : (disk left last : Image) → CanGoBack disk → LeavesRestoredTree disk left → KeepsTree left last → (CanGoBackToo disk left → CanGoBackToo left last → CanGoBackToo disk last)
    → CanGoBackToo disk last ⊎ IsSameVolume (image_blocks disk) last
restored_end disk left last can is kept more =
    ⊎_elim (λ same. let here : KeepsTree disk last = subst (λ (i : Image). KeepsTree i last) same kept in inl (here.goes_back can))
    (λ rest. ⊎_elim (λ too. inl (more too (kept.goes_back too.can)))
    (λ turned. ⊎_elim (λ half. inr (then_same (image_blocks disk) left last half.volume (kept.volume half.volume.accepted)))
    (λ back. inr (then_same (image_blocks disk) left last back.volume (kept.volume back.volume.accepted))) turned) rest.1) is

module _ (parts : FirstSyncParts) (spare : SpareBlocksDecideNothing) (unused : UnusedBlocksDecideNothing) (in_use : UsedBlocksDecideUse) where
  in_the_end : (asked : Option Asked) (disk left last : Image) → IsToBeDone asked disk → LeavesTree asked disk left → KeepsTree left last → CanRecover asked last × StandsInTheEnd asked disk last
  in_the_end None disk left last done is kept = (tt, tt)
  in_the_end (Some (inspect o path)) disk left last done is kept = (tt, tt)
  in_the_end (Some (list path)) disk left last done is kept = (tt, tt)
  in_the_end (Some (convert o path)) disk left last done is kept =
      (kept.recovers (converted_recovers o disk left done is), converted_end o path disk left last done is kept (λ first. then_keeps unused in_use disk left last first kept))
  in_the_end (Some (recover path)) disk left last done is kept = (kept.recovers (is.recovers done), then_keeps unused in_use disk left last is kept)
  in_the_end (Some (rollback path)) disk left last done is kept =
      (kept.recovers (restored_recovers disk left done is), restored_end disk left last done is kept (λ first second. then_back unused in_use disk left last done first second))
  in_the_end (Some (trial number path)) disk left last done is kept = (tt, tt)
  in_the_end (Some help) disk left last done is kept = (tt, tt)
  in_the_end (Some version) disk left last done is kept = (tt, tt)

  pub recovers_after_crashes : RecoversAfterCrashes
  recovers_after_crashes asked disk left last cuts done is are =
      in_the_end asked disk left last done is (cuts_keep parts spare unused in_use left left last cuts (keeps_putting left left (as_it_was left)) are)
