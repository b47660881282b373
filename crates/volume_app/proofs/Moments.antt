-- What is promised of crashes, said of every moment of a command.
use Rattle.volume_app.proofs.Imports.{inl, inr, ⊎_elim, Some, None, refl, sym, subst, Option, Image, SpareBlocksDecideNothing, Asked, inspect, list, convert, recover, rollback, trial, help, version, LeavesTree, CrashesAtAnyMoment, FirstSyncParts}
use Rattle.volume_app.proofs.Trees.{as_it_was as not_turned, keeps_putting, putting_tree}

-- a disk that is as it was is one that may be left
as_it_was : SpareBlocksDecideNothing → (asked : Option Asked) (disk : Image) → LeavesTree asked disk disk
as_it_was spare None disk = refl
as_it_was spare (Some (inspect o path)) disk = refl
as_it_was spare (Some (list path)) disk = refl
as_it_was spare (Some (convert o path)) disk = inl (putting_tree disk disk (not_turned disk))
as_it_was spare (Some (recover path)) disk = keeps_putting disk disk (not_turned disk)
as_it_was spare (Some (rollback path)) disk = inl refl
as_it_was spare (Some (trial number path)) disk = tt
as_it_was spare (Some help) disk = refl
as_it_was spare (Some version) disk = refl

pub at_any_moment : FirstSyncParts → SpareBlocksDecideNothing → CrashesAtAnyMoment
at_any_moment parts spare = record {
  settled = λ asked old new crashes settled left is.
      ⊎_elim (λ same. subst (LeavesTree asked _) (sym same) (as_it_was spare asked _)) (λ since. crashes.since left since) (parts.settled old new crashes.first settled left is);
  any = λ asked old new crashes left is. ⊎_elim (λ before. inl before) (λ since. inr (crashes.since left since)) (parts.any old new crashes.first left is);
}
