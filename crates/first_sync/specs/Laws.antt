-- Laws of commands that begin with a sync.
use Rattle.std.specs.Prelude.{◌≡◌, ◌⊎◌}
use Rattle.outside.specs.History.{History, Image, IsSettled, LeftSince, MayLeave, clock, reads}
use Rattle.first_sync.specs.Synced.{SyncsFirst, synced_now}

-- A crash of such a command leaves what a crash before it could have left, or it came since the sync succeeded. Of a disk that was settled
-- the former is what reads gave.
pub record FirstSyncParts : Type 0 where
  pub any : (old new : History) → SyncsFirst old new → (image : Image) → LeftSince (clock old) new image → MayLeave old.start old.calls image ⊎ LeftSince (clock (synced_now old)) new image
  pub settled : (old new : History) → SyncsFirst old new → IsSettled old → (image : Image) → LeftSince (clock old) new image → (image ≡ reads old) ⊎ LeftSince (clock (synced_now old)) new image
