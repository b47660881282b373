-- Laws of the superblock's rules and of the journal.
use Rattle.std.specs.Prelude.{◌≡◌, ℕ, ◌+◌, ◌≤◌, ◌↔◌, List, None}
use Rattle.refusals.specs.outside.History.{Image, block_at}
use Rattle.reiser_super.specs.declared.superblock.Super.{Super}
use Rattle.reiser_super.specs.Rules.{IsCleanSuper, superblock_refusal}
use Rattle.reiser_super.specs.Journal.{pending_transactions}

-- a superblock is not refused exactly where it is that of a clean volume
abbrev pub CleanIsNotRefused : Type 0
CleanIsNotRefused = (bytes : List ℕ) (device : ℕ) → (superblock_refusal bytes device ≡ None) ↔ IsCleanSuper bytes device

-- two images that agree on the log and its header have the same transactions waiting
abbrev pub LogDecidesJournal : Type 0
LogDecidesJournal =
    (s : Super) (a b : Image) → ((place : ℕ) → place ≤ s.journal_size → block_at a (s.journal_first + place) ≡ block_at b (s.journal_first + place))
    → pending_transactions s a ≡ pending_transactions s b
