-- What is known of a disk over a file: its access and its length, and of what it holds nothing.
use Rattle.std.specs.Prelude.{◌≡◌, ℕ, false, Option, Some, None, IsTrue}
use Rattle.std.proofs.Common.{refl, ◌∙◌}
use Rattle.outside.specs.declared.disk.Access.{Access}
use Rattle.host_edge.specs.declared.opened.Opened.{Opened}
use Rattle.host_edge.specs.declared.file_disk.FileDisk.{FileDisk}

abbrev pub access_of : Option Opened → Option Access
access_of None = None
access_of (Some file) = Some file.access

-- in blocks
abbrev pub length_of : Option Opened → ℕ
length_of None = 0
length_of (Some file) = file.blocks

-- only reads lie between the two states
pub record Kept (old new : Option Opened) : Type 0 where
  pub access : access_of new ≡ access_of old
  pub blocks : length_of new ≡ length_of old

pub kept_refl : (a : Option Opened) → Kept a a
kept_refl a = record { access = refl; blocks = refl }

pub kept_trans : (a b c : Option Opened) → Kept a b → Kept b c → Kept a c
kept_trans a b c first second = record { access = second.access ∙ first.access; blocks = second.blocks ∙ first.blocks }

pub closed_length : (a : Option Opened) → access_of a ≡ None → length_of a ≡ 0
closed_length None is = refl
closed_length (Some file) is = absurd (cc)

pub tells_nothing : IsTrue false → ⊥
tells_nothing tells = cc

-- what a disk is open for
abbrev pub opened_for : {R S : Type 0} → FileDisk R S → Option Access
opened_for disk = access_of disk.opened
