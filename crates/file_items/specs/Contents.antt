-- What is held in the tree itself.
use Rattle.std.specs.Prelude.{◌≡◌, ℕ, Bool, false, true, List, [], ◌∷◌, Option, Some, None}
use Rattle.reiser_volume_objects.specs.fs_rows.declared.row.Kind.{Kind}
use Rattle.reiser_volume_files.specs.Bytes.{tail_block}
use Rattle.reiser_volume_files.specs.declared.map.FileRun.{FileRun}
use Rattle.reiser_volume.specs.Inline.{is_tail, stays_in_tree}
use Rattle.reiser_volume.specs.reiser_walk.Items.{ReiserItem}

-- the first blocks that lie anywhere lie in direct items
abbrev pub begins_in_tail : List FileRun → Bool
begins_in_tail [] = false
begins_in_tail (r ∷ runs) = is_tail (Some r.from)

-- so many bytes of a block are those of an object that direct items hold
pub record HoldsDirectBytes (items : List ReiserItem) (size n : ℕ) (block : List ℕ) : Type 0 where
  pub count : n ≡ size
  pub bytes : block ≡ tail_block items size 0

abbrev pub HoldsSome : List ReiserItem → ℕ → Option ℕ → List ℕ → Type 0
HoldsSome items size None block = ⊥
HoldsSome items size (Some n) block = HoldsDirectBytes items size n block

-- of an inline object its bytes, and of any other one nothing
abbrev pub HoldsBy : Bool → List ReiserItem → ℕ → Option ℕ → List ℕ → Type 0
HoldsBy true items size held block = HoldsSome items size held block
HoldsBy false items size held block = held ≡ None

abbrev pub HoldsInline : Bool → List ReiserItem → ℕ → Kind → Option ℕ → List ℕ → Type 0
HoldsInline inline items size kind held block = HoldsBy (stays_in_tree inline items size kind) items size held block
