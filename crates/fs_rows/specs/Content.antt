-- What a row has of the bytes of its object.
use Rattle.std.specs.Prelude.{◌≡◌, ℕ, List}
use Rattle.fs_rows.specs.Rows.{length_by, mark_by, target_by}
use Rattle.fs_rows.specs.declared.row.Kind.{Kind}

-- length, mark and target are those of an object of this kind with these bytes
pub record IsContent (kind : Kind) (bytes : List ℕ) (length : ℕ) (mark target : List ℕ) : Type 0 where
  pub is_length : length ≡ length_by kind bytes
  pub is_mark : mark ≡ mark_by kind bytes
  pub is_target : target ≡ target_by kind bytes
