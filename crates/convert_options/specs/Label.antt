-- The label of a volume.
use Rattle.std.specs.Prelude.{ℕ, nat_le, ◌==◌, not, Bool, ◌&&◌, List, length}
use Rattle.std.specs.List.{list_any}

-- It ends at the first zero byte of its field, and one zero stands behind it. It is one line: the tools of Btrfs take none with a line feed.
abbrev pub is_label : List ℕ → Bool
is_label bytes = nat_le (length bytes) 255 && not (list_any (λ byte. byte == 0) bytes) && not (list_any (λ byte. byte == 10) bytes)
