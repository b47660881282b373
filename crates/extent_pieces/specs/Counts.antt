-- What is counted of a volume.
use Rattle.std.specs.Prelude.{ℕ, ◌+◌, Bool, List, length, sum_by}
use Rattle.reiser_bitmap.specs.Runs.{free_runs}
use Rattle.reiser_volume_objects.specs.declared.naming.Naming.{Naming}
use Rattle.unit_plan.specs.declared.counts.Counts.{Counts}
use Rattle.extent_pieces.specs.Files.{FileAt, inline_files, owner, tails}
use Rattle.extent_pieces.specs.Pieces.{copied_pieces, pieces}

-- the counts, by the used blocks, the number of named objects, the links, the files and the symlinks
abbrev pub counts : Bool → List Bool → ℕ → List Naming → List FileAt → List FileAt → Counts
counts inline used objects links files symlinks =
    let all = pieces used (owner files) (tails inline files) in
    record {
      blocks = length used;
      runs = length (free_runs used);
      pieces = length all;
      piece_blocks = sum_by (λ p. p.count) all;
      copies = length (copied_pieces used (owner files));
      tails = length (tails inline files);
      objects = objects;
      names = length links;
      letters = sum_by (λ n. length n.name) links;
      inlines = length symlinks + length (inline_files inline files);
      inline_bytes = sum_by (λ f. f.size) symlinks + sum_by (λ f. f.size) (inline_files inline files);
    }
