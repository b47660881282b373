-- What `inspect` prints of a Btrfs volume: lines of a word, a space, a value and a line feed.
use Rattle.std.specs.Prelude.{ℕ, List, [], ◌∷◌, ◌++◌, codes, decimal, Option, Some, None}
use Rattle.uuid.specs.Text.{hyphenated_text, lower}
use Rattle.reiser_volume.specs.outside.History.{Image}
use Rattle.sink_text.specs.Label.{label_of, label_text}
use Rattle.volume_app.specs.declared.summary.Summary.{Summary}
use Rattle.volume_app.specs.Told.{summary_of}

-- a dash for a missing image, else its length in blocks
abbrev pub image_text : Option ℕ → List ℕ
image_text None = codes "-"
image_text (Some blocks) = decimal blocks

-- the lines, each a word and a value
abbrev pub summary_lines : Summary → List (List ℕ × List ℕ)
summary_lines s =
    (codes "format", codes "btrfs")
    ∷ (codes "fsid", hyphenated_text lower s.fsid)
    ∷ (codes "blocks", decimal s.blocks)
    ∷ (codes "generation", decimal s.generation)
    ∷ (codes "nodesize", decimal s.nodesize)
    ∷ (codes "label", label_text (label_of s.label))
    ∷ (codes "image", image_text s.image)
    ∷ []

abbrev pub lines_text : List (List ℕ × List ℕ) → List ℕ
lines_text [] = []
lines_text (line ∷ lines) = line.0 ++ 32 ∷ (line.1 ++ 10 ∷ lines_text lines)

abbrev pub summary_text : Summary → List ℕ
summary_text s = lines_text (summary_lines s)

-- the text of a disk
abbrev pub btrfs_text : Image → List ℕ
btrfs_text image = summary_text (summary_of image)
