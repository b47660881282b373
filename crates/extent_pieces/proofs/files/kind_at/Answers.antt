use Rattle.extent_pieces.proofs.Imports.{◌∙◌, ap, unwrap_or, Kind, File}
use Rattle.std.specs.Prelude.{Option}
use Rattle.extent_pieces.proofs.Objects.{kind_is}
use Rattle.extent_pieces.proofs.files.kind_at.Goals as goal

pub returns : goal.returns
returns c = λ image opened key at.
    kind_is image c.args.volume.now opened c.args.i key at c.stat.result.now c.unwrap_or.result (c.stat.ensures key at)
    (c.unwrap_or.ensures ∙ ap (λ (o : Option Kind). unwrap_or o File) c.kind_of_mode.ensures)
