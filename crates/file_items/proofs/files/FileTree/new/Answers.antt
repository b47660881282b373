use Rattle.file_items.proofs.Imports.{source_of}
use Rattle.file_items.proofs.Extending.{tree_begins}
use Rattle.file_items.proofs.files.FileTree.new.Goals as goal

pub returns-clause-all : goal.returns-clause-all
returns-clause-all g c = λ image.
    tree_begins (source_of c.args.volume.now (g.P.PieceList.pieces c.args.pieces.now) c.args.options.now.inline c.args.options.now.datasum image) (g.P.PieceList.pieces c.args.pieces.now)
