use Rattle.btr_reader_contents.proofs.Imports.{ℕ, List, sym, subst, ReplacesBlock}
use Rattle.btr_reader_contents.proofs.target.put_block.Goals as goal

pub returns-clause-bytes : goal.returns-clause-bytes
returns-clause-bytes g c = λ tells image is f g' replaces low held.
    let read = c.in_ok-read_place.ensures.block tells image is in
    c.put_block.ensures.bytes f g' (subst (λ (b : List ℕ). ReplacesBlock c.args.file.now.size c.args.k b f g') (sym read) replaces) low held
