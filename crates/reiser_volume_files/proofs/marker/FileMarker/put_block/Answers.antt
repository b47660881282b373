use Rattle.reiser_volume_files.proofs.Imports.{ℕ, List, sym, subst, ap, ◌∙◌, Image, block_at, ReplacesBlock}
use Rattle.reiser_volume_files.proofs.marker.FileMarker.put_block.Goals as goal

pub returns-clause-bytes : goal.returns-clause-bytes
returns-clause-bytes g c = λ tells image is f g' replaces low held.
    let read = c.in_ok-read.ensures.block tells ∙ ap (λ (i : Image). block_at i c.args.block) is in
    c.put_block.ensures.bytes f g' (subst (λ (b : List ℕ). ReplacesBlock c.args.self.now.file.size c.args.k b f g') (sym read) replaces) low held
