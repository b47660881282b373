use Rattle.btr_check_files.proofs.Imports.{Decides-at, extents_of}
use Rattle.btr_check_files.proofs.Tallying.{told_by_all}
use Rattle.btr_check_files.proofs.tally.Tally.is_told.Goals as goal

pub returns : goal.returns
returns c = λ own is.
    let s = c.args.sup.now in
    Decides-at _ _ c.all_of.ensures
    (told_by_all s c.args.ino c.args.self.now.inode own c.has_links-links.result c.has_size-size.result c.has_nbytes-bytes.result c.covers-covers.result c.is_root-root.result (c.has_links-links.ensures own s is)
    (c.has_size-size.ensures own s is) (c.has_nbytes-bytes.ensures (extents_of own) is.run) (c.covers-covers.ensures (extents_of own) is.run) (c.is_root-root.ensures own s is))
