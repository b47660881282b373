use Rattle.btr_reader.proofs.Imports.{◌≡◌, ℕ, List, refl, sym, ◌∙◌, subst, err_from_is_err_and, Image, MapRange, TreeItem, found, wrong, file_refusals, image_at, root_refusals, saved_refusals, find_inode_item, IsAmong, ReadsImage}
use Rattle.btr_reader.specs.FileNotes.{HoldsFile}
use Rattle.btr_reader.proofs.Among.{among_left}
use Rattle.btr_reader.proofs.Stages.{saved_entry_refused, saved_read}
use Rattle.btr_reader.proofs.image.saved_map.Goals as goal

pub returns-in_err-key-clause-reads : goal.returns-in_err-key-clause-reads
returns-in_err-key-clause-reads g c = λ tells image is.
    let ranges = c.args.ranges.now in
    let err = err_from_is_err_and c.from_residual.result c.from_residual.ensures.1 in
    rw err.1 (subst (IsAmong (saved_refusals image ranges c.args.tree)) (sym err.2)
    (saved_entry_refused image ranges ranges c.args.tree c.in_err-key.field-0.0 refl (c.in_err-key.ensures.err tells image is)))

pub returns-in_err-file-clause-reads : goal.returns-in_err-file-clause-reads
returns-in_err-file-clause-reads g c = λ tells image is.
    let ranges = c.args.ranges.now in
    let there = g.met.S.BlockSource.kept_blocks c.args.src.now c.find_entry.new.src tells c.find_entry.ensures.kept ∙ is in
    let err = err_from_is_err_and c.from_residual-in_err-file.result c.from_residual-in_err-file.ensures.1 in
    rw err.1 (subst (IsAmong (saved_refusals image ranges c.args.tree)) (sym err.2)
    (saved_entry_refused image ranges ranges c.args.tree c.in_err-file.field-0.0 refl
    (among_left (wrong image ranges c.args.tree) (root_refusals (found image ranges c.args.tree)) c.in_err-file.field-0.0 (c.in_err-file.ensures.err tells image there))))

pub returns-clause-reads : goal.returns-clause-reads
returns-clause-reads g c = λ tells image is.
    let ranges = c.args.ranges.now in
    let f = c.in_ok-file.file in
    let r = c.noted_map.result in
    let there = g.met.S.BlockSource.kept_blocks c.args.src.now c.find_entry.new.src tells c.find_entry.ensures.kept ∙ is in
    let usual = c.in_ok-key.ensures.noted_others tells image is in
    let noted = c.in_ok-file.ensures.noted tells image there (usual.1 ∙ c.new-usual.ensures.ranges) usual.2 in
    saved_read image ranges ranges c.args.tree c.in_ok-key.key _ c.in-Some.number r refl refl (c.in_ok-key.ensures.entry tells image is) (c.in_ok-key.ensures.ok tells image is) (sym c.inode_number.ensures ∙ c.in-Some.is)
    (λ items items_are sound.
    subst (λ (n : ℕ). ReadsImage ranges (image_at items n (find_inode_item items n)) (file_refusals ranges items n (find_inode_item items n)) r) noted.1
    (c.noted_map.ensures.reads items noted.0 (subst (HoldsFile f) items_are noted.2)))
