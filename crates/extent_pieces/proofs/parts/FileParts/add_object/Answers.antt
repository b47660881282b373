use Rattle.extent_pieces.proofs.Imports.{List, get_or, refl, sym, subst, ◌∙◌, arith, slice_get-get_or, err_from_is_err_and, keys, IsFaultOrMemory, ObjectKey, root}
use Rattle.extent_pieces.proofs.Objects.{file_adds, link_adds, other_adds, other_kind, size_is}
use Rattle.extent_pieces.proofs.parts.FileParts.add_object.Goals as goal

pub returns-in_err-map-in-File-clause-parts : goal.returns-in_err-map-in-File-clause-parts
returns-in_err-map-in-File-clause-parts g c = λ tells image is accepted opened before.
    let all : List ObjectKey = keys c.args.volume.now.named in
    let fault = c.in_err-map-in-File.ensures.map tells image is accepted opened (get_or all c.args.i root) (slice_get-get_or all c.args.i root c.requires) in
    let err = err_from_is_err_and c.from_residual.result c.from_residual.ensures.1 in
    rw err.1 (subst IsFaultOrMemory (sym err.2) fault)

pub returns-in_ok-add_file-in-File-clause-parts : goal.returns-in_ok-add_file-in-File-clause-parts
returns-in_ok-add_file-in-File-clause-parts g c = λ tells image is accepted opened before.
    let volume = c.args.volume.now in
    let all : List ObjectKey = keys volume.named in
    let key : ObjectKey = get_or all c.args.i root in
    let at = slice_get-get_or all c.args.i root c.requires in
    file_adds image volume opened c.args.i key at c.args.inline c.args.self.now c.add_file.new.self before accepted c.inode_at.result c.stat.result.now.fields.size c.in_ok-map-in-File.map
    (sym c.in-File.is ∙ c.kind_at.ensures image opened key at) (size_is image volume opened c.args.i key at c.stat.result.now (c.stat.ensures key at)) (c.inode_at.ensures image opened key at)
    (c.in_ok-map-in-File.ensures.map tells image is accepted opened key at) c.in_ok-add_file-in-File.ensures

pub returns-in-Symlink-clause-parts : goal.returns-in-Symlink-clause-parts
returns-in-Symlink-clause-parts g c = λ tells image is accepted opened before.
    let volume = c.args.volume.now in
    let all : List ObjectKey = keys volume.named in
    let key : ObjectKey = get_or all c.args.i root in
    let at = slice_get-get_or all c.args.i root c.requires in
    link_adds image volume opened c.args.i key at c.args.inline c.args.self.now c.add_inline.new.self before c.stat.result.now.fields.size
    (sym c.in-Symlink.is ∙ c.kind_at.ensures image opened key at) (size_is image volume opened c.args.i key at c.stat.result.now (c.stat.ensures key at)) c.add_inline.ensures

pub returns-in-Directory : goal.returns-in-Directory
returns-in-Directory g c = record {
  kept = g.met.S.BlockSource.kept_refl c.args.src.now;
  cause = record { later = omega arith; failed = λ e. absurd cc; kept = λ other. refl };
  answers = tt;
  parts = λ tells image is accepted opened before.
      let volume = c.args.volume.now in
      let all : List ObjectKey = keys volume.named in
      let key : ObjectKey = get_or all c.args.i root in
      let at = slice_get-get_or all c.args.i root c.requires in
      let kinds = other_kind c.kind_at.result c.in-Directory.is in
      other_adds image volume opened c.args.i key at c.args.inline c.args.self.now c.args.self.now before c.kind_at.result (c.kind_at.ensures image opened key at) kinds.0 kinds.1;
}
