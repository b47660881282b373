use Rattle.btr_reader.proofs.Imports.{◌≡◌, length, ◌∙◌, sym, ap, subst, err_from_is_err_and, IsAmong, opening_refusals}
use Rattle.btr_reader.proofs.Opens.{boot_refused, chunks_here, ranges_here, chunks_refused, root_refused, opened, root_items}
use Rattle.btr_reader.proofs.volume.Btrfs.open_with.Goals as goal

pub returns-in_err-boot-clause-refused : goal.returns-in_err-boot-clause-refused
returns-in_err-boot-clause-refused g c = λ tells image is read.
    let size : c.len-device.result ≡ length image = c.len-device.ensures ∙ (g.met.S.BlockSource.size_is c.args.src.now tells ∙ ap length is) in
    let err = err_from_is_err_and c.from_residual.result c.from_residual.ensures.1 in
    rw err.1 (subst (IsAmong (opening_refusals image)) (sym err.2) (boot_refused image c.args.sup c.len-device.result c.in_err-boot.field-0.0 read size c.in_err-boot.ensures.err))

pub returns-in_err-ranges-clause-refused : goal.returns-in_err-ranges-clause-refused
returns-in_err-ranges-clause-refused g c = λ tells image is read.
    let size : c.len-device.result ≡ length image = c.len-device.ensures ∙ (g.met.S.BlockSource.size_is c.args.src.now tells ∙ ap length is) in
    let err = err_from_is_err_and c.from_residual-in_err-ranges.result c.from_residual-in_err-ranges.ensures.1 in
    rw err.1 (subst (IsAmong (opening_refusals image)) (sym err.2)
    (chunks_refused image c.args.sup c.len-device.result c.as_slice.result.now c.as_slice-2.result.now c.chunk_tree.result read size c.in_ok-boot.ensures.ok
    (chunks_here c.args.sup c.in_ok-boot.boot.chunks.items c.as_slice.result.now c.in_ok-boot.ensures.chunks c.as_slice.ensures.value)
    (ranges_here c.args.sup c.in_ok-boot.boot.chunks.items c.in_ok-boot.boot.ranges.items c.as_slice-2.result.now c.in_ok-boot.ensures.chunks c.in_ok-boot.ensures.ranges c.as_slice-2.ensures.value)
    c.chunk_tree.ensures c.in_err-ranges.field-0.0 (c.in_err-ranges.ensures.err tells image is)))

pub returns-in_err-roots-clause-refused : goal.returns-in_err-roots-clause-refused
returns-in_err-roots-clause-refused g c = λ tells image is read.
    let size : c.len-device.result ≡ length image = c.len-device.ensures ∙ (g.met.S.BlockSource.size_is c.args.src.now tells ∙ ap length is) in
    let later = g.met.S.BlockSource.kept_blocks c.args.src.now c.read_chunks.new.src tells c.read_chunks.ensures.kept ∙ is in
    let err = err_from_is_err_and c.from_residual-in_err-roots.result c.from_residual-in_err-roots.ensures.1 in
    rw err.1 (subst (IsAmong (opening_refusals image)) (sym err.2)
    (root_refused image c.args.sup c.len-device.result c.as_slice.result.now c.as_slice-2.result.now c.chunk_tree.result read size c.in_ok-boot.ensures.ok
    (chunks_here c.args.sup c.in_ok-boot.boot.chunks.items c.as_slice.result.now c.in_ok-boot.ensures.chunks c.as_slice.ensures.value)
    (ranges_here c.args.sup c.in_ok-boot.boot.chunks.items c.in_ok-boot.boot.ranges.items c.as_slice-2.result.now c.in_ok-boot.ensures.chunks c.in_ok-boot.ensures.ranges c.as_slice-2.ensures.value)
    c.chunk_tree.ensures c.in_ok-ranges.ranges.items c.as_slice-3.result.now c.root_tree.result (c.in_ok-ranges.ensures.ok tells image is) (c.in_ok-ranges.ensures.map tells image is) c.as_slice-3.ensures.value c.root_tree.ensures
    c.in_err-roots.field-0.0 (c.in_err-roots.ensures.err tells image later)))

pub returns-clause-opened : goal.returns-clause-opened
returns-clause-opened g c = λ tells image is read.
    let size : c.len-device.result ≡ length image = c.len-device.ensures ∙ (g.met.S.BlockSource.size_is c.args.src.now tells ∙ ap length is) in
    let later = g.met.S.BlockSource.kept_blocks c.args.src.now c.read_chunks.new.src tells c.read_chunks.ensures.kept ∙ is in
    record {
      size = sym size;
      opened = opened image c.args.sup c.len-device.result c.as_slice.result.now c.as_slice-2.result.now c.chunk_tree.result read size c.in_ok-boot.ensures.ok
          (chunks_here c.args.sup c.in_ok-boot.boot.chunks.items c.as_slice.result.now c.in_ok-boot.ensures.chunks c.as_slice.ensures.value)
          (ranges_here c.args.sup c.in_ok-boot.boot.chunks.items c.in_ok-boot.boot.ranges.items c.as_slice-2.result.now c.in_ok-boot.ensures.chunks c.in_ok-boot.ensures.ranges c.as_slice-2.ensures.value)
          c.chunk_tree.ensures c.in_ok-ranges.ranges.items c.as_slice-3.result.now c.root_tree.result (c.in_ok-ranges.ensures.ok tells image is) (c.in_ok-ranges.ensures.map tells image is) c.as_slice-3.ensures.value c.root_tree.ensures
          (c.in_ok-roots.ensures.ok tells image later);
      roots = root_items image c.args.sup c.in_ok-ranges.ranges.items c.as_slice-3.result.now c.root_tree.result c.in_ok-roots.roots c.as_slice-3.ensures.value c.root_tree.ensures
          (c.in_ok-roots.ensures.roots tells image later);
    }
