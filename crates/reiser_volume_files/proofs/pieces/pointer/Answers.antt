use Rattle.reiser_volume_files.proofs.Imports.{sym, ◌∙◌, arith, get_or_from_slice_get, pointers, pointers_length, pointer_at}
use Rattle.reiser_volume_files.proofs.pieces.pointer.Goals as goal

pub returns : goal.returns
returns c =
    let many = pointers_length c.args.body.now in
    c.u32_at.ensures ∙ sym (get_or_from_slice_get (pointers c.args.body.now) c.args.j _ 0 (pointer_at c.args.body.now c.args.j (omega (arith, many, c.requires))))
