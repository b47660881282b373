use Rattle.reiser_make.proofs.Imports.{◌-◌, ◌+◌, ◌*◌, ℕ, List, length, refl, ap, ◌∙◌, arith}
use borrow.Rule.Slice.PartMut.{put_mid}
use Rattle.reiser_make.proofs.Entering.{so_far_more}
use Rattle.reiser_make.proofs.directory.put_entry.Goals as goal

pub returns : goal.returns
returns c = λ entries counted short is.
    let n : ℕ = length c.args.into.now in
    let begin : ℕ = n - 8 * (c.args.e + 1) in
    let at : ℕ = 16 * c.args.e in
    let len : ℕ = begin + length c.args.name.now - begin in
    ap (λ (middle : List ℕ). put_mid at (at + 16 - at) (put_mid begin len c.args.into.now middle) c.put_head.new.into) c.copy_from_slice.ensures.after
    ∙ so_far_more n c.args.e begin len (at + 16 - at) c.args.into.now c.args.name.now c.put_head.new.into c.args.offset c.args.id entries
    c.requires.some c.requires.short c.requires.room counted short refl (omega arith) (omega arith) is c.put_head.ensures
