use Rattle.reiser_make.proofs.Imports.{◌≡◌, ℕ, ◌+◌, ◌*◌, List, length, refl, ap, ◌∙◌, arith, EntryValue, file_entry, entries_bytes, root_id, directory_id}
use Rattle.reiser_make.proofs.Entering.{listed, put_listed, file_short, so_far_whole, length-listed}
use Rattle.reiser_make.proofs.directory.put_directory.Goals as goal

pub loop-i-preserved : goal.loop-i-preserved
loop-i-preserved c =
    let i : ℕ = c.loop-i.i in
    let name : ℕ = 100 * c.args.k + i in
    let step = put_listed (directory_id c.args.k) root_id (file_entry c.args.number) (100 * c.args.k) i name (length c.put_dots.new.into) (length c.loop-i.into) c.loop-i.into c.put_name.new.into
    refl (file_short name) c.loop-i.auto.into c.loop-i.invariant.short c.loop-i.invariant.put c.put_name.ensures in
    record { short = step.0; put = step.1 }

pub returns : goal.returns
returns c =
    let row : ℕ → EntryValue = file_entry c.args.number in
    let all : List EntryValue = listed (directory_id c.args.k) root_id row (100 * c.args.k) c.loop-i.i in
    let end : c.loop-i.i ≡ c.names_in-i-end.result = omega (arith, c.loop-i-test.false, c.loop-i.auto.i-end) in
    c.loop-i.invariant.put
    ∙ so_far_whole (length c.put_dots.new.into) all c.loop-i.invariant.short
    (omega (arith, c.put_dots.auto.into, c.requires.room, end, c.names_in-i-end.ensures, length-listed (directory_id c.args.k) root_id row (100 * c.args.k) c.loop-i.i))
    ∙ ap (λ n. entries_bytes (listed (directory_id c.args.k) root_id row (100 * c.args.k) n)) (end ∙ c.names_in-i-end.ensures)
