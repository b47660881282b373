use Rattle.reiser_make.proofs.Imports.{◌≡◌, ℕ, ◌++◌, ◌∷◌, [], List, length, ap, ◌∙◌, arith, EntryValue, entry, directory_entry, entries_bytes, entries_so_far, directory_name, entry_offset, root_id, above_root, ObjectId}
use Rattle.reiser_make.proofs.Entering.{listed, put_listed, directory_short, so_far_whole, length-listed}
use Rattle.reiser_make.proofs.directory.put_root.Goals as goal

pub loop-k-preserved : goal.loop-k-preserved
loop-k-preserved c =
    let k : ℕ = c.loop-k.k in
    let is : entry c.entry_offset.result c.directory.result c.directory_name-name.result ≡ directory_entry k =
    ap (λ o. entry o c.directory.result c.directory_name-name.result) c.entry_offset.ensures.offset
    ∙ ap (λ name. entry (entry_offset name) c.directory.result name) c.directory_name-name.ensures.name
    ∙ ap (λ (id : ObjectId). entry (entry_offset (directory_name k)) id (directory_name k)) c.directory.ensures in
    let step = put_listed root_id above_root directory_entry 0 k k (length c.put_dots.new.into) (length c.loop-k.into) c.loop-k.into c.put_entry.new.into
    (omega arith) (directory_short k) c.loop-k.auto.into c.loop-k.invariant.short c.loop-k.invariant.put
    (λ entries counted short put. c.put_entry.ensures entries counted short put ∙ ap (λ e. entries_so_far (length c.loop-k.into) (entries ++ e ∷ [])) is) in
    record { short = step.0; put = step.1 }

pub returns : goal.returns
returns c =
    let count : ℕ = c.directory_count-k-end.result in
    let all : List EntryValue = listed root_id above_root directory_entry 0 c.loop-k.k in
    let end : c.loop-k.k ≡ count = omega (arith, c.loop-k-test.false, c.loop-k.auto.k-end) in
    c.loop-k.invariant.put
    ∙ so_far_whole (length c.put_dots.new.into) all c.loop-k.invariant.short
    (omega (arith, c.put_dots.auto.into, c.requires.room, end, c.directory_count-k-end.ensures, length-listed root_id above_root directory_entry 0 c.loop-k.k))
    ∙ ap (λ n. entries_bytes (listed root_id above_root directory_entry 0 n)) (end ∙ c.directory_count-k-end.ensures)
