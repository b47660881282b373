use Rattle.btr_check_files.proofs.Imports.{◌<◌, List, length, ap, ◌∙◌, arith, take_all, sum_by_more, DirEntryValue, dir_entry_value, capped, entry_letters, get_or_from_slice_get}
use Rattle.btr_check_files.proofs.counting.entry_letters.Goals as goal

pub loop-i-preserved : goal.loop-i-preserved
loop-i-preserved c =
    let xs : List DirEntryValue = c.args.entries.now in
    let x : DirEntryValue = dir_entry_value c.get.result in
    let inside : c.loop-i.i < length xs = omega arith in
    let more = sum_by_more (λ (e : DirEntryValue). length e.name) xs c.loop-i.i x inside in
    let here = ap (λ (e : DirEntryValue). length e.name) (get_or_from_slice_get xs c.loop-i.i x x c.get.ensures) in
    omega (arith, c.saturating_add-letters.ensures, c.loop-i.invariant, more, here)

pub returns : goal.returns
returns c = c.loop-i.invariant ∙ ap (λ (z : List DirEntryValue). capped (entry_letters z)) (take_all c.loop-i.i c.args.entries.now (omega arith))
