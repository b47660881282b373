use Rattle.reiser_make.proofs.Imports.{◌≡◌, ℕ, List, length, refl, ◌∷◌, [], sym, ap, ◌∙◌, codes, All-nil, All-cons, EntryValue, entry, padded, entries_so_far, AreShortNames}
use Rattle.reiser_make.proofs.Entering.{so_far_first}
use Rattle.reiser_make.proofs.directory.put_dots.Goals as goal

pub returns : goal.returns
returns c =
    let P : EntryValue → Type 0 = λ e. length (padded e.name) ≡ 8 in
    let n : ℕ = length c.args.into.now in
    let dot : List EntryValue = entry 1 c.args.this (codes ".") ∷ [] in
    let cleared : length c.clear.new.bytes ≡ n = c.clear.auto.bytes in
    let long : length c.put_entry.new.into ≡ n = c.put_entry.auto.into ∙ cleared in
    let one : c.put_entry.new.into ≡ entries_so_far (length c.clear.new.bytes) dot =
    c.put_entry.ensures [] refl (All-nil P) (c.clear.ensures ∙ so_far_first n ∙ ap (λ k. entries_so_far k []) (sym cleared)) in
    let short : AreShortNames dot = All-cons P (entry 1 c.args.this (codes ".")) [] refl (All-nil P) in
    c.put_entry-2.ensures dot refl short (one ∙ ap (λ k. entries_so_far k dot) (cleared ∙ sym long))
    ∙ ap (λ k. entries_so_far k (entry 1 c.args.this (codes ".") ∷ entry 2 c.args.above (codes "..") ∷ [])) long
