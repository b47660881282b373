use Rattle.reiser_volume_names.proofs.Imports.{◌++◌, ◌∷◌, [], ℕ, ◌+◌, ◌∙◌, length, sym, ap, subst, List, Naming, extended, CountsExtended, Refers, BlamesExtended, capped}
use Rattle.reiser_volume_names.proofs.Eaches.{passed_on}
use Rattle.reiser_volume_names.proofs.Extending.{size_now, sizes_more, extended_full, extended_room}
use Rattle.reiser_volume_names.proofs.extended.refer.Goals as goal

pub returns-then-size-gt3900 : goal.returns-then-size-gt3900
returns-then-size-gt3900 c = λ links has.
    let sizes = c.size_with.ensures ∙ ap (λ (l : List ℕ). capped (length l + 10)) c.bytes.ensures in
    let now = size_now c.args.sizes.now c.add_size.new.sizes links c.args.naming.now c.size_with.result c.in_ok-size.size has.each sizes c.in_ok-size.ensures.size in
    let full = extended_full links c.args.naming.now c.in_ok-size.size now c.if-size-gt3900.true in
    passed_on (λ _. CountsExtended c.args.named.now.keys c.extend.new.sums (extended [] links ++ c.args.naming.now ∷ [])) (λ _. Refers c.args.named.now.keys c.add_size.new.sizes c.extend.new.sums (links ++ c.args.naming.now ∷ []))
    (BlamesExtended c.args.named.now.keys (extended [] links ++ c.args.naming.now ∷ [])) (BlamesExtended c.args.named.now.keys (extended [] (links ++ c.args.naming.now ∷ []))) c.extend.result (c.extend.ensures (extended [] links) has.crowds)
    (λ _ counts. record { each = sizes_more c.args.sizes.now c.add_size.new.sizes links c.args.naming.now c.size_with.result c.in_ok-size.size has.each sizes c.in_ok-size.ensures.size c.in_ok-size.ensures.sizes; crowds = subst (λ (l : List Naming). CountsExtended c.args.named.now.keys c.extend.new.sums l) (sym full) counts })
    (λ e blamed. subst (λ (l : List Naming). BlamesExtended c.args.named.now.keys l e) (sym full) blamed)

pub returns-else-size-gt3900 : goal.returns-else-size-gt3900
returns-else-size-gt3900 c = λ links has.
    let sizes = c.size_with.ensures ∙ ap (λ (l : List ℕ). capped (length l + 10)) c.bytes.ensures in
    let now = size_now c.args.sizes.now c.add_size.new.sizes links c.args.naming.now c.size_with.result c.in_ok-size.size has.each sizes c.in_ok-size.ensures.size in
    let room = extended_room links c.args.naming.now c.in_ok-size.size now c.if-size-gt3900.false in
    record { each = sizes_more c.args.sizes.now c.add_size.new.sizes links c.args.naming.now c.size_with.result c.in_ok-size.size has.each sizes c.in_ok-size.ensures.size c.in_ok-size.ensures.sizes; crowds = subst (λ (l : List Naming). CountsExtended c.args.named.now.keys c.args.sums.now l) (sym room) has.crowds }
