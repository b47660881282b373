use Rattle.btr_tree_writer.proofs.Imports.{◌≡◌, ◌<◌, ◌+◌, ℕ, suc, List, [], ◌∷◌, length, get_or, drop, refl, ap, ◌∙◌, arith, drop-cons, Item, no_key}
use Rattle.std.proofs.lemmas.Option.{slice_get-get_or}
use Rattle.btr_tree_writer.proofs.list.ListItemsItemSource.advance.Goals as goal

pub returns-clause-next : goal.returns-clause-next
returns-clause-next g c = λ tells image is fits.
    let n : ℕ = c.args.self.now.given in
    let list : List Item = c.args.self.now.list.now in
    let none : Item = (no_key, []) in
    let low : n < length list = omega (arith, c.if-self-len.false, c.len.ensures, c.args.self.now.within) in
    let at : suc n ≡ n + 1 = omega arith in
    (tt, (get_or list n none, (n, refl, slice_get-get_or list n none low), drop-cons list n none low ∙ ap (λ (k : ℕ). get_or list n none ∷ drop k list) at))
