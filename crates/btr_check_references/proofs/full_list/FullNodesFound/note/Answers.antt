use Rattle.btr_check_references.proofs.Imports.{◌≡◌, ◌++◌, ◌∷◌, ◌∙◌, [], ℕ, List, ap, sym, true, false, is_full, full_starts}
use Rattle.btr_check_references.proofs.Full.{with_full, without_full}
use Rattle.btr_check_references.proofs.full_list.FullNodesFound.note.Goals as goal

pub returns-else-full : goal.returns-else-full
returns-else-full c = λ extents e start full is.
    let plain : is_full e ≡ false = cc in
    is ∙ sym (without_full extents e plain)

pub returns-in_ok-push : goal.returns-in_ok-push
returns-in_ok-push c = λ extents e start full is.
    let has : is_full e ≡ true = cc in
    c.in_ok-push.ensures.items ∙ ap (λ (xs : List ℕ). xs ++ c.args.start ∷ []) is ∙ ap (λ (a : ℕ). full_starts extents ++ a ∷ []) (sym start) ∙ sym (with_full extents e has)
