use Rattle.btr_check_references.proofs.Imports.{◌∙◌, ℕ, List, nat_cmp, subst, IsBinarySearchResult, searched}
use Rattle.btr_check_references.proofs.Full.{searched_any}
use Rattle.btr_check_references.proofs.full_list.FullNodes.has.Goals as goal

pub returns : goal.returns
returns c = λ extents are.
    let found = subst (λ (xs : List ℕ). IsBinarySearchResult (λ y. nat_cmp y c.args.address) xs c.binary_search.result) c.as_slice.ensures.value c.binary_search.ensures.position in
    c.is_ok.ensures.value
    ∙ searched_any c.args.self.now.addresses.items c.args.address c.binary_search.result
    (searched c.args.self.now.addresses.items c.args.address c.binary_search.result found (λ i j le within. c.args.self.now.ascend i j 0 le within))
    ∙ are c.args.address
