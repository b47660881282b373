-- The directories that were seen, with one more link.
use Rattle.reiser_volume_names.proofs.Imports.{◌≡◌, Bool, true, false, ◌&&◌, ◌||◌, List, [], ◌∷◌, ◌++◌, get_or, refl, sym, ap, ◌∙◌, true≢false, arith, list_any, list_any-append, list_any_at, Any-from_list_any, all_pairs_push, IndexSet, contains, VolAnswer, Refused, Fault, Memory, Damaged, DirTwice, ReiserItem, ObjectKey, Naming, is_directory_at, same_key, same_key-true, same_key-self, and_right, names_directory, NamesAnother, HasDirectories, BlamesAgain}
use Rattle.reiser_volume_names.proofs.Seeing.{in_more, or_swap}

module _ {S : Type 0} (items : List ReiserItem) (old : IndexSet ObjectKey S) (links : List Naming) (n : Naming) (has : HasDirectories items old links) where
  -- one that was seen
  pub directory_again : is_directory_at items n.target ≡ true → contains same_key old n.target ≡ true → BlamesAgain items (links ++ n ∷ []) (Refused (Damaged n.leaf DirTwice))
  directory_again directory there =
      let a = Any-from_list_any (names_directory items n.target) links (sym (has.each n.target) ∙ there) in
      let m : Naming = a.1 in
      (m, (n, record { before = links; after = []; split = refl; earlier = (a.0, a.2, a.3) }, directory, same_key-true m.target n.target (and_right (is_directory_at items m.target) (same_key m.target n.target) a.4), refl))

pub again_of_part : (items : List ReiserItem) (part more all : List Naming) (e : VolAnswer) → all ≡ part ++ more → BlamesAgain items part e → BlamesAgain items all e
again_of_part items part more all (Refused refusal) is b = (b.0, (b.1.0, in_more part more all b.0 b.1.0 is b.1.1, b.1.2, b.1.3, b.1.4))
again_of_part items part more all Fault is b = b
again_of_part items part more all Memory is b = tt
