-- What a walk finds, as failures of what a sound volume is.
use Rattle.btr_check_walk.proofs.Imports.{◌≡◌, ◌≢◌, ◌⊎◌, ℕ, List, [], Contains, sym, subst, inl, inr, All-contains, All-nil, All, Image, BtrRefusal, TreeItem, Trees, BreaksTrees, EndsWalk, IsRefused, Answer}
use Rattle.btr_check_rules.specs.Recount.{TreeOn, all_trees, recount}
use Rattle.btr_check_rules.specs.Trees.{IsSoundAt, refused_at, tree_faults}
use Rattle.btr_check_walk.specs.Answers.{FailsIn, IsPassAnswer}
use Rattle.btr_check_walk.proofs.Told.{tells_weaker}

-- what is wrong with the nodes of a tree, or with the order of its keys, breaks part 1
pub tree_fails : (image : Image) (t : TreeOn) (part a : ℕ) → Contains (all_trees (recount image)) t → BreaksTrees (tree_faults image (recount image) t) part a → FailsIn image part a
tree_fails image t part a has breaks = (
  Trees,
  sym breaks.0,
  λ keeps.
      All-contains (λ fault. refused_at fault ≢ a) (tree_faults image (recount image) t) breaks.1.0
      (All-contains (IsSoundAt image (recount image) a) (all_trees (recount image)) t keeps.sound has) breaks.1.1 breaks.1.2,
)

-- a tree with which nothing is wrong is sound everywhere
pub tree_is_sound : (image : Image) (t : TreeOn) (a : ℕ) → tree_faults image (recount image) t ≡ [] → IsSoundAt image (recount image) a t
tree_is_sound image t a none = subst (All (λ fault. refused_at fault ≢ a)) (sym none) (All-nil (λ (fault : BtrRefusal). refused_at fault ≢ a))

-- what ended a walk over a tree, where what the visitor refuses is a failure
pub walk_fails : (image : Image) (t : TreeOn) (refuses : List TreeItem → ℕ → ℕ → Type 0) (items : List TreeItem) (answer : Answer) → Contains (all_trees (recount image)) t
    → ((part a : ℕ) → IsRefused refuses items part a → FailsIn image part a) → EndsWalk (tree_faults image (recount image) t) refuses items answer → IsPassAnswer image answer
walk_fails image t refuses items answer has refused =
    tells_weaker (λ part a. BreaksTrees (tree_faults image (recount image) t) part a ⊎ IsRefused refuses items part a) (FailsIn image)
    (λ part a. elim [ inl breaks ↦ tree_fails image t part a has breaks | inr told ↦ refused part a told ]) answer
