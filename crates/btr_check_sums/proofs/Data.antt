-- What is due, judged: as the answers of a pass over the checksum tree.
use Rattle.btr_check_sums.proofs.Imports.{◌≡◌, ◌<◌, ◌⊎◌, ℕ, Bool, true, false, refl, List, [], ◌∷◌, ◌++◌, map, Result, Ok, Err, inl, inr, sym, ap, subst, ◌∙◌, ⊎_elim, arith, map-append, All-nil, true≢false, All-permutation, Contains-permutation, IsPermutation-sym, Decides, All, Contains, IfErr, OnOk, Checksums, part_number, owners_of, walk_refusals, walked_items, Item, TreeItem, bare_item, Blames, found, wrong, MapRange, Own, Tree, SumKind, Image, block_at, BtrRefusal, BreaksTrees, TellsPart, tree_answer, AreMet, AreSumsRight, BreaksSums, HoldsDue, HoldsFirst, IsRight, IsRightOf, IsWrongDue, IsWrongOne, DueSum, tells_weaker, Answer}
use Rattle.std.proofs.Common.{MatchResult}
use Rattle.std.specs.List.Sorted.{IsPermutation}
use Rattle.btr_check_rules.specs.btr_reader.refusals.declared.answer.BtrAnswer.{BtrAnswer}
use Rattle.btr_check_rules.specs.btr_reader.refusals.declared.answer.BtrAnswer.TheVariants as walks
use Rattle.btr_check_walk.specs.command_answers.declared.answer.Answer.TheVariants as answers
use Rattle.btr_check_sums.proofs.DueSteps.{all_judged, breaks_all, first_judged, wrong_told}
use Rattle.btr_check_sums.proofs.OwnTree.{found_walked, wrong_walked}

module _ (image : Image) (ranges : List MapRange) (sums : SumKind) where
  wrong_due : (items : List Item) (due : List DueSum) → HoldsDue image ranges sums items due → (e : Answer) → TellsPart (IsWrongDue image sums due) e → TellsPart (BreaksSums image ranges sums items) e
  wrong_due items due holds e told = tells_weaker (IsWrongDue image sums due) (BreaksSums image ranges sums items) (λ part a breaks. wrong_told image ranges sums items due holds.told part a breaks) e told

  -- there is room
  pub room_made : {T : Type 0} (items : List Item) (i : Item) (count : ℕ) (due after : List DueSum) (result : Result T Answer) → HoldsFirst image ranges sums items i count due → after ≡ []
      → MatchResult result (λ _. All (IsRight image sums) due) (TellsPart (IsWrongDue image sums due))
      → MatchResult result (λ _. HoldsFirst image ranges sums items i count after) (TellsPart (BreaksSums image ranges sums (items ++ i ∷ [])))
  room_made items i count due after (Ok x) holds none right = first_judged image ranges sums items i count due after right none holds
  room_made items i count due after (Err e) holds none told =
      tells_weaker (IsWrongDue image sums due) (BreaksSums image ranges sums (items ++ i ∷ [])) (λ part a breaks. wrong_told image ranges sums (items ++ i ∷ []) due holds.told part a breaks) e told

  all_right : (items : List Item) → AreMet image ranges sums [] items → AreSumsRight image ranges sums items
  all_right items met i has k at low small is = ⊎_elim (λ told. told) (λ held. absurd (let none = held.1.1 in omega (arith, none))) (met i has k low at small is)

  -- all was met, and what is due is judged
  pub data_done : {T : Type 0} (refusals : List BtrRefusal) (items : List Item) (due : List DueSum) (result : Result T Answer) → HoldsDue image ranges sums items due
      → MatchResult result (λ _. All (IsRight image sums) due) (TellsPart (IsWrongDue image sums due))
      → MatchResult result (λ _. AreSumsRight image ranges sums items) (TellsPart (λ part a. BreaksTrees refusals part a ⊎ BreaksSums image ranges sums items part a))
  data_done refusals items due (Ok x) holds right = all_right items (all_judged image ranges sums items due right holds)
  data_done refusals items due (Err e) holds told =
      tells_weaker (IsWrongDue image sums due) (λ part a. BreaksTrees refusals part a ⊎ BreaksSums image ranges sums items part a)
      (λ part a breaks. inr (wrong_told image ranges sums items due holds.told part a breaks)) e told

pub room_inside : (size : ℕ) (after : List DueSum) → after ≡ [] → All (λ d. d.block < size) after
room_inside size after none = subst (All (λ (d : DueSum). d.block < size)) (sym none) (All-nil (λ (d : DueSum). d.block < size))

-- ---- blocks

-- a block was read, and its checksum judged
pub block_asked : {T : Type 0} (image : Image) (sums : SumKind) (d : DueSum) (bytes : List ℕ) (test : Bool) (result : Result T Answer) → bytes ≡ block_at image d.block → Decides test (IsRightOf sums bytes d)
    → OnOk result (test ≡ true) → IfErr result (λ e. (test ≡ false) × (e ≡ answers.NotSound (part_number Checksums) d.address))
    → MatchResult result (λ _. IsRight image sums d) (TellsPart (IsWrongOne image sums d))
block_asked image sums d bytes test (Ok x) read decides ok err = subst (λ (b : List ℕ). IsRightOf sums b d) read (decides.0 ok)
block_asked image sums d bytes test (Err e) read decides ok err =
    subst (TellsPart (IsWrongOne image sums d)) (sym err.1)
    (refl, refl, λ right. true≢false (sym (decides.1 (subst (λ (b : List ℕ). IsRightOf sums b d) (sym read) right)) ∙ err.0))

-- one of several
pub one_wrong : (image : Image) (sums : SumKind) (due : List DueSum) (d : DueSum) → Contains due d → (e : Answer) → TellsPart (IsWrongOne image sums d) e → TellsPart (IsWrongDue image sums due) e
one_wrong image sums due d has e told = tells_weaker (IsWrongOne image sums d) (IsWrongDue image sums due) (λ part a wrong. (d, has, wrong)) e told

-- in another order
pub sorted_right : {T : Type 0} (image : Image) (sums : SumKind) (due sorted : List DueSum) (result : Result T Answer) → IsPermutation due sorted
    → MatchResult result (λ _. All (IsRight image sums) sorted) (TellsPart (IsWrongDue image sums sorted))
    → MatchResult result (λ _. All (IsRight image sums) due) (TellsPart (IsWrongDue image sums due))
sorted_right image sums due sorted (Ok x) same right = All-permutation (IsRight image sums) sorted due (IsPermutation-sym due sorted same) right
sorted_right image sums due sorted (Err e) same told =
    tells_weaker (IsWrongDue image sums sorted) (IsWrongDue image sums due)
    (λ part a wrong. (wrong.0, Contains-permutation sorted due wrong.0 (IsPermutation-sym due sorted same) wrong.1, wrong.2)) e told

-- ---- the whole tree

-- what may be told of a tree and of the data that its items tell of
abbrev pub BreaksData : List BtrRefusal → Image → List MapRange → SumKind → List Item → ℕ → ℕ → Type 0
BreaksData refusals image ranges sums items part a = BreaksTrees refusals part a ⊎ BreaksSums image ranges sums items part a

module _ (image : Image) (ranges : List MapRange) (tree : Tree) (own : owners_of tree.owner ≡ Own) where
  abbrev whole : List Item
  whole = map bare_item (walked_items image ranges tree)

  pub tree_told : (e : Answer) → TellsPart (BreaksTrees (wrong image ranges tree)) e → TellsPart (BreaksData (walk_refusals image ranges tree) image ranges tree.form.sums whole) e
  tree_told e told =
      tells_weaker (BreaksTrees (wrong image ranges tree)) (BreaksData (walk_refusals image ranges tree) image ranges tree.form.sums whole)
      (λ part a breaks. inl (subst (λ (l : List BtrRefusal). BreaksTrees l part a) (wrong_walked image ranges tree own) breaks)) e told

  pub first_told : (given later : List TreeItem) (e : Answer) → found image ranges tree ≡ given ++ later → TellsPart (BreaksSums image ranges tree.form.sums (map bare_item given)) e
      → TellsPart (BreaksData (walk_refusals image ranges tree) image ranges tree.form.sums whole) e
  first_told given later e is told =
      let all : map bare_item given ++ map bare_item later ≡ whole = sym (map-append bare_item given later) ∙ ap (map bare_item) (sym is ∙ found_walked image ranges tree own) in
      tells_weaker (BreaksSums image ranges tree.form.sums (map bare_item given)) (BreaksData (walk_refusals image ranges tree) image ranges tree.form.sums whole)
      (λ part a breaks. inr (subst (λ (xs : List Item). BreaksSums image ranges tree.form.sums xs part a) all (breaks_all image ranges tree.form.sums (map bare_item given) (map bare_item later) part a breaks))) e told

  pub all_due : (given : List TreeItem) (due : List DueSum) → given ≡ found image ranges tree → HoldsDue image ranges tree.form.sums (map bare_item given) due → HoldsDue image ranges tree.form.sums whole due
  all_due given due is holds = subst (λ (xs : List TreeItem). HoldsDue image ranges tree.form.sums (map bare_item xs) due) (is ∙ found_walked image ranges tree own) holds

-- what is wrong with the nodes of a tree
pub blames_told : (refusals : List BtrRefusal) (answer : BtrAnswer) → Blames refusals answer → TellsPart (BreaksTrees refusals) (tree_answer answer)
blames_told refusals (walks.Refused r) has = (refl, (r, has, refl))
blames_told refusals walks.Fault fault = tt
blames_told refusals walks.Memory none = absurd none

-- one more item was noted
pub due_with : (image : Image) (ranges : List MapRange) (sums kind : SumKind) (given : List TreeItem) (i : TreeItem) (body : List ℕ) (due : List DueSum) → kind ≡ sums → body ≡ i.body
    → HoldsDue image ranges kind (map bare_item given ++ (i.key, body) ∷ []) due → HoldsDue image ranges sums (map bare_item (given ++ i ∷ [])) due
due_with image ranges sums kind given i body due kind_is body_is holds =
    subst (λ (xs : List Item). HoldsDue image ranges sums xs due) (sym (map-append bare_item given (i ∷ [])))
    (subst (λ (b : List ℕ). HoldsDue image ranges sums (map bare_item given ++ (i.key, b) ∷ []) due) body_is
    (subst (λ (k : SumKind). HoldsDue image ranges k (map bare_item given ++ (i.key, body) ∷ []) due) kind_is holds))

pub breaks_with : (image : Image) (ranges : List MapRange) (sums kind : SumKind) (given : List TreeItem) (i : TreeItem) (body : List ℕ) (e : Answer) → kind ≡ sums → body ≡ i.body
    → TellsPart (BreaksSums image ranges kind (map bare_item given ++ (i.key, body) ∷ [])) e → TellsPart (BreaksSums image ranges sums (map bare_item (given ++ i ∷ []))) e
breaks_with image ranges sums kind given i body e kind_is body_is told =
    subst (λ (xs : List Item). TellsPart (BreaksSums image ranges sums xs) e) (sym (map-append bare_item given (i ∷ [])))
    (subst (λ (b : List ℕ). TellsPart (BreaksSums image ranges sums (map bare_item given ++ (i.key, b) ∷ [])) e) body_is
    (subst (λ (k : SumKind). TellsPart (BreaksSums image ranges k (map bare_item given ++ (i.key, body) ∷ [])) e) kind_is told))
