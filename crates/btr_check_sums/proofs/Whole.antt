-- The passes over the checksum tree, as what part 5 asks.
use Rattle.btr_check_sums.proofs.Imports.{◌≡◌, ◌<◌, ◌*◌, ◌^◌, ◌⊎◌, ℕ, Bool, false, ◌||◌, List, map, Result, Ok, Err, inl, inr, refl, sym, ap, subst, ◌∙◌, map-append, is_among, Run, Recount, Checksums, part_number, KeepsSums, sum_items, sums_of, walk_refusals, walked_items, Item, TreeItem, bare_item, MapRange, Tree, SumKind, Image, BtrRefusal, tells_weaker, BreaksTrees, TellsPart, EndsWalk, IsRefused, Answer, IsCoverRight, AreSumsRight, BreaksSums, AreUsedBlocks, BreaksPart, EndsLow, IsSumTree, AreSumItems, BreaksSumItems, is_covered, HoldsSums, SumPass, UsedBlocks}
use Rattle.std.proofs.Common.{MatchResult}
use Rattle.btr_check_walk.specs.command_answers.declared.answer.Answer.TheVariants as answers
use Rattle.btr_check_sums.proofs.Part.{cover_fails, items_break, items_fail, keeps_sums, sums_fail}
use Rattle.btr_check_sums.proofs.Sets.{or_false}

-- ---- the walk over the items

-- the items keep their rules, and these are the blocks
abbrev pub AreJudged : ℕ → SumKind → List Item → List Run → Type 0
AreJudged nodesize sums items covered = AreSumItems nodesize sums items × ((n : ℕ) → is_among covered n ≡ is_covered sums items n)

pub items_judged : (begun pass : SumPass) (nodesize : ℕ) (sums : SumKind) (items : List Item) (covered : List Run) → HoldsSums begun pass items → begun.nodesize ≡ nodesize → begun.kind ≡ sums
    → ((n : ℕ) → is_among begun.covered n ≡ false) → ((n : ℕ) → is_among covered n ≡ is_among pass.covered n) → AreJudged nodesize sums items covered
items_judged begun pass nodesize sums items covered held nodesize_is sums_is none same = (
  subst (λ (k : SumKind). AreSumItems nodesize k items) sums_is (subst (λ (n : ℕ). AreSumItems n begun.kind items) nodesize_is held.kept),
  λ n.
      same n
      ∙ (held.covered n
      ∙ (ap (λ (b : Bool). is_covered begun.kind items n || b) (none n)
      ∙ (or_false (is_covered begun.kind items n) ∙ ap (λ (k : SumKind). is_covered k items n) sums_is))),
)

abbrev pub BreaksItems : List BtrRefusal → ℕ → SumKind → List Item → ℕ → ℕ → Type 0
BreaksItems refusals nodesize sums items part a = BreaksTrees refusals part a ⊎ BreaksSumItems nodesize sums items part a

refused : (nodesize : ℕ) (sums : SumKind) (items : List TreeItem) (part a : ℕ) → IsRefused (λ xs p b. BreaksSumItems nodesize sums (map bare_item xs) p b) items part a
    → BreaksSumItems nodesize sums (map bare_item items) part a
refused nodesize sums items part a told =
    subst (λ (xs : List Item). BreaksSumItems nodesize sums xs part a) (sym (map-append bare_item told.0 told.1) ∙ ap (map bare_item) (sym told.2))
    (items_break nodesize sums (map bare_item told.0) (map bare_item told.1) part a told.4)

pub items_ended : (refusals : List BtrRefusal) (begun : SumPass) (nodesize : ℕ) (sums : SumKind) (items : List TreeItem) (e : Answer) → begun.nodesize ≡ nodesize → begun.kind ≡ sums
    → EndsWalk refusals (λ xs p b. BreaksSumItems begun.nodesize begun.kind (map bare_item xs) p b) items e → TellsPart (BreaksItems refusals nodesize sums (map bare_item items)) e
items_ended refusals begun nodesize sums items e nodesize_is sums_is ends =
    subst (λ (k : SumKind). TellsPart (BreaksItems refusals nodesize k (map bare_item items)) e) sums_is
    (subst (λ (n : ℕ). TellsPart (BreaksItems refusals n begun.kind (map bare_item items)) e) nodesize_is
    (tells_weaker (λ part a. BreaksTrees refusals part a ⊎ IsRefused (λ xs p b. BreaksSumItems begun.nodesize begun.kind (map bare_item xs) p b) items part a)
    (BreaksItems refusals begun.nodesize begun.kind (map bare_item items))
    (λ part a. elim [ inl breaks ↦ inl breaks | inr told ↦ inr (refused begun.nodesize begun.kind items part a told) ]) e ends))

-- ---- the part

abbrev pub BreaksAny : Image → List MapRange → Tree → Recount → ℕ → ℕ → Type 0
BreaksAny image ranges tree r part a = BreaksTrees (walk_refusals image ranges tree) part a ⊎ BreaksPart image r part a

module _ (image : Image) (ranges : List MapRange) (tree : Tree) (r : Recount) (is : IsSumTree image r ranges tree) where
  abbrev items : List Item
  items = map bare_item (walked_items image ranges tree)

  to_items : (P : ℕ → SumKind → List Item → Type 0) → P tree.form.nodesize tree.form.sums items → P r.super.nodesize (sums_of r) (sum_items r)
  to_items P holds =
      subst (λ (n : ℕ). P n (sums_of r) (sum_items r)) (sym is.nodesize_is)
      (subst (λ (k : SumKind). P tree.form.nodesize k (sum_items r)) (sym is.sums_are) (subst (P tree.form.nodesize tree.form.sums) (sym is.items_are) holds))

  pub items_answer : (e : Answer) → TellsPart (BreaksItems (walk_refusals image ranges tree) tree.form.nodesize tree.form.sums items) e → TellsPart (BreaksAny image ranges tree r) e
  items_answer e told =
      tells_weaker (BreaksItems (walk_refusals image ranges tree) tree.form.nodesize tree.form.sums items) (BreaksAny image ranges tree r)
      (λ part a. elim [
        | inl breaks ↦ inl breaks
        | inr breaks ↦ inr (items_fail image r part a (to_items (λ n k xs. BreaksSumItems n k xs part a) breaks))
      ]) e told

  pub data_answer : (e : Answer) → TellsPart (λ part a. BreaksTrees (walk_refusals image ranges tree) part a ⊎ BreaksSums image ranges tree.form.sums items part a) e
      → TellsPart (BreaksAny image ranges tree r) e
  data_answer e told =
      tells_weaker (λ part a. BreaksTrees (walk_refusals image ranges tree) part a ⊎ BreaksSums image ranges tree.form.sums items part a) (BreaksAny image ranges tree r)
      (λ part a. elim [
        | inl breaks ↦ inl breaks
        | inr breaks ↦
            inr (sums_fail image r part a (subst (λ (m : List MapRange). BreaksSums image m (sums_of r) (sum_items r) part a) (sym is.map_is) (to_items (λ n k xs. BreaksSums image ranges k xs part a) breaks)))
      ]) e told

  pub part_kept : (used : UsedBlocks) (covered : List Run) → AreUsedBlocks r used → EndsLow r → AreJudged tree.form.nodesize tree.form.sums items covered → ((n : ℕ) → IsCoverRight used covered n)
      → AreSumsRight image ranges tree.form.sums items → (a : ℕ) → KeepsSums image r a
  part_kept used covered are ends judged cover right =
      let whole = to_items (λ n k xs. AreJudged n k xs covered) judged in
      keeps_sums image r used covered are ends whole.1 whole.0 cover
      (subst (λ (m : List MapRange). AreSumsRight image m (sums_of r) (sum_items r)) (sym is.map_is) (to_items (λ n k xs. AreSumsRight image ranges k xs) right))

  -- a block at which the cover is wrong
  pub cover_answer : (used : UsedBlocks) (covered : List Run) → AreUsedBlocks r used → EndsLow r → AreJudged tree.form.nodesize tree.form.sums items covered → (e : Answer)
      → (n : ℕ) × ¬ IsCoverRight used covered n × (n < 2 ^ 52 → e ≡ answers.NotSound (part_number Checksums) (4096 * n)) → TellsPart (BreaksAny image ranges tree r) e
  cover_answer used covered are ends judged e wrong =
      let whole = to_items (λ n k xs. AreJudged n k xs covered) judged in
      let fails = cover_fails image r used covered are ends whole.1 wrong.0 wrong.1 in
      subst (TellsPart (BreaksAny image ranges tree r)) (sym (wrong.2 fails.0)) (inr (refl, fails.1))

  -- how the last pass ended
  pub sums_judged : {T : Type 0} (used : UsedBlocks) (covered : List Run) (result : Result T Answer) → AreUsedBlocks r used → EndsLow r → AreJudged tree.form.nodesize tree.form.sums items covered
      → ((n : ℕ) → IsCoverRight used covered n)
      → MatchResult result (λ _. AreSumsRight image ranges tree.form.sums items) (TellsPart (λ part a. BreaksTrees (walk_refusals image ranges tree) part a ⊎ BreaksSums image ranges tree.form.sums items part a))
      → MatchResult result (λ _. (a : ℕ) → KeepsSums image r a) (TellsPart (BreaksAny image ranges tree r))
  sums_judged used covered (Ok x) are ends judged cover right = part_kept used covered are ends judged cover right
  sums_judged used covered (Err e) are ends judged cover told = data_answer e told
