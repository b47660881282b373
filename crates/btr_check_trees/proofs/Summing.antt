-- The sums that were compared are those of the recount.
use Rattle.btr_check_trees.proofs.Imports.{◌≡◌, ℕ, Bool, true, false, List, Result, refl, sym, subst, ◌∙◌, Decides, MatchResult, IfErr, OnOk, not_from_Decides, MatchResult-from_both, MatchResult-weaker, IsVolumeOn, Item, SUPER_INFO_OFFSET, Super, ChunkAt, Btrfs, Image, AreTotals, KeepsTotals, dev_items, groups, recount, Totals, opened_super, FindsDevices, IsPassAnswer, Answer, KeepsChunkTree, ChunksFound}
use Rattle.btr_check_walk.specs.command_answers.declared.answer.Answer.TheVariants as answers

-- the comparison decides what is asked of the recount
pub sums_decided : (image : Image) (volume : Btrfs) (found : ChunksFound) (chunks : List ChunkAt) (hold : Bool) → IsVolumeOn image volume → KeepsChunkTree image found → chunks ≡ found.chunks.items
    → ((others : List Item) → FindsDevices volume.sup others found.devices → Decides hold (AreTotals volume.sup chunks (groups (recount image)) others))
    → Decides hold (AreTotals (recount image).super (recount image).chunks (groups (recount image)) (dev_items (recount image)))
sums_decided image volume found chunks hold on keeps same decides =
    let super : volume.sup ≡ (recount image).super = opened_super image volume.sup volume.ranges.items on.opened in
    subst (λ (s : Super). Decides hold (AreTotals s (recount image).chunks (groups (recount image)) (dev_items (recount image)))) super
    (subst (λ (l : List ChunkAt). Decides hold (AreTotals volume.sup l (groups (recount image)) (dev_items (recount image)))) (same ∙ keeps.chunks)
    (decides (dev_items (recount image)) (subst (λ (s : Super). FindsDevices s (dev_items (recount image)) found.devices) (sym super) keeps.devices)))

pub sums_asked : {T : Type 0} (image : Image) (r : Result T Answer) (hold : Bool) → Decides hold (AreTotals (recount image).super (recount image).chunks (groups (recount image)) (dev_items (recount image)))
    → OnOk r (hold ≡ true) → IfErr r (λ e. (hold ≡ false) × (e ≡ answers.NotSound 9 SUPER_INFO_OFFSET)) → MatchResult r (λ _. (a : ℕ) → KeepsTotals (recount image) a) (IsPassAnswer image)
sums_asked image r hold decides ok err =
    MatchResult-weaker r (MatchResult-from_both r (λ _. hold ≡ true) (λ e. (hold ≡ false) × (e ≡ answers.NotSound 9 SUPER_INFO_OFFSET)) ok err) (λ x is. λ a at. decides.0 is)
    (λ e told. subst (IsPassAnswer image) (sym told.1) (Totals, refl, λ keeps. not_from_Decides hold decides told.0 (keeps refl)))
