-- A conversion and a rollback, from the laws on each of them.
use Rattle.trial_core.proofs.Imports.{◌≡◌, inl, inr, Result, Ok, Err, ℕ, ◌<◌, ◌^◌, Bool, true, List, map, refl, sym, ◌∙◌, ap, subst, IfErr, MatchResult, Ids, ConvertedVolumesGoBack, GoesBack, ListsBtrfs, IsConverted, WholeRow, row_of, Row, SameUsed, History, Image, Answer, has, used_of, summary_of, used_mark, TrialSummary, IsTrialReadAnswer, LeavesRound, RefusesRound, StopsUnless, AreReiser, FreeAreBytes, IsKnownVolume, IsRound, IsTrialSummary, UsedAreBytes, plain}
use Rattle.btr_reader.specs.btr_node.NodeSize.{IsNodeSize}
use Rattle.btr_reader.specs.Laws.{BtrfsRowsAreOne}
use Rattle.convert_core_laws.specs.opening.Opens.{ConvertedVolumesOpen, OpensAsBefore}
use Rattle.rollback_core.specs.RolledBack.{IsRolledBack}
use Rattle.convert_core.specs.space_items.Laws.{AreIds}
use Rattle.trial_core.specs.declared.known_volume.KnownVolume.{KnownVolume}
use Rattle.trial_core.proofs.Bytes.{all_bytes, same_mark}
use Rattle.trial_core.proofs.Refusing.{read_leaves, unless_refuses}

-- the size of nodes is one of the five
pub size : IsNodeSize plain.nodesize
size = inr (inr (inl refl))

-- ---- rows

-- a Btrfs volume has one list of rows
pub listed_once : BtrfsRowsAreOne → (disk : Image) (rows others : List Row) → ListsBtrfs disk rows → ListsBtrfs disk others → rows ≡ others
listed_once one disk rows others first second =
    first.1.2 ∙ (ap (λ (whole : List WholeRow). map row_of whole) (one disk _ _ first.1.0 second.1.0 first.1.1 second.1.1) ∙ sym second.1.2)

-- the rows of the volume before are those of the one in between
pub has_rows : (image between : Image) (rows : List Row) → AreReiser image rows → OpensAsBefore image between → ListsBtrfs between rows
has_rows image between rows are opens = (opens.has_rows, (are.0, opens.rows are.0 are.1, are.2))

-- ---- the conversion

module _ (ids : Ids) (now : ℕ) (image between : Image) (low : now < 2 ^ 63) (are : AreIds ids) (c : IsConverted plain ids now image between) (used : UsedAreBytes image) (free : FreeAreBytes image) where
  pub opened : ConvertedVolumesOpen → OpensAsBefore image between
  opened law = law plain ids now image between (c.m, c.r, c.nodes, c.new) size low are tt (all_bytes image used free)

  pub gone_back : ConvertedVolumesGoBack → GoesBack image between
  gone_back law = law plain ids now image between (c.m, c.r, c.nodes, c.new) size low are tt (all_bytes image used free)

-- ---- the rollback

-- each used block is what it was
pub restored : (image between other : Image) → GoesBack image between → IsRolledBack between other → SameUsed (used_of image) image other
restored image between other goes rolled b used =
    rolled.back.used b (subst (λ (u : List Bool). has u b ≡ true) (sym goes.used) used) ∙ goes.blocks b used

-- ---- the steps

-- on the way there
pub there : ConvertedVolumesOpen → ConvertedVolumesGoBack → (ids : Ids) (now : ℕ) (image between : Image) (known : KnownVolume) → now < 2 ^ 63 → AreIds ids → IsKnownVolume image known → IsConverted plain ids now image between
    → (result : Result (Unit {0}) Answer) → MatchResult result (λ _. ListsBtrfs between known.rows) (StopsUnless (ListsBtrfs between known.rows))
    → MatchResult result (λ _. IsConverted plain ids now image between × ListsBtrfs between known.rows × (FreeAreBytes image → GoesBack image between)) (RefusesRound image)
there opens back ids now image between known low are is c (Ok x) rows = (c, rows, λ free. gone_back ids now image between low are c is.bytes free back)
there opens back ids now image between known low are is c (Err e) rows =
    unless_refuses image e rows (λ free. has_rows image between known.rows is.rows (opened ids now image between low are c is.bytes free opens))

-- and back
pub back : (image between other : Image) (known : KnownVolume) → IsKnownVolume image known → (FreeAreBytes image → GoesBack image between) → IsRolledBack between other
    → (result : Result (Unit {0}) Answer) → MatchResult result (λ _. used_mark known.used other ≡ known.mark) (StopsUnless (used_mark known.used other ≡ known.mark))
    → MatchResult result (λ _. IsRolledBack between other × (used_mark (used_of image) other ≡ used_mark (used_of image) image)) (RefusesRound image)
back image between other known is goes rolled (Ok x) mark = (rolled, ap (λ (u : List Bool). used_mark u other) (sym is.used) ∙ (mark ∙ is.mark))
back image between other known is goes rolled (Err e) mark =
    unless_refuses image e mark
    (λ free. ap (λ (u : List Bool). used_mark u other) is.used ∙ (same_mark (used_of image) image other (restored image between other (goes free) rolled) ∙ sym is.mark))

-- what only reads leaves all of it
pub reading_leaves : (old new : History) (result : Result (Unit {0}) Answer) → IfErr result IsTrialReadAnswer → IfErr result (LeavesRound old new)
reading_leaves old new (Ok x) known = tt
reading_leaves old new (Err e) known = read_leaves old new e known

-- all of it
pub round : (ids : Ids) (now : ℕ) (image between other : Image) (known : KnownVolume) (told : TrialSummary) → IsKnownVolume image known → IsConverted plain ids now image between → ListsBtrfs between known.rows → IsRolledBack between other
    → used_mark (used_of image) other ≡ used_mark (used_of image) image → told ≡ summary_of known.rows → IsRound ids now image other × IsTrialSummary image told
round ids now image between other known told is c rows rolled blocks same = (
  record {
    between = between;
    converted = c;
    rows = record { rows = known.rows; before = is.rows; between = rows };
    rolled_back = rolled;
    bytes = is.bytes;
    blocks = blocks;
  },
  (known.rows, is.rows, same),
)
