-- The space that a volume lacks, and the space that `inspect` tells of.
use Rattle.volume_app.proofs.Imports.{◌≡◌, ◌∙◌, ◌≤◌, ℕ, ◌+◌, length, refl, sym, ap, subst, surveys_are_one, IsSurvey, LacksSpace, Survey, Options, used_of, Image, need, InspectTellsSpace, IsReiserSummary, ReiserSummary, HasEnoughSpace, longest_run}
use Rattle.unit_plan.specs.declared.need.Need.{Need}
use Rattle.volume_app.proofs.Convertible.{lacks_before}

module _ (o : Options) (disk : Image) (needed free run longest : ℕ) (l : LacksSpace disk o needed free run longest) where
  -- what was counted of the volume
  abbrev pub lacking_survey : Survey
  lacking_survey = record { counts = l.found.counts; need = need l.found.counts o }

  pub is_lacking_survey : IsSurvey o disk lacking_survey
  is_lacking_survey = record {
    keys = l.keys;
    are_keys = l.sorted.are_keys;
    ascend = l.sorted.ascend;
    visible = l.visible;
    links = l.links;
    are_links = l.are_links;
    counts_are = l.found_.counts_are;
    need_is = refl;
  }

  -- the space that any survey of the volume has is missing
  pub missing : (told : Survey) → IsSurvey o disk told → HasEnoughSpace (used_of disk) told.need → ⊥
  missing told is enough =
      l.space.missing (subst (λ (s : Survey). HasEnoughSpace (used_of disk) s.need) (surveys_are_one o disk told lacking_survey is is_lacking_survey) enough)

  -- and is the space that the refusal tells of
  pub need_told : (told : Survey) → IsSurvey o disk told → need l.found.counts o ≡ told.need
  need_told told is = ap (λ (s : Survey). s.need) (surveys_are_one o disk lacking_survey told is_lacking_survey is)

pub inspect_tells_space : InspectTellsSpace
inspect_tells_space o disk told is = record {
  suffices = λ units run needed free run_needed longest lacks.
      missing o disk needed free run_needed longest (lacks_before o disk needed free run_needed longest lacks) is.survey is.surveyed
      (record {
        units = subst (λ (t : ReiserSummary). t.needed ≤ t.units) is.is units;
        run = subst (λ (t : ReiserSummary). t.run ≤ longest_run (used_of disk)) is.is run;
      });
  same = λ needed free run longest lack.
      let lacks = lacks_before o disk needed free run longest lack in
      let space = need_told o disk needed free run longest lacks is.survey is.surveyed in (
        lacks.space.needed_is ∙ (ap (λ (n : Need). n.system + n.metadata + n.data_) space ∙ sym (ap (λ (t : ReiserSummary). t.needed) is.is)),
        lacks.space.free_is ∙ sym (ap (λ (t : ReiserSummary). t.units) is.is),
        lacks.space.run_needed_is ∙ (ap (λ (n : Need). n.system) space ∙ sym (ap (λ (t : ReiserSummary). t.run) is.is)),
        lacks.space.longest_is,
      );
}
