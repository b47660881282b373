-- What holds of surveys.
use Rattle.std.specs.Prelude.{◌≡◌}
use Rattle.reiser_volume.specs.outside.History.{Image}
use Rattle.unit_plan.specs.convert_options.declared.options.Options.{Options}
use Rattle.convert_core.specs.declared.survey.Survey.{Survey}
use Rattle.convert_core.specs.Surveyed.{IsSurvey}

-- a volume has one survey for a conversion with some options
abbrev pub SurveysAreOne : Type 0
SurveysAreOne = (o : Options) (image : Image) (told other : Survey) → IsSurvey o image told → IsSurvey o image other → told ≡ other
