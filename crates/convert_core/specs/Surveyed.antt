-- What is counted of a volume, and the space that a conversion of it needs.
use Rattle.std.specs.Prelude.{◌≡◌, ◌+◌, List}
use Rattle.std.specs.List.Sorted.{IsStrictlySortedBy}
use Rattle.reiser_volume.specs.outside.History.{Image}
use Rattle.reiser_volume.specs.reiser_volume_names.Links.{AreLinks, AreNamedKeys, object_cmp}
use Rattle.reiser_volume.specs.reiser_volume_objects.declared.key.ObjectKey.{ObjectKey}
use Rattle.reiser_volume.specs.reiser_volume_objects.declared.naming.Naming.{Naming}
use Rattle.reiser_volume.specs.Volume.{volume_items}
use Rattle.unit_plan.specs.declared.counts.Counts.{Counts}
use Rattle.unit_plan.specs.declared.need.Need.{Need}
use Rattle.unit_plan.specs.convert_options.declared.options.Options.{Options}
use Rattle.unit_plan.specs.Needed.{need}
use Rattle.extent_pieces.specs.Found.{counts_of}
use Rattle.convert_core.specs.declared.summary.ConvertSummary.{ConvertSummary}
use Rattle.convert_core.specs.declared.survey.Survey.{Survey}

-- The counts of a volume, by the keys of its named objects in their order and by its links, and the space by these.
pub record IsSurvey (o : Options) (image : Image) (told : Survey) : Type 0 where
  pub keys : List ObjectKey
  pub are_keys : AreNamedKeys (volume_items image) keys
  pub ascend : IsStrictlySortedBy object_cmp keys
  pub visible : List Naming
  pub links : List Naming
  pub are_links : AreLinks (volume_items image) visible links
  pub counts_are : told.counts ≡ counts_of o.inline image keys links
  pub need_is : told.need ≡ need told.counts o

-- what is told of a conversion, by what was counted
abbrev pub summary_by : Counts → Need → ConvertSummary
summary_by counts space = record {
  pieces = counts.pieces;
  blocks = counts.piece_blocks;
  copied = counts.copies;
  tails = counts.tails;
  units = space.system + space.metadata + space.data_;
}

-- the summary of a conversion of this volume with these options
abbrev pub IsSummary : Options → Image → ConvertSummary → Type 0
IsSummary o image summary = (told : Survey) × IsSurvey o image told × (summary ≡ summary_by told.counts told.need)
