-- What is decided before the first write of a conversion.
use Rattle.std.specs.Prelude.{◌≡◌, ℕ, List}
use Rattle.command_answers.specs.outside.History.{Image}
use Rattle.command_answers.specs.declared.answer.Answer.{Answer}
use Rattle.command_answers.specs.declared.answer.Answer.TheVariants as answer
use Rattle.command_answers.specs.vol_block.declared.ids.Ids.{Ids}
use Rattle.convert_steps.specs.Making.{ids_by, label_by, label_field}
use Rattle.convert_steps.specs.Source.{HasPieces}
use Rattle.extent_pieces.specs.Found.{IsFound}
use Rattle.extent_pieces.specs.declared.pieces.Pieces.{Pieces}
use Rattle.reiser_volume.specs.reiser_volume_names.Links.{AreLinks}
use Rattle.reiser_volume.specs.reiser_volume_objects.declared.naming.Naming.{Naming}
use Rattle.reiser_volume.specs.reiser_volume_objects.declared.key.ObjectKey.{ObjectKey}
use Rattle.extent_pieces.specs.Laws.{AreSortedKeys}
use Rattle.reiser_volume.specs.Volume.{IsRefusal, used_of, volume_items}
use Rattle.unit_plan.specs.Choice.{HasEnoughSpace, IsPlan, TellsSpace}
use Rattle.unit_plan.specs.Needed.{need as need_of}
use Rattle.unit_plan.specs.convert_options.declared.options.Options.{Options}
use Rattle.unit_plan.specs.declared.plan.PlanAnswer.{PlanAnswer}
use Rattle.unit_plan.specs.declared.plan.PlanAnswer.TheVariants as plan
use Rattle.convert_steps.specs.declared.prepared.Prepared.{Prepared}

-- the units are those of a plan for the needed space
pub record HasPlanFor (p : Prepared) : Type 0 where
  pub enough : HasEnoughSpace p.volume.bitmap p.need
  pub plan : IsPlan p.volume.bitmap p.need p.plan

-- The volume is accepted and has the space; its pieces have their places by a plan, and the options decide the rest.
pub record IsPrepared (image : Image) (o : Options) (ids : Ids) (p : Prepared) : Type 0 where
  pub has_pieces : HasPieces p.volume image o p.plan p.pieces.items.items
  pub counts_are : p.pieces.counts ≡ has_pieces.found.counts
  pub need_is : p.need ≡ need_of p.pieces.counts o
  pub ids_are : p.ids ≡ ids_by ids p.volume.sup o
  pub label_is : p.label ≡ label_field (label_by p.volume.sup o.label)

-- an accepted volume has not the space that its pieces need
pub record LacksSpace (image : Image) (o : Options) (needed free run_needed longest : ℕ) : Type 0 where
  pub keys : List ObjectKey
  pub sorted : AreSortedKeys image keys
  pub visible : List Naming
  pub links : List Naming
  pub are_links : AreLinks (volume_items image) visible links
  pub found : Pieces
  pub found_ : IsFound o.inline image keys links found
  pub space : TellsSpace (used_of image) (need_of found.counts o) needed free run_needed longest

-- The answer where a volume is not prepared: what is wrong with it, or that an accepted one has too little space.
abbrev pub RefusesConversion : Image → Options → Answer → Type 0
RefusesConversion image o (answer.Volume r) = IsRefusal image r
RefusesConversion image o (answer.Btr r) = ⊥
RefusesConversion image o (answer.NoSpace needed free run_needed longest) = LacksSpace image o needed free run_needed longest
RefusesConversion image o answer.WrongFormat = ⊥
RefusesConversion image o answer.ImageMissing = ⊥
RefusesConversion image o (answer.ImageMoved block) = ⊥
RefusesConversion image o (answer.ImageDamaged r) = ⊥
RefusesConversion image o (answer.ReservedUsed block) = ⊥
RefusesConversion image o (answer.NotSound part address) = ⊥
RefusesConversion image o (answer.ImageShared tree) = ⊥
RefusesConversion image o answer.Fault = Unit {0}
RefusesConversion image o answer.Memory = Unit {0}

-- what may be answered whatever the source gives
abbrev pub IsPrepareAnswer : Answer → Type 0
IsPrepareAnswer (answer.Volume r) = Unit {0}
IsPrepareAnswer (answer.Btr r) = ⊥
IsPrepareAnswer (answer.NoSpace needed free run_needed longest) = Unit {0}
IsPrepareAnswer answer.WrongFormat = ⊥
IsPrepareAnswer answer.ImageMissing = ⊥
IsPrepareAnswer (answer.ImageMoved block) = ⊥
IsPrepareAnswer (answer.ImageDamaged r) = ⊥
IsPrepareAnswer (answer.ReservedUsed block) = ⊥
IsPrepareAnswer (answer.NotSound part address) = ⊥
IsPrepareAnswer (answer.ImageShared tree) = ⊥
IsPrepareAnswer answer.Fault = Unit {0}
IsPrepareAnswer answer.Memory = Unit {0}

-- the answer of a command, by that of a plan
abbrev pub by_plan : PlanAnswer → Answer
by_plan (plan.NoSpace needed free run_needed longest) = answer.NoSpace needed free run_needed longest
by_plan plan.Memory = answer.Memory
