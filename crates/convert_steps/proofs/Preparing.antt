-- What is decided before the first write.
use Rattle.convert_steps.proofs.Imports.{◌≡◌, ℕ, Bool, List, Result, Err, sym, ap, subst, ◌∙◌, arith, keys, IsFaultOrMemory, Image, VolAnswer, IsOpened, links_in, IsAccepted, used_of, Volume, HasEnoughSpace, IsAnswer, IsPlan, TellsSpace, AreSmall, need as need_of, Counts, IsPrepareAnswer, RefusesConversion, by_plan, Options}
use Rattle.command_answers.specs.outside.Fault.{HasCauseOf}
use Rattle.command_answers.specs.Answers.{of_volume}
use Rattle.command_answers.specs.declared.answer.Answer.{Answer}
use Rattle.extent_pieces.specs.Found.{IsFound}
use Rattle.extent_pieces.specs.Laws.{HasPlan}
use Rattle.extent_pieces.specs.Placed.{FitsPlan, IsCounted}
use Rattle.extent_pieces.specs.declared.pieces.Pieces.{Pieces}
use Rattle.extent_pieces.proofs.Fitting.{counted_pieces_fit}
use Rattle.reiser_volume.specs.Answers.{RefusesVolume}
use Rattle.unit_plan.specs.declared.need.Need.{Need}
use Rattle.unit_plan.specs.declared.plan.Plan.{Plan}
use Rattle.unit_plan.specs.declared.plan.PlanAnswer.{PlanAnswer}
use Rattle.command_answers.specs.declared.answer.Answer.TheVariants as answer
use Rattle.command_answers.specs.refusals.declared.answer.VolAnswer.TheVariants as vol
use Rattle.unit_plan.specs.declared.plan.PlanAnswer.TheVariants as plan

pub by_open : (image : Image) (o : Options) (a : VolAnswer) → RefusesVolume image a → RefusesConversion image o (of_volume a)
by_open image o (vol.Refused r) h = h
by_open image o vol.Fault h = tt
by_open image o vol.Memory h = tt

pub by_find : (image : Image) (o : Options) (a : VolAnswer) → IsFaultOrMemory a → RefusesConversion image o (of_volume a)
by_find image o (vol.Refused r) h = absurd h
by_find image o vol.Fault h = tt
by_find image o vol.Memory h = tt

pub volume_answers : (a : VolAnswer) → IsPrepareAnswer (of_volume a)
volume_answers (vol.Refused r) = tt
volume_answers vol.Fault = tt
volume_answers vol.Memory = tt

pub plan_answers : (a : PlanAnswer) → IsPrepareAnswer (by_plan a)
plan_answers (plan.NoSpace needed free run_needed longest) = tt
plan_answers plan.Memory = tt

plan_no_fault : (a : PlanAnswer) → by_plan a ≡ answer.Fault → ⊥
plan_no_fault (plan.NoSpace needed free run_needed longest) is = let never : answer.NoSpace needed free run_needed longest ≡ answer.Fault = is in absurd cc
plan_no_fault plan.Memory is = let never : answer.Memory ≡ answer.Fault = is in absurd cc

err_same : {T : Type 0} (a b : Answer) → (let r : Result T Answer = Err a in r) ≡ Err b → a ≡ b
err_same a b is = cc

-- a plan that is refused is no fault
pub plan_cause : {T : Type 0} (before now : ℕ) (a : Answer) (p : PlanAnswer) → a ≡ by_plan p → now ≡ before → HasCauseOf {T = T} answer.Fault before now (Err a)
plan_cause before now a p is same = record {
  later = omega (arith, same);
  failed = λ e. absurd (plan_no_fault p (sym is ∙ err_same a answer.Fault e));
  kept = λ _. same;
}

module _ (volume : Volume) (found : Pieces) (o : Options) (map : List Bool) (counts : Counts) (space : Need) (map_is : map ≡ volume.bitmap) (counts_are : counts ≡ found.counts) (space_is : space ≡ need_of counts o) where
  needs : space ≡ need_of found.counts o
  needs = space_is ∙ ap (λ (c : Counts). need_of c o) counts_are

  pub fits : (p : Plan) → IsCounted volume.bitmap found → AreSmall found.counts → HasEnoughSpace map space → IsPlan map space p → FitsPlan found p.data_
  fits p counted small enough is =
      counted_pieces_fit volume.bitmap found o p counted small
      (subst (λ (n : Need). HasEnoughSpace volume.bitmap n) needs (subst (λ (m : List Bool). HasEnoughSpace m space) map_is enough))
      (subst (λ (n : Need). IsPlan volume.bitmap n p) needs (subst (λ (m : List Bool). IsPlan m space p) map_is is))

  module _ (image : Image) (accepted : IsAccepted image) (opened : IsOpened volume image) (are : IsFound o.inline image (keys volume.named) (links_in volume) found) where
    used : map ≡ used_of image
    used = map_is ∙ opened.bitmap

    pub has_plan : (p : Plan) → HasEnoughSpace map space → IsPlan map space p → HasPlan image found o p
    has_plan p enough is = record {
      keys = keys volume.named;
      sorted = record { accepted = accepted; are_keys = opened.are_keys; ascend = opened.ascends };
      links = links_in volume;
      found_ = are;
      enough = subst (λ (n : Need). HasEnoughSpace (used_of image) n) needs (subst (λ (m : List Bool). HasEnoughSpace m space) used enough);
      plan_ = subst (λ (n : Need). IsPlan (used_of image) n p) needs (subst (λ (m : List Bool). IsPlan m space p) used is);
    }

    pub plan_refuses : (a : PlanAnswer) → IsAnswer map space a → RefusesConversion image o (by_plan a)
    plan_refuses (plan.NoSpace needed free run_needed longest) h = record {
      keys = keys volume.named;
      sorted = record { accepted = accepted; are_keys = opened.are_keys; ascend = opened.ascends };
      visible = opened.visible;
      links = links_in volume;
      are_links = opened.are_links;
      found = found;
      found_ = are;
      space = subst (λ (n : Need). TellsSpace (used_of image) n needed free run_needed longest) needs (subst (λ (m : List Bool). TellsSpace m space needed free run_needed longest) used h);
    }
    plan_refuses plan.Memory h = tt
