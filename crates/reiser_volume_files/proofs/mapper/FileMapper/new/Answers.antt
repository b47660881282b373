use Rattle.reiser_volume_files.proofs.Imports.{[], arith, sym, ◌∙◌, All-nil, EndsBy}
use Rattle.reiser_volume_files.proofs.Joining.{no_runs}
use Rattle.reiser_volume_files.proofs.Placing.{nothing_from}
use Rattle.reiser_volume_files.proofs.mapper.FileMapper.new.Goals as goal

pub returns-clause-none : goal.returns-clause-none
returns-clause-none c = record {
  runs = record {
    done = c.new.ensures ∙ sym (no_runs _);
    in_hand = sym (nothing_from [] c.args.size 0 0 (All-nil (EndsBy 0)) (omega arith));
    rest = λ k from. nothing_from [] c.args.size 0 k (All-nil (EndsBy 0)) (omega arith);
  };
  reached = λ b all. omega arith;
}
