use Rattle.reiser_volume_files.proofs.Imports.{◌≡◌, ◌+◌, ◌∙◌, ◌≤◌, arith, ap, ℕ, None, div_ceil, FileMapper, block_from, file_runs}
use Rattle.reiser_volume_files.proofs.Joining.{runs_closed, runs_settled}
use Rattle.reiser_volume_files.proofs.Placing.{from_past}
use Rattle.reiser_volume_files.proofs.mapper.FileMapper.finish.Goals as goal
use Rattle.reiser_volume_files.proofs.mapper.FileMapper.finish.Goals.{then-self-block_count+in_ok-extend, else-self-block_count}

pub returns : goal.returns
returns c = λ given maps.
    let past : (k : ℕ) → div_ceil c.args.self.size 4096 ≤ k → block_from given c.args.self.size k ≡ None = λ k h. from_past given c.args.self.size k (omega (arith, h)) in
    elim c.if-self-block_count.branch as (λ _. c.if-self-block_count.self.map ≡ file_runs given c.args.self.size) [
      | then-self-block_count+in_ok-extend w ↦
          ap (λ (m : FileMapper). m.map) w.self-is ∙ runs_closed c.args.self w.extend.new.map (block_from given c.args.self.size) w.in_ok-extend.ensures.ok maps.runs
          ∙ runs_settled (block_from given c.args.self.size) (c.args.self.next + 1) (div_ceil c.args.self.size 4096) maps.runs.rest past
      | else-self-block_count w ↦
          ap (λ (m : FileMapper). m.map) w.self-is ∙ maps.runs.done
          ∙ runs_settled (block_from given c.args.self.size) c.args.self.next (div_ceil c.args.self.size 4096) (λ k h. past k (omega (arith, h, w.if-self-block_count.false, c.block_count.ensures.exact))) past
    ]
