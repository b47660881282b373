use Rattle.outside_mem.proofs.Imports.{refl, ◌≡◌, ◌*◌, ◌∷◌, ◌++◌, ℕ, List, length, get_or, take, sym, ◌∙◌, ap, arith, length-replicate, take_all, written, by_number, sectors_of, sector, calls_of}
use Rattle.outside_mem.proofs.Tearing.{sectors_more}
use Rattle.outside_mem.proofs.crash.torn.Goals as goal

pub loop-s-init : goal.loop-s-init
unfolding sectors_of
loop-s-init c = record { done = refl; whole = ap (λ (bytes : List ℕ). length bytes) c.zero-block.ensures ∙ length-replicate {A = ℕ} 4096 0 }

pub loop-s-preserved : goal.loop-s-preserved
loop-s-preserved c =
    let value : ℕ → List ℕ = λ s. by_number (c.args.synced.now.bytes ∷ written (calls_of c.args.calls.now) c.args.n) (get_or c.args.numbers.now s 0) in
    record {
      done = c.put_sector.ensures.more
          ∙ ap (λ (from : List ℕ). take (c.loop-s.s * 512) c.loop-s.block.bytes ++ sector from c.loop-s.s) c.chosen.ensures
          ∙ sectors_more value c.loop-s.s (take (c.loop-s.s * 512) c.loop-s.block.bytes) c.loop-s.invariant.done;
      whole = c.put_sector.ensures.whole;
    }

pub returns : goal.returns
returns c =
    let value : ℕ → List ℕ = λ s. by_number (c.args.synced.now.bytes ∷ written (calls_of c.args.calls.now) c.args.n) (get_or c.args.numbers.now s 0) in
    let all : c.loop-s.s ≡ 8 = omega arith in
    sym (take_all (c.loop-s.s * 512) c.loop-s.block.bytes (omega (arith, all, c.loop-s.invariant.whole)))
    ∙ c.loop-s.invariant.done
    ∙ ap (λ (k : ℕ). sectors_of value k) all
