use Rattle.outside_mem.proofs.Imports.{◌≡◌, ◌+◌, ◌*◌, ◌-◌, ◌++◌, ℕ, List, length, take, drop, ◌∙◌, ap, arith, sector}
use Rattle.std.proofs.lemmas.Slice.{take-put_mid}
use Rattle.outside_mem.proofs.Tearing.{length-sector}
use Rattle.outside_mem.proofs.crash.put_sector.Goals as goal

pub returns-clause-more : goal.returns-clause-more
returns-clause-more c =
    let at : ℕ = c.args.s * 512 in
    let block : List ℕ = c.args.block.now.bytes in
    let put : List ℕ = c.copy_from_slice.new.self in
    let room : length block ≡ 4096 = omega arith in
    let long : length c.args.from.now.bytes ≡ 4096 = omega arith in
    let one : at + 512 - at ≡ 512 = omega arith in
    let is : put ≡ sector c.args.from.now.bytes c.args.s = c.copy_from_slice.ensures.after ∙ ap (λ (k : ℕ). take k (drop at c.args.from.now.bytes)) one in
    let size : length put ≡ 512 = ap (λ (bytes : List ℕ). length bytes) is ∙ length-sector c.args.from.now.bytes c.args.s (omega (arith, long, c.requires)) in
    take-put_mid at (at + 512 - at) block put ((c.args.s + 1) * 512) (omega (arith, size)) (omega (arith, room, c.requires))
    ∙ ap (λ (bytes : List ℕ). take at block ++ bytes) is
