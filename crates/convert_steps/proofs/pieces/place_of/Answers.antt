use Rattle.convert_steps.proofs.Imports.{◌≡◌, ◌-◌, ℕ, refl, ap, ◌∙◌, arith, slice_get, keys, ino_of_key, by_inode}
use Rattle.convert_steps.proofs.Placed.{named_number}
use Rattle.convert_steps.proofs.pieces.place_of.Goals as goal

pub returns-then-n-count-clause-named : goal.returns-then-n-count-clause-named
returns-then-n-count-clause-named c = λ image accepted opened key among is.
    let number = named_number c.args.volume.now image key accepted opened among in
    let same : c.in_ok-n.n ≡ c.args.inode - 256 = c.in_ok-n.ensures.1 in
    absurd (omega (arith, same, is, number.few, c.if-n-count.true, c.count.ensures.exact))

pub returns-clause-named : goal.returns-clause-named
returns-clause-named c = λ image accepted opened key among is.
    let number = named_number c.args.volume.now image key accepted opened among in
    let same : c.in_ok-n.n ≡ c.args.inode - 256 = c.in_ok-n.ensures.1 in
    let n_is : c.in_ok-n.n ≡ ino_of_key (keys c.args.volume.now.named) key - 256 = same ∙ ap (λ (m : ℕ). m - 256) is in (
      c.place.result,
      refl,
      c.place.ensures.place (keys c.args.volume.now.named) (c.new.ensures.numbered image opened) (omega (arith, n_is, number.few))
          ∙ (ap (slice_get (by_inode (keys c.args.volume.now.named))) n_is ∙ number.there),
    )
