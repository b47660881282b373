use Rattle.reiser_bitmap.proofs.Imports.{◌≡◌, ◌*◌, false, Bool, List, length, refl, sym, ◌∙◌, ap, subst, arith, ℕ, same_from_decides, IsReserved, IsFreeUnit, HasNoBits}
use Rattle.reiser_bitmap.proofs.BitLemmas.{length-bits}
use Rattle.reiser_bitmap.proofs.FreeUnits.{decides_free_unit, free_from_no_bits, no_bits_from_free}
use Rattle.reiser_bitmap.proofs.bitmap.Bitmap.unit_is_free.Goals as goal

pub returns-then-u-self-clause-fact : goal.returns-then-u-self-clause-fact
returns-then-u-self-clause-fact c =
    (λ no. absurd (cc), λ free. absurd (omega (arith, free.inside, length-bits c.self.inside.blocks c.self.inside.bytes.items, ap length c.self.view_is, c.if-u-self.true)))

pub returns-then-u-self-clause-test : goal.returns-then-u-self-clause-test
returns-then-u-self-clause-test c = same_from_decides false _ (returns-then-u-self-clause-fact c) (decides_free_unit c.args.self.now c.args.u)

pub returns-then-is_reserved-clause-fact : goal.returns-then-is_reserved-clause-fact
returns-then-is_reserved-clause-fact c =
    let size : c.self.inside.blocks ≡ length c.args.self.now = sym (length-bits c.self.inside.blocks c.self.inside.bytes.items) ∙ ap length c.self.view_is in
    (λ no. absurd (cc), λ free. absurd (free.unreserved (256 * c.args.u) (omega arith) (subst (IsReserved (256 * c.args.u)) size (c.if-is_reserved.ensures.fact.0 refl))))

pub returns-then-is_reserved-clause-test : goal.returns-then-is_reserved-clause-test
returns-then-is_reserved-clause-test c = same_from_decides false _ (returns-then-is_reserved-clause-fact c) (decides_free_unit c.args.self.now c.args.u)

pub returns-clause-fact : goal.returns-clause-fact
returns-clause-fact c =
    let unreserved : IsReserved (256 * c.args.u) c.self.inside.blocks → ⊥ = λ r. let t = c.if-is_reserved.ensures.fact.1 r in absurd (cc) in (
      λ none. subst (λ (used : List Bool). IsFreeUnit used c.args.u) c.self.view_is
          (free_from_no_bits c.self.inside.blocks c.args.u c.self.inside.bytes.items c.if-u-self.false unreserved
          (subst (λ (bytes : List ℕ). HasNoBits bytes (8 * (32 * c.args.u)) 256) c.deref.ensures.value (c.has_no_bits.ensures.0 none))),
      λ free. c.has_no_bits.ensures.1 (subst (λ (bytes : List ℕ). HasNoBits bytes (8 * (32 * c.args.u)) 256) (sym c.deref.ensures.value)
          (no_bits_from_free c.self.inside.blocks c.args.u c.self.inside.bytes.items (subst (λ (used : List Bool). IsFreeUnit used c.args.u) (sym c.self.view_is) free))),
    )

pub returns-clause-test : goal.returns-clause-test
returns-clause-test c = same_from_decides c.has_no_bits.result _ (returns-clause-fact c) (decides_free_unit c.args.self.now c.args.u)
