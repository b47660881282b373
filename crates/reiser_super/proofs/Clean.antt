-- No rule of the superblock fails exactly where each of its conditions holds.
use Rattle.reiser_super.proofs.Imports.{◌≡◌, ℕ, List, Bool, true, false, cond, refl, Option, Some, None, and_parts, and_from, not-true, leb-true, ltb-true, eqb-true, le-leb, lt-ltb, eq-eqb, not_from_false, Super, IsInBounds, IsCleanSuper, is_in_bounds, superblock_refusal}
use Rattle.refusals.specs.declared.refusal.VolumeRefusal.{VolumeRefusal}
use Rattle.std.specs.Bool.{Decides}

-- a rule holds, and none of those after it is broken
holds : (b : Bool) (o : Option VolumeRefusal) (e : VolumeRefusal) → cond b o (Some e) ≡ None → (b ≡ true) × (o ≡ None)
holds true o e h = (refl, h)
holds false o e h = cc

goes_on : (b : Bool) (o : Option VolumeRefusal) (e : VolumeRefusal) → b ≡ true → o ≡ None → cond b o (Some e) ≡ None
goes_on true o e h k = k
goes_on false o e h k = cc

decides_bounds : (s : Super) → Decides (is_in_bounds s) (IsInBounds s)
decides_bounds s = (
  λ h. let height = and_parts _ _ (and_parts _ _ h).0 in
      let root = and_parts _ _ (and_parts _ _ h).1 in
      let first = and_parts _ _ root.1 in
      let size = and_parts _ _ first.1 in
      let end = and_parts _ _ size.1 in
      record {
        height_low = leb-true _ _ height.0;
        height_high = leb-true _ _ height.1;
        root = ltb-true _ _ root.0;
        journal_first = leb-true _ _ first.0;
        journal_size = leb-true _ _ size.0;
        journal_end = ltb-true _ _ end.0;
        blocks = leb-true _ _ end.1;
      },
  λ b. and_from _ _ (and_from _ _ (le-leb _ _ b.height_low) (le-leb _ _ b.height_high))
      (and_from _ _ (lt-ltb _ _ b.root) (and_from _ _ (le-leb _ _ b.journal_first) (and_from _ _ (le-leb _ _ b.journal_size) (and_from _ _ (lt-ltb _ _ b.journal_end) (le-leb _ _ b.blocks))))),
)

pub clean_from_none : (bytes : List ℕ) (device : ℕ) → superblock_refusal bytes device ≡ None → IsCleanSuper bytes device
clean_from_none bytes device h =
    let there = holds _ _ _ h in
    let magic = holds _ _ _ there.1 in
    let size = holds _ _ _ magic.1 in
    let here = holds _ _ _ size.1 in
    let checker = holds _ _ _ here.1 in
    let count = holds _ _ _ checker.1 in
    let mount = holds _ _ _ count.1 in
    let bounds = holds _ _ _ mount.1 in
    let fits = holds _ _ _ bounds.1 in
    record {
      there = ltb-true _ _ (and_parts _ _ there.0).0;
      magic = (and_parts _ _ there.0).1;
      new_magic = not-true _ magic.0;
      blocks_fit = eqb-true _ _ size.0;
      journal_here = eqb-true _ _ here.0;
      undamaged = eqb-true _ _ checker.0;
      count = leb-true _ _ count.0;
      unmounted = eqb-true _ _ mount.0;
      bounds = (decides_bounds _).0 bounds.0;
      fits = leb-true _ _ fits.0;
    }

pub none_from_clean : (bytes : List ℕ) (device : ℕ) → IsCleanSuper bytes device → superblock_refusal bytes device ≡ None
none_from_clean bytes device c =
    goes_on _ _ _ (and_from _ _ (lt-ltb _ _ c.there) c.magic)
    (goes_on _ _ _ (not_from_false _ c.new_magic)
    (goes_on _ _ _ (eq-eqb _ _ c.blocks_fit)
    (goes_on _ _ _ (eq-eqb _ _ c.journal_here)
    (goes_on _ _ _ (eq-eqb _ _ c.undamaged)
    (goes_on _ _ _ (le-leb _ _ c.count)
    (goes_on _ _ _ (eq-eqb _ _ c.unmounted)
    (goes_on _ _ _ ((decides_bounds _).1 c.bounds)
    (goes_on _ _ _ (le-leb _ _ c.fits) refl))))))))
