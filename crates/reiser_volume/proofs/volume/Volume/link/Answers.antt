use Rattle.reiser_volume.proofs.Imports.{◌≡◌, ◌<◌, ℕ, length, get_or, Some, Contains, sym, ap, subst, refl, ◌∙◌, arith, slice_get, slice_get_read, slice_get_within, get_or_from_slice_get, keys, Naming, some_same, Volume, links_in}
use Rattle.reiser_volume.proofs.Filing.{dir_known, target_known}
use Rattle.reiser_volume.proofs.Placing.{as_many, inside, place_there}
use Rattle.reiser_volume.proofs.volume.Volume.link.Goals as goal

-- the place of the link among the entries
place : (volume : Volume) (i p : ℕ) → i < length (links_in volume) → p ≡ get_or volume.links.items i p → slice_get volume.links.items i ≡ Some p
place volume i p within is =
    let many = as_many volume.objects.namings.items (links_in volume) volume.links.items volume.at in
    slice_get_read volume.links.items (length volume.links.items) i p refl (omega (arith, within, many)) is

below : (volume : Volume) (i p : ℕ) → i < length (links_in volume) → p ≡ get_or volume.links.items i p → p < length volume.objects.namings.items
below volume i p within is = inside volume.objects.namings.items (links_in volume) volume.links.items volume.at i p within (place volume i p within is)

pub index-naming-requires : goal.index-naming-requires
index-naming-requires c =
    let volume : Volume = c.args.self.now in
    omega (arith, below volume c.args.i c.index.result.now c.requires c.index.ensures, volume.objects.namings.ok.0)

-- the entry that was found is the link
found : (volume : Volume) (i p : ℕ) (n m : Naming) → i < length (links_in volume) → p ≡ get_or volume.links.items i p → m ≡ get_or volume.objects.namings.items p m → slice_get (links_in volume) i ≡ Some n → m ≡ n
found volume i p n m within is at link =
    let all = volume.objects.namings.items in
    let there = place_there all (links_in volume) volume.links.items volume.at i p n (place volume i p within is) link in
    some_same (slice_get all p) m n (slice_get_read all (length all) p m refl (below volume i p within is) at) there

pub returns-clause-name : goal.returns-clause-name
returns-clause-name c = λ n link. c.bytes.ensures ∙ ap (λ (m : Naming). m.name) (found c.args.self.now c.args.i c.index.result.now n c.index-naming.result.now c.requires c.index.ensures c.index-naming.ensures link)

pub returns-clause-ends : goal.returns-clause-ends
returns-clause-ends c = λ image opened n link.
    let volume : Volume = c.args.self.now in
    let same = found volume c.args.i c.index.result.now n c.index-naming.result.now c.requires c.index.ensures c.index-naming.ensures link in
    let among : Contains (links_in volume) n = (c.args.i, slice_get_within (links_in volume) c.args.i n link, get_or_from_slice_get (links_in volume) c.args.i n n link) in (
      c.place_of.ensures (subst (λ (m : Naming). Contains (keys volume.named) m.dir) (sym same) (dir_known image volume opened n among)) ∙ ap (λ (m : Naming). Some m.dir) same,
      c.place_of-2.ensures (subst (λ (m : Naming). Contains (keys volume.named) m.target) (sym same) (target_known image volume opened n among)) ∙ ap (λ (m : Naming). Some m.target) same,
    )
