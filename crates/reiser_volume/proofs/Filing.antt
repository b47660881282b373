-- A named object that is told by its place.
use Rattle.reiser_volume.proofs.Imports.{◌≡◌, ℕ, true, List, [], ◌∷◌, Option, Some, Contains, unwrap_or, refl, sym, ap, ◌∙◌, slice_get, slice_get_within, get_or_from_slice_get, keys, get, Image, ObjectKey, Naming, ObjectStat, same_key, namings, is_followed, IsNamed, ReiserItem, Volume, IsOfVolume, no_stat, stat_at, IsOpened, links_in, IsAccepted, volume_items}
use Rattle.reiser_volume.proofs.Leading.{link_entry, leads_named}

module _ (image : Image) (volume : Volume) (accepted : IsAccepted image) (opened : IsOpened volume image) (i : ℕ) (key : ObjectKey) (at : slice_get (keys volume.named) i ≡ Some key) where
  among : Contains (keys volume.named) key
  among = (i, slice_get_within (keys volume.named) i key at, get_or_from_slice_get (keys volume.named) i key key at)

  pub placed : IsOfVolume image volume key
  placed = record { accepted = accepted; opened = opened; named = (opened.are_keys.exact key).0 among }

  -- its size is that of its stat data
  pub size_there : (stat : ObjectStat) → get same_key volume.named key ≡ Some stat → stat.fields.size ≡ (stat_at (volume_items image) key).fields.size
  size_there stat is = ap (λ (o : Option ObjectStat). (unwrap_or o no_stat).fields.size) (sym is ∙ opened.stats key among)

module _ (image : Image) (volume : Volume) (opened : IsOpened volume image) (n : Naming) (link : Contains (links_in volume) n) where
  abbrev items : List ReiserItem
  items = volume_items image

  entry : Contains (namings items) n × (is_followed n ≡ true) × IsNamed items n.dir
  entry = link_entry items opened.visible (links_in volume) opened.are_links n link

  -- the directory of a link and the object that it names are named objects
  pub dir_known : Contains (keys volume.named) n.dir
  dir_known = (opened.are_keys.exact n.dir).1 entry.2

  pub target_known : Contains (keys volume.named) n.target
  target_known = (opened.are_keys.exact n.target).1 (leads_named items opened.visible (links_in volume) opened.are_links n.dir n.target (n.name ∷ []) entry.2 (n, link, refl, refl, refl))
