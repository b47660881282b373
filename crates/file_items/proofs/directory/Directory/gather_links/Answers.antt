use Rattle.file_items.proofs.Imports.{◌<◌, ◌+◌, ◌∷◌, [], ◌∙◌, ap, ℕ, List, length, map, take, get_or, subst, arith, slice_get, take_all, map-append, slice_get-get_or, Kind, keys, DirEntryValue, dir_entry_value, Spot, told_long, ObjectKey, Naming, stat_at, kind_by, links_in, volume_items, HasEntry, HasEntries, IndexedLink, indexed, indexed_links, names_in}
use Rattle.file_items.proofs.Linked.{entry_at}
use Rattle.file_items.proofs.Named.{entries_of_dir, told_here, index_is, entries_more, dir_of}
use Rattle.file_items.proofs.directory.Directory.gather_links.Goals as goal

pub loop-i-preserved : goal.loop-i-preserved
loop-i-preserved c = λ image known key at.
    let all : List ObjectKey = keys c.args.volume.now.named in
    let links : List Naming = links_in c.args.volume.now in
    let spots : List Spot = c.names_in-spots.result.now in
    let es : List IndexedLink = names_in links key in
    let kind : ObjectKey → Kind = λ (k : ObjectKey). kind_by (stat_at (volume_items image) k) in
    let spot : Spot = get_or spots c.loop-i.i (record { of = 0; number = 0 }) in
    let within : c.loop-i.i < length spots = omega arith in
    let told = told_here links es spots c.loop-i.i spot (entries_of_dir c.args.volume.now c.args.links.now c.args.numbers image known c.args.place key at spots c.names_in-spots.ensures.spots) (slice_get-get_or spots c.loop-i.i (record { of = 0; number = 0 }) within) in
    let own = entry_at [] links spot.number told.entry told.there in
    let index = index_is c.args.volume.now c.args.links.now c.args.numbers image known c.args.place key at spot.number told.entry c.index_in-index.result told.there (dir_of links key c.loop-i.i told.entry told.at) c.index_in-index.ensures in
    let entry = c.entry_of.ensures.entry image known.accepted known.opened known.numbers_are told.entry.link own.link in
    entries_more c.args.ino (map (indexed kind all) (take c.loop-i.i es)) (map (indexed kind all) (take (c.loop-i.i + 1) es)) (indexed kind all told.entry) c.loop-i.self c.add_entry.new.self (c.loop-i.invariant image known key at)
    (subst (λ (v : DirEntryValue). HasEntry c.args.ino (told.entry.index, v) c.loop-i.self c.add_entry.new.self) entry (subst (λ (n : ℕ). HasEntry c.args.ino (n, dir_entry_value c.entry_of.result) c.loop-i.self c.add_entry.new.self) index c.in_ok-add_entry.ensures))
    (ap (map (indexed kind all)) told.more ∙ map-append (indexed kind all) (take c.loop-i.i es) (told.entry ∷ []))

pub returns : goal.returns
returns c = λ image known key at.
    let all : List ObjectKey = keys c.args.volume.now.named in
    let links : List Naming = links_in c.args.volume.now in
    let spots : List Spot = c.names_in-spots.result.now in
    let es : List IndexedLink = names_in links key in
    let long = told_long (λ (s : Spot). slice_get (indexed_links links) s.number) spots es (entries_of_dir c.args.volume.now c.args.links.now c.args.numbers image known c.args.place key at spots c.names_in-spots.ensures.spots) in
    subst (λ (l : List IndexedLink). HasEntries c.args.ino (map (indexed (λ k. kind_by (stat_at (volume_items image) k)) all) l) c.loop-i.self) (take_all c.loop-i.i es (omega (arith, long, c.loop-i-test.false))) (c.loop-i.invariant image known key at)
