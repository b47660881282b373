use Rattle.file_items.proofs.Imports.{◌≡◌, ◌++◌, ◌∷◌, [], ◌∙◌, ℕ, List, true, map, refl, sym, subst, arith, Kind, keys, DirEntryValue, dir_entry_value, ObjectKey, Naming, root, same_key, stat_at, kind_by, links_in, volume_items, HasEntry, HasEntries, Indexed, indexed, names_in, next_index, saved_entry}
use Rattle.file_items.proofs.Named.{dir_count, index_small, with_saved, entries_more}
use Rattle.file_items.proofs.directory.Directory.gather.Goals as goal

pub returns-in_ok-add_entry : goal.returns-in_ok-add_entry
returns-in_ok-add_entry c = λ image known key at.
    let all : List ObjectKey = keys c.args.volume.now.named in
    let links : List Naming = links_in c.args.volume.now in
    let kind : ObjectKey → Kind = λ (k : ObjectKey). kind_by (stat_at (volume_items image) k) in
    let list : List Indexed = map (indexed kind all) (names_in links key) in
    let is_root : same_key key root ≡ true = sym (c.is_root.ensures all key known.numbers_are at) ∙ c.if-is_root.true in
    let count = dir_count c.args.volume.now c.args.links.now c.args.numbers image known c.args.place key at c.names_in.result.now c.names_in.ensures.spots in
    let small = index_small c.args.volume.now image key known.accepted known.opened in
    let index : c.index_at-index.result ≡ next_index links key = c.index_at-index.ensures (omega (arith, count, small)) ∙ count in
    let base = c.in_ok-gather_links.ensures image known key at in
    subst (λ (l : List Indexed). HasEntries c.args.ino l c.add_entry.new.self) (with_saved kind all links key is_root)
    (entries_more c.args.ino list (list ++ (next_index links key, saved_entry) ∷ []) (next_index links key, saved_entry) c.gather_links.new.self c.add_entry.new.self base
    (subst (λ (v : DirEntryValue). HasEntry c.args.ino (next_index links key, v) c.gather_links.new.self c.add_entry.new.self) c.saved_entry.ensures.entry
    (subst (λ (n : ℕ). HasEntry c.args.ino (n, dir_entry_value c.saved_entry.result) c.gather_links.new.self c.add_entry.new.self) index c.in_ok-add_entry.ensures)) refl)
