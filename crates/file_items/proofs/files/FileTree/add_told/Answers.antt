use Rattle.file_items.proofs.Imports.{◌≡◌, ◌<◌, ◌∙◌, ◌^◌, ℕ, Option, List, filter, length, map, count_by, ap, refl, sym, subst, arith, slice_get, option_map_or, on_ok_weaker, is_directory, Kind, Directory, keys, is_under, Spot, told_long, same_key, items_of, ObjectStat, Super, accepted_is_small, links_in, superblock, Volume, Piece, HoldsInline, pieces_of, piece_bytes, HasEntries, inode_from, IsKnown, indexed_in, letters, Source, source_of, kind_in, size_in, ino_of, Basis}
use Rattle.file_items.proofs.Beginning.{begins, bytes_held, inode_of_object, letters_small, links_count, links_small}
use Rattle.file_items.proofs.Held.{stat_is}
use Rattle.file_items.proofs.files.FileTree.add_told.Goals as goal

pub returns-clause-next : goal.returns-clause-next
returns-clause-next g c = λ image known placed key at kind_is holds.
    let volume : Volume = c.args.volume.now in
    let place : ℕ = c.args.place in
    let kind : Kind = c.args.kind in
    let held : Option ℕ = c.args.held in
    let block : List ℕ = c.args.block.now.bytes in
    let basis : Basis = c.args.self.now.basis in
    let all : List Piece = g.P.PieceList.pieces c.args.pieces.now in
    let s : Source = source_of volume all basis.inline basis.datasum image in
    let ino : ℕ = c.inode-ino.result in
    let stat : ObjectStat = c.stat-stat.result.now in
    let same = c.take_entries.ensures.basis in
    let ino_is : ino ≡ ino_of s key = c.inode-ino.ensures (keys volume.named) key known.numbers_are at in
    let own = stat_is volume image place key stat known.opened at (c.stat-stat.ensures key at) in
    let entries : kind ≡ Directory → HasEntries ino (indexed_in (kind_in s) s.keys s.links key) c.take_entries.new.self.directory = λ is. c.in_ok-take_entries.ensures.entries image known key at is in
    let few : letters (indexed_in (kind_in s) s.keys s.links key) < 2 ^ 62 = letters_small volume basis.links basis.numbers image known place key at (kind_in s) (keys volume.named) key in
    let size_is = c.size_of.ensures s key (λ is. let has = (entries is).letters_are in (omega (arith, has, few), omega (arith, has, few))) stat (c.stat-stat.ensures key at) at (ap (λ (t : ObjectStat). t.fields.size) own) in
    let low = (accepted_is_small image known.accepted).blocks in
    let holds_by = subst (λ (k : Kind). HoldsInline basis.inline (items_of key s.items) (size_in s key) k held block) kind_is holds in
    let bytes_are =
    c.bytes_of.ensures (superblock image).blocks (omega (arith, low)) placed
    ∙ (ap (λ (i : ℕ). option_map_or (λ n. n) held (piece_bytes (pieces_of all i))) ino_is ∙ bytes_held s key held block holds_by) in
    let counted = ap (λ (b : Basis). length (filter (is_under place) b.links.by_target)) same ∙ links_count volume basis.links basis.numbers image known place key at in
    let links_are = c.links_of.ensures (count_by (λ n. same_key n.target key) (links_in volume)) counted (λ other. links_small volume basis.links basis.numbers image known place key at (sym (ap is_directory kind_is) ∙ other)) in
    let flags_are = ap (λ (p : Super). p.flags) c.sup.ensures in
    let inode_is =
    c.inode_from-inode.ensures
    ∙ (ap (λ (b : Basis). inode_from b.datasum c.sup.result.now.flags stat kind c.size_of.result c.bytes_of.result c.links_of.result) same
    ∙ inode_of_object s key c.sup.result.now.flags stat kind c.size_of.result c.bytes_of.result c.links_of.result flags_are own kind_is size_is bytes_are links_are) in
    let names = c.in_ok-add_names.ensures.names s image (subst (λ (b : Basis). IsKnown volume b.links b.numbers image) (sym same) known) refl refl key at in
    let told =
    ap (map (λ (p : Spot). slice_get all p.number)) c.under-count.ensures
    ∙ (ap (λ (b : Basis). map (λ (p : Spot). slice_get all p.number) (filter (is_under ino) b.owners)) (c.add_names.ensures.basis ∙ same) ∙ c.requires.fits.owners_are ino) in
    let long = told_long (λ (p : Spot). slice_get all p.number) c.under-count.result.now (pieces_of all ino) told in
    let count_is = long ∙ ap (λ (i : ℕ). length (pieces_of all i)) ino_is in
    let content = c.add_content.ensures.content s key ino_is count_is kind_is (λ is. subst (HasEntries ino (indexed_in (kind_in s) s.keys s.links key)) (sym c.add_names.ensures.directory) (entries is)) holds in
    on_ok_weaker c.add_content.result
    (begins s key c.add_content.new.self.file ino c.inode_from-inode.result c.args.items.now c.add_inode.new.items c.add_names.new.items c.add_content.new.items ino_is inode_is c.in_ok-add_inode.ensures names) content
