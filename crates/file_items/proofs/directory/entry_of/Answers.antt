use Rattle.file_items.proofs.Imports.{◌<◌, ◌∙◌, length, ap, arith, keys, ino_of_key, stat_at, kind_by, volume_items, dir_entry_value, entry_kind}
use Rattle.file_items.proofs.Named.{name_short, entry_made}
use Rattle.file_items.proofs.directory.entry_of.Goals as goal

pub returns-clause-entry : goal.returns-clause-entry
returns-clause-entry c = λ image accepted opened numbered n there.
    let ends = c.link-link.ensures.ends image opened n there in
    let long : length c.link-link.result.name.now < 65536 = omega (arith, ap length (c.link-link.ensures.name n there), name_short c.args.volume.now image c.args.number n accepted opened there) in
    entry_made c.inode.result (ino_of_key (keys c.args.volume.now.named) n.target) (entry_kind c.kind_at.result) (entry_kind (kind_by (stat_at (volume_items image) n.target))) c.key_of-location.result c.short.result.now n.name (dir_entry_value c.new_entry.result)
    c.new_entry.ensures.value c.key_of-location.ensures (c.inode.ensures (keys c.args.volume.now.named) n.target numbered ends.1) (ap entry_kind (c.kind_at.ensures image accepted opened n.target ends.1)) (c.short.ensures.same long ∙ c.link-link.ensures.name n there)
