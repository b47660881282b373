use Rattle.file_items.proofs.files.FileTree.take_entries.Goals as goal

pub returns-then-is_directory-clause-entries : goal.returns-then-is_directory-clause-entries
returns-then-is_directory-clause-entries c = λ image known key at kind_is. c.gather.ensures image known key at
