use Rattle.btr_check_files.proofs.Imports.{sym, ◌∙◌}
use Rattle.btr_check_files.proofs.Tallying.{extref_count, no_names, ref_count}
use Rattle.btr_check_files.proofs.counting.name_count.Goals as goal

pub returns-then-key-eq-INODE_REF : goal.returns-then-key-eq-INODE_REF
returns-then-key-eq-INODE_REF c = c.refs_in.ensures ∙ sym (ref_count (c.args.key.now, c.args.body.now) c.if-key-eq-INODE_REF.true)

pub returns-then-key-eq-INODE_EXTREF : goal.returns-then-key-eq-INODE_EXTREF
returns-then-key-eq-INODE_EXTREF c = c.extrefs_in.ensures ∙ sym (extref_count (c.args.key.now, c.args.body.now) c.if-key-eq-INODE_EXTREF.true)

pub returns-else-key-eq-INODE_EXTREF : goal.returns-else-key-eq-INODE_EXTREF
returns-else-key-eq-INODE_EXTREF c = sym (no_names (c.args.key.now, c.args.body.now) c.if-key-eq-INODE_REF.false c.if-key-eq-INODE_EXTREF.false)
