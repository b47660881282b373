-- The identifiers of a converted volume have their bytes.
use Rattle.convert_core_laws.proofs.Imports.{◌≡◌, ◌≤◌, ℕ, Bool, true, false, List, length, drop, take, ap, ◌∙◌, arith, length-drop, length-take, SUPER_BLOCK, Image, block_at, Ids, fsid_by, AreIds, HasFsid, NewIdsFit}
use Rattle.std.proofs.Common.{if◌then◌else◌}
use Rattle.reiser_volume.specs.reiser_super.declared.superblock.Super.{Super}
use Rattle.convert_core.specs.convert_options.Identifier.{is_nil}
use Rattle.convert_core.specs.convert_options.declared.options.UuidChoice.{UuidChoice}
use Rattle.convert_core.specs.convert_options.declared.options.UuidChoice.TheVariants.{New, Copy, Given}

-- the identifier that is in a superblock
own_long : (block : List ℕ) → 100 ≤ length block → length (take 16 (drop 84 block)) ≡ 16
own_long block long = omega (arith, long, length-take 16 (drop 84 block), length-drop 84 block)

-- the old one, or a new one in its place
either_long : (nil : Bool) (new old : List ℕ) → length new ≡ 16 → length old ≡ 16 → length (if nil then new else old) ≡ 16
either_long true new old n o = n
either_long false new old n o = o

fsid_long : (image : Image) (ids : Ids) (sup : Super) (choice : UuidChoice) → AreIds ids → sup.uuid ≡ take 16 (drop 84 (block_at image SUPER_BLOCK)) → HasFsid image choice → length (fsid_by ids sup choice) ≡ 16
fsid_long image ids sup New are is has = are.fsid
fsid_long image ids sup Copy are is has = either_long (is_nil sup.uuid) ids.fsid sup.uuid are.fsid (ap (λ (l : List ℕ). length l) is ∙ own_long (block_at image SUPER_BLOCK) has)
fsid_long image ids sup (Given id) are is has = has

pub new_ids_fit : NewIdsFit
new_ids_fit = λ image m made are has. record {
  fsid = fsid_long image m.ids m.volume.sup m.options.uuid are (ap (λ (s : Super). s.uuid) made.has_pieces.opened.sup) has;
  device = are.device;
  chunk_tree = are.chunk_tree;
  subvolume = are.subvolume;
}
