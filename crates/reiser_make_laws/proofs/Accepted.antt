-- Samples are accepted.
use Rattle.reiser_make_laws.proofs.Imports.{◌≡◌, ℕ, Bool, length, map, sym, ◌∙◌, ap, length-map-range_with_len, Image, is_marked, items, shape, items_of_tree, superblock, used_of, reiser_tree_of, volume_items, FitsSample, made, content, laid_content}
use Rattle.reiser_make_laws.specs.Accepted.{SamplesHaveObjects, SamplesHaveNames, SamplesAreAccepted}
use Rattle.reiser_make_laws.proofs.Cleanness.{clean}
use Rattle.reiser_make_laws.proofs.Items.{samples_items}
use Rattle.reiser_make_laws.proofs.Keeping.{objects_are, names_hold}
use Rattle.reiser_make_laws.proofs.Marked.{marks_system}
use Rattle.reiser_make_laws.proofs.Objects.{shape_is}
use Rattle.reiser_make_laws.proofs.Sound.{trees_sound}

-- the items that a reader finds are those of the layout
pub found_items : (number : ℕ) (old : Bool) (blocks : ℕ) (image : Image) → FitsSample number old blocks image
    → map content (volume_items (made (shape number old) blocks image)) ≡ map (laid_content (shape number old)) (items (shape number old))
found_items number old blocks image fits =
    let volume : Image = made (shape number old) blocks image in
    let size : length (used_of volume) ≡ (superblock volume).blocks = length-map-range_with_len (is_marked volume) 0 (superblock volume).blocks in
    ap (λ n. map content (items_of_tree (reiser_tree_of (superblock volume)) volume n)) (sym size) ∙ samples_items number old blocks image fits

pub have_objects : SamplesHaveObjects
have_objects number old blocks image fits = objects_are (shape number old) (shape_is number old fits.number_low) (volume_items (made (shape number old) blocks image)) (found_items number old blocks image fits)

pub have_names : SamplesHaveNames
have_names number old blocks image fits = names_hold (shape number old) (shape_is number old fits.number_low) (volume_items (made (shape number old) blocks image)) (found_items number old blocks image fits)

pub accepted : SamplesAreAccepted
accepted number old blocks image fits = record {
  clean = clean number old blocks image fits;
  system = marks_system number old blocks image fits;
  tree = trees_sound number old blocks image fits;
  objects = have_objects number old blocks image fits;
  names = have_names number old blocks image fits;
}
