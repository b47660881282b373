-- The file that is the saved image, and that nothing is wrong with its extents.
use Rattle.volume_state.proofs.Imports.{◌≡◌, inl, inr, ℕ, ◌/◌, Bool, true, false, List, [], Option, Some, None, refl, sym, ◌∙◌, ap, subst, if◌then◌else◌, option_and_then, and_parts, FS_TREE, Image, BtrRefusal, extents_of, extents_refusals, ImageFile, after_pointer, after_root, entry_refusals, file_if_image, file_refusals, if_there, image_at, image_below, image_entry, image_in, image_refusals_in, inode_number, is_file_mode, is_image, items_at, own_refusals, pointer_in, refusals_below, saved_location, saved_image, tree_number, opening_refusals, or_later, tree_of, IsReadable, SavedImage, own_map, own_super, way_refusals, root_item, roots_on, Super, TreeItem, MapRange, NodePointer, root_of, saved_tree, none_in, later_none}
use Rattle.btr_node.specs.btr_keys.Inode.{inode_of}
use Rattle.btr_node.specs.btr_keys.declared.inode.Inode.{Inode}
use Rattle.btr_reader.specs.btr_reader_names.Inodes.{find_inode_item}
use Rattle.volume_state.proofs.Placed.{no_some, some_is}

and_then_some : {A B : Type 0} (f : A → Option B) (o : Option A) (y : B) → option_and_then f o ≡ Some y → (x : A) × (o ≡ Some x) × (f x ≡ Some y)
and_then_some f None y is = absurd (no_some y is)
and_then_some f (Some x) y is = (x, refl, is)

pub at_root : (next : NodePointer → List BtrRefusal) (root : Option TreeItem) (p : NodePointer) → pointer_in root ≡ Some p → after_root next root ≡ next p
at_root next None p is = absurd (no_some p is)
at_root next (Some i) p is = ap (λ (o : Option NodePointer). after_pointer next i.leaf o) is

pub there : (next : ℕ → List BtrRefusal) (o : Option ℕ) (n : ℕ) → o ≡ Some n → if_there next o ≡ next n
there next o n is = ap (λ (x : Option ℕ). if_there next x) is

-- ---- the way to the image
pub record IsReached (disk : Image) (f : ImageFile) : Type 0 where
  pub p : NodePointer
  pub root : root_of disk FS_TREE ≡ Some p
  pub number : ℕ
  pub saved : saved_tree disk p ≡ Some number
  pub q : NodePointer
  pub at : root_of disk number ≡ Some q
  pub ino : ℕ
  pub extents : f.extents ≡ extents_of (items_at disk (own_super disk) (own_map disk) number q) ino
  pub sound : extents_refusals (own_map disk) 0 0 f.extents ≡ []

-- an image is a regular file
file_of : (extents : List TreeItem) (own : Inode) (t : Bool) (f : ImageFile) → is_image extents own ≡ t
    → (if t then (let g : Option ImageFile = Some (record { extents = extents; blocks = own.size / 4096 }) in g) else None) ≡ Some f → (f.extents ≡ extents) × (is_file_mode own.mode ≡ true)
file_of extents own true f is there = (sym (ap (λ (g : ImageFile). g.extents) (some_is _ f there)), (and_parts (is_file_mode own.mode) _ is).0)
file_of extents own false f is there = absurd (no_some f there)

own_sound : (ranges : List MapRange) (extents : List TreeItem) (leaf : ℕ) (o : Option Inode) (f : ImageFile) → file_if_image extents o ≡ Some f → own_refusals ranges extents leaf o ≡ []
    → (f.extents ≡ extents) × (extents_refusals ranges 0 0 extents ≡ [])
own_sound ranges extents leaf None f is sound = absurd (no_some f is)
own_sound ranges extents leaf (Some own) f is sound =
    let file = file_of extents own (is_image extents own) f refl is in
    (file.0, ap (λ (t : Bool). if t then extents_refusals ranges 0 0 extents else []) (sym file.1) ∙ sound)

file_sound : (ranges : List MapRange) (items : List TreeItem) (ino : ℕ) (o : Option TreeItem) (f : ImageFile) → image_at items ino o ≡ Some f → file_refusals ranges items ino o ≡ []
    → (f.extents ≡ extents_of items ino) × (extents_refusals ranges 0 0 (extents_of items ino) ≡ [])
file_sound ranges items ino None f is sound = absurd (no_some f is)
file_sound ranges items ino (Some i) f is sound = own_sound ranges (extents_of items ino) i.leaf (inode_of i.body) f is sound

module _ (disk : Image) (readable : IsReadable disk SavedImage) where
  abbrev s : Super
  s = own_super disk

  abbrev ranges : List MapRange
  ranges = own_map disk

  way_clear : way_refusals disk ≡ []
  way_clear =
      let opening : opening_refusals disk ≡ [] = none_in (opening_refusals disk) (λ r is. readable r (inl is)) in
      none_in (way_refusals disk) (λ r is. readable r (inr (opening, is)))

  abbrev below : ℕ → List BtrRefusal
  below number = refusals_below disk s ranges number (root_item number (roots_on disk s ranges))

  below_clear : (p : NodePointer) (number : ℕ) → root_of disk FS_TREE ≡ Some p → saved_tree disk p ≡ Some number → below number ≡ []
  below_clear p number root saved =
      let next : NodePointer → List BtrRefusal = λ x. or_later (entry_refusals disk ranges (tree_of s FS_TREE x)) (if_there below (option_and_then tree_number (saved_location (items_at disk s ranges FS_TREE x)))) in
      sym (there below (saved_tree disk p) number saved)
      ∙ later_none (entry_refusals disk ranges (tree_of s FS_TREE p)) (if_there below (saved_tree disk p)) (sym (at_root next (root_item FS_TREE (roots_on disk s ranges)) p root) ∙ way_clear)

  inside_clear : (number : ℕ) (q : NodePointer) → root_of disk number ≡ Some q → below number ≡ [] → image_refusals_in ranges (items_at disk s ranges number q) ≡ []
  inside_clear number q at clear =
      let next : NodePointer → List BtrRefusal = λ x. or_later (entry_refusals disk ranges (tree_of s number x)) (image_refusals_in ranges (items_at disk s ranges number x)) in
      later_none (entry_refusals disk ranges (tree_of s number q)) (image_refusals_in ranges (items_at disk s ranges number q)) (sym (at_root next (root_item number (roots_on disk s ranges)) q at) ∙ clear)

  pub reached : (f : ImageFile) → saved_image disk s ranges ≡ Some f → IsReached disk f
  reached f is =
      let first = and_then_some (λ p. option_and_then (λ number. image_below disk s ranges number (root_item number (roots_on disk s ranges))) (option_and_then tree_number (saved_location (items_at disk s ranges FS_TREE p)))) (root_of disk FS_TREE) f is in
      let second = and_then_some (λ number. image_below disk s ranges number (root_item number (roots_on disk s ranges))) (saved_tree disk first.0) f first.2 in
      let third = and_then_some (λ q. image_in (items_at disk s ranges second.0 q)) (root_of disk second.0) f second.2 in
      let items : List TreeItem = items_at disk s ranges second.0 third.0 in
      let fourth = and_then_some (λ ino. image_at items ino (find_inode_item items ino)) (option_and_then inode_number (image_entry items)) f third.2 in
      let clear = inside_clear second.0 third.0 third.1 (below_clear first.0 second.0 first.1 second.1) in
      let file = file_sound ranges items fourth.0 (find_inode_item items fourth.0) f fourth.2
      (sym (there (λ ino. file_refusals ranges items ino (find_inode_item items ino)) (option_and_then inode_number (image_entry items)) fourth.0 fourth.1) ∙ clear) in
      record {
        p = first.0;
        root = first.1;
        number = second.0;
        saved = second.1;
        q = third.0;
        at = third.1;
        ino = fourth.0;
        extents = file.0;
        sound = subst (λ (extents : List TreeItem). extents_refusals ranges 0 0 extents ≡ []) (sym file.0) file.1;
      }
