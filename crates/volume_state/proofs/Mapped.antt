-- The map that was read of an opened volume is that of its saved image.
use Rattle.volume_state.proofs.Imports.{inl, inr, Contains, subst, arith, ◌≡◌, ℕ, List, [], Option, Some, None, Result, Ok, refl, ◌∙◌, ap, Image, BtrAnswer, BtrRefusal, of_disk, ImageFile, image_refusals, saved_image, IsBtrfsOpened, opening_refusals, IsBtrfsRefusal, SavedImage, own_map, way_refusals, MapsImage, map_place, ReadsImage, ImageMap, Super, MapRange, IsImageMissing, blocks_by, blocks_by_map, file_blocks, image_blocks, place_by_file, saved_file, saved_place}
use Rattle.volume_state.proofs.Images.{blocks_alike}

-- ---- the map of a file
module _ (ranges : List MapRange) (m : ImageMap) where
  place_is : (o : Option ImageFile) → MapsImage ranges (Some m) o → (b : ℕ) → map_place m b ≡ place_by_file ranges o b
  place_is None maps b = absurd maps
  place_is (Some f) maps b = maps.place b

  count_is : (o : Option ImageFile) → MapsImage ranges (Some m) o → m.blocks ≡ file_blocks o
  count_is None maps = absurd maps
  count_is (Some f) maps = maps.length

  file_there : (o : Option ImageFile) → MapsImage ranges (Some m) o → o ≡ None → ⊥
  file_there None maps none = maps
  file_there (Some f) maps none = absurd (cc none)

no_file_there : (ranges : List MapRange) (o : Option ImageFile) → MapsImage ranges None o → o ≡ None
no_file_there ranges None maps = refl
no_file_there ranges (Some f) maps = absurd maps

-- ---- what was read of an opened volume
module _ (disk : Image) (s : Super) (ranges : List MapRange) (opened : IsBtrfsOpened disk s ranges) where
  -- what is read on the way to the image, by the superblock and the map of the disk
  pub read_of_disk : (told : Result (Option ImageMap) BtrAnswer) → ReadsImage ranges (saved_image disk s ranges) (image_refusals disk s ranges) told → ReadsImage (own_map disk) (saved_file disk) (way_refusals disk) told
  read_of_disk told reads = of_disk disk s ranges (λ t m. ReadsImage m (saved_image disk t m) (image_refusals disk t m) told) opened reads

  -- without a map the image is missing
  pub none_read : ReadsImage ranges (saved_image disk s ranges) (image_refusals disk s ranges) (Ok None) → IsImageMissing disk
  none_read reads = no_file_there (own_map disk) (saved_file disk) (read_of_disk (Ok None) reads).0

  module _ (m : ImageMap) (reads : ReadsImage ranges (saved_image disk s ranges) (image_refusals disk s ranges) (Ok (Some m))) where
    maps : MapsImage (own_map disk) (Some m) (saved_file disk)
    maps = (read_of_disk (Ok (Some m)) reads).0

    -- nothing is wrong on the way
    pub way_sound : way_refusals disk ≡ []
    way_sound = (read_of_disk (Ok (Some m)) reads).1

    pub image_there : ¬ IsImageMissing disk
    image_there missing = file_there (own_map disk) m (saved_file disk) maps missing

    pub map_places : (b : ℕ) → map_place m b ≡ saved_place disk b
    map_places b = place_is (own_map disk) m (saved_file disk) maps b

    pub map_blocks : blocks_by_map m disk ≡ image_blocks disk
    unfolding image_blocks
    map_blocks =
        blocks_alike (map_place m) (saved_place disk) m.blocks disk map_places
        ∙ ap (λ (n : ℕ). blocks_by (saved_place disk) n disk) (count_is (own_map disk) m (saved_file disk) maps)
