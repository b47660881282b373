-- The stages of opening a volume.
use Rattle.btr_reader.proofs.Imports.{◌≡◌, ℕ, List, [], ◌++◌, length, map, Some, Result, Ok, Contains, refl, sym, ◌∙◌, ap, subst, arith, Image, BtrAnswer, Refused, Fault, Memory, BtrRefusal, Super, MapRange, Tree, wrong, found, ChunkAt, RootItems, range_of, items_refusals, with_items, super_on, chunk_tree, root_tree, boot_chunks, boot_list, boot_refusals, map_from, or_later, trees_refusals, refusals_after, opening_refusals, IsBtrfsOpened, IsAmong, IsSuperAnswer, HasRoots, roots_on}
use Rattle.btr_reader.proofs.Among.{among_first, among_later, none_later}

pub opening_is : (image : Image) (s : Super) → super_on image ≡ Ok s
    → opening_refusals image ≡ or_later (boot_refusals (length image) (boot_chunks s)) (trees_refusals image s (boot_list (boot_chunks s)))
unfolding opening_refusals
opening_is image s read = ap (refusals_after image) read

pub super_refused : (image : Image) (e : BtrAnswer) → IsSuperAnswer (super_on image) e → IsAmong (opening_refusals image) e
unfolding opening_refusals
super_refused image (Refused r) read = subst (λ (o : Result Super BtrRefusal). Contains (refusals_after image o) r) (sym read) (0, omega arith, refl)
super_refused image Fault read = tt
super_refused image Memory read = absurd read

-- the chunks of the array
abbrev here : Super → List ChunkAt
here s = boot_list (boot_chunks s)

-- what is wrong with a chunk tree and its items
abbrev chunks_wrong : Image → ℕ → List ChunkAt → List MapRange → Tree → List BtrRefusal
chunks_wrong image device chunks first tree = wrong image first tree ++ items_refusals device chunks first (found image first tree)

pub boot_refused : (image : Image) (s : Super) (device : ℕ) (e : BtrAnswer) → super_on image ≡ Ok s → device ≡ length image
    → IsAmong (boot_refusals device (boot_chunks s)) e → IsAmong (opening_refusals image) e
boot_refused image s device e read size bad =
    subst (λ (z : List BtrRefusal). IsAmong z e) (sym (opening_is image s read))
    (among_first (boot_refusals (length image) (boot_chunks s)) _ e (subst (λ (n : ℕ). IsAmong (boot_refusals n (boot_chunks s)) e) size bad))

-- the chunks that were read of the array, and their map
pub chunks_here : (s : Super) (chunks slice : List ChunkAt) → boot_chunks s ≡ Some chunks → slice ≡ chunks → slice ≡ boot_list (boot_chunks s)
chunks_here s chunks slice known is = is ∙ sym (ap boot_list known)

pub ranges_here : (s : Super) (chunks : List ChunkAt) (ranges slice : List MapRange) → boot_chunks s ≡ Some chunks → ranges ≡ map range_of chunks → slice ≡ ranges → slice ≡ map range_of (boot_list (boot_chunks s))
ranges_here s chunks ranges slice known made is = is ∙ (made ∙ ap (map range_of) (sym (ap boot_list known)))

module _ (image : Image) (s : Super) (device : ℕ) (chunks : List ChunkAt) (first : List MapRange) (tree : Tree) (read : super_on image ≡ Ok s) (size : device ≡ length image) (none : boot_refusals device (boot_chunks s) ≡ [])
    (is : chunks ≡ boot_list (boot_chunks s)) (same : first ≡ map range_of (boot_list (boot_chunks s))) (named : tree ≡ chunk_tree s) where
  same_chunks : chunks_wrong image device chunks first tree ≡ chunks_wrong image (length image) (here s) (map range_of (here s)) (chunk_tree s)
  same_chunks =
      ap (λ (n : ℕ). chunks_wrong image n chunks first tree) size
      ∙ (ap (λ (c : List ChunkAt). chunks_wrong image (length image) c first tree) is
      ∙ (ap (λ (b : List MapRange). chunks_wrong image (length image) (here s) b tree) same ∙ ap (chunks_wrong image (length image) (here s) (map range_of (here s))) named))

  array_right : boot_refusals (length image) (boot_chunks s) ≡ []
  array_right = subst (λ (n : ℕ). boot_refusals n (boot_chunks s) ≡ []) size none

  pub chunks_refused : (e : BtrAnswer) → IsAmong (chunks_wrong image device chunks first tree) e → IsAmong (opening_refusals image) e
  chunks_refused e bad =
      subst (λ (z : List BtrRefusal). IsAmong z e) (sym (opening_is image s read))
      (among_later (boot_refusals (length image) (boot_chunks s)) (trees_refusals image s (here s)) e array_right
      (among_first (chunks_wrong image (length image) (here s) (map range_of (here s)) (chunk_tree s)) (wrong image (map_from image s (here s)) (root_tree s)) e
      (subst (λ (z : List BtrRefusal). IsAmong z e) same_chunks bad)))

  module _ (ranges other : List MapRange) (root : Tree) (sound : chunks_wrong image device chunks first tree ≡ []) (made : ranges ≡ with_items chunks first (found image first tree)) (copied : other ≡ ranges) (root_is : root ≡ root_tree s) where
    same_map : ranges ≡ map_from image s (here s)
    same_map =
        made
        ∙ (ap (λ (c : List ChunkAt). with_items c first (found image first tree)) is
        ∙ (ap (λ (b : List MapRange). with_items (here s) b (found image b tree)) same
        ∙ ap (λ (t : Tree). with_items (here s) (map range_of (here s)) (found image (map range_of (here s)) t)) named))

    pub root_refused : (e : BtrAnswer) → IsAmong (wrong image other root) e → IsAmong (opening_refusals image) e
    root_refused e bad =
        subst (λ (z : List BtrRefusal). IsAmong z e) (sym (opening_is image s read))
        (among_later (boot_refusals (length image) (boot_chunks s)) (trees_refusals image s (here s)) e array_right
        (among_later (chunks_wrong image (length image) (here s) (map range_of (here s)) (chunk_tree s)) (wrong image (map_from image s (here s)) (root_tree s)) e
        (sym same_chunks ∙ sound)
        (subst (λ (t : Tree). IsAmong (wrong image (map_from image s (here s)) t) e) root_is
        (subst (λ (r : List MapRange). IsAmong (wrong image r root) e) (copied ∙ same_map) bad))))

    pub opened : wrong image other root ≡ [] → IsBtrfsOpened image s ranges
    opened right = record {
      sound =
          opening_is image s read
          ∙ none_later (boot_refusals (length image) (boot_chunks s)) (trees_refusals image s (here s)) array_right
          (none_later (chunks_wrong image (length image) (here s) (map range_of (here s)) (chunk_tree s)) (wrong image (map_from image s (here s)) (root_tree s)) (sym same_chunks ∙ sound)
          (subst (λ (t : Tree). wrong image (map_from image s (here s)) t ≡ []) root_is (subst (λ (r : List MapRange). wrong image r root ≡ []) (copied ∙ same_map) right)));
      super = read;
      map_is = same_map;
    }

-- what was noted of the root tree that was walked was noted of the volume's root tree
pub root_items : (image : Image) (s : Super) (ranges other : List MapRange) (root : Tree) (t : RootItems) → other ≡ ranges → root ≡ root_tree s → HasRoots t (found image other root)
    → HasRoots t (roots_on image s ranges)
root_items image s ranges other root t copied root_is k =
    subst (λ (r : Tree). HasRoots t (found image ranges r)) root_is (subst (λ (r : List MapRange). HasRoots t (found image r root)) copied k)
