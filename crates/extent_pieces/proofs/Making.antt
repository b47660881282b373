-- The pieces of a volume and its counts, made of what was gathered of its files.
use Rattle.extent_pieces.proofs.Imports.{◌≡◌, ℕ, ◌^◌, ◌<◌, Bool, List, [], ◌++◌, length, map, refl, sym, ◌∙◌, ap, arith, subst, append_assoc, length-append, sum_by, length-map, keys, Image, free_runs, ObjectKey, Naming, Volume, IsOpened, links_in, used_of, volume_items, IsAccepted, Counts, Piece, AreSmall, FileParts, Pieces, Tail, owner, tails, IsFound, counts_of, files_of, AreSortedKeys, TellOwners, AreParts, capped, Owners, copied_pieces, kept_pieces, pieces, tail_piece}
use Rattle.extent_pieces.specs.Tallies.{TellsCounts}
use Rattle.extent_pieces.proofs.Named.{numbered}
use Rattle.extent_pieces.proofs.Once.{owned_once}
use Rattle.extent_pieces.proofs.Owners.{tells_owners}
use Rattle.extent_pieces.proofs.Small.{counts_small}

counts_by : (c : Counts) (blocks runs pieces_ piece_blocks copies tails_ objects names letters inlines inline_bytes : ℕ) → blocks ≡ c.blocks → runs ≡ c.runs → pieces_ ≡ c.pieces → piece_blocks ≡ c.piece_blocks
    → copies ≡ c.copies → tails_ ≡ c.tails → objects ≡ c.objects → names ≡ c.names → letters ≡ c.letters → inlines ≡ c.inlines → inline_bytes ≡ c.inline_bytes
    → (let made : Counts = record { blocks = blocks; runs = runs; pieces = pieces_; piece_blocks = piece_blocks; copies = copies; tails = tails_; objects = objects; names = names; letters = letters; inlines = inlines; inline_bytes = inline_bytes } in made) ≡ c
counts_by c blocks runs pieces_ piece_blocks copies tails_ objects names letters inlines inline_bytes a b d e f g h i j k l = rw (a, b, d, e, f, g, h, i, j, k, l) refl

-- a number that is small is not capped
uncapped : (told exact : ℕ) → told ≡ capped exact → exact < 2 ^ 50 → told ≡ exact
uncapped told exact is small = omega (arith, is, small)

module _ (inline : Bool) (image : Image) (volume : Volume) (accepted : IsAccepted image) (opened : IsOpened volume image) (parts : FileParts) (are : AreParts inline (volume_items image) (keys volume.named) parts) where
  abbrev all : List ObjectKey
  all = keys volume.named

  pub sorted : AreSortedKeys image all
  sorted = record { accepted = accepted; are_keys = opened.are_keys; ascend = opened.ascends }

  abbrev by : Owners
  by = owner (files_of image all)

  abbrev used : List Bool
  used = used_of image

  abbrev links : List Naming
  links = links_in volume

  pub tells : TellOwners parts.owned.items by
  tells =
      let numbers = numbered image all sorted in
      tells_owners (files_of image all) parts.owned.items (owned_once image accepted all opened.are_keys numbers.0 numbers.1) are.owned_are are.ascending

  abbrev made : List Piece
  made = pieces used by (tails inline (files_of image all))

  abbrev exact : Counts
  exact = counts_of inline image all links

  small : AreSmall exact
  small = counts_small image accepted all opened.are_keys inline opened.visible links opened.are_links

  pub found : (pieces_ : Pieces) → pieces_.items.items ≡ (kept_pieces volume.bitmap by ++ copied_pieces volume.bitmap by) ++ map tail_piece parts.tails.items → pieces_.kept ≡ length (kept_pieces volume.bitmap by)
      → TellsCounts volume parts pieces_.items.items pieces_.kept pieces_.counts → IsFound inline image all links pieces_
  found pieces_ items kept told =
      let ts : List Tail = tails inline (files_of image all) in
      let bits : volume.bitmap ≡ used = opened.bitmap in
      let tails_are : parts.tails.items ≡ ts = are.counted.tails_are in
      let items_are : pieces_.items.items ≡ made =
      items
      ∙ (append_assoc (kept_pieces volume.bitmap by) (copied_pieces volume.bitmap by) (map tail_piece parts.tails.items)
      ∙ (ap (λ (u : List Bool). kept_pieces u by ++ (copied_pieces u by ++ map tail_piece parts.tails.items)) bits
      ∙ ap (λ (t : List Tail). kept_pieces used by ++ (copied_pieces used by ++ map tail_piece t)) tails_are)) in
      let kept_are : pieces_.kept ≡ length (kept_pieces used by) = kept ∙ ap (λ (u : List Bool). length (kept_pieces u by)) bits in
      let many : length pieces_.items.items ≡ length made = ap length items_are in
      let whole = length-append (kept_pieces used by) (copied_pieces used by ++ map tail_piece ts) in
      let rest = length-append (copied_pieces used by) (map tail_piece ts) in
      let tail_count = length-map ts tail_piece in
      let tails_many : length parts.tails.items ≡ length ts = ap length tails_are in
      let copies = told.copies in
      let c : Counts = pieces_.counts in
      record {
        pieces_are = items_are;
        kept_are = kept_are;
        counts_are =
            counts_by exact c.blocks c.runs c.pieces c.piece_blocks c.copies c.tails c.objects c.names c.letters c.inlines c.inline_bytes
            (told.blocks ∙ ap length bits)
            (told.runs ∙ ap (λ (u : List Bool). length (free_runs u)) bits)
            (told.pieces ∙ many)
            (uncapped c.piece_blocks exact.piece_blocks (told.piece_blocks ∙ ap (λ (ps : List Piece). capped (sum_by (λ p. p.count) ps)) items_are) small.piece_blocks)
            (omega (arith, copies, many, kept_are, whole, rest, tail_count, tails_many))
            (told.tails ∙ tails_many)
            told.objects
            told.names
            (uncapped c.letters exact.letters told.letters small.letters)
            (uncapped c.inlines exact.inlines (told.inlines ∙ are.counted.inlines_are) small.inlines)
            (uncapped c.inline_bytes exact.inline_bytes (told.inline_bytes ∙ are.counted.bytes_are) small.inline_bytes);
      }

  pub found_small : (pieces_ : Pieces) → IsFound inline image all links pieces_ → AreSmall pieces_.counts
  found_small pieces_ is = subst AreSmall (sym is.counts_are) small

  -- the same of the lists as they grew
  pub found_of : (pieces_ : Pieces) (empty kept both shown : List Piece) (map_first map_second : List Bool) (ts : List Tail) → empty ≡ [] → map_first ≡ volume.bitmap → kept ≡ empty ++ kept_pieces map_first by
      → map_second ≡ volume.bitmap → both ≡ kept ++ copied_pieces map_second by → ts ≡ parts.tails.items → pieces_.items.items ≡ both ++ map tail_piece ts → pieces_.kept ≡ length kept
      → shown ≡ pieces_.items.items → TellsCounts volume parts shown pieces_.kept pieces_.counts → IsFound inline image all links pieces_
  found_of pieces_ empty kept both shown map_first map_second ts none first kept_is second both_is tails_are items_are long seen told =
      let kept_all : kept ≡ kept_pieces volume.bitmap by = kept_is ∙ (ap (λ (xs : List Piece). xs ++ kept_pieces map_first by) none ∙ ap (λ (u : List Bool). kept_pieces u by) first) in
      let both_all : both ≡ kept_pieces volume.bitmap by ++ copied_pieces volume.bitmap by =
      both_is ∙ (ap (λ (xs : List Piece). xs ++ copied_pieces map_second by) kept_all ∙ ap (λ (u : List Bool). kept_pieces volume.bitmap by ++ copied_pieces u by) second) in
      found pieces_
      (items_are ∙ (ap (λ (xs : List Piece). xs ++ map tail_piece ts) both_all ∙ ap (λ (t : List Tail). (kept_pieces volume.bitmap by ++ copied_pieces volume.bitmap by) ++ map tail_piece t) tails_are))
      (long ∙ ap length kept_all)
      (subst (λ (xs : List Piece). TellsCounts volume parts xs pieces_.kept pieces_.counts) seen told)
