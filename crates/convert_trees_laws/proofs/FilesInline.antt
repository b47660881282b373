-- The bytes of files and symlinks that stay in the tree, as they are counted.
use Rattle.convert_trees_laws.proofs.Imports.{◌≡◌, ◌≤◌, ℕ, ◌+◌, ◌*◌, Bool, true, false, cond, List, [], ◌∷◌, length, map, filter, sum_by, arith, sum_by-cons, INLINE_BYTES, Kind, Directory, File, Symlink, Character, Block, Fifo, Socket, Subvolume, ReiserItem, ObjectKey, items_of, stays_in_tree, kind_by, stat_at, FileAt, file_at, files_among, inline_files, is_file_at, is_symlink_at, symlinks_among}
use Rattle.convert_steps.specs.reiser_volume_objects.Kinds.{is_file, is_symlink}

module _ (inline : Bool) (items : List ReiserItem) (keys : List ObjectKey) where
  abbrev bytes : ObjectKey → ℕ
  bytes key = (stat_at items key).fields.size

  -- what an object takes where its bytes stay in the tree
  abbrev pub weight_in_tree : ObjectKey → ℕ
  weight_in_tree key = cond (stays_in_tree inline (items_of key items) (bytes key) (kind_by (stat_at items key))) (INLINE_BYTES + bytes key) 0

  -- what symlinks and inline files take
  abbrev weight_of : List FileAt → ℕ
  weight_of files = INLINE_BYTES * length files + sum_by (λ f. f.size) files

  one_more : (f : FileAt) (files : List FileAt) → weight_of (f ∷ files) ≡ (INLINE_BYTES + f.size) + weight_of files
  one_more f files = let sum = sum_by-cons (λ (g : FileAt). g.size) f files in omega (arith, sum)

  pub inline_counted : (some : List ObjectKey) → sum_by weight_in_tree some ≤ weight_of (symlinks_among items keys some) + weight_of (inline_files inline (files_among items keys some))
  unfolding files_among symlinks_among
  inline_counted [] = omega arith
  inline_counted (key ∷ some) = by (kind_by (stat_at items key)) (inline_counted some) (sum_by-cons weight_in_tree key some)
    where
      links : List FileAt
      links = map (file_at items keys) (filter (is_symlink_at items) some)

      files : List FileAt
      files = map (file_at items keys) (filter (is_file_at items) some)

      held : (b : Bool) → cond b (INLINE_BYTES + bytes key) 0 + weight_of (inline_files inline files) ≤ weight_of (cond b (file_at items keys key ∷ inline_files inline files) (inline_files inline files))
      held true = let one = one_more (file_at items keys key) (inline_files inline files) in omega (arith, one)
      held false = omega arith

      by : (kind : Kind) → sum_by weight_in_tree some ≤ weight_of links + weight_of (inline_files inline files)
          → sum_by weight_in_tree (key ∷ some) ≡ cond (stays_in_tree inline (items_of key items) (bytes key) kind) (INLINE_BYTES + bytes key) 0 + sum_by weight_in_tree some
          → sum_by weight_in_tree (key ∷ some)
          ≤ weight_of (map (file_at items keys) (cond (is_symlink kind) (key ∷ filter (is_symlink_at items) some) (filter (is_symlink_at items) some)))
          + weight_of (inline_files inline (map (file_at items keys) (cond (is_file kind) (key ∷ filter (is_file_at items) some) (filter (is_file_at items) some))))
      by File later first = let here = held (stays_in_tree inline (items_of key items) (bytes key) File) in omega (arith, later, first, here)
      by Symlink later first = let here = one_more (file_at items keys key) links in omega (arith, later, first, here)
      by Directory later first = omega (arith, later, first)
      by Character later first = omega (arith, later, first)
      by Block later first = omega (arith, later, first)
      by Fifo later first = omega (arith, later, first)
      by Socket later first = omega (arith, later, first)
      by Subvolume later first = omega (arith, later, first)
