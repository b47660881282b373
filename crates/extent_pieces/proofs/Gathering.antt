-- What is gathered of the files, one after the other.
use Rattle.extent_pieces.proofs.Imports.{append_assoc, take, Some, None, ◌≡◌, ℕ, ◌+◌, ◌<◌, ◌&&◌, Bool, true, false, List, [], ◌∷◌, ◌++◌, length, map, refl, sym, ◌∙◌, ap, arith, subst, ⊎_elim, filter, nat_le, slice_get, sum_by, flat_map, append-nil, length_push, map-append, take_more, get_or_from_slice_get, filter-append, sum_by_push, and_parts, cases_Bool, ReiserItem, FileRun, file_runs, ObjectKey, FileParts, OwnedRun, Tail, FileAt, file_at, is_file_at, is_symlink_at, files_among, symlinks_among, inline_files, is_file_inline, file_tails, tails, Gain, Gains, bytes_with, count_with, Gathers, adds_inline, adds_file, capped, file_owned, owned_in, tails_in, is_tail_alone}
use Rattle.std.proofs.lemmas.Grind.{flat_map-append}
use Rattle.extent_pieces.proofs.Tailing.{one_tail, one_tail_owns, tails_of_runs}

-- one object more
files_yes : (items : List ReiserItem) (keys some : List ObjectKey) (key : ObjectKey) → is_file_at items key ≡ true → files_among items keys (some ++ key ∷ []) ≡ files_among items keys some ++ file_at items keys key ∷ []
unfolding files_among
files_yes items keys some key t =
    let kept : filter (is_file_at items) (key ∷ []) ≡ key ∷ [] = rw t refl in
    ap (map (file_at items keys)) (filter-append (is_file_at items) some (key ∷ []) ∙ ap (λ (xs : List ObjectKey). filter (is_file_at items) some ++ xs) kept)
    ∙ map-append (file_at items keys) (filter (is_file_at items) some) (key ∷ [])

files_no : (items : List ReiserItem) (keys some : List ObjectKey) (key : ObjectKey) → is_file_at items key ≡ false → files_among items keys (some ++ key ∷ []) ≡ files_among items keys some
unfolding files_among
files_no items keys some key t =
    let kept : filter (is_file_at items) (key ∷ []) ≡ [] = rw t refl in
    ap (map (file_at items keys)) (filter-append (is_file_at items) some (key ∷ []) ∙ (ap (λ (xs : List ObjectKey). filter (is_file_at items) some ++ xs) kept ∙ append-nil (filter (is_file_at items) some)))

links_yes : (items : List ReiserItem) (keys some : List ObjectKey) (key : ObjectKey) → is_symlink_at items key ≡ true → symlinks_among items keys (some ++ key ∷ []) ≡ symlinks_among items keys some ++ file_at items keys key ∷ []
unfolding symlinks_among
links_yes items keys some key t =
    let kept : filter (is_symlink_at items) (key ∷ []) ≡ key ∷ [] = rw t refl in
    ap (map (file_at items keys)) (filter-append (is_symlink_at items) some (key ∷ []) ∙ ap (λ (xs : List ObjectKey). filter (is_symlink_at items) some ++ xs) kept)
    ∙ map-append (file_at items keys) (filter (is_symlink_at items) some) (key ∷ [])

links_no : (items : List ReiserItem) (keys some : List ObjectKey) (key : ObjectKey) → is_symlink_at items key ≡ false → symlinks_among items keys (some ++ key ∷ []) ≡ symlinks_among items keys some
unfolding symlinks_among
links_no items keys some key t =
    let kept : filter (is_symlink_at items) (key ∷ []) ≡ [] = rw t refl in
    ap (map (file_at items keys)) (filter-append (is_symlink_at items) some (key ∷ []) ∙ (ap (λ (xs : List ObjectKey). filter (is_symlink_at items) some ++ xs) kept ∙ append-nil (filter (is_symlink_at items) some)))

-- What is gathered by lists of files and symlinks.
pub record Collects (inline : Bool) (fs ls : List FileAt) (parts : FileParts) : Type 0 where
  pub owned_are : parts.owned.items ≡ flat_map file_owned fs
  pub tails_are : parts.tails.items ≡ tails inline fs
  pub inlines_are : parts.inlines ≡ capped (length ls + length (inline_files inline fs))
  pub bytes_are : parts.inline_bytes ≡ capped (sum_by (λ f. f.size) ls + sum_by (λ f. f.size) (inline_files inline fs))

capped_more : (a b x old new : ℕ) → old ≡ capped (a + b) → new ≡ capped (old + x) → new ≡ capped (a + x + b)
capped_more a b x old new before after = omega arith

capped_last : (a b x old new : ℕ) → old ≡ capped (a + b) → new ≡ capped (old + x) → new ≡ capped (a + (b + x))
capped_last a b x old new before after = omega arith

-- a symlink more
pub collects_link : (inline : Bool) (fs ls : List FileAt) (f : FileAt) (old new : FileParts) → Collects inline fs ls old → Gains (adds_inline f.size) old new → Collects inline fs (ls ++ f ∷ []) new
collects_link inline fs ls f old new has gains =
    let count : length (ls ++ f ∷ []) ≡ length ls + 1 = length_push ls f in
    let bytes : sum_by (λ g. g.size) (ls ++ f ∷ []) ≡ sum_by (λ g. g.size) ls + f.size = sum_by_push (λ g. g.size) ls f in
    record {
      owned_are = gains.owned ∙ (append-nil old.owned.items ∙ has.owned_are);
      tails_are = gains.tails ∙ (append-nil old.tails.items ∙ has.tails_are);
      inlines_are =
          capped_more (length ls) (length (inline_files inline fs)) 1 old.inlines new.inlines has.inlines_are gains.inlines
          ∙ ap (λ (n : ℕ). capped (n + length (inline_files inline fs))) (sym count);
      bytes_are =
          capped_more (sum_by (λ g. g.size) ls) (sum_by (λ g. g.size) (inline_files inline fs)) f.size old.inline_bytes new.inline_bytes has.bytes_are gains.bytes
          ∙ ap (λ (n : ℕ). capped (n + sum_by (λ g. g.size) (inline_files inline fs))) (sym bytes);
    }

-- a file more
inline_yes : (inline : Bool) (fs : List FileAt) (f : FileAt) → is_file_inline inline f ≡ true → inline_files inline (fs ++ f ∷ []) ≡ inline_files inline fs ++ f ∷ []
inline_yes inline fs f t =
    let kept : filter (is_file_inline inline) (f ∷ []) ≡ f ∷ [] = rw t refl in
    filter-append (is_file_inline inline) fs (f ∷ []) ∙ ap (λ (xs : List FileAt). filter (is_file_inline inline) fs ++ xs) kept

inline_no : (inline : Bool) (fs : List FileAt) (f : FileAt) → is_file_inline inline f ≡ false → inline_files inline (fs ++ f ∷ []) ≡ inline_files inline fs
inline_no inline fs f t =
    let kept : filter (is_file_inline inline) (f ∷ []) ≡ [] = rw t refl in
    filter-append (is_file_inline inline) fs (f ∷ []) ∙ (ap (λ (xs : List FileAt). filter (is_file_inline inline) fs ++ xs) kept ∙ append-nil (filter (is_file_inline inline) fs))

-- what a file adds to the tails
tails_more : (inline : Bool) (fs : List FileAt) (f : FileAt) → tails inline (fs ++ f ∷ []) ≡ tails inline fs ++ file_tails inline f
tails_more inline fs f = flat_map-append (file_tails inline) fs (f ∷ []) ∙ ap (λ (xs : List Tail). tails inline fs ++ xs) (append-nil (file_tails inline f))

owned_more : (fs : List FileAt) (f : FileAt) → flat_map file_owned (fs ++ f ∷ []) ≡ flat_map file_owned fs ++ file_owned f
owned_more fs f = flat_map-append file_owned fs (f ∷ []) ∙ ap (λ (xs : List OwnedRun). flat_map file_owned fs ++ xs) (append-nil (file_owned f))

-- a file that stays in the tree
collects_inline : (inline : Bool) (fs ls : List FileAt) (f : FileAt) (old new : FileParts) → is_file_inline inline f ≡ true → file_owned f ≡ [] → Collects inline fs ls old → Gains (adds_inline f.size) old new
    → Collects inline (fs ++ f ∷ []) ls new
collects_inline inline fs ls f old new t none has gains =
    let files : inline_files inline (fs ++ f ∷ []) ≡ inline_files inline fs ++ f ∷ [] = inline_yes inline fs f t in
    let count : length (inline_files inline (fs ++ f ∷ [])) ≡ length (inline_files inline fs) + 1 = ap length files ∙ length_push (inline_files inline fs) f in
    let bytes : sum_by (λ g. g.size) (inline_files inline (fs ++ f ∷ [])) ≡ sum_by (λ g. g.size) (inline_files inline fs) + f.size =
    ap (sum_by (λ g. g.size)) files
    ∙ sum_by_push (λ g. g.size) (inline_files inline fs) f in
    let no_tails : file_tails inline f ≡ [] = rw t refl in
    record {
      owned_are = gains.owned ∙ (append-nil old.owned.items ∙ (has.owned_are ∙ sym (owned_more fs f ∙ (ap (λ (xs : List OwnedRun). flat_map file_owned fs ++ xs) none ∙ append-nil (flat_map file_owned fs)))));
      tails_are = gains.tails ∙ (append-nil old.tails.items ∙ (has.tails_are ∙ sym (tails_more inline fs f ∙ (ap (λ (xs : List Tail). tails inline fs ++ xs) no_tails ∙ append-nil (tails inline fs)))));
      inlines_are =
          capped_last (length ls) (length (inline_files inline fs)) 1 old.inlines new.inlines has.inlines_are gains.inlines
          ∙ ap (λ (n : ℕ). capped (length ls + n)) (sym count);
      bytes_are =
          capped_last (sum_by (λ g. g.size) ls) (sum_by (λ g. g.size) (inline_files inline fs)) f.size old.inline_bytes new.inline_bytes has.bytes_are gains.bytes
          ∙ ap (λ (n : ℕ). capped (sum_by (λ g. g.size) ls + n)) (sym bytes);
    }

-- a file with runs and tails
collects_runs : (inline : Bool) (fs ls : List FileAt) (f : FileAt) (old new : FileParts) (gain : Gain) → is_file_inline inline f ≡ false → gain.owned ≡ file_owned f → gain.tails ≡ file_tails inline f
    → gain.inline ≡ None → Collects inline fs ls old → Gains gain old new → Collects inline (fs ++ f ∷ []) ls new
collects_runs inline fs ls f old new gain t owned tails_are none has gains =
    let files : inline_files inline (fs ++ f ∷ []) ≡ inline_files inline fs = inline_no inline fs f t in
    record {
      owned_are = gains.owned ∙ (ap (λ (xs : List OwnedRun). xs ++ gain.owned) has.owned_are ∙ (ap (λ (xs : List OwnedRun). flat_map file_owned fs ++ xs) owned ∙ sym (owned_more fs f)));
      tails_are = gains.tails ∙ (ap (λ (xs : List Tail). xs ++ gain.tails) has.tails_are ∙ (ap (λ (xs : List Tail). tails inline fs ++ xs) tails_are ∙ sym (tails_more inline fs f)));
      inlines_are = gains.inlines ∙ (ap (count_with old.inlines) none ∙ has.inlines_are) ∙ ap (λ (xs : List FileAt). capped (length ls + length xs)) (sym files);
      bytes_are =
          gains.bytes ∙ (ap (bytes_with old.inline_bytes) none ∙ has.bytes_are)
          ∙ ap (λ (xs : List FileAt). capped (sum_by (λ g. g.size) ls + sum_by (λ g. g.size) xs)) (sym files);
    }

inline_gain : (inline : Bool) (inode : ℕ) (runs : List FileRun) (size : ℕ) → (inline && is_tail_alone runs size) ≡ true → adds_file inline inode runs size ≡ adds_inline size
inline_gain inline inode runs size t = rw t refl

runs_gain : (inline : Bool) (inode : ℕ) (runs : List FileRun) (size : ℕ) → (inline && is_tail_alone runs size) ≡ false
    → adds_file inline inode runs size ≡ record { owned = flat_map (owned_in inode) runs; tails = flat_map (tails_in inode) runs; inline = None }
runs_gain inline inode runs size t = rw t refl

-- the one run of a file that stays in the tree owns nothing
none_owned : (inline : Bool) (f : FileAt) → (inline && is_tail_alone (file_runs f.items f.size) f.size) ≡ true → file_owned f ≡ []
none_owned inline f t = one_tail_owns f.inode (file_runs f.items f.size) (and_parts (nat_le f.size 2048) _ (and_parts inline _ t).1).1

pub collects_file : (inline : Bool) (fs ls : List FileAt) (f : FileAt) (old new : FileParts) → Collects inline fs ls old
    → Gains (adds_file inline f.inode (file_runs f.items f.size) f.size) old new → Collects inline (fs ++ f ∷ []) ls new
collects_file inline fs ls f old new has gains =
    let runs : List FileRun = file_runs f.items f.size in
    let same : (inline && is_tail_alone runs f.size) ≡ is_file_inline inline f = one_tail inline f in
    ⊎_elim
    (λ (t : is_file_inline inline f ≡ true).
    let alone : (inline && is_tail_alone runs f.size) ≡ true = same ∙ t in
    collects_inline inline fs ls f old new t (none_owned inline f alone) has (subst (λ (g : Gain). Gains g old new) (inline_gain inline f.inode runs f.size alone) gains))
    (λ (off : is_file_inline inline f ≡ false).
    let apart : (inline && is_tail_alone runs f.size) ≡ false = same ∙ off in
    let gain : Gain = record { owned = flat_map (owned_in f.inode) runs; tails = flat_map (tails_in f.inode) runs; inline = None } in
    let no_inline : file_tails inline f ≡ flat_map (tails_in f.inode) runs = rw off (sym (tails_of_runs f)) in
    collects_runs inline fs ls f old new gain off refl (sym no_inline) refl has (subst (λ (g : Gain). Gains g old new) (runs_gain inline f.inode runs f.size apart) gains))
    (cases_Bool (is_file_inline inline f))

-- Some of the named objects, and one more.
pub gathers : (inline : Bool) (items : List ReiserItem) (keys some : List ObjectKey) (parts : FileParts) → Collects inline (files_among items keys some) (symlinks_among items keys some) parts → Gathers inline items keys some parts
gathers inline items keys some parts has = record { owned_are = has.owned_are; counted = record { tails_are = has.tails_are; inlines_are = has.inlines_are; bytes_are = has.bytes_are } }

collected : (inline : Bool) (items : List ReiserItem) (keys some : List ObjectKey) (parts : FileParts) → Gathers inline items keys some parts → Collects inline (files_among items keys some) (symlinks_among items keys some) parts
collected inline items keys some parts has = record { owned_are = has.owned_are; tails_are = has.counted.tails_are; inlines_are = has.counted.inlines_are; bytes_are = has.counted.bytes_are }

pub gathers_link : (inline : Bool) (items : List ReiserItem) (keys some : List ObjectKey) (key : ObjectKey) (size : ℕ) (old new : FileParts) → Gathers inline items keys some old → is_file_at items key ≡ false
    → is_symlink_at items key ≡ true → size ≡ (file_at items keys key).size → Gains (adds_inline size) old new → Gathers inline items keys (some ++ key ∷ []) new
gathers_link inline items keys some key size old new has off t is gains =
    gathers inline items keys (some ++ key ∷ []) new
    (subst (λ (fs : List FileAt). Collects inline fs (symlinks_among items keys (some ++ key ∷ [])) new) (sym (files_no items keys some key off))
    (subst (λ (ls : List FileAt). Collects inline (files_among items keys some) ls new) (sym (links_yes items keys some key t))
    (collects_link inline (files_among items keys some) (symlinks_among items keys some) (file_at items keys key) old new (collected inline items keys some old has)
    (subst (λ (n : ℕ). Gains (adds_inline n) old new) is gains))))

pub gathers_file : (inline : Bool) (items : List ReiserItem) (keys some : List ObjectKey) (key : ObjectKey) (old new : FileParts) → Gathers inline items keys some old → is_file_at items key ≡ true
    → is_symlink_at items key ≡ false → Gains (adds_file inline (file_at items keys key).inode (file_runs (file_at items keys key).items (file_at items keys key).size) (file_at items keys key).size) old new
    → Gathers inline items keys (some ++ key ∷ []) new
gathers_file inline items keys some key old new has t off gains =
    gathers inline items keys (some ++ key ∷ []) new
    (subst (λ (fs : List FileAt). Collects inline fs (symlinks_among items keys (some ++ key ∷ [])) new) (sym (files_yes items keys some key t))
    (subst (λ (ls : List FileAt). Collects inline (files_among items keys some ++ file_at items keys key ∷ []) ls new) (sym (links_no items keys some key off))
    (collects_file inline (files_among items keys some) (symlinks_among items keys some) (file_at items keys key) old new (collected inline items keys some old has) gains)))

pub gathers_other : (inline : Bool) (items : List ReiserItem) (keys some : List ObjectKey) (key : ObjectKey) (parts : FileParts) → Gathers inline items keys some parts → is_file_at items key ≡ false
    → is_symlink_at items key ≡ false → Gathers inline items keys (some ++ key ∷ []) parts
gathers_other inline items keys some key parts has off none =
    gathers inline items keys (some ++ key ∷ []) parts
    (subst (λ (fs : List FileAt). Collects inline fs (symlinks_among items keys (some ++ key ∷ [])) parts) (sym (files_no items keys some key off))
    (subst (λ (ls : List FileAt). Collects inline (files_among items keys some) ls parts) (sym (links_no items keys some key none))
    (collected inline items keys some parts has)))

-- of no objects
pub gathers_none : (inline : Bool) (items : List ReiserItem) (keys : List ObjectKey) (parts : FileParts) → parts.owned.items ≡ [] → parts.tails.items ≡ [] → parts.inlines ≡ 0 → parts.inline_bytes ≡ 0
    → Gathers inline items keys [] parts
unfolding files_among symlinks_among
gathers_none inline items keys parts owned tails_are none empty = record { owned_are = owned; counted = record { tails_are = tails_are; inlines_are = none; bytes_are = empty } }

-- one run of a map more
pub run_more : {A : Type 0} (f : FileRun → List A) (runs : List FileRun) (j : ℕ) (r : FileRun) (old new : List A) → j < length runs → slice_get runs j ≡ Some r → (all : List A) → old ≡ all ++ flat_map f (take j runs) → new ≡ old ++ f r
    → new ≡ all ++ flat_map f (take (j + 1) runs)
run_more {A} f runs j r old new inside is all before after =
    let taken : take (j + 1) runs ≡ take j runs ++ r ∷ [] = take_more runs j r inside ∙ ap (λ (s : FileRun). take j runs ++ s ∷ []) (get_or_from_slice_get runs j r r is) in
    let more : flat_map f (take (j + 1) runs) ≡ flat_map f (take j runs) ++ f r =
    ap (flat_map f) taken ∙ (flat_map-append f (take j runs) (r ∷ []) ∙ ap (λ (xs : List A). flat_map f (take j runs) ++ xs) (append-nil (f r))) in
    after ∙ (ap (λ (xs : List A). xs ++ f r) before ∙ (append_assoc all (flat_map f (take j runs)) (f r) ∙ ap (λ (xs : List A). all ++ xs) (sym more)))
