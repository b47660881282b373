-- Names among the letters of all.
use Rattle.btr_check_names.proofs.Imports.{◌≡◌, ◌≤◌, ℕ, ◌+◌, ◌-◌, ◌<◌, List, [], ◌∷◌, ◌++◌, length, take, drop, map, refl, sym, ap, ◌∙◌, arith, drop-append-le, length-append, length-drop, map-append, take-append-le, take_all, All-cons, All-nil, All-head, All-tail, All-append, All-weaker, slice_range, Key, IsWithin, entry_in, name_in, IndexEntry}
use Rattle.std.specs.List.{All}
use Rattle.std.proofs.Math.Seq.{drop-append_seam}
use Rattle.btr_check_names.specs.declared.name_list.NameAt.{NameAt}

-- a part of some letters is the same with more behind them
part_same : (xs ys : List ℕ) (a n : ℕ) → a + n ≤ length xs → slice_range (xs ++ ys) a (a + n) ≡ slice_range xs a (a + n)
part_same xs ys a n within =
    let long = length-drop a xs in
    ap (take (a + n - a)) (drop-append-le a xs ys (omega arith)) ∙ take-append-le (a + n - a) (drop a xs) ys (omega arith)

entry_same : (letters name : List ℕ) (n : NameAt) → IsWithin (length letters) n → entry_in (letters ++ name) n ≡ entry_in letters n
entry_same letters name n within = ap with_name (part_same letters name n.start n.length within)
  where
    with_name : List ℕ → IndexEntry
    with_name letters_of = record { entry = record { dir = n.dir; name = letters_of; location = n.location; kind = n.kind }; index = n.index }

entries_same : (letters name : List ℕ) (names : List NameAt) → All (IsWithin (length letters)) names → map (entry_in (letters ++ name)) names ≡ map (entry_in letters) names
entries_same letters name [] all = refl
entries_same letters name (n ∷ names) all =
    ap (λ (e : IndexEntry). e ∷ map (entry_in (letters ++ name)) names) (entry_same letters name n (All-head (IsWithin (length letters)) n names all))
    ∙ ap (λ (es : List IndexEntry). entry_in letters n ∷ es) (entries_same letters name names (All-tail (IsWithin (length letters)) n names all))

-- all letters behind some
part_behind : (xs ys : List ℕ) → slice_range (xs ++ ys) (length xs) (length xs + length ys) ≡ ys
part_behind xs ys = ap (take (length xs + length ys - length xs)) (drop-append_seam xs ys) ∙ whole ys (length xs)
  where
    whole : (ys : List ℕ) (n : ℕ) → take (n + length ys - n) ys ≡ ys
    whole ys n = let same : n + length ys - n ≡ length ys = omega arith in ap (λ (k : ℕ). take k ys) same ∙ take_all (length ys) ys (omega arith)

-- One entry more, whose letters come behind the others.
pub entry_added : (letters name all_letters : List ℕ) (names all_names : List NameAt) (dir index kind start count : ℕ) (location : Key) → All (IsWithin (length letters)) names
    → all_letters ≡ letters ++ name → start ≡ length letters → count ≡ length name
    → all_names ≡ names ++ record { dir = dir; index = index; location = location; start = start; length = count; kind = kind } ∷ []
    → map (entry_in all_letters) all_names ≡ map (entry_in letters) names ++ record { entry = record { dir = dir; name = name; location = location; kind = kind }; index = index } ∷ []
entry_added letters name all_letters names all_names dir index kind start count location all letters_are start_is count_is names_are =
    ap (λ (l : List ℕ). map (entry_in l) all_names) letters_are
    ∙ (ap (map (entry_in (letters ++ name))) names_are
    ∙ (map-append (entry_in (letters ++ name)) names (head start count ∷ [])
    ∙ (ap (λ (es : List IndexEntry). es ++ entry_in (letters ++ name) (head start count) ∷ []) (entries_same letters name names all)
    ∙ ap (λ (l : List ℕ). map (entry_in letters) names ++ with_name l ∷ []) own)))
  where
    head : ℕ → ℕ → NameAt
    head s n = record { dir = dir; index = index; location = location; start = s; length = n; kind = kind }

    with_name : List ℕ → IndexEntry
    with_name l = record { entry = record { dir = dir; name = l; location = location; kind = kind }; index = index }

    own : slice_range (letters ++ name) start (start + count) ≡ name
    own = ap (λ (s : ℕ). slice_range (letters ++ name) s (s + count)) start_is ∙ (ap (λ (n : ℕ). slice_range (letters ++ name) (length letters) (length letters + n)) count_is ∙ part_behind letters name)

-- and all stand within
pub names_within : (letters name all_letters : List ℕ) (names all_names : List NameAt) (n : NameAt) → All (IsWithin (length letters)) names
    → all_letters ≡ letters ++ name → n.start ≡ length letters → n.length ≡ length name → all_names ≡ names ++ n ∷ [] → All (IsWithin (length all_letters)) all_names
names_within letters name all_letters names all_names n all letters_are start_is count_is names_are =
    let long = ap length letters_are ∙ length-append letters name in
    rw names_are (All-append (IsWithin (length all_letters)) names (n ∷ [])
    (All-weaker (IsWithin (length letters)) (IsWithin (length all_letters)) (λ m within. omega arith) names all)
    (All-cons (IsWithin (length all_letters)) n [] (omega arith) (All-nil (IsWithin (length all_letters)))))
