-- The runs of all files, sorted by their first blocks, tell the owners of the blocks.
use Rattle.extent_pieces.proofs.Imports.{◌≡◌, ◌⊎◌, ℕ, ◌+◌, ◌-◌, ◌*◌, ◌^◌, ◌<◌, ◌≤◌, ltb, Bool, true, false, List, [], ◌∷◌, get_or, Option, Some, None, refl, sym, ◌∙◌, ap, arith, subst, ⊎_elim, inl, inr, eq-eqb, Contains, AllPairs, ◌≢◌, unwrap_or, div_ceil, find, flat_map, range_with_len, IsNonDecreasingBy, IsPermutation, option_map, both_ways, cases_Bool, ltb-true, eqb-true, false≢true, Contains-append_cases, Contains-append_left, Contains-append_right, Contains-get_or, Contains-permutation, IsPermutation-sym, IsDistinct-IsPermutation, IsDistinct-from_apart, apart_from_distinct, all_from_contains, contains_cases, contains_head, contains_range, contains_tail, range_contains, file_runs_are, FileRun, RunFrom, Disk, block_from, file_runs, next_from, OwnedRun, FileAt, file_blocks, is_in_block, owner, owns, IsRunBefore, IsRun, TellOwners, holds_block, owner_in, file_owned, owned_by_run, owned_in}
use Rattle.reiser_volume_files.specs.declared.map.RunFrom.TheVariants.{Tail as InTree}
use Rattle.extent_pieces.proofs.Owning.{Holds, find_none, holds, holds_from}
use Rattle.extent_pieces.proofs.Lists.{all_at, pairs_append, pairs_head, pairs_tail}
use Rattle.extent_pieces.proofs.Telling.{IsOwned, LiesIn, OwnedOnce, all_owned, clash, clash_flips, clash_tells, file_pairs, held_lies, in_some_run, runs_lie, two_files}

-- ---- all files

-- each run of some files is one that one of them owns
files_own : (fs : List FileAt) (o : OwnedRun) → Contains (flat_map file_owned fs) o → (f : FileAt) × Contains fs f × IsOwned f o
files_own [] o h = absurd (omega (arith, h.1))
files_own (f ∷ fs) o h =
    ⊎_elim
    (λ (here : Contains (file_owned f) o). (f, contains_head f fs, all_at (IsOwned f) (file_owned f) o (all_owned f (file_runs f.items f.size) (runs_lie f)) here))
    (λ (later : Contains (flat_map file_owned fs) o). let rest = files_own fs o later in (rest.0, contains_tail rest.0 f fs rest.1, rest.2))
    (Contains-append_cases (file_owned f) (flat_map file_owned fs) o h)

-- no two runs of some of the files clash
files_pairs : (fs some : List FileAt) → OwnedOnce fs → ((f : FileAt) → Contains some f → Contains fs f) → AllPairs (λ f g. f.inode ≢ g.inode) some
    → AllPairs (λ o q. clash o q ≡ false) (flat_map file_owned some)
files_pairs fs [] once among other = λ i j d order inside. absurd (omega arith)
files_pairs fs (f ∷ some) once among other =
    pairs_append (λ o q. clash o q ≡ false) (file_owned f) (flat_map file_owned some)
    (file_pairs fs f (file_runs f.items f.size) once (among f (contains_head f some)) (file_runs_are f.items f.size).ascending (runs_lie f))
    (files_pairs fs some once (λ g h. among g (contains_tail g f some h)) (pairs_tail (λ f g. f.inode ≢ g.inode) f some other))
    (λ o h. all_from_contains (λ q. clash o q ≡ false) (flat_map file_owned some) (λ q inside.
    let own : IsOwned f o = all_at (IsOwned f) (file_owned f) o (all_owned f (file_runs f.items f.size) (runs_lie f)) h in
    let owned = files_own some q inside in
    two_files fs f owned.0 o q once (among f (contains_head f some)) (among owned.0 (contains_tail owned.0 f some owned.1))
    (all_at (λ g. f.inode ≢ g.inode) some owned.0 (pairs_head (λ f g. f.inode ≢ g.inode) f some other) owned.1) own owned.2))

same_disk : (a b : ℕ) → Disk a ≡ Disk b → a ≡ b
same_disk a b is = cc

tree_is_no_disk : (b : ℕ) → InTree ≡ Disk b → ⊥
tree_is_no_disk b is = absurd (cc)

owned_contains : (inode : ℕ) (runs : List FileRun) (r : FileRun) (o : OwnedRun) → Contains runs r → Contains (owned_in inode r) o → Contains (flat_map (owned_in inode) runs) o
owned_contains inode [] r o among h = absurd (omega (arith, among.1))
owned_contains inode (s ∷ runs) r o among h =
    ⊎_elim
    (λ (same : s ≡ r). Contains-append_left (owned_in inode s) (flat_map (owned_in inode) runs) o (subst (λ (q : FileRun). Contains (owned_in inode q) o) (sym same) h))
    (λ (later : Contains runs r). Contains-append_right (owned_in inode s) (flat_map (owned_in inode) runs) o (owned_contains inode runs r o later h))
    (contains_cases r s runs among)

run_is_owned : (f : FileAt) (runs : List FileRun) (r : FileRun) (k b : ℕ) (from : RunFrom) → r.from ≡ from → Contains runs r → r.at ≤ k → k < r.at + r.count → next_from r.from (k - r.at) ≡ Disk b
    → (o : OwnedRun) × Contains (flat_map (owned_in f.inode) runs) o × Holds b o
run_is_owned f runs r k b (Disk a) is among low high next =
    let block : a + (k - r.at) ≡ b = same_disk (a + (k - r.at)) b (sym (ap (λ (s : RunFrom). next_from s (k - r.at)) is) ∙ next) in
    let o : OwnedRun = record { first = a; count = r.count; inode = f.inode; at = r.at } in
    (o, owned_contains f.inode runs r o among (subst (λ (s : RunFrom). Contains (owned_by_run f.inode r.at r.count s) o) (sym is) (contains_head o [])), record { low = omega arith; high = omega arith })
run_is_owned f runs r k b InTree is among low high next = absurd (tree_is_no_disk b (sym (ap (λ (s : RunFrom). next_from s (k - r.at)) is) ∙ next))

-- a file block that lies in a block of the volume is in a run that the file owns
block_is_owned : (f : FileAt) (k b : ℕ) → LiesIn f k b → (o : OwnedRun) × Contains (file_owned f) o × Holds b o
block_is_owned f k b lies =
    let runs : List FileRun = file_runs f.items f.size in
    let found = in_some_run runs k (Disk b) ((file_runs_are f.items f.size).covers k ∙ lies) in
    run_is_owned f runs found.0 k b found.0.from refl found.1 found.2 found.3 found.4

files_contain : (fs : List FileAt) (f : FileAt) (o : OwnedRun) → Contains fs f → Contains (file_owned f) o → Contains (flat_map file_owned fs) o
files_contain [] f o among h = absurd (omega (arith, among.1))
files_contain (g ∷ fs) f o among h =
    ⊎_elim
    (λ (same : g ≡ f). Contains-append_left (file_owned g) (flat_map file_owned fs) o (subst (λ (q : FileAt). Contains (file_owned q) o) (sym same) h))
    (λ (later : Contains fs f). Contains-append_right (file_owned g) (flat_map file_owned fs) o (files_contain fs f o later h))
    (contains_cases f g fs among)

-- ---- the owner by files

in_block_is : (b : ℕ) (o : Option RunFrom) → is_in_block b o ≡ true → o ≡ Some (Disk b)
in_block_is b None t = absurd (false≢true t)
in_block_is b (Some (Disk block)) t = ap (λ (n : ℕ). let o : Option RunFrom = Some (Disk n) in o) (sym (eqb-true b block t))
in_block_is b (Some InTree) t = absurd (false≢true t)

is_in_block_of : (b : ℕ) (o : Option RunFrom) → o ≡ Some (Disk b) → is_in_block b o ≡ true
is_in_block_of b o is = ap (is_in_block b) is ∙ eq-eqb b b refl

no_none : (b : ℕ) → (let o : Option RunFrom = None in o) ≡ Some (Disk b) → ⊥
no_none b is = absurd (cc)

none_lies : (f : FileAt) (k b : ℕ) → ltb (4096 * k) f.size ≡ false → LiesIn f k b → ⊥
none_lies f k b off lies = let none : block_from f.items f.size k ≡ None = rw off refl in no_none b (sym none ∙ lies)

-- a file block that lies anywhere is below the size
lies_below : (f : FileAt) (k b : ℕ) → LiesIn f k b → Contains (file_blocks f) k
lies_below f k b lies =
    ⊎_elim
    (λ (t : ltb (4096 * k) f.size ≡ true). let low : 4096 * k < f.size = ltb-true (4096 * k) f.size t in contains_range 0 (div_ceil f.size 4096) k (omega arith) (omega arith))
    (λ (off : ltb (4096 * k) f.size ≡ false). absurd (none_lies f k b off lies))
    (cases_Bool (ltb (4096 * k) f.size))

pub find_cases : {X : Type 0} (p : X → Bool) (xs : List X) → ((x : X) × Contains xs x × (p x ≡ true) × (find p xs ≡ Some x)) ⊎ (((x : X) → Contains xs x → p x ≡ false) × (find p xs ≡ None))
find_cases p [] = inr ((λ x h. absurd (omega (arith, h.1))), refl)
find_cases p (x ∷ xs) =
    ⊎_elim
    (λ (t : p x ≡ true). inl (x, contains_head x xs, t, rw t refl))
    (λ (f : p x ≡ false). ⊎_elim
    (λ found. inl (found.0, contains_tail found.0 x xs found.1, found.2, rw f found.3))
    (λ none. inr ((λ y h. ⊎_elim (λ (same : x ≡ y). sym (ap p same) ∙ f) (λ (later : Contains xs y). none.0 y later) (contains_cases y x xs h)), rw f none.1))
    (find_cases p xs))
    (cases_Bool (p x))

-- the first file that owns the block: this one
owner_here : (g : FileAt) (fs : List FileAt) (b l : ℕ) → find (owns g b) (file_blocks g) ≡ Some l → owner (g ∷ fs) b ≡ Some (g.inode, l)
unfolding owner
owner_here g fs b l is = rw is refl

owner_later : (g : FileAt) (fs : List FileAt) (b : ℕ) → find (owns g b) (file_blocks g) ≡ None → owner (g ∷ fs) b ≡ owner fs b
unfolding owner
owner_later g fs b is = rw is refl

owner_nobody : (b : ℕ) → owner [] b ≡ None
unfolding owner
owner_nobody b = refl

pub owner_is : (all fs : List FileAt) (f : FileAt) (k b : ℕ) → OwnedOnce all → ((g : FileAt) → Contains fs g → Contains all g) → Contains fs f → LiesIn f k b → owner fs b ≡ Some (f.inode, k)
owner_is all [] f k b once within among lies = absurd (omega (arith, among.1))
owner_is all (g ∷ fs) f k b once within among lies =
    ⊎_elim
    (λ found.
    let same = once.once g f found.0 k b (within g (contains_head g fs)) (within f among) (in_block_is b (block_from g.items g.size found.0) found.2) lies in
    owner_here g fs b found.0 found.3 ∙ (ap (λ (n : ℕ). let o : Option (ℕ × ℕ) = Some (n, found.0) in o) same.0 ∙ ap (λ (n : ℕ). let o : Option (ℕ × ℕ) = Some (f.inode, n) in o) same.1))
    (λ none.
    owner_later g fs b none.1
    ∙ ⊎_elim
    (λ (here : g ≡ f).
    let there : owns g b k ≡ true = is_in_block_of b (block_from g.items g.size k) (subst (λ (h : FileAt). LiesIn h k b) (sym here) lies) in
    absurd (both_ways (owns g b k) (none.0 k (lies_below g k b (subst (λ (h : FileAt). LiesIn h k b) (sym here) lies))) there))
    (λ (later : Contains fs f). owner_is all fs f k b once (λ h inside. within h (contains_tail h g fs inside)) later lies)
    (contains_cases f g fs among))
    (find_cases (owns g b) (file_blocks g))

owner_is_none : (fs : List FileAt) (b : ℕ) → ((f : FileAt) (k : ℕ) → Contains fs f → LiesIn f k b → ⊥) → owner fs b ≡ None
owner_is_none [] b none = owner_nobody b
owner_is_none (g ∷ fs) b none =
    owner_later g fs b (find_none (owns g b) (file_blocks g) (λ k h.
    ⊎_elim
    (λ (t : owns g b k ≡ true). absurd (none g k (contains_head g fs) (in_block_is b (block_from g.items g.size k) t)))
    (λ (f : owns g b k ≡ false). f)
    (cases_Bool (owns g b k))))
    ∙ owner_is_none fs b (λ f k inside. none f k (contains_tail f g fs inside))

-- what owns a block is a file of which a block lies there
pair_parts : (a b c d : ℕ) → (let o : Option (ℕ × ℕ) = Some (a, b) in o) ≡ Some (c, d) → (a ≡ c) × (b ≡ d)
pair_parts a b c d is =
    (ap (λ (o : Option (ℕ × ℕ)). (unwrap_or o (0, 0)).0) is, ap (λ (o : Option (ℕ × ℕ)). (unwrap_or o (0, 0)).1) is)

none_pair : (a b : ℕ) → (let o : Option (ℕ × ℕ) = None in o) ≡ Some (a, b) → ⊥
none_pair a b is = absurd (cc)

pub owner_from : (fs : List FileAt) (b ino k : ℕ) → owner fs b ≡ Some (ino, k) → (f : FileAt) × Contains fs f × LiesIn f k b × (f.inode ≡ ino)
owner_from [] b ino k is = absurd (none_pair ino k (sym (owner_nobody b) ∙ is))
owner_from (g ∷ fs) b ino k is =
    ⊎_elim
    (λ found.
    let same = pair_parts g.inode found.0 ino k (sym (owner_here g fs b found.0 found.3) ∙ is) in
    (g, contains_head g fs, subst (λ (n : ℕ). LiesIn g n b) same.1 (in_block_is b (block_from g.items g.size found.0) found.2), same.0))
    (λ none.
    let rest = owner_from fs b ino k (sym (owner_later g fs b none.1) ∙ is) in
    (rest.0, contains_tail rest.0 g fs rest.1, rest.2, rest.3))
    (find_cases (owns g b) (file_blocks g))

-- ---- both are one

no_two : (fs : List FileAt) (runs : List OwnedRun) → OwnedOnce fs → IsPermutation (flat_map file_owned fs) runs → AllPairs (λ o q. clash o q ≡ false) runs
no_two fs runs once permuted = λ i j d order inside.
    apart_from_distinct clash runs i j d
    (IsDistinct-IsPermutation clash clash_flips (flat_map file_owned fs) runs permuted
    (IsDistinct-from_apart clash (flat_map file_owned fs) (files_pairs fs fs once (λ f h. h) once.inodes)))
    order inside

all_runs : (fs : List FileAt) (runs : List OwnedRun) → IsPermutation (flat_map file_owned fs) runs → (o : OwnedRun) → Contains runs o → (f : FileAt) × Contains fs f × IsOwned f o
all_runs fs runs permuted o h = files_own fs o (Contains-permutation runs (flat_map file_owned fs) o (IsPermutation-sym (flat_map file_owned fs) runs permuted) h)

range_below : (n k : ℕ) → Contains (range_with_len 0 n) k → k < n
range_below n k h = let place = range_contains 0 n k h in omega (arith, place.1)

run_is : (fs : List FileAt) (f : FileAt) (o : OwnedRun) → OwnedOnce fs → Contains fs f → IsOwned f o → IsRun o
run_is fs f o once among is =
    let last : LiesIn f (o.at + (o.count - 1)) (o.first + (o.count - 1)) = is.lies (o.count - 1) (omega (arith, is.some)) in
    let low : o.first + (o.count - 1) < 2 ^ 32 = once.low f (o.at + (o.count - 1)) (o.first + (o.count - 1)) among last in
    let below : o.at + (o.count - 1) < div_ceil f.size 4096 = (range_below (div_ceil f.size 4096) (o.at + (o.count - 1)) (lies_below f (o.at + (o.count - 1)) (o.first + (o.count - 1)) last)) in
    let short : f.size ≤ 2 ^ 44 = once.short f among in
    record { some = is.some; small = omega (arith, is.some); low = omega (arith, is.some) }

pub tells_owners : (fs : List FileAt) (runs : List OwnedRun) → OwnedOnce fs → IsPermutation (flat_map file_owned fs) runs → IsNonDecreasingBy (λ r. r.first) runs → TellOwners runs (owner fs)
tells_owners fs runs once permuted order =
    let each : (o : OwnedRun) → Contains runs o → IsRun o = λ o h. let from = all_runs fs runs permuted o h in run_is fs from.0 o once from.1 from.2 in
    let ascending : AllPairs IsRunBefore runs = λ i j d before inside.
    let r : OwnedRun = get_or runs i d in
    let s : OwnedRun = get_or runs j d in
    clash_tells r s (no_two fs runs once permuted i j d before inside) (order i j d (omega arith) inside) (each r (Contains-get_or runs i d (omega arith))).some (each s (Contains-get_or runs j d inside)).some in
    record {
      each = all_from_contains IsRun runs each;
      ascending = ascending;
      tell = λ b. ⊎_elim
          (λ found.
          let o : OwnedRun = found.0 in
          let from = all_runs fs runs permuted o found.1 in
          let is : IsOwned from.0 o = from.2 in
          let held : Holds b o = holds b o found.2 in
          owner_is fs fs from.0 (o.at + (b - o.first)) b once (λ g h. h) from.1 (held_lies from.0 o b is held)
          ∙ (ap (λ (n : ℕ). let p : Option (ℕ × ℕ) = Some (n, o.at + (b - o.first)) in p) (sym is.inode)
          ∙ sym (ap (option_map (λ r. owner_in r b)) found.3)))
          (λ none.
          owner_is_none fs b (λ f k among lies.
          let own = block_is_owned f k b lies in
          let inside : Contains runs own.0 = Contains-permutation (flat_map file_owned fs) runs own.0 permuted (files_contain fs f own.0 among own.1) in
          both_ways (holds_block b own.0) (none.0 own.0 inside) (holds_from b own.0 own.2))
          ∙ sym (ap (option_map (λ r. owner_in r b)) none.1))
          (find_cases (holds_block b) runs);
    }
