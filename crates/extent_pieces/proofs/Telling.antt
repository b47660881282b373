-- The runs of all files, by their first blocks, tell the owners.
use Rattle.extent_pieces.proofs.Imports.{◌≡◌, ℕ, ◌+◌, ◌-◌, ◌*◌, ◌^◌, ◌<◌, ◌≤◌, ◌==◌, ◌&&◌, ◌||◌, ltb, leb, Bool, true, false, List, [], ◌∷◌, cond, Option, Some, None, refl, sym, ◌∙◌, ap, arith, subst, ⊎_elim, eq-eqb, Contains, All, AllPairs, ◌≢◌, flat_map, and_from, and_parts, and_right, both_ways, cases_Bool, cases_lt, ltb-true, leb-true, lt-ltb, le-ltb, le-leb, eqb-true, All-append, all_from_contains, contains_cases, contains_head, contains_tail, file_runs_are, FileRun, RunFrom, Disk, AreRunsOf, IsFileRunBefore as IsBeforeRun, block_from, disk_or_hole, file_runs, goes_on, is_held, is_in_run, lies_at, next_from, named_block, OwnedRun, FileAt, GoesOn, IsRunBefore, owned_by_run, owned_in}
use Rattle.reiser_volume_files.specs.declared.map.RunFrom.TheVariants.{Tail as InTree}
use Rattle.extent_pieces.proofs.Lists.{all_at, all_head, all_none, all_one, all_tail, pairs_append, pairs_head, pairs_tail}
use Rattle.extent_pieces.proofs.Owning.{Holds}

-- file block k lies in block b
abbrev pub LiesIn : FileAt → ℕ → ℕ → Type 0
LiesIn f k b = block_from f.items f.size k ≡ Some (Disk b)

-- No block of an accepted volume has two owners, and each is one of the volume.
pub record OwnedOnce (fs : List FileAt) : Type 0 where
  pub inodes : AllPairs (λ f g. f.inode ≢ g.inode) fs
  pub once : (f g : FileAt) (k l b : ℕ) → Contains fs f → Contains fs g → LiesIn f k b → LiesIn g l b → (f.inode ≡ g.inode) × (k ≡ l)
  pub low : (f : FileAt) (k b : ℕ) → Contains fs f → LiesIn f k b → b < 2 ^ 32
  pub short : (f : FileAt) → Contains fs f → f.size ≤ 2 ^ 44

-- ---- the runs of one file

-- a file block of a run lies where the run says
lies_in_run : (runs : List FileRun) (k : ℕ) (r : FileRun) → AllPairs IsBeforeRun runs → Contains runs r → r.at ≤ k → k < r.at + r.count → lies_at runs k ≡ Some (next_from r.from (k - r.at))
lies_in_run [] k r pairs among low high = absurd (omega (arith, among.1))
lies_in_run (s ∷ runs) k r pairs among low high =
    ⊎_elim
    (λ (same : s ≡ r).
    let here : is_in_run r k ≡ true = and_from (leb r.at k) (ltb k (r.at + r.count)) (le-leb r.at k low) (lt-ltb k (r.at + r.count) high) in
    subst (λ (q : FileRun). lies_at (q ∷ runs) k ≡ Some (next_from r.from (k - r.at))) (sym same) (rw here refl))
    (λ (later : Contains runs r).
    let before : IsBeforeRun s r = all_at (IsBeforeRun s) runs r (pairs_head IsBeforeRun s runs pairs) later in
    let apart : s.at + s.count ≤ r.at = before.apart in
    let off : is_in_run s k ≡ false = and_right (leb s.at k) (ltb k (s.at + s.count)) (le-ltb k (s.at + s.count) (omega arith)) in
    rw off (lies_in_run runs k r (pairs_tail IsBeforeRun s runs pairs) later low high))
    (contains_cases r s runs among)

same_some : (a b : RunFrom) → (let o : Option RunFrom = Some a in o) ≡ Some b → a ≡ b
same_some a b is = cc

-- what lies anywhere is a block of a run
pub in_some_run : (runs : List FileRun) (k : ℕ) (from : RunFrom) → lies_at runs k ≡ Some from → (r : FileRun) × Contains runs r × (r.at ≤ k) × (k < r.at + r.count) × (next_from r.from (k - r.at) ≡ from)
in_some_run [] k from is = absurd (cc)
in_some_run (s ∷ runs) k from is =
    ⊎_elim
    (λ (t : is_in_run s k ≡ true).
    let parts = and_parts (leb s.at k) (ltb k (s.at + s.count)) t in
    let here : lies_at (s ∷ runs) k ≡ Some (next_from s.from (k - s.at)) = rw t refl in
    (s, contains_head s runs, leb-true s.at k parts.0, ltb-true k (s.at + s.count) parts.1, same_some (next_from s.from (k - s.at)) from (sym here ∙ is)))
    (λ (f : is_in_run s k ≡ false).
    let skip : lies_at (s ∷ runs) k ≡ lies_at runs k = rw f refl in
    let rest = in_some_run runs k from (sym skip ∙ is) in
    (rest.0, contains_tail rest.0 s runs rest.1, rest.2, rest.3, rest.4))
    (cases_Bool (is_in_run s k))

-- a run of a file: not empty, and where it lies
pub record RunLies (f : FileAt) (r : FileRun) : Type 0 where
  pub some : 1 ≤ r.count
  pub lies : (a i : ℕ) → r.from ≡ Disk a → i < r.count → LiesIn f (r.at + i) (a + i)

pub runs_lie : (f : FileAt) → All (RunLies f) (file_runs f.items f.size)
runs_lie f =
    let runs : List FileRun = file_runs f.items f.size in
    let are : AreRunsOf (block_from f.items f.size) runs = file_runs_are f.items f.size in
    all_from_contains (RunLies f) runs (λ r among. record {
      some = all_at (λ s. 1 ≤ s.count) runs r are.some among;
      lies = λ a i from inside.
          sym (are.covers (r.at + i))
          ∙ (lies_in_run runs (r.at + i) r are.ascending among (omega arith) (omega arith)
          ∙ (ap (λ (s : RunFrom). let o : Option RunFrom = Some (next_from s (r.at + i - r.at)) in o) from
          ∙ ap (λ (n : ℕ). let o : Option RunFrom = Some (Disk n) in o) (let e : a + (r.at + i - r.at) ≡ a + i = omega arith in e)));
    })

-- what lies anywhere is below the size
placed_below : (f : FileAt) (k : ℕ) (from : RunFrom) → block_from f.items f.size k ≡ Some from → 4096 * k < f.size
placed_below f k from = by (ltb (4096 * k) f.size) refl
  where
    by : (b : Bool) → ltb (4096 * k) f.size ≡ b → cond b (cond (is_held f.items f.size k) (Some InTree) (disk_or_hole (named_block f.items k))) None ≡ Some from → 4096 * k < f.size
    by true is lies = ltb-true (4096 * k) f.size is
    by false is lies = absurd (cc)

-- the runs of a file that is not too long
pub runs_low : (f : FileAt) → f.size ≤ 2 ^ 44 → All (λ r. r.at + r.count < 2 ^ 64) (file_runs f.items f.size)
runs_low f short =
    let runs : List FileRun = file_runs f.items f.size in
    let are : AreRunsOf (block_from f.items f.size) runs = file_runs_are f.items f.size in
    all_from_contains (λ r. r.at + r.count < 2 ^ 64) runs (λ r among.
    let some : 1 ≤ r.count = all_at (λ s. 1 ≤ s.count) runs r are.some among in
    let last : ℕ = r.at + (r.count - 1) in
    let there : block_from f.items f.size last ≡ Some (next_from r.from (last - r.at)) =
    sym (are.covers last) ∙ lies_in_run runs last r are.ascending among (omega arith) (omega (arith, some)) in
    let below = placed_below f last (next_from r.from (last - r.at)) there in
    omega (arith, some, below, short))

-- ---- the runs of owned blocks

-- a run that a file owns
pub record IsOwned (f : FileAt) (o : OwnedRun) : Type 0 where
  pub inode : o.inode ≡ f.inode
  pub some : 0 < o.count
  pub lies : (i : ℕ) → i < o.count → LiesIn f (o.at + i) (o.first + i)

abbrev owned_run : ℕ → FileRun → ℕ → OwnedRun
owned_run inode r a = record { first = a; count = r.count; inode = inode; at = r.at }

owned_from_run : (f : FileAt) (r : FileRun) (a : ℕ) → RunLies f r → r.from ≡ Disk a → IsOwned f (owned_run f.inode r a)
owned_from_run f r a is from = record { inode = refl; some = omega (arith, is.some); lies = λ i inside. is.lies a i from inside }

owned_here : (f : FileAt) (r : FileRun) → RunLies f r → (from : RunFrom) → r.from ≡ from → All (IsOwned f) (owned_by_run f.inode r.at r.count from)
owned_here f r is (Disk a) from = all_one (IsOwned f) (owned_run f.inode r a) [] (owned_from_run f r a is from) (all_none (IsOwned f))
owned_here f r is InTree from = all_none (IsOwned f)

-- the runs that come of a list of runs of a file
pub all_owned : (f : FileAt) (runs : List FileRun) → All (RunLies f) runs → All (IsOwned f) (flat_map (owned_in f.inode) runs)
all_owned f [] all = all_none (IsOwned f)
all_owned f (r ∷ runs) all =
    All-append (IsOwned f) (owned_in f.inode r) (flat_map (owned_in f.inode) runs)
    (owned_here f r (all_head (RunLies f) r runs all) r.from refl)
    (all_owned f runs (all_tail (RunLies f) r runs all))

-- ---- no two runs clash

abbrev pub overlap : OwnedRun → OwnedRun → Bool
overlap r s = ltb r.first (s.first + s.count) && ltb s.first (r.first + r.count)

abbrev pub goes_on_with : OwnedRun → OwnedRun → Bool
goes_on_with r s = (s.first == r.first + r.count) && ((s.inode == r.inode) && (s.at == r.at + r.count))

-- they have a block in common, or the one goes on where the other ends
abbrev pub clash : OwnedRun → OwnedRun → Bool
clash r s = overlap r s || (goes_on_with r s || goes_on_with s r)

turned : (a b c d : Bool) → ((a && b) || (c || d)) ≡ ((b && a) || (d || c))
turned true true c d = refl
turned true false true true = refl
turned true false true false = refl
turned true false false true = refl
turned true false false false = refl
turned false true true true = refl
turned false true true false = refl
turned false true false true = refl
turned false true false false = refl
turned false false true true = refl
turned false false true false = refl
turned false false false true = refl
turned false false false false = refl

pub clash_flips : (r s : OwnedRun) → clash r s ≡ clash s r
clash_flips r s = turned (ltb r.first (s.first + s.count)) (ltb s.first (r.first + r.count)) (goes_on_with r s) (goes_on_with s r)

all_off : (a b c : Bool) → (a ≡ true → ⊥) → (b ≡ true → ⊥) → (c ≡ true → ⊥) → (a || (b || c)) ≡ false
all_off true b c x y z = absurd (x refl)
all_off false true c x y z = absurd (y refl)
all_off false false true x y z = absurd (z refl)
all_off false false false x y z = refl

going : (r s : OwnedRun) → goes_on_with r s ≡ true → GoesOn r s
going r s t =
    let parts = and_parts (s.first == r.first + r.count) ((s.inode == r.inode) && (s.at == r.at + r.count)) t in
    let more = and_parts (s.inode == r.inode) (s.at == r.at + r.count) parts.1 in
    record { next = eqb-true s.first (r.first + r.count) parts.0; inode = eqb-true s.inode r.inode more.0; at = eqb-true s.at (r.at + r.count) more.1 }

common : (r s : OwnedRun) → ((b : ℕ) → Holds b r → Holds b s → ⊥) → r.first < s.first + s.count → s.first < r.first + r.count → 0 < r.count → 0 < s.count → ⊥
common r s apart low high some_r some_s =
    ⊎_elim
    (λ (less : r.first < s.first). apart s.first (record { low = omega arith; high = high }) (record { low = omega arith; high = omega arith }))
    (λ (more : s.first ≤ r.first). apart r.first (record { low = omega arith; high = omega arith }) (record { low = more; high = low }))
    (cases_lt r.first s.first)

-- what it would be that they clash
no_clash : (r s : OwnedRun) → ((b : ℕ) → Holds b r → Holds b s → ⊥) → (GoesOn r s → ⊥) → (GoesOn s r → ⊥) → 0 < r.count → 0 < s.count → clash r s ≡ false
no_clash r s apart first second some_r some_s =
    all_off (overlap r s) (goes_on_with r s) (goes_on_with s r)
    (λ t. let parts = and_parts (ltb r.first (s.first + s.count)) (ltb s.first (r.first + r.count)) t in
    common r s apart (ltb-true r.first (s.first + s.count) parts.0) (ltb-true s.first (r.first + r.count) parts.1) some_r some_s)
    (λ t. first (going r s t))
    (λ t. second (going s r t))

-- where a block of an owned run lies in the file
pub held_lies : (f : FileAt) (o : OwnedRun) (b : ℕ) → IsOwned f o → Holds b o → LiesIn f (o.at + (b - o.first)) b
held_lies f o b is in_o =
    let low : o.first ≤ b = in_o.low in
    subst (λ (c : ℕ). LiesIn f (o.at + (b - o.first)) c) (let e : o.first + (b - o.first) ≡ b = omega arith in e) (is.lies (b - o.first) (omega (arith, in_o.high)))

-- runs of two files do not clash
pub two_files : (fs : List FileAt) (f g : FileAt) (o q : OwnedRun) → OwnedOnce fs → Contains fs f → Contains fs g → f.inode ≢ g.inode → IsOwned f o → IsOwned g q → clash o q ≡ false
two_files fs f g o q once in_f in_g other is_o is_q =
    no_clash o q
    (λ b here there. other (once.once f g (o.at + (b - o.first)) (q.at + (b - q.first)) b in_f in_g (held_lies f o b is_o here) (held_lies g q b is_q there)).0)
    (λ on. other (sym is_o.inode ∙ (sym on.inode ∙ is_q.inode)))
    (λ on. other (sym is_o.inode ∙ (on.inode ∙ is_q.inode)))
    is_o.some is_q.some

goes_on_there : (r s : FileRun) (a c : ℕ) → r.from ≡ Disk a → s.from ≡ Disk c → c ≡ a + r.count → s.at ≡ r.at + r.count → goes_on r s.at s.from ≡ true
goes_on_there r s a c from_r from_s next at =
    rw (from_r, from_s) (and_from (r.at + r.count == s.at) (a + r.count == c) (eq-eqb (r.at + r.count) s.at (sym at)) (eq-eqb (a + r.count) c (sym next)))

-- nor do two runs of one
one_file : (fs : List FileAt) (f : FileAt) (r s : FileRun) (a c : ℕ) → OwnedOnce fs → Contains fs f → RunLies f r → RunLies f s → IsBeforeRun r s → r.from ≡ Disk a → s.from ≡ Disk c
    → clash (owned_run f.inode r a) (owned_run f.inode s c) ≡ false
one_file fs f r s a c once among lies_r lies_s before from_r from_s =
    let o : OwnedRun = owned_run f.inode r a in
    let q : OwnedRun = owned_run f.inode s c in
    let is_o : IsOwned f o = owned_from_run f r a lies_r from_r in
    let is_q : IsOwned f q = owned_from_run f s c lies_s from_s in
    no_clash o q
    (λ b here there.
    let same : r.at + (b - a) ≡ s.at + (b - c) = (once.once f f (r.at + (b - a)) (s.at + (b - c)) b among among (held_lies f o b is_o here) (held_lies f q b is_q there)).1 in
    omega (arith, before.apart, here.low, here.high, there.low, same))
    (λ on. both_ways (goes_on r s.at s.from) before.maximal (goes_on_there r s a c from_r from_s on.next on.at))
    (λ on. omega (arith, before.apart, on.at, lies_r.some, lies_s.some))
    is_o.some is_q.some

clash_here : (fs : List FileAt) (f : FileAt) (r s : FileRun) (a : ℕ) → OwnedOnce fs → Contains fs f → RunLies f r → RunLies f s → IsBeforeRun r s → r.from ≡ Disk a → (from : RunFrom) → s.from ≡ from
    → All (λ q. clash (owned_run f.inode r a) q ≡ false) (owned_by_run f.inode s.at s.count from)
clash_here fs f r s a once among lies_r lies_s before from_r (Disk c) from_s =
    all_one (λ q. clash (owned_run f.inode r a) q ≡ false) (owned_run f.inode s c) [] (one_file fs f r s a c once among lies_r lies_s before from_r from_s) (all_none _)
clash_here fs f r s a once among lies_r lies_s before from_r InTree from_s = all_none _

-- the later runs of a file do not clash with one
none_clashes : (fs : List FileAt) (f : FileAt) (r : FileRun) (a : ℕ) (runs : List FileRun) → OwnedOnce fs → Contains fs f → RunLies f r → r.from ≡ Disk a → All (IsBeforeRun r) runs → All (RunLies f) runs
    → All (λ q. clash (owned_run f.inode r a) q ≡ false) (flat_map (owned_in f.inode) runs)
none_clashes fs f r a [] once among lies from before all = all_none _
none_clashes fs f r a (s ∷ runs) once among lies from before all =
    All-append (λ q. clash (owned_run f.inode r a) q ≡ false) (owned_in f.inode s) (flat_map (owned_in f.inode) runs)
    (clash_here fs f r s a once among lies (all_head (RunLies f) s runs all) (all_head (IsBeforeRun r) s runs before) from s.from refl)
    (none_clashes fs f r a runs once among lies from (all_tail (IsBeforeRun r) s runs before) (all_tail (RunLies f) s runs all))

single_pairs : (f : FileAt) (r : FileRun) (from : RunFrom) → AllPairs (λ o q. clash o q ≡ false) (owned_by_run f.inode r.at r.count from)
single_pairs f r (Disk a) = λ i j d order inside. absurd (omega arith)
single_pairs f r InTree = λ i j d order inside. absurd (omega arith)

head_clashes : (fs : List FileAt) (f : FileAt) (r : FileRun) (runs : List FileRun) → OwnedOnce fs → Contains fs f → RunLies f r → All (IsBeforeRun r) runs → All (RunLies f) runs → (from : RunFrom) → r.from ≡ from
    → (o : OwnedRun) → Contains (owned_by_run f.inode r.at r.count from) o → All (λ q. clash o q ≡ false) (flat_map (owned_in f.inode) runs)
head_clashes fs f r runs once among lies before all (Disk a) from o h =
    ⊎_elim
    (λ (same : owned_run f.inode r a ≡ o). subst (λ (p : OwnedRun). All (λ q. clash p q ≡ false) (flat_map (owned_in f.inode) runs)) same (none_clashes fs f r a runs once among lies from before all))
    (λ (later : Contains [] o). absurd (omega (arith, later.1)))
    (contains_cases o (owned_run f.inode r a) [] h)
head_clashes fs f r runs once among lies before all InTree from o h = absurd (omega (arith, h.1))

pub file_pairs : (fs : List FileAt) (f : FileAt) (runs : List FileRun) → OwnedOnce fs → Contains fs f → AllPairs IsBeforeRun runs → All (RunLies f) runs
    → AllPairs (λ o q. clash o q ≡ false) (flat_map (owned_in f.inode) runs)
file_pairs fs f [] once among pairs all = λ i j d order inside. absurd (omega arith)
file_pairs fs f (r ∷ runs) once among pairs all =
    pairs_append (λ o q. clash o q ≡ false) (owned_in f.inode r) (flat_map (owned_in f.inode) runs)
    (single_pairs f r r.from)
    (file_pairs fs f runs once among (pairs_tail IsBeforeRun r runs pairs) (all_tail (RunLies f) r runs all))
    (λ o h. head_clashes fs f r runs once among (all_head (RunLies f) r runs all) (pairs_head IsBeforeRun r runs pairs) (all_tail (RunLies f) r runs all) r.from refl o h)

or_first : (a b : Bool) → a ≡ true → (a || b) ≡ true
or_first a b t = rw t refl

or_second : (a b c : Bool) → b ≡ true → (a || (b || c)) ≡ true
or_second true b c t = refl
or_second false b c t = rw t refl

-- of two runs that do not clash, the one that begins first lies before the other
pub clash_tells : (r s : OwnedRun) → clash r s ≡ false → r.first ≤ s.first → 0 < r.count → 0 < s.count → IsRunBefore r s
clash_tells r s off order some_r some_s = record {
  apart =
      ⊎_elim
      (λ (less : s.first < r.first + r.count).
      let over : overlap r s ≡ true = and_from (ltb r.first (s.first + s.count)) (ltb s.first (r.first + r.count)) (lt-ltb r.first (s.first + s.count) (omega arith)) (lt-ltb s.first (r.first + r.count) less) in
      absurd (both_ways (clash r s) off (or_first (overlap r s) (goes_on_with r s || goes_on_with s r) over)))
      (λ (more : r.first + r.count ≤ s.first). more)
      (cases_lt s.first (r.first + r.count));
  maximal = λ on.
      let goes : goes_on_with r s ≡ true =
      and_from (s.first == r.first + r.count) ((s.inode == r.inode) && (s.at == r.at + r.count)) (eq-eqb s.first (r.first + r.count) on.next)
      (and_from (s.inode == r.inode) (s.at == r.at + r.count) (eq-eqb s.inode r.inode on.inode) (eq-eqb s.at (r.at + r.count) on.at)) in
      both_ways (clash r s) off (or_second (overlap r s) (goes_on_with r s) (goes_on_with s r) goes);
}
