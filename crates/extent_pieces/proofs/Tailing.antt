-- The tails of a file, by the runs of its map.
use Rattle.extent_pieces.proofs.Imports.{◌≡◌, ℕ, zero, suc, ◌+◌, ◌≤◌, ◌==◌, ◌&&◌, Bool, true, false, List, [], ◌∷◌, ◌++◌, map, Option, Some, None, refl, sym, ◌∙◌, ap, arith, ⊎_elim, append_assoc, filter, nat_le, div_ceil, flat_map, range_with_len, append-nil, map-append, and_left, and_parts, cases_Bool, cases_eq, eqb-true, leb-true, false≢true, range_cut, filter_more_yes, filter_more_no, FileRun, RunFrom, Disk, runs_of, file_runs, extended, with_block, goes_on, is_next, longer, block_from, Tail, is_tail, FileAt, file_blocks, has_tail, is_file_inline, owned_in, owned_by_run, tails_in, tails_by_run, tails_from, is_one_tail, is_tail_alone}
use Rattle.reiser_volume_files.specs.declared.map.RunFrom.TheVariants.{Tail as InTree}

-- a run with one block more
pub longer_tails : (inode at count k : ℕ) → at + count ≡ k → tails_from inode at (count + 1) ≡ tails_from inode at count ++ record { inode = inode; at = k } ∷ []
longer_tails inode at count k is =
    let tail : ℕ → Tail = λ (j : ℕ). record { inode = inode; at = j } in
    ap (map tail) (range_cut at count 1 (count + 1) k refl is) ∙ map-append tail (range_with_len at count) (k ∷ [])

joined : (inode at count k : ℕ) (from : RunFrom) → at + count ≡ k → is_next from count InTree ≡ true → tails_by_run inode at (count + 1) from ≡ tails_by_run inode at count from ++ record { inode = inode; at = k } ∷ []
joined inode at count k (Disk block) is t = absurd (false≢true t)
joined inode at count k InTree is t = longer_tails inode at count k is

-- a block that lies in direct items is one tail more
with_tail : (inode : ℕ) (runs : List FileRun) (k : ℕ) → flat_map (tails_in inode) (with_block runs k InTree) ≡ flat_map (tails_in inode) runs ++ record { inode = inode; at = k } ∷ []
with_tail inode [] k = refl
with_tail inode (r ∷ []) k =
    ⊎_elim
    (λ (t : goes_on r k InTree ≡ true).
    let parts = and_parts (r.at + r.count == k) (is_next r.from r.count InTree) t in
    rw t (append-nil (tails_in inode (longer r)) ∙ (joined inode r.at r.count k r.from (eqb-true (r.at + r.count) k parts.0) parts.1 ∙ sym (ap (λ (xs : List Tail). xs ++ record { inode = inode; at = k } ∷ []) (append-nil (tails_in inode r))))))
    (λ (f : goes_on r k InTree ≡ false). rw f (sym (ap (λ (xs : List Tail). xs ++ record { inode = inode; at = k } ∷ []) (append-nil (tails_in inode r)))))
    (cases_Bool (goes_on r k InTree))
with_tail inode (r ∷ (s ∷ runs)) k =
    ap (λ (xs : List Tail). tails_in inode r ++ xs) (with_tail inode (s ∷ runs) k) ∙ sym (append_assoc (tails_in inode r) (flat_map (tails_in inode) (s ∷ runs)) (record { inode = inode; at = k } ∷ []))

no_tails : (inode at count block : ℕ) (from : RunFrom) → is_next from count (Disk block) ≡ true → tails_by_run inode at (count + 1) from ≡ tails_by_run inode at count from
no_tails inode at count block (Disk first) t = refl
no_tails inode at count block InTree t = absurd (false≢true t)

-- a block of the volume is none
with_disk : (inode : ℕ) (runs : List FileRun) (k block : ℕ) → flat_map (tails_in inode) (with_block runs k (Disk block)) ≡ flat_map (tails_in inode) runs
with_disk inode [] k block = refl
with_disk inode (r ∷ []) k block =
    ⊎_elim
    (λ (t : goes_on r k (Disk block) ≡ true).
    let parts = and_parts (r.at + r.count == k) (is_next r.from r.count (Disk block)) t in
    rw t (ap (λ (xs : List Tail). xs ++ []) (no_tails inode r.at r.count block r.from parts.1)))
    (λ (f : goes_on r k (Disk block) ≡ false). rw f refl)
    (cases_Bool (goes_on r k (Disk block)))
with_disk inode (r ∷ (s ∷ runs)) k block = ap (λ (xs : List Tail). tails_in inode r ++ xs) (with_disk inode (s ∷ runs) k block)

-- the tails of the first n blocks
abbrev in_tree : (ℕ → Option RunFrom) → ℕ → Bool
in_tree f k = is_tail (f k)

tails_step : (inode : ℕ) (f : ℕ → Option RunFrom) (n : ℕ) (from : Option RunFrom) → f n ≡ from
    → flat_map (tails_in inode) (runs_of f n) ≡ map (λ k. record { inode = inode; at = k }) (filter (in_tree f) (range_with_len 0 n))
    → flat_map (tails_in inode) (extended (runs_of f n) n from) ≡ map (λ k. record { inode = inode; at = k }) (filter (in_tree f) (range_with_len 0 (n + 1)))
tails_step inode f n None is so_far = so_far ∙ ap (map (λ (k : ℕ). let t : Tail = record { inode = inode; at = k } in t)) (sym (filter_more_no (in_tree f) n (ap is_tail is)))
tails_step inode f n (Some (Disk block)) is so_far =
    with_disk inode (runs_of f n) n block ∙ (so_far ∙ ap (map (λ (k : ℕ). let t : Tail = record { inode = inode; at = k } in t)) (sym (filter_more_no (in_tree f) n (ap is_tail is))))
tails_step inode f n (Some InTree) is so_far =
    let tail : ℕ → Tail = λ (k : ℕ). record { inode = inode; at = k } in
    with_tail inode (runs_of f n) n
    ∙ (ap (λ (xs : List Tail). xs ++ tail n ∷ []) so_far
    ∙ sym (ap (map tail) (filter_more_yes (in_tree f) n (ap is_tail is)) ∙ map-append tail (filter (in_tree f) (range_with_len 0 n)) (n ∷ [])))

runs_next : (f : ℕ → Option RunFrom) (n : ℕ) → runs_of f (suc n) ≡ extended (runs_of f n) n (f n)
unfolding runs_of
runs_next f n = refl

no_runs : (f : ℕ → Option RunFrom) → runs_of f 0 ≡ []
unfolding runs_of
no_runs f = refl

tails_by : (inode : ℕ) (f : ℕ → Option RunFrom) (n : ℕ) → flat_map (tails_in inode) (runs_of f n) ≡ map (λ k. record { inode = inode; at = k }) (filter (in_tree f) (range_with_len 0 n))
tails_by inode f zero = ap (flat_map (tails_in inode)) (no_runs f)
tails_by inode f (suc n) =
    let tail : ℕ → Tail = λ (k : ℕ). record { inode = inode; at = k } in
    ap (flat_map (tails_in inode)) (runs_next f n)
    ∙ (tails_step inode f n (f n) refl (tails_by inode f n)
    ∙ ap (λ (m : ℕ). map tail (filter (in_tree f) (range_with_len 0 m))) (let e : n + 1 ≡ suc n = omega arith in e))

pub tails_of_runs : (f : FileAt) → flat_map (tails_in f.inode) (file_runs f.items f.size) ≡ map (λ k. record { inode = f.inode; at = k }) (filter (has_tail f) (file_blocks f))
tails_of_runs f = tails_by f.inode (block_from f.items f.size) (div_ceil f.size 4096)

tail_owns : (inode at count : ℕ) (from : RunFrom) → is_tail (Some from) ≡ true → owned_by_run inode at count from ≡ []
tail_owns inode at count (Disk block) t = absurd (false≢true t)
tail_owns inode at count InTree t = refl

-- a file that is one tail
pub one_tail_owns : (inode : ℕ) (runs : List FileRun) → is_one_tail runs ≡ true → flat_map (owned_in inode) runs ≡ []
one_tail_owns inode [] t = refl
one_tail_owns inode (r ∷ []) t = append-nil (owned_in inode r) ∙ tail_owns inode r.at r.count r.from t
one_tail_owns inode (r ∷ (s ∷ runs)) t = absurd (false≢true t)

-- short files have one block at most
first_block : (from : Option RunFrom) → is_one_tail (extended [] 0 from) ≡ is_tail from
first_block None = refl
first_block (Some (Disk block)) = refl
first_block (Some InTree) = refl

one_block : (f : ℕ → Option RunFrom) → is_one_tail (runs_of f 1) ≡ is_tail (f 0)
unfolding runs_of
one_block f = first_block (f 0)

no_block : (f : ℕ → Option RunFrom) → is_one_tail (runs_of f 0) ≡ false
unfolding runs_of
no_block f = refl

short : (f : FileAt) → is_tail_alone (file_runs f.items f.size) f.size ≡ (nat_le f.size 2048 && has_tail f 0)
short f =
    ⊎_elim
    (λ (t : nat_le f.size 2048 ≡ true).
    let small : f.size ≤ 2048 = leb-true f.size 2048 t in
    ap (λ (b : Bool). nat_le f.size 2048 && b) (
    ⊎_elim
    (λ (none : f.size ≡ 0).
    let blocks : div_ceil f.size 4096 ≡ 0 = omega arith in
    ap (λ (n : ℕ). is_one_tail (runs_of (block_from f.items f.size) n)) blocks ∙ (no_block (block_from f.items f.size) ∙ sym (ap (λ (n : ℕ). is_tail (block_from f.items n 0)) none)))
    (λ (some : f.size ≡ 0 → ⊥).
    let blocks : div_ceil f.size 4096 ≡ 1 = omega arith in
    ap (λ (n : ℕ). is_one_tail (runs_of (block_from f.items f.size) n)) blocks ∙ one_block (block_from f.items f.size))
    (cases_eq f.size 0)))
    (λ (off : nat_le f.size 2048 ≡ false). and_left (nat_le f.size 2048) _ off ∙ sym (and_left (nat_le f.size 2048) _ off))
    (cases_Bool (nat_le f.size 2048))

pub one_tail : (inline : Bool) (f : FileAt) → (inline && is_tail_alone (file_runs f.items f.size) f.size) ≡ is_file_inline inline f
one_tail inline f = ap (λ (b : Bool). inline && b) (short f)
