-- A run of file extents, with one more.
use Rattle.btr_check_items.proofs.Imports.{◌≡◌, ◌≢◌, ℕ, ◌+◌, ◌^◌, ◌≤◌, ◌<◌, ◌==◌, ◌||◌, ◌⊎◌, inl, inr, Bool, true, false, not, List, [], ◌∷◌, ◌++◌, length, get_or, Some, None, refl, sym, ap, subst, ◌∙◌, ⊎_elim, arith, if◌then◌else◌, nat_le, nat_lt, ◌&&◌, length-append, Decides, cases_Bool, cases_lt, leb-false, leb-true, ltb-false, ltb-true, eqb-true, eqb-false, Decides-eqb, Decides-like, not_from_Decides, All, Kind, has_bytes, Inode, kind_of_mode, Super, FileExtentValue, file_extent_of, IsOfInode, AreCovering, AreKept, IsRunOf, KeepsItem, TellsBytes, end_by, end_of, is_covered, is_told, next_end, whole_with, EndsBefore, EndsInFile, HoldsByte, covered, extent_nbytes, nbytes_of, keeps_extent, may_have_extents, Item}
use Rattle.std.specs.List.{AllPairs, Any, Contains, sum_by}
use Rattle.btr_check_rules.specs.btr_reader.btr_reader_walk.btr_keys.btrfs_format.declared.feature.TheConstants.{NO_HOLES}
use Rattle.std.proofs.lemmas.List.{get_or_append_left, get_or-append-add}
use Rattle.std.proofs.lemmas.List.Elements.{All-contains, All-push, All-weaker, Contains-append_left, Contains-push, Contains-push_cases}
use Rattle.std.proofs.lemmas.List.Quantifiers.{Any-push, all_pairs_push}
use Rattle.std.proofs.lemmas.List.Sums.{sum_by-append}
use Rattle.btr_check_rules.specs.Recount.{has_feature}
use Rattle.btr_check_items.specs.declared.run.ExtentRun.{ExtentRun}
use Rattle.btr_check_items.proofs.Deciding.{decides_if, decides_leb, decides_unless, decides_without, not_none, some_same}
use Rattle.btr_check_items.proofs.ExtentRules.{decides_bytes, decides_extent}

-- ---- one of some, and one behind them

any_contains : {A : Type 0} (P : A → Type 0) (xs : List A) (x : A) → Contains xs x → P x → Any P xs
any_contains P xs x (k, low, at) p = (k, x, low, at, p)

any_left : {A : Type 0} (P : A → Type 0) (xs : List A) (y : A) → Any P xs → Any P (xs ++ y ∷ [])
any_left P xs y (k, x, low, at, p) = any_contains P (xs ++ y ∷ []) x (Contains-append_left xs (y ∷ []) x (k, low, at)) p

any_cases : {A : Type 0} (P : A → Type 0) (xs : List A) (y : A) → Any P (xs ++ y ∷ []) → Any P xs ⊎ P y
any_cases P xs y (k, x, low, at, p) =
    ⊎_elim (λ (old : Contains xs x). inl (any_contains P xs x old p)) (λ (same : y ≡ x). inr (subst P (sym same) p)) (Contains-push_cases xs y x (k, low, at))

last_of : {A : Type 0} (P : A → Type 0) (xs : List A) (y : A) → All P (xs ++ y ∷ []) → P y
last_of P xs y all = All-contains P (xs ++ y ∷ []) y all (Contains-push xs y)

pair_last : {A : Type 0} (R : A → A → Type 0) (xs : List A) (y : A) → AllPairs R (xs ++ y ∷ []) → (x : A) → Contains xs x → R x y
pair_last R xs y pairs x (k, low, at) =
    subst (λ z. R z y) (get_or_append_left xs (y ∷ []) x k low ∙ at)
    (subst (R (get_or (xs ++ y ∷ []) k x)) (get_or-append-add xs (y ∷ []) 0 x) (pairs k (length xs + 0) x (omega (arith, low)) (in_list xs y)))
  where
    in_list : {A : Type 0} (xs : List A) (y : A) → length xs + 0 < length (xs ++ y ∷ [])
    in_list xs y = grind (arith, length-append)

-- ---- one extent

end_is : (i : Item) (e : FileExtentValue) → file_extent_of i.1 ≡ Some e → end_of i ≡ i.0.offset + covered e.ram_bytes e.content
end_is i e reads = ap (end_by i.0.offset) reads

-- an extent that ends early enough ends before the next
ends_before : (i j : Item) → end_of i ≤ j.0.offset → EndsBefore i j
ends_before i j early e reads = let is = end_is i e reads in omega (arith, is, early)

ends_in_file : (i : Item) → end_of i < 2 ^ 64 → EndsInFile i
ends_in_file i early e reads = let is = end_is i e reads in omega (arith, is, early)

-- a byte that it holds lies before its end
held_before : (k : ℕ) (i : Item) → HoldsByte k i → k < end_of i
held_before k i (e, reads, low, high) = let is = end_is i e reads in omega (arith, is, high)

-- the bytes that it adds
abbrev own_bytes : Item → ℕ
own_bytes i = nbytes_of (file_extent_of i.1)

sum_last : (xs : List Item) (x : Item) → sum_by own_bytes (xs ++ x ∷ []) ≡ sum_by own_bytes xs + own_bytes x
sum_last xs x = let sum = sum_by-append own_bytes xs (x ∷ []) in omega (arith, sum)

-- ---- extents that are not kept with one more

module _ (s : Super) (inode : Inode) (items : List Item) (i : Item) (e : FileExtentValue) (reads : file_extent_of i.1 ≡ Some e) where
  pub wrong_form : keeps_extent s inode i.0.offset e ≡ false → ¬ AreKept s inode (items ++ i ∷ [])
  wrong_form not_so are =
      let (found, is, own) = last_of (KeepsItem s inode) items i are.each in
      not_from_Decides _ (decides_extent s inode i.0.offset e) not_so (subst (IsOfInode s inode i.0.offset) (some_same found e (sym is ∙ reads)) own)

  pub wrong_end : 2 ^ 64 ≤ i.0.offset + covered e.ram_bytes e.content → ¬ AreKept s inode (items ++ i ∷ [])
  wrong_end late are = let early = last_of EndsInFile items i are.ends e reads in omega (arith, late, early)

  pub wrong_start : (run : ExtentRun) → AreKept s inode items → IsRunOf items run → i.0.offset < run.end → ¬ AreKept s inode (items ++ i ∷ [])
  wrong_start run kept is early are = ⊎_elim (λ (none : run.end ≡ 0). omega (arith, early, none)) behind is.met
    where
      behind : Any (λ j. end_of j ≡ run.end) items → ⊥
      behind (k, j, low, at, ends) =
          let (f, read, own) = All-contains (KeepsItem s inode) items j kept.each (k, low, at) in
          let before = pair_last EndsBefore items i are.apart j (k, low, at) f read in
          let last = end_is j f read in
          omega (arith, early, ends, before, last)

  -- ---- and those that are

  module _ (run : ExtentRun) (kept : AreKept s inode items) (is : IsRunOf items run) (behind : run.end ≤ i.0.offset) where
    abbrev End : ℕ
    End = i.0.offset + covered e.ram_bytes e.content

    pub still_kept : keeps_extent s inode i.0.offset e ≡ true → End < 2 ^ 64 → AreKept s inode (items ++ i ∷ [])
    still_kept form early = record {
      each = All-push (KeepsItem s inode) items i kept.each (e, reads, (decides_extent s inode i.0.offset e).0 form);
      apart = all_pairs_push EndsBefore items i kept.apart (λ k d low. let last = is.last k d low in ends_before (get_or items k d) i (omega (arith, last, behind)));
      ends = All-push EndsInFile items i kept.ends (let own = end_is i e reads in ends_in_file i (omega (arith, own, early)));
    }

    next_free : run.whole ≤ run.end → ¬ Any (HoldsByte (whole_with run.whole i.0.offset End)) (items ++ i ∷ [])
    next_free inside = ⊎_elim (λ (here : (i.0.offset == run.whole) ≡ true). joined here) (λ (elsewhere : (i.0.offset == run.whole) ≡ false). apart elsewhere) (cases_Bool (i.0.offset == run.whole))
      where
        joined : (i.0.offset == run.whole) ≡ true → ¬ Any (HoldsByte (whole_with run.whole i.0.offset End)) (items ++ i ∷ [])
        joined here some =
            let whole : whole_with run.whole i.0.offset End ≡ End = ap (λ (b : Bool). if b then End else run.whole) here in
            ⊎_elim (λ (old : Any (HoldsByte End) items). old_one old) (λ (new : HoldsByte End i). let high = held_before End i new in let own = end_is i e reads in omega (arith, high, own))
            (any_cases (HoldsByte End) items i (subst (λ (n : ℕ). Any (HoldsByte n) (items ++ i ∷ [])) whole some))
          where
            old_one : Any (HoldsByte End) items → ⊥
            old_one (k, j, low, at, holds) =
                let high = held_before End j holds in
                let last = All-contains (λ x. end_of x ≤ run.end) items j is.last (k, low, at) in
                omega (arith, high, last, behind)

        apart : (i.0.offset == run.whole) ≡ false → ¬ Any (HoldsByte (whole_with run.whole i.0.offset End)) (items ++ i ∷ [])
        apart elsewhere some =
            let whole : whole_with run.whole i.0.offset End ≡ run.whole = ap (λ (b : Bool). if b then End else run.whole) elsewhere in
            ⊎_elim is.next (λ (new : HoldsByte run.whole i). let (f, read, low, high) = new in eqb-false i.0.offset run.whole elsewhere (omega (arith, low, inside, behind)))
            (any_cases (HoldsByte run.whole) items i (subst (λ (n : ℕ). Any (HoldsByte n) (items ++ i ∷ [])) whole some))

    all_held : (k : ℕ) → k < whole_with run.whole i.0.offset End → Any (HoldsByte k) (items ++ i ∷ [])
    all_held k low = ⊎_elim (λ (old : k < run.whole). any_left (HoldsByte k) items i (is.whole k old)) (λ (new : run.whole ≤ k). any_contains (HoldsByte k) (items ++ i ∷ []) i (Contains-push items i) (held new)) (cases_lt k run.whole)
      where
        held : run.whole ≤ k → HoldsByte k i
        held new =
            ⊎_elim
            (λ (here : (i.0.offset == run.whole) ≡ true).
            let whole : whole_with run.whole i.0.offset End ≡ End = ap (λ (b : Bool). if b then End else run.whole) here in
            let start = eqb-true i.0.offset run.whole here in
            (e, reads, omega (arith, start, new), omega (arith, whole, low)))
            (λ (elsewhere : (i.0.offset == run.whole) ≡ false).
            let whole : whole_with run.whole i.0.offset End ≡ run.whole = ap (λ (b : Bool). if b then End else run.whole) elsewhere in absurd (omega (arith, whole, low, new)))
            (cases_Bool (i.0.offset == run.whole))

    pub longer : (next : ExtentRun) → run.whole ≤ run.end → next.end ≡ End → next.whole ≡ whole_with run.whole i.0.offset next.end → next.nbytes ≡ run.nbytes + extent_nbytes e.ram_bytes e.content → IsRunOf (items ++ i ∷ []) next
    longer next inside ends whole bytes =
        let own = end_is i e reads in
        let whole_is : whole_with run.whole i.0.offset End ≡ next.whole = sym (whole ∙ ap (whole_with run.whole i.0.offset) ends) in
        record {
          last = All-push (λ j. end_of j ≤ next.end) items i (All-weaker (λ j. end_of j ≤ run.end) (λ j. end_of j ≤ next.end) (λ j early. omega (arith, early, behind, ends)) items is.last) (omega (arith, own, ends));
          met = inr (Any-push (λ j. end_of j ≡ next.end) items i (own ∙ sym ends));
          whole = λ k low. all_held k (omega (arith, low, whole_is));
          next = λ some. next_free inside (subst (λ (n : ℕ). Any (HoldsByte n) (items ++ i ∷ [])) (sym whole_is) some);
          bytes = bytes ∙ (ap (λ n. n + extent_nbytes e.ram_bytes e.content) is.bytes ∙ sym (sum_last items i ∙ ap (λ o. sum_by own_bytes items + nbytes_of o) reads));
        }

-- ---- together

passed : {A : Type 0} (first second third : Bool) (x y : A) → Some x ≡ (if first && (second && third) then Some y else None) → (first ≡ true) × ((second ≡ true) × ((third ≡ true) × (x ≡ y)))
passed true true true x y is = (refl, (refl, (refl, some_same x y is)))
passed true true false x y is = absurd (not_none x (sym is))
passed true false third x y is = absurd (not_none x (sym is))
passed false second third x y is = absurd (not_none x (sym is))

failed : {A : Type 0} (first second third : Bool) (y : A) → None ≡ (if first && (second && third) then Some y else None) → (first ≡ false) ⊎ ((second ≡ false) ⊎ (third ≡ false))
failed false second third y is = inl refl
failed true false third y is = inr (inl refl)
failed true true false y is = inr (inr refl)
failed true true true y is = absurd (not_none y is)

pub not_with : (s : Super) (inode : Inode) (items : List Item) (i : Item) (place : ℕ) (e : FileExtentValue) (run : ExtentRun) → i.0.offset ≡ place → file_extent_of i.1 ≡ Some e → AreKept s inode items → IsRunOf items run
    → None ≡ next_end s inode run.end place e → ¬ AreKept s inode (items ++ i ∷ [])
not_with s inode items i place e run at reads kept is none =
    ⊎_elim (wrong_form s inode items i e reads)
    (λ (rest : (nat_le run.end i.0.offset ≡ false) ⊎ (nat_lt (i.0.offset + covered e.ram_bytes e.content) (2 ^ 64) ≡ false)). ⊎_elim (λ (early : nat_le run.end i.0.offset ≡ false). wrong_start s inode items i e reads run kept is (leb-false run.end i.0.offset early)) (λ (late : nat_lt (i.0.offset + covered e.ram_bytes e.content) (2 ^ 64) ≡ false). wrong_end s inode items i e reads (ltb-false (i.0.offset + covered e.ram_bytes e.content) (2 ^ 64) late)) rest)
    (failed (keeps_extent s inode i.0.offset e) (nat_le run.end i.0.offset) (nat_lt (i.0.offset + covered e.ram_bytes e.content) (2 ^ 64)) (i.0.offset + covered e.ram_bytes e.content) (subst (λ (p : ℕ). None ≡ next_end s inode run.end p e) (sym at) none))

pub with_next : (s : Super) (inode : Inode) (items : List Item) (i : Item) (place : ℕ) (e : FileExtentValue) (run next : ExtentRun) → i.0.offset ≡ place → file_extent_of i.1 ≡ Some e → AreKept s inode items → IsRunOf items run
    → Some next.end ≡ next_end s inode run.end place e → run.whole ≤ run.end → next.whole ≡ whole_with run.whole place next.end → next.nbytes ≡ run.nbytes + extent_nbytes e.ram_bytes e.content
    → AreKept s inode (items ++ i ∷ []) × IsRunOf (items ++ i ∷ []) next
with_next s inode items i place e run next at reads kept is some inside whole bytes =
    let (form, (early, (low, ends))) = passed (keeps_extent s inode i.0.offset e) (nat_le run.end i.0.offset) (nat_lt (i.0.offset + covered e.ram_bytes e.content) (2 ^ 64)) next.end (i.0.offset + covered e.ram_bytes e.content) (subst (λ (p : ℕ). Some next.end ≡ next_end s inode run.end p e) (sym at) some) in
    let behind = leb-true run.end i.0.offset early in (
      still_kept s inode items i e reads run kept is behind form (ltb-true _ _ low),
      longer s inode items i e reads run kept is behind next inside ends (subst (λ (p : ℕ). next.whole ≡ whole_with run.whole p next.end) (sym at) whole) bytes,
    )

-- ---- what a run decides

-- a fact that is asked of an inode with a name and with bytes
abbrev OfNamed : Inode → Type 0 → Type 0
OfNamed inode P = (kind : Kind) → kind_of_mode inode.mode ≡ Some kind → has_bytes kind ≡ true → inode.nlink ≢ 0 → P

decides_named : {P : Type 0} (inode : Inode) (b : Bool) → Decides b P → Decides ((inode.nlink == 0) || (not (may_have_extents inode) || b)) (OfNamed inode P)
decides_named {P} inode b decides =
    Decides-like _ (λ f kind is has named. f named (kind, is, has)) (λ f named some. f some.0 some.1 some.2 named)
    (decides_without (inode.nlink == 0) (not (may_have_extents inode) || b) (Decides-eqb inode.nlink 0) (decides_if (may_have_extents inode) b (decides_bytes inode) decides))

pub decides_told : (inode : Inode) (items : List Item) (run : ExtentRun) → IsRunOf items run → Decides (is_told inode run.nbytes) (TellsBytes inode items)
decides_told inode items run is =
    decides_named inode (inode.nbytes == run.nbytes) (Decides-like (inode.nbytes == run.nbytes) (λ same. same ∙ is.bytes) (λ same. same ∙ sym is.bytes) (Decides-eqb inode.nbytes run.nbytes))

pub decides_covered : (s : Super) (inode : Inode) (items : List Item) (run : ExtentRun) → IsRunOf items run
    → Decides (is_covered s inode run.whole) (AreCovering s inode items)
decides_covered s inode items run is =
    decides_unless (has_feature s NO_HOLES) _ (decides_named inode (nat_le inode.size run.whole) (Decides-like (nat_le inode.size run.whole) to from (decides_leb inode.size run.whole)))
  where
    to : inode.size ≤ run.whole → (k : ℕ) → k < inode.size → Any (HoldsByte k) items
    to long k low = is.whole k (omega (arith, long, low))

    from : ((k : ℕ) → k < inode.size → Any (HoldsByte k) items) → inode.size ≤ run.whole
    from each = ⊎_elim (λ (short : run.whole < inode.size). absurd (is.next (each run.whole short))) (λ (long : inode.size ≤ run.whole). long) (cases_lt run.whole inode.size)
