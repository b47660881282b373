-- Blocks of a disk that are kept: what stays right of them when they are used, added and dropped, and when the disk is written.
use Rattle.outside.proofs.Imports.{◌≡◌, ◌≢◌, ℕ, zero, suc, ◌-◌, ◌<◌, Bool, true, false, cond, nat_eq, is_some, Option, Some, None, List, [], ◌∷◌, length, take, Result, Ok, Err, OnOk, OnErr, IsOk, ⊎_elim, refl, sym, ◌∙◌, ap, subst, get_or-set_same, cases_eq, eqb-true, ne_eqb, LruCache, promoted, put_entries, Block, AreOf, Image, History, block_at, reads, after, wrote, WritesBlock}
use Rattle.std.specs.Cmp.{nat_eq_equiv}
use Rattle.std.specs.List.{IsDistinct}
use Rattle.std.specs.Map.{keys_of, lookup, lookup_entry, remove_entry}
use Rattle.std.specs.Option.{option_map_or}
use Rattle.std.proofs.lemmas.Map.{lookup-remove_entry}
use Rattle.lru.proofs.CallerLemmas.{lookup-put_entries}
use Rattle.outside.proofs.Crash.{write_only}
use Rattle.outside.proofs.Phases.{reads_outside}

-- ---- look-ups
module _ {X : Type 0} (q : ℕ → Bool) where
  -- what is found in a first part is found in the whole
  taken_found : (k : ℕ) (es : List (ℕ × X)) (x : X) → lookup q (take k es) ≡ Some x → lookup q es ≡ Some x
  taken_found zero es x is = absurd (cc)
  taken_found (suc k) [] x is = is
  taken_found (suc k) (e ∷ es) x is =
      (elim (q e.0) as (λ y. cond y (Some e.1) (lookup q (take k es)) ≡ Some x → cond y (Some e.1) (lookup q es) ≡ Some x) [
        | true ↦ λ here. here
        | false ↦ λ later. taken_found k es x later
      ]) is

  -- a look-up gives the value of the entry that it finds, whose key passes
  entry_found : (es : List (ℕ × X)) (e : ℕ × X) → lookup_entry q es ≡ Some e → (lookup q es ≡ Some e.1) × (q e.0 ≡ true)
  entry_found [] e is = absurd (cc)
  entry_found (f ∷ es) e is = (elim (q f.0) as (λ y. q f.0 ≡ y → cond y (Some f) (lookup_entry q es) ≡ Some e → (cond y (Some f.1) (lookup q es) ≡ Some e.1) × (q e.0 ≡ true)) [
    | true ↦ λ t here. let same : f ≡ e = cc in (ap (λ (g : ℕ × X). Some g.1) same, subst (λ (g : ℕ × X). q g.0 ≡ true) same t)
    | false ↦ λ t later. entry_found es e later
  ]) refl is

  -- an entry whose key does not pass may be taken out
  module _ (p : ℕ → Bool) (apart : (k : ℕ) → p k ≡ true → q k ≡ false) where
    removed_other : (es : List (ℕ × X)) → lookup q (remove_entry p es) ≡ lookup q es
    removed_other [] = refl
    removed_other (e ∷ es) = (elim (p e.0) as (λ y. p e.0 ≡ y → lookup q (cond y es (e ∷ remove_entry p es)) ≡ lookup q (e ∷ es)) [
      | true ↦ λ t. ap (λ (s : Bool). cond s (Some e.1) (lookup q es)) (sym (apart e.0 t))
      | false ↦ λ t. ap (λ (o : Option X). cond (q e.0) (Some e.1) o) (removed_other es)
    ]) refl

-- another key does not pass where one does
apart_keys : (n m : ℕ) → m ≢ n → (k : ℕ) → nat_eq n k ≡ true → nat_eq m k ≡ false
apart_keys n m other k is = ne_eqb m k (λ same. other (same ∙ sym (eqb-true n k is)))

skip : {X : Type 0} (m k : ℕ) (x : X) (es : List (ℕ × X)) → m ≢ k → lookup (nat_eq m) ((k, x) ∷ es) ≡ lookup (nat_eq m) es
skip m k x es other = ap (λ (s : Bool). cond s (Some x) (lookup (nat_eq m) es)) (ne_eqb m k other)

some_same : {X : Type 0} (x y : X) → Some x ≡ Some y → x ≡ y
some_same x y is = cc

-- ---- the blocks that are kept
module _ (image : Image) (n : ℕ) (kept : List (ℕ × Block)) (are : AreOf image kept) where
  front : (o : Option (ℕ × Block)) → lookup_entry (nat_eq n) kept ≡ o → AreOf image (option_map_or (λ e. e ∷ remove_entry (nat_eq n) kept) o kept)
  front None is m block found = are m block found
  front (Some e) is m block found =
      let of = entry_found (nat_eq n) kept e is in
      let key : n ≡ e.0 = eqb-true n e.0 of.1 in
      ⊎_elim
      (λ same.
      let at_key : nat_eq m e.0 ≡ true = subst (λ (k : ℕ). nat_eq k e.0 ≡ true) (sym same) of.1 in
      let is_it : Some e.1 ≡ Some block = sym (ap (λ (s : Bool). cond s (Some e.1) (lookup (nat_eq m) (remove_entry (nat_eq n) kept))) at_key) ∙ found in
      are m block (ap (λ (k : ℕ). lookup (nat_eq k) kept) same ∙ of.0 ∙ is_it))
      (λ other.
      are m block (sym (removed_other (nat_eq m) (nat_eq n) (apart_keys n m other) kept) ∙ sym (skip m e.0 e.1 (remove_entry (nat_eq n) kept) (λ is_key. other (is_key ∙ sym key))) ∙ found))
      (cases_eq m n)

  -- the one that is used goes first
  pub used_of : AreOf image (promoted (nat_eq n) kept)
  used_of = front (lookup_entry (nat_eq n) kept) refl

module _ (old new : Image) (n : ℕ) (others : (m : ℕ) → m ≢ n → block_at new m ≡ block_at old m) where
  module _ (c : LruCache ℕ Block) (are : AreOf old c.entries) where
    -- what is found of another block was kept before
    found_before : (b : Block) (o : Option (ℕ × Block)) → lookup_entry (nat_eq n) c.entries ≡ o → (m : ℕ) → m ≢ n → (block : Block)
        → lookup (nat_eq m) (option_map_or (λ e. (e.0, b) ∷ remove_entry (nat_eq n) c.entries) o ((n, b) ∷ take (c.cap - 1) c.entries)) ≡ Some block → lookup (nat_eq m) c.entries ≡ Some block
    found_before b None is m other block found =
        taken_found (nat_eq m) (c.cap - 1) c.entries block (sym (skip m n b (take (c.cap - 1) c.entries) other) ∙ found)
    found_before b (Some e) is m other block found =
        let key : n ≡ e.0 = eqb-true n e.0 (entry_found (nat_eq n) c.entries e is).1 in
        sym (removed_other (nat_eq m) (nat_eq n) (apart_keys n m other) c.entries)
        ∙ sym (skip m e.0 b (remove_entry (nat_eq n) c.entries) (λ is_key. other (is_key ∙ sym key))) ∙ found

    -- block n is kept as it now is
    pub put_of : (b : Block) → b.bytes ≡ block_at new n → AreOf new (put_entries nat_eq c n b)
    put_of b here m block found = ⊎_elim
        (λ same.
        let is_it : Some b ≡ Some block = sym (lookup-put_entries nat_eq c n b nat_eq_equiv) ∙ ap (λ (k : ℕ). lookup (nat_eq k) (put_entries nat_eq c n b)) (sym same) ∙ found in
        ap (λ (x : Block). x.bytes) (sym (some_same b block is_it)) ∙ here ∙ ap (block_at new) (sym same))
        (λ other. are m block (found_before b (lookup_entry (nat_eq n) c.entries) refl m other block found) ∙ sym (others m other))
        (cases_eq m n)

  module _ (kept : List (ℕ × Block)) (are : AreOf old kept) where
    -- block n is dropped
    pub dropped_of : IsDistinct nat_eq (keys_of kept) → AreOf new (remove_entry (nat_eq n) kept)
    dropped_of distinct m block found = ⊎_elim
        (λ same.
        let gone : lookup (nat_eq m) (remove_entry (nat_eq n) kept) ≡ cond (nat_eq n m) None (lookup (nat_eq m) kept) =
        lookup-remove_entry nat_eq_equiv (nat_eq n) (λ x y is. ap (λ (k : ℕ). nat_eq k y) (eqb-true n x is)) m kept distinct in
        let none : cond (nat_eq n m) None (lookup (nat_eq m) kept) ≡ None =
        ap (λ (s : Bool). cond s None (lookup (nat_eq m) kept)) (ap (nat_eq n) same ∙ nat_eq_equiv.refl n) in
        absurd (never block (sym (gone ∙ none) ∙ found)))
        (λ other. are m block (sym (removed_other (nat_eq m) (nat_eq n) (apart_keys n m other) kept) ∙ found) ∙ sym (others m other))
        (cases_eq m n)
      where
        never : (x : Block) → None ≡ Some x → ⊥
        never x is = cc

-- a call of `put` whose answer is not looked at
pub after_put : {A E : Type 0} (r : Result A E) (P : LruCache ℕ Block → Type 0) (before put now : LruCache ℕ Block) → OnOk r (now ≡ put) → OnErr r (now ≡ before) → P put → P before → P now
after_put (Ok x) P before put now ok err is_put is_before = subst P (sym ok) is_put
after_put (Err e) P before put now ok err is_put is_before = subst P (sym err) is_before

-- one that finds the key has room
pub after_set : {A E : Type 0} (r : Result A E) (P : LruCache ℕ Block → Type 0) (put now : LruCache ℕ Block) → OnOk r (now ≡ put) → IsOk r → P put → P now
after_set (Ok x) P put now ok is is_put = subst P (sym ok) is_put
after_set (Err e) P put now ok is is_put = absurd (cc)

-- ---- a write of the disk
module _ {T E : Type 0} (h h' : History) (n : ℕ) (bytes : List ℕ) (result : Result T E) (did : WritesBlock h n bytes result h') (old new : Image) (is : old ≡ reads h) (is' : new ≡ reads h') where
  pub written_others : (m : ℕ) → m ≢ n → block_at new m ≡ block_at old m
  written_others m other =
      ap (λ (i : Image). block_at i m) is' ∙ reads_outside (λ b. b ≡ n) h h' (write_only (λ b _. b ≡ n) h h' n bytes result refl did) m other ∙ sym (ap (λ (i : Image). block_at i m) is)

pub written_here : (h h' : History) (n : ℕ) (bytes : List ℕ) → h' ≡ after (wrote n bytes true) h → n < length (reads h) → (new : Image) → new ≡ reads h' → bytes ≡ block_at new n
written_here h h' n bytes did fits new is' = sym (ap (λ (i : Image). block_at i n) (is' ∙ ap reads did) ∙ get_or-set_same (reads h) n bytes [] fits)
