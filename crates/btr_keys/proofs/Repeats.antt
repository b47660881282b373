-- Records that end with a name, written one after the other, read as these records.
use Rattle.btr_keys.proofs.Imports.{◌≡◌, ◌<◌, ℕ, ◌+◌, List, [], ◌∷◌, ◌++◌, length, drop, map, Option, Some, None, cond, ltb, Bool, false, refl, ap, sym, ◌∙◌, arith, append_assoc, length-append, le-ltb, drop_at, option_map, field, Layout, behind_named, starts, records, at_least_one, RecordsReadBack}
use Rattle.std.specs.List.{flat_map, AllByRecursion}
use Rattle.btr_keys.proofs.Layouts.{Reads}
use Rattle.btr_keys.proofs.Starts.{starts_step, starts_end, named_shrinks}

-- a kind of record: its head of n bytes reads back, the name's length stands at a place in it, and the name behind it
pub record IsNamed {R : Type 0} (n at : ℕ) (head : Layout R (List ℕ → R)) (name : R → List ℕ) : Type 1 where
  pub make : R → List ℕ → R
  pub reads : Reads head make
  pub width : head.width ≡ n
  pub some : 0 < n
  pub name_length : (r : R) (rest : List ℕ) → head.fits r → field 2 (head.spell r rest) at ≡ length (name r)
  pub whole : (r : R) (rest : List ℕ) → make r (name r ++ rest) ≡ r

pub front_of : {R : Type 0} {n at : ℕ} {head : Layout R (List ℕ → R)} {name : R → List ℕ} → IsNamed n at head name → (r : R) (rest : List ℕ) → head.fits r
    → (λ (bytes : List ℕ). head.read bytes (drop n bytes)) (head.spell r (name r ++ rest)) ≡ r
front_of {n = n} {head = head} {name = name} named r rest fits =
    let behind = name r ++ rest in
    let there : drop n (head.spell r behind) ≡ behind = ap (drop n) (named.reads.apart r behind) ∙ drop_at (head.spell r []) behind n (named.reads.len r fits ∙ named.width) in
    ap (λ f. f (drop n (head.spell r behind))) (named.reads.back r behind fits) ∙ ap (named.make r) there ∙ named.whole r rest

behind_of : {R : Type 0} {n at : ℕ} {head : Layout R (List ℕ → R)} {name : R → List ℕ} → IsNamed n at head name → (r : R) (rest : List ℕ) → head.fits r
    → behind_named n at (head.spell r (name r ++ rest)) ≡ Some rest
unfolding behind_named
behind_of {n = n} {at = at} {head = head} {name = name} named r rest fits =
    let bytes = head.spell r (name r ++ rest) in
    let front = head.spell r [] in
    let len : length front ≡ n = named.reads.len r fits ∙ named.width in
    let parts : bytes ≡ (front ++ name r) ++ rest = named.reads.apart r (name r ++ rest) ∙ sym (append_assoc front (name r) rest) in
    let size : length bytes ≡ n + length (name r) + length rest = ap length parts ∙ omega (arith, len, length-append (front ++ name r) rest, length-append front (name r)) in
    let named_so : field 2 bytes at ≡ length (name r) = named.name_length r (name r ++ rest) fits in
    let head_there : ltb (length bytes) n ≡ false = le-ltb _ _ (omega (arith, size)) in
    let name_there : ltb (length bytes) (n + length (name r)) ≡ false = le-ltb _ _ (omega (arith, size)) in
    let left : drop (n + length (name r)) bytes ≡ rest = ap (drop (n + length (name r))) parts ∙ drop_at (front ++ name r) rest (n + length (name r)) (omega (arith, len, length-append front (name r))) in
    ap (λ (b : Bool). cond b None (cond (ltb (length bytes) (n + field 2 bytes at)) None (Some (drop (n + field 2 bytes at) bytes)))) head_there
    ∙ ap (λ (k : ℕ). cond (ltb (length bytes) (n + k)) None (Some (drop (n + k) bytes))) named_so
    ∙ ap (λ (b : Bool). cond b None (Some (drop (n + length (name r)) bytes))) name_there
    ∙ ap Some left

all_back : {R : Type 0} {n at : ℕ} {head : Layout R (List ℕ → R)} {name : R → List ℕ} → IsNamed n at head name → (rs : List R) → AllByRecursion head.fits rs
    → records (behind_named n at) (λ bytes. head.read bytes (drop n bytes)) (flat_map (λ r. head.spell r (name r)) rs) ≡ Some rs
all_back {n = n} {at = at} {head = head} named [] fits = ap (option_map (map (λ (bytes : List ℕ). head.read bytes (drop n bytes)))) (starts_end (behind_named n at) [] refl)
all_back {R = R} {n = n} {at = at} {head = head} {name = name} named (r ∷ rs) fits =
    let front : List ℕ → R = λ bytes. head.read bytes (drop n bytes) in
    let behind = behind_named n at in
    let rest = flat_map (λ (r : R). head.spell r (name r)) rs in
    let bytes = head.spell r (name r ++ rest) in
    let joined : head.spell r (name r) ++ rest ≡ bytes =
    ap (λ (z : List ℕ). z ++ rest) (named.reads.apart r (name r)) ∙ append_assoc (head.spell r []) (name r) rest ∙ sym (named.reads.apart r (name r ++ rest)) in
    let some : 0 < length bytes = omega (arith, named.some, named.width, named.reads.len r fits.0, ap length (named.reads.apart r (name r ++ rest)), length-append (head.spell r []) (name r ++ rest)) in
    let step = starts_step behind (named_shrinks n at named.some) bytes rest some (behind_of named r rest fits.0) in
    let others : (o : Option (List (List ℕ))) → option_map (map front) o ≡ Some rs → option_map (map front) (option_map (λ (s : List (List ℕ)). bytes ∷ s) o) ≡ Some (front bytes ∷ rs)
    = λ o. elim o as (λ o. option_map (map front) o ≡ Some rs → option_map (map front) (option_map (λ (s : List (List ℕ)). bytes ∷ s) o) ≡ Some (front bytes ∷ rs)) [
      | None ↦ λ e. absurd cc
      | Some all ↦ λ e. let same : map front all ≡ rs = cc in ap (λ (xs : List R). Some (front bytes ∷ xs)) same
    ] in
    ap (records behind front) joined ∙ ap (option_map (map front)) step ∙ others (starts behind rest) (all_back named rs fits.1) ∙ ap (λ (x : R). Some (x ∷ rs)) (front_of named r rest fits.0)

pub records_read_back : {R : Type 0} {n at : ℕ} {head : Layout R (List ℕ → R)} {name : R → List ℕ} → IsNamed n at head name
    → RecordsReadBack (λ body. at_least_one (records (behind_named n at) (λ bytes. head.read bytes (drop n bytes)) body)) (λ r. head.spell r (name r)) head.fits
records_read_back named first others fits = ap at_least_one (all_back named (first ∷ others) fits)
