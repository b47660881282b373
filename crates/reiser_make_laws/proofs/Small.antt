-- What the names of a sample stand for is small, and only a further name stands for no object of its own.
use Rattle.reiser_make_laws.proofs.Imports.{◌≡◌, ℕ, zero, suc, ◌+◌, ◌<◌, Bool, true, false, cond, ◌==◌, List, [], ◌∷◌, length, get_or, refl, sym, subst, arith, contents, contents_from, content_of, file_of, is_further_name, is_symlink, IsSmallContent, state_after, SampleEntry, Name, Symlink, File}
use Rattle.reiser_make.specs.Draw.{drawn, next_state}

abbrev pub AreSmall : List SampleEntry → Type 0
AreSmall [] = Unit {0}
AreSmall (x ∷ xs) = IsSmallContent x × AreSmall xs

either : (b : Bool) (x y : SampleEntry) → IsSmallContent x → IsSmallContent y → IsSmallContent (cond b x y)
either true x y first second = first
either false x y first second = second

few_bytes : (state : ℕ) → IsSmallContent (File 0 (drawn 2049 state) false)
unfolding drawn
few_bytes state = record { blocks = omega arith; bytes = omega arith }

more_bytes : (state : ℕ) → IsSmallContent (File 0 (2049 + drawn 1500 state) false)
unfolding drawn
more_bytes state = record { blocks = omega arith; bytes = omega arith }

blocks_and_rest : (state behind : ℕ) → IsSmallContent (File (1 + drawn 8 state) (1 + drawn 3000 behind) false)
unfolding drawn
blocks_and_rest state behind = record { blocks = omega arith; bytes = omega arith }

whole_blocks : (state : ℕ) → IsSmallContent (File (1 + drawn 20 state) 0 false)
unfolding drawn
whole_blocks state = record { blocks = omega arith; bytes = omega arith }

holes : (state : ℕ) → IsSmallContent (File (2 + drawn 10 state) 0 true)
unfolding drawn
holes state = record { blocks = omega arith; bytes = omega arith }

file_small : (class state : ℕ) → IsSmallContent (file_of class state)
file_small class state =
    either (class == 0) _ _ (few_bytes (next_state state))
    (either (class == 1) _ _ (more_bytes (next_state state))
    (either (class == 2) _ _ (blocks_and_rest (next_state state) (next_state (next_state state)))
    (either (class == 3) _ _ (whole_blocks (next_state state)) (holes (next_state state)))))

content_small : (i state : ℕ) → IsSmallContent (content_of i state)
unfolding content_of
content_small i state = either (is_further_name i) Name _ tt (either (is_symlink i) Symlink _ tt (file_small (drawn 5 (next_state state)) (next_state state)))

from_small : (n i state : ℕ) → AreSmall (contents_from n i state)
from_small zero i state = tt
from_small (suc n) i state = (content_small i state, from_small n (i + 1) (state_after i state))

pub contents_small : (number : ℕ) → AreSmall (contents number)
unfolding contents
contents_small number = from_small number 0 number

length_from : (n i state : ℕ) → length (contents_from n i state) ≡ n
length_from zero i state = refl
length_from (suc n) i state = omega (arith, length_from n (i + 1) (state_after i state))

pub length_contents : (number : ℕ) → length (contents number) ≡ number
unfolding contents
length_contents number = length_from number 0 number

-- also past the end, where a name is taken for a further one
pub small_at : (names : List SampleEntry) → AreSmall names → (i : ℕ) → IsSmallContent (get_or names i Name)
small_at [] small i = tt
small_at (x ∷ xs) small zero = small.0
small_at (x ∷ xs) small (suc i) = small_at xs small.1 i

-- an object of a name's own
abbrev pub IsOwn : SampleEntry → Type 0
IsOwn Name = ⊥
IsOwn Symlink = Unit {0}
IsOwn (File whole rest sparse) = Unit {0}

either_own : (b : Bool) (x y : SampleEntry) → IsOwn x → IsOwn y → IsOwn (cond b x y)
either_own true x y first second = first
either_own false x y first second = second

file_own : (class state : ℕ) → IsOwn (file_of class state)
file_own class state = either_own (class == 0) _ _ tt (either_own (class == 1) _ _ tt (either_own (class == 2) _ _ tt (either_own (class == 3) _ _ tt tt)))

content_own : (i state : ℕ) → is_further_name i ≡ false → IsOwn (content_of i state)
unfolding content_of
content_own i state first =
    subst (λ (b : Bool). IsOwn (cond b Name (cond (is_symlink i) Symlink (file_of (drawn 5 (next_state state)) (next_state state))))) (sym first)
    (either_own (is_symlink i) Symlink _ tt (file_own (drawn 5 (next_state state)) (next_state state)))

own_from : (n i state j : ℕ) → j < n → is_further_name (i + j) ≡ false → IsOwn (get_or (contents_from n i state) j Name)
own_from zero i state j lt first = absurd (omega (arith, lt))
own_from (suc n) i state zero lt first = let here : i + 0 ≡ i = omega arith in content_own i state (subst (λ (k : ℕ). is_further_name k ≡ false) here first)
own_from (suc n) i state (suc j) lt first =
    let next : i + suc j ≡ i + 1 + j = omega arith in
    own_from n (i + 1) (state_after i state) j (omega (arith, lt)) (subst (λ (k : ℕ). is_further_name k ≡ false) next first)

pub contents_own : (number i : ℕ) → i < number → is_further_name i ≡ false → IsOwn (get_or (contents number) i Name)
unfolding contents
contents_own number i lt first =
    let here : i ≡ 0 + i = omega arith in
    own_from number 0 number i lt (subst (λ (k : ℕ). is_further_name k ≡ false) here first)

-- a file has whole blocks and a rest
abbrev IsFile : SampleEntry → Type 0
IsFile Name = ⊥
IsFile Symlink = ⊥
IsFile (File whole rest sparse) = Unit {0}

either_file : (b : Bool) (x y : SampleEntry) → IsFile x → IsFile y → IsFile (cond b x y)
either_file true x y first second = first
either_file false x y first second = second

file_file : (class state : ℕ) → IsFile (file_of class state)
file_file class state = either_file (class == 0) _ _ tt (either_file (class == 1) _ _ tt (either_file (class == 2) _ _ tt (either_file (class == 3) _ _ tt tt)))

link_by : (further link : Bool) (c : SampleEntry) → IsFile c → cond further Name (cond link Symlink c) ≡ Symlink → link ≡ true
link_by true link c file is = absurd cc
link_by false true c file is = refl
link_by false false c file is = absurd (subst IsFile is file)

content_link : (i state : ℕ) → content_of i state ≡ Symlink → is_symlink i ≡ true
unfolding content_of
content_link i state is = link_by (is_further_name i) (is_symlink i) (file_of (drawn 5 (next_state state)) (next_state state)) (file_file (drawn 5 (next_state state)) (next_state state)) is

link_from : (n i state j : ℕ) → get_or (contents_from n i state) j Name ≡ Symlink → is_symlink (i + j) ≡ true
link_from zero i state j is = absurd cc
link_from (suc n) i state zero is = let here : i ≡ i + 0 = omega arith in subst (λ (k : ℕ). is_symlink k ≡ true) here (content_link i state is)
link_from (suc n) i state (suc j) is =
    let next : i + 1 + j ≡ i + suc j = omega arith in
    subst (λ (k : ℕ). is_symlink k ≡ true) next (link_from n (i + 1) (state_after i state) j is)

-- symlinks are those names that the pattern says
pub contents_links : (number i : ℕ) → get_or (contents number) i Name ≡ Symlink → is_symlink i ≡ true
unfolding contents
contents_links number i is =
    let here : 0 + i ≡ i = omega arith in
    subst (λ (k : ℕ). is_symlink k ≡ true) here (link_from number 0 number i is)
