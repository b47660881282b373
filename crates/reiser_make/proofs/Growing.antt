-- The table of a sample, name by name.
use Rattle.reiser_make.proofs.Imports.{◌≡◌, ◌≤◌, ◌<◌, ◌⊎◌, ⊎_elim, ℕ, suc, ◌+◌, ◌-◌, ◌*◌, List, [], ◌∷◌, ◌++◌, length, get_or, refl, sym, ap, ◌∙◌, arith, append_assoc, length-append, All, sum_by, append-nil, map-append, length-map, take-append-le, get_or_append_left, get_or_push, take_at, All-append, All-cons, All-nil, sum_by-append, stored_blocks, stored_before, stored_in, SampleEntry}
use Rattle.reiser_make.specs.Content.{IsSmallContent, content_of, state_after, contents, contents_from}
use Rattle.reiser_make.specs.Sample.{contents_of, HoldsSample}
use Rattle.reiser_make.specs.declared.sample.Named.{Named}

-- the first i names are there, and the others are drawn from this state
pub record Grows (number i state : ℕ) (names : List Named) (stored : ℕ) : Type 0 where
  pub long : length names ≡ i
  pub left : contents_of names ++ contents_from (number - i) i state ≡ contents number
  pub small : All (λ named. IsSmallContent named.content) names
  pub firsts : (j : ℕ) (d : Named) → j < i → (get_or names j d).first ≡ stored_before (contents_of names) j
  pub whole : stored ≡ stored_in (contents_of names)
  pub most : stored ≤ 20 * i

pub grows_first : (number : ℕ) → Grows number 0 number [] 0
unfolding contents
grows_first number = record {
  long = refl;
  left = ap (λ n. contents_from n 0 number) (omega arith);
  small = All-nil (λ (n : Named). IsSmallContent n.content);
  firsts = λ j d lt. absurd (omega arith);
  whole = refl;
  most = omega arith;
}

abbrev named_as : SampleEntry → ℕ → Named
named_as content first = record { content = content; first = first }

split : (n j : ℕ) → j < n + 1 → (j < n) ⊎ (j ≡ n)
split n j lt = grind arith

first_more : (names : List Named) (content : SampleEntry) (stored j : ℕ) (d : Named)
    → ((j : ℕ) (d : Named) → j < length names → (get_or names j d).first ≡ stored_before (contents_of names) j)
    → stored ≡ stored_in (contents_of names) → j < length names + 1
    → (get_or (names ++ named_as content stored ∷ []) j d).first ≡ stored_before (contents_of names ++ content ∷ []) j
first_more names content stored j d firsts whole lt = ⊎_elim before last (split (length names) j lt) where
  all : List Named
  all = names ++ named_as content stored ∷ []

  before : j < length names → (get_or all j d).first ≡ stored_before (contents_of names ++ content ∷ []) j
  before below =
      ap (λ (n : Named). n.first) (get_or_append_left names (named_as content stored ∷ []) d j below)
      ∙ firsts j d below
      ∙ sym (ap (sum_by stored_blocks) (take-append-le j (contents_of names) (content ∷ []) (omega (arith, length-map names (λ (n : Named). n.content)))))

  last : j ≡ length names → (get_or all j d).first ≡ stored_before (contents_of names ++ content ∷ []) j
  last is =
      ap (λ (n : Named). n.first) (get_or_push names (named_as content stored) d j (sym is))
      ∙ whole
      ∙ sym (ap (sum_by stored_blocks) (take_at (contents_of names) (content ∷ []) j (length-map names (λ (n : Named). n.content) ∙ sym is)))

pub grows_more : (number i state : ℕ) (names : List Named) (stored : ℕ) (content : SampleEntry)
    → i < number → Grows number i state names stored → content ≡ content_of i state → IsSmallContent content → stored_blocks content ≤ 20
    → Grows number (i + 1) (state_after i state) (names ++ named_as content stored ∷ []) (stored + stored_blocks content)
grows_more number i state names stored content lt before is small few =
    let more : contents_of (names ++ named_as content stored ∷ []) ≡ contents_of names ++ content ∷ [] =
    map-append (λ (n : Named). n.content) names (named_as content stored ∷ []) in
    let rest : number - i ≡ suc (number - (i + 1)) = omega arith in
    record {
      long = omega (arith, length-append names (named_as content stored ∷ []), before.long);
      left =
          ap (λ z. z ++ contents_from (number - (i + 1)) (i + 1) (state_after i state)) more
          ∙ append_assoc (contents_of names) (content ∷ []) (contents_from (number - (i + 1)) (i + 1) (state_after i state))
          ∙ ap (λ c. contents_of names ++ c ∷ contents_from (number - (i + 1)) (i + 1) (state_after i state)) is
          ∙ sym (ap (λ n. contents_of names ++ contents_from n i state) rest)
          ∙ before.left;
      small = All-append (λ (n : Named). IsSmallContent n.content) names (named_as content stored ∷ []) before.small
          (All-cons (λ (n : Named). IsSmallContent n.content) (named_as content stored) [] small (All-nil (λ (n : Named). IsSmallContent n.content)));
      firsts = λ j d below. first_more names content stored j d (λ k e l. before.firsts k e (omega (arith, before.long))) before.whole (omega (arith, before.long)) ∙ ap (λ z. stored_before z j) (sym more);
      whole = ap (λ n. n + stored_blocks content) before.whole ∙ sym (ap stored_in more ∙ sum_by-append stored_blocks (contents_of names) (content ∷ []) ∙ omega arith);
      most = omega (arith, before.most);
    }
