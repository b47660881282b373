-- What holds everywhere holds at an address.
use Rattle.btr_check_rules.proofs.Imports.{ℕ, List, All, AllPairs, EachAt, PairsAt}

pub each_at : {A : Type 0} (at : A → ℕ) (a : ℕ) (P : A → Type 0) (xs : List A) → All P xs → EachAt at a P xs
each_at at a P xs all = λ i d h same. all i d h

pub pairs_at : {A : Type 0} (at : A → ℕ) (a : ℕ) (R : A → A → Type 0) (xs : List A) → AllPairs R xs → PairsAt at a R xs
pairs_at at a R xs all = λ i j d l h either. all i j d l h
