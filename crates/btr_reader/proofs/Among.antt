-- Refusals as members of lists, and what a walk has given.
use Rattle.btr_reader.proofs.Imports.{◌≡◌, ◌≤◌, ℕ, Result, Err, List, [], ◌∷◌, ◌++◌, sym, ◌∙◌, ap, subst, arith, Contains-append_left, Contains-append_right, BtrAnswer, Refused, Fault, Memory, BtrRefusal, IsAmong, or_later}
use Rattle.btr_reader_walk.specs.outside.Fault.{HasCauseOf, Rose}

pub among_left : (xs ys : List BtrRefusal) (e : BtrAnswer) → IsAmong xs e → IsAmong (xs ++ ys) e
among_left xs ys (Refused r) h = Contains-append_left xs ys r h
among_left xs ys Fault h = tt
among_left xs ys Memory h = tt

pub among_right : (xs ys : List BtrRefusal) (e : BtrAnswer) → IsAmong ys e → IsAmong (xs ++ ys) e
among_right xs ys (Refused r) h = Contains-append_right xs ys r h
among_right xs ys Fault h = tt
among_right xs ys Memory h = tt

pub among_none : (ys : List BtrRefusal) (e : BtrAnswer) → IsAmong [] e → IsAmong ys e
among_none ys (Refused r) (k, lt, is) = absurd (omega (arith, lt))
among_none ys Fault h = tt
among_none ys Memory h = tt

pub among_first : (xs ys : List BtrRefusal) (e : BtrAnswer) → IsAmong xs e → IsAmong (or_later xs ys) e
among_first [] ys e h = among_none ys e h
among_first (x ∷ xs) ys e h = h

pub among_later : (xs ys : List BtrRefusal) (e : BtrAnswer) → xs ≡ [] → IsAmong ys e → IsAmong (or_later xs ys) e
among_later xs ys e none h = subst (λ (z : List BtrRefusal). IsAmong (or_later z ys) e) (sym none) h

pub none_later : (xs ys : List BtrRefusal) → xs ≡ [] → ys ≡ [] → or_later xs ys ≡ []
none_later xs ys a b = ap (λ (z : List BtrRefusal). or_later z ys) a ∙ b
