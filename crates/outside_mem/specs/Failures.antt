-- Which calls fail.
use Rattle.std.specs.Prelude.{ℕ, ◌+◌, ◌-◌, ◌^◌, min, Bool, false, ◌||◌, nat_eq, List, [], ◌∷◌, ◌++◌, Option, Some, None}
use Rattle.std.specs.List.{list_any}

-- one more, short of the last value of a u64
abbrev pub one_more : ℕ → ℕ
one_more n = min (n + 1) (2 ^ 64 - 1)

-- how many calls were made, the numbers of those that are to fail, and how many writes pass before every call fails
pub record Failures : Type 0 where
  pub made : ℕ
  pub listed : List ℕ
  pub passing : Option ℕ

-- no call was made yet, and none is to fail
abbrev pub no_failures : Failures
no_failures = record { made = 0; listed = []; passing = None }

abbrev pub is_stopped : Option ℕ → Bool
is_stopped None = false
is_stopped (Some left) = nat_eq left 0

-- all calls are stopped, or the next one is listed
abbrev pub fails_next : Failures → Bool
fails_next f = is_stopped f.passing || list_any (λ k. nat_eq k f.made) f.listed

-- one call more was made
abbrev pub counted : Failures → Failures
counted f = record f { made = one_more f.made }

-- the k-th call from now on is to fail too
abbrev pub with_failing : Failures → ℕ → Failures
with_failing f k = record f { listed = f.listed ++ min (f.made + k) (2 ^ 64 - 1) ∷ [] }

-- k further writes pass
abbrev pub stopping_at : Failures → ℕ → Failures
stopping_at f k = record f { passing = Some k }

abbrev pub less_one : Option ℕ → Option ℕ
less_one None = None
less_one (Some left) = Some (left - 1)

-- one of the writes that pass was made
abbrev pub passed_write : Failures → Failures
passed_write f = record f { passing = less_one f.passing }
