-- What an ending that is right comes to where the device has room.
use Rattle.reiser_make_app.proofs.Imports.{◌≡◌, ◌≢◌, ◌↔◌, ◌⊎◌, ap, subst, inl, inr, ℕ, ◌-◌, ◌^◌, ◌<◌, refl, arith, Option, Some, None, Rose, MakeEnding, status, Ordered, HasSampleRoom, EndsRight, FitsDevice, TellsFault}
use Rattle.reiser_make_app.specs.declared.make_ending.MakeEnding.TheVariants.{Made, Usage, Short, Full, Fault, Memory}

made : (o : Ordered) (device : ℕ) (ending : MakeEnding) (faults_old faults_new : ℕ) → HasSampleRoom (Some o) device → FitsDevice o device ending
    → TellsFault ending faults_old faults_new → faults_new ≡ faults_old → faults_old < 2 ^ 64 - 1 → (status ending ≡ 0) ⊎ (status ending ≡ 4)
made o device Made faults_old faults_new room right cause same low = inl refl
made o device Usage faults_old faults_new room right cause same low = absurd right
made o device (Short blocks found) faults_old faults_new room right cause same low = absurd (omega (arith, room.1, right.2))
made o device (Full needed blocks) faults_old faults_new room right cause same low = absurd (omega (arith, room.0, right.2))
made o device Fault faults_old faults_new room right cause same low =
    absurd (omega (arith, cause, same, low))
made o device Memory faults_old faults_new room right cause same low = inr refl

pub made_or_memory : (order : Option Ordered) (device : ℕ) (ending : MakeEnding) (faults_old faults_new : ℕ) → HasSampleRoom order device → EndsRight order device ending
    → TellsFault ending faults_old faults_new → faults_new ≡ faults_old → faults_old < 2 ^ 64 - 1 → (status ending ≡ 0) ⊎ (status ending ≡ 4)
made_or_memory None device ending faults_old faults_new room right cause same low = absurd room
made_or_memory (Some o) device ending faults_old faults_new room right cause same low = made o device ending faults_old faults_new room right cause same low

some_none : (o : Ordered) → Some o ≡ None → ⊥
some_none o is = let never : Unit {0} ≡ ⊥ = cc in subst (λ (T : Type 0). T) never tt

of_usage : (o : Ordered) (device : ℕ) (ending : MakeEnding) → FitsDevice o device ending → status ending ≡ 2 → ⊥
of_usage o device Made right is = omega (arith, is)
of_usage o device Usage right is = right
of_usage o device (Short blocks found) right is = omega (arith, is)
of_usage o device (Full needed blocks) right is = omega (arith, is)
of_usage o device Fault right is = omega (arith, is)
of_usage o device Memory right is = omega (arith, is)

-- the status is that of usage exactly where nothing is ordered
pub usage_exactly : (order : Option Ordered) (device : ℕ) (ending : MakeEnding) → EndsRight order device ending → (status ending ≡ 2) ↔ (order ≡ None)
usage_exactly None device ending right = (λ is. refl, λ none. ap (λ (e : MakeEnding). status e) right)
usage_exactly (Some o) device ending right = (λ is. absurd (of_usage o device ending right is), λ none. absurd (some_none o none))

-- the status of a fault is that ending's alone
pub risen : (ending : MakeEnding) (before now : ℕ) → TellsFault ending before now → status ending ≡ 3 → Rose before now
risen Made before now cause is = absurd (omega (arith, is))
risen Usage before now cause is = absurd (omega (arith, is))
risen (Short blocks device) before now cause is = absurd (omega (arith, is))
risen (Full needed blocks) before now cause is = absurd (omega (arith, is))
risen Fault before now cause is = cause
risen Memory before now cause is = absurd (omega (arith, is))

pub faultless : (ending : MakeEnding) (before now : ℕ) → TellsFault ending before now → status ending ≢ 3 → now ≡ before
faultless Made before now cause other = cause
faultless Usage before now cause other = cause
faultless (Short blocks device) before now cause other = cause
faultless (Full needed blocks) before now cause other = cause
faultless Fault before now cause other = absurd (other refl)
faultless Memory before now cause other = cause
