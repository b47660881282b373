-- What a sink took of a text where a call of it failed.
use Rattle.sink_text.proofs.Imports.{◌≡◌, ℕ, List, ◌++◌, take, Result, Ok, Err, IsErr, Takes}

pub takes_part : {T E : Type 0} (old text new : List ℕ) (result : Result T E) → IsErr result → (k : ℕ) × (new ≡ old ++ take k text) → Takes old text result new
takes_part old text new (Ok x) is part = absurd (cc)
takes_part old text new (Err e) is part = part
