-- What a call makes of a disk's state, from what it made of each part.
use Rattle.outside_mem.proofs.Imports.{◌≡◌, ℕ, List, true, ◌∙◌, ap, History, wrote, synced, after, Failures, counted, passed_write, one_more, State, after_write, after_sync, after_refusal, with_block}

module _ (v d : State) (is : v ≡ d) where
  pub state_with_block : (h : History) (n : ℕ) (bytes : List ℕ) → h ≡ with_block d.history n bytes
      → record { history = h; opened = v.opened; failures = v.failures; faults = v.faults; refused = v.refused; writes = v.writes; reads_made = v.reads_made } ≡ record d { history = with_block d.history n bytes }
  state_with_block h n bytes more = λ i. record {
    history = more i;
    opened = (is i).opened;
    failures = (is i).failures;
    faults = (is i).faults;
    refused = (is i).refused;
    writes = (is i).writes;
    reads_made = (is i).reads_made;
  }

  pub state_after_write : (h : History) (n : ℕ) (bytes : List ℕ) (f f' : Failures) (w : ℕ) → h ≡ after (wrote n bytes true) d.history → f ≡ counted v.failures → f' ≡ passed_write f → w ≡ one_more v.writes
      → record { history = h; opened = v.opened; failures = f'; faults = v.faults; refused = v.refused; writes = w; reads_made = v.reads_made } ≡ after_write d n bytes
  state_after_write h n bytes f f' w more called passed counted_one = λ i. record {
    history = more i;
    opened = (is i).opened;
    failures = (passed ∙ ap passed_write called ∙ ap (λ (s : State). passed_write (counted s.failures)) is) i;
    faults = (is i).faults;
    refused = (is i).refused;
    writes = (counted_one ∙ ap (λ (s : State). one_more s.writes) is) i;
    reads_made = (is i).reads_made;
  }

  pub state_after_sync : (h : History) (f : Failures) → h ≡ after synced d.history → f ≡ counted v.failures
      → record { history = h; opened = v.opened; failures = f; faults = v.faults; refused = v.refused; writes = v.writes; reads_made = v.reads_made } ≡ after_sync d
  state_after_sync h f more called = λ i. record {
    history = more i;
    opened = (is i).opened;
    failures = (called ∙ ap (λ (s : State). counted s.failures) is) i;
    faults = (is i).faults;
    refused = (is i).refused;
    writes = (is i).writes;
    reads_made = (is i).reads_made;
  }

  pub state_after_refusal : (h : History) (f : Failures) (faults refused : ℕ) → h ≡ d.history → f ≡ counted v.failures → faults ≡ one_more v.faults → refused ≡ one_more v.refused
      → record { history = h; opened = v.opened; failures = f; faults = faults; refused = refused; writes = v.writes; reads_made = v.reads_made } ≡ after_refusal d
  state_after_refusal h f faults refused stays called faults_one refused_one = λ i. record {
    history = stays i;
    opened = (is i).opened;
    failures = (called ∙ ap (λ (s : State). counted s.failures) is) i;
    faults = (faults_one ∙ ap (λ (s : State). one_more s.faults) is) i;
    refused = (refused_one ∙ ap (λ (s : State). one_more s.refused) is) i;
    writes = (is i).writes;
    reads_made = (is i).reads_made;
  }
