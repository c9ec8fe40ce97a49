-- States between which nothing is shown.
use Rattle.std.proofs.Common.{◌≡◌, ◌∙◌}
use Rattle.flat_code.specs.State.{State}
use Rattle.flat_code.specs.Routines.Metadata.{ShowsNothing}

-- nothing is shown twice over
pub shows_both : (s s1 s2 : State) → ShowsNothing s s1 → ShowsNothing s1 s2 → ShowsNothing s s2
shows_both s s1 s2 h k = record {
  input = k.input ∙ h.input;
  output = k.output ∙ h.output;
  taken = k.taken ∙ h.taken;
  accesses = k.accesses ∙ h.accesses;
  turns = k.turns ∙ h.turns;
}

-- nor in a later state that is the same in all that is shown
pub shows_on : (s f f' : State) → ShowsNothing s f → f'.input ≡ f.input → f'.output ≡ f.output → f'.taken ≡ f.taken
    → f'.accesses ≡ f.accesses → f'.turns ≡ f.turns → ShowsNothing s f'
shows_on s f f' h i o t a u = record {
  input = i ∙ h.input;
  output = o ∙ h.output;
  taken = t ∙ h.taken;
  accesses = a ∙ h.accesses;
  turns = u ∙ h.turns;
}
