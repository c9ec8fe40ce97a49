-- The lines of a header, one after another.
use Rattle.std.proofs.Common.{◌≡◌, ℕ, ◌∷◌, ap, ◌∙◌}
use Rattle.c_pre.specs.declared.fault.PreError.{PreError}
use Rattle.c_pre.specs.declared.fault.PreError.TheVariants.{Memory, Fault}
use Rattle.c_pre.specs.Lines.{Tokens, lines}
use Rattle.c_pre.specs.Trace.{Trace, quiet, ◌>>=◌}
use Rattle.c_pre.specs.Directives.{line_kind}
use Rattle.c_pre.specs.Sections.{State}
use Rattle.c_pre.specs.Reading.{define_line, define_lines}
use Rattle.c_pre.specs.Outcomes.{Stops}

module _ (at : ℕ) (whole : Trace State) (s : State) (rest line next : Tokens)
    (same : whole ≡ define_lines at (lines rest) s) (cut : lines rest ≡ line ∷ lines next) where
  pub line_defined : (s' : State) → define_line s at (line_kind line) ≡ quiet s'
      → whole ≡ define_lines at (lines next) s'
  line_defined s' h = same ∙ ap (λ l. define_lines at l s) cut ∙ ap (λ t. t >>= define_lines at (lines next)) h

  pub line_refused : (error : PreError) → Stops (define_line s at (line_kind line)) error → Stops whole error
  line_refused Memory h = h
  line_refused (Fault fault) h = same ∙ ap (λ l. define_lines at l s) cut
      ∙ ap (λ t. t >>= define_lines at (lines next)) h
