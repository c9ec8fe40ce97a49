-- All lines of a text.
use Rattle.std.proofs.Common.{◌≡◌, ℕ, ◌≤◌, true, [], ◌∷◌, length, drop, length-drop, Ok, nat_le, refl, sym, ap, subst}
use Rattle.std.proofs.Common.{◌∙◌, append-nil, arith}
use Rattle.std.proofs.lemmas.Bool.{le-leb}
use Rattle.c_pre.specs.declared.fault.PreError.{PreError}
use Rattle.c_pre.specs.declared.fault.PreError.TheVariants.{Memory, Fault}
use Rattle.c_pre.specs.Limits.{max_expanded_tokens}
use Rattle.c_pre.specs.Lines.{Tokens, lines}
use Rattle.c_pre.specs.Trace.{Trace, quiet, after, answer}
use Rattle.c_pre.specs.Sections.{State, finished}
use Rattle.c_pre.specs.Reading.{read_line, read_lines, runs, start, expanded_tokens}
use Rattle.c_pre.specs.Outcomes.{Fails, Stops, Refuses}
use Rattle.c_pre.proofs.Traces.{bind_read, bind_failed, stopped}

refuses : (tokens : Tokens) (error : PreError) → Fails (read_lines start (runs (lines tokens))) error
    → Refuses error (expanded_tokens tokens)
unfolding expanded_tokens
refuses tokens Memory h = h
refuses tokens (Fault fault) h = h

-- The lines of a text: `a` is what is given so far, and `rest` is what is still to be read, which begins with `line`.
module _ (tokens rest line next : Tokens) (s : State) (a : Tokens)
    (same : read_lines start (runs (lines tokens)) ≡ after a (read_lines s (runs (lines rest))))
    (cut : runs (lines rest) ≡ line ∷ runs (lines next)) where
  pub line_read : (s' : State) (b : Tokens) → after a (read_line s line) ≡ record { given = b; end = Ok s' }
      → read_lines start (runs (lines tokens)) ≡ after b (read_lines s' (runs (lines next)))
  line_read s' b h = same ∙ ap (λ l. after a (read_lines s l)) cut
      ∙ bind_read a b (read_line s line) (λ x. read_lines x (runs (lines next))) s' h

  pub line_failed : (error : PreError) → Fails (after a (read_line s line)) error
      → Refuses error (expanded_tokens tokens)
  line_failed error h =
      let v = same ∙ ap (λ l. after a (read_lines s l)) cut in
      refuses tokens error (subst (λ t. Fails t error) (sym v)
      (bind_failed a (read_line s line) (λ x. read_lines x (runs (lines next))) error h))

nil : (rest : Tokens) → length rest ≡ 0 → rest ≡ []
nil [] e = refl
nil (t ∷ rest) e = absurd (omega arith)

module _ (tokens : Tokens) (at : ℕ) (s : State) (a : Tokens)
    (same : read_lines start (runs (lines tokens)) ≡ after a (read_lines s (runs (lines (drop at tokens)))))
    (none : length tokens ≤ at) (few : length a ≤ max_expanded_tokens) where
  at_end : read_lines start (runs (lines tokens)) ≡ after a (finished s.sections)
  at_end = same ∙ ap (λ r. after a (read_lines s (runs (lines r))))
      (nil (drop at tokens) (omega (arith, length-drop at tokens)))

  pub end_failed : (error : PreError) → Stops (finished s.sections) error → Refuses error (expanded_tokens tokens)
  end_failed error h = refuses tokens error
      (subst (λ t. Fails t error) (sym at_end) (stopped (finished s.sections) a error few h))

  answer-quiet : (t : Trace Unit) → t ≡ quiet tt → answer (after a t) ≡ Ok a
  unfolding answer
  answer-quiet t e =
      let b : nat_le (length a) max_expanded_tokens ≡ true = le-leb (length a) max_expanded_tokens few in
      ap (λ t. answer (after a t)) e
      ∙ ap (λ given. answer {A = Unit} (record { given = given; end = Ok tt })) (append-nil a) ∙ rw b refl

  pub end_read : finished s.sections ≡ quiet tt → expanded_tokens tokens ≡ Ok a
  unfolding expanded_tokens
  end_read h = ap answer at_end ∙ answer-quiet (finished s.sections) h
