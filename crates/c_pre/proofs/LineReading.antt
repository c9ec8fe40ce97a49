-- The reading of one line.
use Rattle.std.proofs.Common.{◌≡◌, ℕ, true, false, refl, sym, ap, ◌∙◌, Ok, None, append-nil}
use Rattle.c_pre.specs.declared.fault.PreError.{PreError}
use Rattle.c_pre.specs.Lines.{Tokens}
use Rattle.c_pre.specs.Trace.{after, line_of}
use Rattle.c_pre.specs.Expansion.{expansion, of_text, trace_of}
use Rattle.c_pre.specs.Directives.{Line, line_kind}
use Rattle.c_pre.specs.Sections.{State, is_read}
use Rattle.c_pre.specs.Reading.{read_line, read_text_line, leaving_room, followed, obeyed, is_text}
use Rattle.c_pre.specs.Outcomes.{Fails}
use Rattle.c_pre.proofs.Traces.{bind_read, bind_failed}

module _ (s : State) (line : Tokens) (at : ℕ) (kind : Line) (at-is : at ≡ line_of line)
    (kind-is : kind ≡ line_kind line) where
  pub in_skipped : is_read s.sections ≡ false → read_line s line ≡ followed s at kind
  unfolding read_line
  in_skipped skips = rw (skips, at-is, kind-is) refl

  pub as_text : is_read s.sections ≡ true → is_text kind ≡ true → read_line s line ≡ read_text_line s line
  unfolding read_line
  as_text reads text =
      let k : is_text (line_kind line) ≡ true = sym (ap is_text kind-is) ∙ text in
      rw (reads, k) refl

  pub as_directive : is_read s.sections ≡ true → is_text kind ≡ false → read_line s line ≡ obeyed s at kind
  unfolding read_line
  as_directive reads text =
      let k : is_text (line_kind line) ≡ false = sym (ap is_text kind-is) ∙ text in
      rw (reads, k, at-is, kind-is) refl

pub text_line_read : (s : State) (line old new : Tokens) (room : ℕ)
    → after old (trace_of (expansion s.macros None s.room (of_text line))) ≡ record { given = new; end = Ok room }
    → after old (read_text_line s line) ≡ record { given = new; end = Ok (record s { room = room }) }
unfolding read_text_line
text_line_read s line old new room h =
    bind_read old new (trace_of (expansion s.macros None s.room (of_text line))) (leaving_room s) room h
    ∙ ap (λ given. record { given = given; end = Ok (record s { room = room }) }) (append-nil new)

pub text_line_failed : (s : State) (line old : Tokens) (error : PreError)
    → Fails (after old (trace_of (expansion s.macros None s.room (of_text line)))) error
    → Fails (after old (read_text_line s line)) error
unfolding read_text_line
text_line_failed s line old error h =
    bind_failed old (trace_of (expansion s.macros None s.room (of_text line))) (leaving_room s) error h
