-- A group that is skipped gives nothing and changes nothing.
use Rattle.std.proofs.Common.{◌≡◌, ℕ, Bool, true, false, List, [], ◌∷◌, ◌++◌, refl, ap, ◌∙◌}
use Rattle.std.proofs.Common.{append_assoc, if◌then◌else◌}
use Rattle.std.specs.Prelude.{not}
use Rattle.c_pre.specs.declared.section.IfSection.{IfSection}
use Rattle.c_pre.specs.Conditions.{condition_at}
use Rattle.c_pre.specs.Directives.{Line, text_line, if_defined, if_other, if_condition, elif, else_group, endif_line}
use Rattle.c_pre.specs.Directives.{line_kind}
use Rattle.c_pre.specs.Groups.{Group, no_lines, plain, section, OtherGroups, closed, with_else, with_elif, lines_of}
use Rattle.c_pre.specs.Groups.{other_lines, IsPlain, Opens, IsElif, IsElse, Closes, IsFormed, AreFormed}
use Rattle.c_pre.specs.Lines.{Tokens}
use Rattle.c_pre.specs.Names.{Name}
use Rattle.c_pre.specs.Reading.{holds, followed, obeyed, is_text, read_line, read_lines, read_text_line, with_room}
use Rattle.c_pre.specs.Reading.{with_condition, with_alternative, read_behind}
use Rattle.c_pre.specs.Sections.{State, is_read, opened, skipped, chosen, with_section}
use Rattle.c_pre.specs.Trace.{Trace, quiet, ◌>>=◌, line_of}
use Rattle.c_pre.proofs.Traces.{bind_bind}

-- a line in a group that is skipped
skipped_line : (s : State) (line : Tokens) → is_read s.sections ≡ false
    → read_line s line ≡ followed s (line_of line) (line_kind line)
unfolding read_line
skipped_line s line off = rw off refl

-- a directive in text that is read
obeyed_line : (s : State) (line : Tokens) (kind : Line) → is_read s.sections ≡ true → line_kind line ≡ kind
    → is_text kind ≡ false → read_line s line ≡ obeyed s (line_of line) kind
unfolding read_line
obeyed_line s line kind on e directive = rw (on, e, directive) refl

next_line : (s t : State) (line : Tokens) (more : List Tokens) → read_line s line ≡ quiet t
    → read_lines s (line ∷ more) ≡ read_lines t more
next_line s t line more e = ap (λ r. r >>= λ next. read_lines next more) e

by_plain : (s : State) (at : ℕ) (kind : Line) → IsPlain kind → followed s at kind ≡ quiet s
by_plain s at text_line p = refl
by_plain s at (if_defined name wanted) p = absurd p
by_plain s at if_other p = absurd p
by_plain s at (if_condition tokens) p = absurd p
by_plain s at (elif tokens) p = absurd p
by_plain s at (else_group well) p = absurd p
by_plain s at (endif_line well) p = absurd p
by_plain s at _ p = refl

by_opening : (s : State) (at : ℕ) (kind : Line) → Opens kind → followed s at kind ≡ quiet (with_section (skipped at) s)
by_opening s at (if_defined name wanted) p = refl
by_opening s at if_other p = refl
by_opening s at (if_condition tokens) p = refl
by_opening s at _ p = absurd p

-- a section one of whose groups was read, or that stands in a skipped group: before its `#else`, and behind it
abbrev taken : ℕ → (in_read_text is_reading : Bool) → IfSection
taken line reads reading =
    record { line = line; in_read_text = reads; is_taken = true; has_else = false; is_reading = reading }

abbrev parted : ℕ → (in_read_text : Bool) → IfSection
parted line reads =
    record { line = line; in_read_text = reads; is_taken = true; has_else = true; is_reading = false }

-- a line of a section is the same to a group that is read and to one that is skipped
either_way : (on text : Bool) (a b c : Trace State) → text ≡ false → c ≡ a
    → (if not on then a else if text then b else c) ≡ a
either_way true text a b c e f = rw e f
either_way false text a b c e f = refl

section_line : (s : State) (line : Tokens) (kind : Line) → line_kind line ≡ kind → is_text kind ≡ false
    → obeyed s (line_of line) kind ≡ followed s (line_of line) kind
    → read_line s line ≡ followed s (line_of line) kind
unfolding read_line
section_line s line kind e directive same =
    rw e (either_way (is_read s.sections) (is_text kind) (followed s (line_of line) kind) (read_text_line s line)
    (obeyed s (line_of line) kind) directive same)

elif_line : (s : State) (line : Tokens) (at : ℕ) (reads reading : Bool) → IsElif (line_kind line)
    → read_line (with_section (taken at reads reading) s) line ≡ quiet (with_section (taken at reads false) s)
elif_line s line at reads reading = by (line_kind line) refl
  where
    by : (kind : Line) → line_kind line ≡ kind → IsElif kind
        → read_line (with_section (taken at reads reading) s) line ≡ quiet (with_section (taken at reads false) s)
    by (elif tokens) e p = section_line (with_section (taken at reads reading) s) line (elif tokens) e refl refl
    by _ e p = absurd p

else_line : (s : State) (line : Tokens) (at : ℕ) (reads reading : Bool) → IsElse reads (line_kind line)
    → read_line (with_section (taken at reads reading) s) line ≡ quiet (with_section (parted at reads) s)
else_line s line at reads reading = by (line_kind line) refl
  where
    by : (kind : Line) → line_kind line ≡ kind → IsElse reads kind
        → read_line (with_section (taken at reads reading) s) line ≡ quiet (with_section (parted at reads) s)
    by (else_group well) e p =
        section_line (with_section (taken at reads reading) s) line (else_group well) e refl refl ∙ rw p refl
    by _ e p = absurd p

end_line : (s : State) (line : Tokens) (x : IfSection) → Closes x.in_read_text (line_kind line)
    → read_line (with_section x s) line ≡ quiet s
end_line s line x = by (line_kind line) refl
  where
    by : (kind : Line) → line_kind line ≡ kind → Closes x.in_read_text kind
        → read_line (with_section x s) line ≡ quiet s
    by (endif_line well) e p = section_line (with_section x s) line (endif_line well) e refl refl ∙ rw p refl
    by _ e p = absurd p

mutual
  pub skips : (g : Group) (s : State) (rest : List Tokens) → IsFormed g → is_read s.sections ≡ false
      → read_lines s (lines_of g ++ rest) ≡ read_lines s rest
  skips no_lines s rest f off = refl
  skips (plain line more) s rest f off =
      next_line s s line (lines_of more ++ rest)
      (skipped_line s line off ∙ by_plain s (line_of line) (line_kind line) f.0) ∙ skips more s rest f.1 off
  skips (section opening group others more) s rest f off =
      let at = line_of opening in
      let t = with_section (skipped at) s in
      next_line s t opening ((lines_of group ++ (other_lines others ++ lines_of more)) ++ rest)
      (skipped_line s opening off ∙ by_opening s at (line_kind opening) f.0)
      ∙ ap (read_lines t) (append_assoc (lines_of group) (other_lines others ++ lines_of more) rest)
      ∙ skips group t ((other_lines others ++ lines_of more) ++ rest) f.1 refl
      ∙ ap (read_lines t) (append_assoc (other_lines others) (lines_of more) rest)
      ∙ skips_others others s (lines_of more ++ rest) at false false f.2
      ∙ skips more s rest f.3 off

  -- the groups behind one that was read, or in a section that stands in a skipped group
  pub skips_others : (o : OtherGroups) (s : State) (rest : List Tokens) (at : ℕ) (reads reading : Bool)
      → AreFormed o reads
      → read_lines (with_section (taken at reads reading) s) (other_lines o ++ rest) ≡ read_lines s rest
  skips_others (closed closing) s rest at reads reading f =
      next_line (with_section (taken at reads reading) s) s closing rest (end_line s closing (taken at reads reading) f)
  skips_others (with_else middle group closing) s rest at reads reading f =
      let t = with_section (taken at reads reading) s in
      let u = with_section (parted at reads) s in
      next_line t u middle ((lines_of group ++ (closing ∷ [])) ++ rest) (else_line s middle at reads reading f.0)
      ∙ ap (read_lines u) (append_assoc (lines_of group) (closing ∷ []) rest)
      ∙ skips group u (closing ∷ rest) f.1 refl
      ∙ next_line u s closing rest (end_line s closing (parted at reads) f.2)
  skips_others (with_elif middle group others) s rest at reads reading f =
      let t = with_section (taken at reads reading) s in
      let u = with_section (taken at reads false) s in
      next_line t u middle ((lines_of group ++ other_lines others) ++ rest) (elif_line s middle at reads reading f.0)
      ∙ ap (read_lines u) (append_assoc (lines_of group) (other_lines others) rest)
      ∙ skips group u (other_lines others ++ rest) f.1 refl
      ∙ skips_others others s rest at reads false f.2

-- a section of which no group was read yet
abbrev untaken : State → ℕ → State
untaken s line = with_section (opened line false) s

pub begins_defined : (s : State) (opening : Tokens) (rest : List Tokens) (name : Name) (wanted : Bool)
    → is_read s.sections ≡ true → line_kind opening ≡ if_defined name wanted
    → read_lines s (opening ∷ rest)
    ≡ read_lines (with_section (opened (line_of opening) (holds wanted (s.macros name))) s) rest
begins_defined s opening rest name wanted on o =
    next_line s (with_section (opened (line_of opening) (holds wanted (s.macros name))) s) opening rest
    (obeyed_line s opening (if_defined name wanted) on o refl)

pub begins_condition : (s : State) (opening : Tokens) (rest : List Tokens) (tokens : Tokens)
    → is_read s.sections ≡ true → line_kind opening ≡ if_condition tokens
    → read_lines s (opening ∷ rest)
    ≡ read_behind (line_of opening) s (condition_at (line_of opening) s.macros s.room tokens) rest
begins_condition s opening rest tokens on o =
    ap (λ r. r >>= λ next. read_lines next rest) (obeyed_line s opening (if_condition tokens) on o refl)
    ∙ bind_bind (condition_at (line_of opening) s.macros s.room tokens) (with_condition s (line_of opening))
    (λ next. read_lines next rest)
    (λ c. with_section (opened (line_of opening) c.holds) (with_room s c.room)) (λ c. refl)

-- behind a group that is skipped where no other was read
pub skips_to_end : (s : State) (line : ℕ) (g : Group) (closing : Tokens) (rest : List Tokens) → IsFormed g
    → line_kind closing ≡ endif_line true
    → read_lines (untaken s line) (lines_of g ++ (closing ∷ rest)) ≡ read_lines s rest
skips_to_end s line g closing rest f c =
    skips g (untaken s line) (closing ∷ rest) f refl
    ∙ next_line (untaken s line) s closing rest
    (skipped_line (untaken s line) closing refl ∙ ap (followed (untaken s line) (line_of closing)) c)

pub skips_to_else : (s : State) (line : ℕ) (g : Group) (middle : Tokens) (rest : List Tokens) → IsFormed g
    → line_kind middle ≡ else_group true
    → read_lines (untaken s line) (lines_of g ++ (middle ∷ rest)) ≡ read_lines (with_section (chosen line) s) rest
skips_to_else s line g middle rest f m =
    skips g (untaken s line) (middle ∷ rest) f refl
    ∙ next_line (untaken s line) (with_section (chosen line) s) middle rest
    (skipped_line (untaken s line) middle refl ∙ ap (followed (untaken s line) (line_of middle)) m)

pub skips_to_elif : (s : State) (line : ℕ) (g : Group) (middle : Tokens) (rest : List Tokens) (tokens : Tokens)
    → IsFormed g → line_kind middle ≡ elif tokens
    → read_lines (untaken s line) (lines_of g ++ (middle ∷ rest))
    ≡ read_behind line s (condition_at (line_of middle) s.macros s.room tokens) rest
skips_to_elif s line g middle rest tokens f m =
    let t = untaken s line in
    skips g t (middle ∷ rest) f refl
    ∙ ap (λ r. r >>= λ next. read_lines next rest)
    (skipped_line t middle refl ∙ ap (followed t (line_of middle)) m)
    ∙ bind_bind (condition_at (line_of middle) s.macros s.room tokens)
    (with_alternative t (opened line false) s.sections) (λ next. read_lines next rest)
    (λ c. with_section (opened line c.holds) (with_room s c.room)) (λ c. refl)

pub ends_last : (s : State) (line : ℕ) (closing : Tokens) (rest : List Tokens) → line_kind closing ≡ endif_line true
    → read_lines (with_section (chosen line) s) (closing ∷ rest) ≡ read_lines s rest
ends_last s line closing rest c =
    next_line (with_section (chosen line) s) s closing rest
    (section_line (with_section (chosen line) s) closing (endif_line true) c refl refl)
