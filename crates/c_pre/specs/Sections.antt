-- Conditional inclusion (C99 6.10.1), and the state while a text is read.
use Rattle.std.specs.Prelude.{ℕ, Bool, true, false, not, ◌&&◌, List, [], ◌∷◌, if◌then◌else◌}
use Rattle.c_pre.specs.declared.section.IfSection.{IfSection}
use Rattle.c_pre.specs.declared.fault.PreFaultKind.TheVariants.{Unclosed, StrayEnd, UnknownDirective}
use Rattle.c_pre.specs.Names.{Macros}
use Rattle.c_pre.specs.Trace.{Trace, quiet, fails}

-- the if-sections that are open, the innermost first; what each name is defined as; how many tokens replacement lists
-- may
-- still put in
pub record State : Type 0 where
  pub sections : List IfSection
  pub macros : Macros
  pub room : ℕ

-- whether the text here is read, and not in a skipped group
abbrev pub is_read : List IfSection → Bool
is_read [] = true
is_read (section ∷ outer) = section.is_reading

-- an if-section in text that is read, whose first group is read or skipped
abbrev pub opened : ℕ → Bool → IfSection
opened line holds = record { line = line; in_read_text = true; is_taken = holds; has_else = false; is_reading = holds }

-- an if-section in a skipped group, of which no group is read
abbrev pub skipped : ℕ → IfSection
skipped line = record { line = line; in_read_text = false; is_taken = true; has_else = false; is_reading = false }

-- one in text that is read, whose first group was skipped, behind its `#else`
abbrev pub chosen : ℕ → IfSection
chosen line = record { line = line; in_read_text = true; is_taken = true; has_else = true; is_reading = true }

abbrev pub with_section : IfSection → State → State
with_section section s = record s { sections = section ∷ s.sections }

-- one of which a group was read, where another group begins
abbrev pub passed : IfSection → IfSection
passed section = record section { is_reading = false }

-- one of which no group was read, behind an `#elif` whose condition holds or not
abbrev pub tried : Bool → IfSection → IfSection
tried holds section = record section { is_taken = holds; is_reading = holds }

-- `#else`: its group is read where no group of the section was
abbrev pub else_at : ℕ → Bool → State → List IfSection → Trace State
else_at line well_formed s [] = fails line StrayEnd
else_at line well_formed s (section ∷ outer) =
    if section.has_else then fails line StrayEnd
    else if section.in_read_text && not well_formed then fails line UnknownDirective
    else quiet (record s {
      sections = record section
          { is_taken = true; has_else = true; is_reading = not section.is_taken } ∷ outer;
    })

-- `#endif`
abbrev pub endif_at : ℕ → Bool → State → List IfSection → Trace State
endif_at line well_formed s [] = fails line StrayEnd
endif_at line well_formed s (section ∷ outer) =
    if section.in_read_text && not well_formed then fails line UnknownDirective
    else quiet (record s { sections = outer })

-- the line of the outermost section, or this line where none is open
abbrev pub outermost : ℕ → List IfSection → ℕ
outermost line [] = line
outermost line (section ∷ outer) = outermost section.line outer

-- the end of the text: the section opened first is told
abbrev pub finished : List IfSection → Trace Unit
finished [] = quiet tt
finished (section ∷ outer) = fails (outermost section.line outer) Unclosed
