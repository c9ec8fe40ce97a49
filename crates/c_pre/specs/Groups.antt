-- Groups of lines, in which if-sections stand whole (C99 6.10 paragraph 1: group, if-section, if-group, elif-groups,
-- else-group).
use Rattle.std.specs.Prelude.{◌≡◌, Bool, false, not, ◌&&◌, List, [], ◌∷◌, ◌++◌}
use Rattle.c_pre.specs.Directives.{Line, if_defined, if_other, if_condition, elif, else_group, endif_line}
use Rattle.c_pre.specs.Directives.{line_kind}
use Rattle.c_pre.specs.Lines.{Tokens}

mutual
  -- nothing; a line and what is behind it; an if-section, which is its first line, its first group and its
  -- other groups, and what is behind it
  pub data Group : Type 0 where
    no_lines : Group
    plain : (line : Tokens) (more : Group) → Group
    section : (opening : Tokens) (group : Group) (others : OtherGroups) (more : Group) → Group

  -- behind a group of an if-section: its last line; or `#else`, a group and the last line; or `#elif`, a group and what
  -- is behind that
  pub data OtherGroups : Type 0 where
    closed : (closing : Tokens) → OtherGroups
    with_else : (middle : Tokens) (group : Group) (closing : Tokens) → OtherGroups
    with_elif : (middle : Tokens) (group : Group) (others : OtherGroups) → OtherGroups

abbrev mutual
  pub lines_of : Group → List Tokens
  lines_of no_lines = []
  lines_of (plain line more) = line ∷ lines_of more
  lines_of (section opening group others more) = opening ∷ (lines_of group ++ (other_lines others ++ lines_of more))

  pub other_lines : OtherGroups → List Tokens
  other_lines (closed closing) = closing ∷ []
  other_lines (with_else middle group closing) = middle ∷ (lines_of group ++ (closing ∷ []))
  other_lines (with_elif middle group others) = middle ∷ (lines_of group ++ other_lines others)

-- a line that neither begins, parts nor ends an if-section
abbrev pub IsPlain : Line → Type 0
IsPlain (if_defined name wanted) = ⊥
IsPlain if_other = ⊥
IsPlain (if_condition tokens) = ⊥
IsPlain (elif tokens) = ⊥
IsPlain (else_group well_formed) = ⊥
IsPlain (endif_line well_formed) = ⊥
IsPlain line = Unit {0}

-- one that begins an if-section
abbrev pub Opens : Line → Type 0
Opens (if_defined name wanted) = Unit {0}
Opens if_other = Unit {0}
Opens (if_condition tokens) = Unit {0}
Opens line = ⊥

abbrev pub IsElif : Line → Type 0
IsElif (elif tokens) = Unit {0}
IsElif line = ⊥

-- with more behind its name only where the section stands in a skipped group
abbrev pub IsElse : (in_read_text : Bool) → Line → Type 0
IsElse in_read_text (else_group well_formed) = (in_read_text && not well_formed) ≡ false
IsElse in_read_text line = ⊥

abbrev pub Closes : (in_read_text : Bool) → Line → Type 0
Closes in_read_text (endif_line well_formed) = (in_read_text && not well_formed) ≡ false
Closes in_read_text line = ⊥

-- each line is what its place in the group wants, where the group is skipped
abbrev mutual
  pub IsFormed : Group → Type 0
  IsFormed no_lines = Unit {0}
  IsFormed (plain line more) = IsPlain (line_kind line) × IsFormed more
  IsFormed (section opening group others more) =
      Opens (line_kind opening) × IsFormed group × AreFormed others false × IsFormed more

  -- the other groups of a section that stands in text that is read, or in a skipped group
  pub AreFormed : OtherGroups → (in_read_text : Bool) → Type 0
  AreFormed (closed closing) in_read_text = Closes in_read_text (line_kind closing)
  AreFormed (with_else middle group closing) in_read_text =
      IsElse in_read_text (line_kind middle) × IsFormed group × Closes in_read_text (line_kind closing)
  AreFormed (with_elif middle group others) in_read_text =
      IsElif (line_kind middle) × IsFormed group × AreFormed others in_read_text
