-- Statements whose jumps, labels and declarations stand where they may (C99 6.8.1 to 6.8.6), whatever their expressions
-- are.
use Rattle.std.specs.Prelude.{◌≡◌, Bool, true, false, not, ◌&&◌, List, ◌++◌, Option, Some, None, Ok, Err}
use Rattle.std.specs.List.{list_all}
use Rattle.obj_memory.specs.declared.int_type.IntType.{IntType}
use Rattle.c_tree.specs.declared.statement.CaseLabel.{CaseLabel}
use Rattle.c_tree.specs.Kinds.{integer}
use Rattle.c_tree.specs.Statements.{Statement, Statements, SwitchItems}
use Rattle.c_tree.specs.Statements as tree
use Rattle.c_tree.specs.Tree.{kind_of}
use Rattle.c_tree.specs.ValidProgram.{Inside, are_different, in_loop, in_switch, is_declaration, is_label, labels_of}
use Rattle.c_faults.specs.Answer.{Answer}
use Rattle.c_unit_typing.specs.Constructs.{Around, Labelled, Labels}
use Rattle.c_unit_typing.specs.Files.{File}

abbrev mutual
  pub is_placed : Inside → Statement → Bool
  is_placed inside (tree.expression_statement e) = true
  is_placed inside tree.empty = true
  is_placed inside (tree.declaration ds) = true
  is_placed inside (tree.block line body) = are_placed inside body
  is_placed inside (tree.if_then e s) = is_placed inside s && not (is_declaration s)
  is_placed inside (tree.if_else e s other) =
      is_placed inside s && not (is_declaration s) && (is_placed inside other && not (is_declaration other))
  is_placed inside (tree.while_do e s) = is_placed in_loop s && not (is_declaration s)
  is_placed inside (tree.do_while s e) = is_placed in_loop s && not (is_declaration s)
  is_placed inside (tree.for line first condition step s) = is_placed in_loop s && not (is_declaration s)
  is_placed inside (tree.switch e line is) =
      list_all (is_label (kind_of e)) (labels_of is) && are_different (labels_of is)
      && are_placed_items (in_switch inside) is
  is_placed inside tree.break = inside.may_break
  is_placed inside tree.continue = inside.may_continue
  is_placed inside (tree.return e) = true

  pub are_placed : Inside → Statements → Bool
  are_placed inside tree.no_statements = true
  are_placed inside (tree.statements s ss) = is_placed inside s && are_placed inside ss

  pub are_placed_items : Inside → SwitchItems → Bool
  are_placed_items inside tree.no_items = true
  are_placed_items inside (tree.items labels s is) = is_placed inside s && are_placed_items inside is

-- what a construct of a file is typed to has a property
abbrev pub IfGives : {A : Type 0} → (A → Type 0) → Answer (File × A) → Type 0
IfGives p (Ok r) = p r.1
IfGives p (Err f) = Unit {0}

-- labels are those of the switch, if there is one
abbrev pub are_labels_of : Option IntType → List CaseLabel → Bool
are_labels_of None labels = true
are_labels_of (Some type) labels = list_all (is_label (integer type)) labels

-- labels of an item, different from each other and from those of the items before it
pub record AreFine (ls : Labels) (own : List CaseLabel) : Type 0 where
  pub different : are_different (ls.earlier ++ own) ≡ true
  pub fit : are_labels_of ls.switch own ≡ true

pub record IsFineStatement (around : Around) (ls : Labels) (labelled : Labelled) : Type 0 where
  pub placed : is_placed around.inside labelled.statement ≡ true
  pub proper : is_declaration labelled.statement ≡ false
  pub labels : AreFine ls labelled.labels
