-- Statements are typed to statements whose expressions and initializers are valid (C99 6.8).
use Rattle.std.proofs.Common.{◌≡◌, ℕ, true, false, ◌&&◌, refl, sym, ap, ◌∙◌, subst, List, [], ◌++◌}
use Rattle.std.proofs.Common.{Option, Some, None}
use Rattle.std.specs.Prelude.{Ok, Err}
use Rattle.std.proofs.lemmas.Bool.{and_from}
use Rattle.std.proofs.lemmas.List.{append-nil}
use Rattle.obj_memory.specs.declared.int_type.IntType.{IntType}
use Rattle.c_syntax.specs.Statements.{Block, BlockItem, BlockItems, ForInit}
use Rattle.c_syntax.specs.Statements as t
use Rattle.c_syntax.specs.Tree.{Expression}
use Rattle.c_tree.specs.declared.c_type.TypeWord.{TypeWord}
use Rattle.c_tree.specs.declared.statement.CaseLabel.{CaseLabel}
use Rattle.c_tree.specs.Blocks.{all_variables, block_variables, declared_by, each_variables, first_variables}
use Rattle.c_tree.specs.Blocks.{items_variables, switch_variables, variables_in}
use Rattle.c_tree.specs.Kinds.{is_promoted}
use Rattle.c_tree.specs.Statements.{First, Statement, Statements, SwitchItems}
use Rattle.c_tree.specs.Statements as tree
use Rattle.c_tree.specs.Tree.{kind_of}
use Rattle.c_tree.specs.Valid.{Scope, is_valid, within}
use Rattle.c_tree.specs.ValidProgram.{is_first}
use Rattle.c_const.specs.Integers.{type_of}
use Rattle.c_faults.specs.Answer.{Answer, ◌>>=◌}
use Rattle.c_rules.specs.Values.{Value}
use Rattle.c_typing_state.specs.State.{State, judged}
use Rattle.c_unit_typing.specs.Constructs.{Around, Head, Labels, behind_first, case_label, controlled}
use Rattle.c_unit_typing.specs.Constructs.{declaration_typed as local_typed, default_label}
use Rattle.c_unit_typing.specs.Constructs.{do_typed, evaluated, expression_typed}
use Rattle.c_unit_typing.specs.Constructs.{first_typed, for_typed, head_typed, if_else_typed, if_typed}
use Rattle.c_unit_typing.specs.Constructs.{in_scope, jump, labels_on, looping, no_labels, returned}
use Rattle.c_unit_typing.specs.Constructs.{switch_typed, switching, switching_on, while_typed}
use Rattle.c_unit_typing.specs.Constructs.{without_labels}
use Rattle.c_unit_typing.specs.Declarations.{declaration}
use Rattle.c_unit_typing.specs.Files.{File, FileTyping, finished, in_state, ◌~>◌}
use Rattle.c_unit_typing.specs.Statements.{block, block_item, block_items, statement, switch_block, switch_item}
use Rattle.c_unit_typing.specs.Statements.{switch_items}
use Rattle.typing_laws.specs.Validity.Regular.{is_regular}
use Rattle.typing_laws.proofs.Validity.Common.{first, second}
use Rattle.typing_laws.specs.Declarators.Extending.{Extending}
use Rattle.typing_laws.specs.Declarators.Given.{anything}
use Rattle.typing_laws.specs.Scopes.Regular.{are_regular_block_items, is_regular_block, is_regular_block_item}
use Rattle.typing_laws.specs.Scopes.Regular.{is_regular_declaration, is_regular_first, is_regular_if}
use Rattle.typing_laws.specs.Scopes.Regular.{is_regular_statement}
use Rattle.typing_laws.proofs.Scopes.Extended.{step_extends}
use Rattle.typing_laws.proofs.Scopes.Extended.{case_extends, evaluated_extends}
use Rattle.typing_laws.proofs.Scopes.Extended.{switching_extends}
use Rattle.program_laws.specs.Bodies.Parts.{has_valid_parts, have_valid_parts, is_valid_head}
use Rattle.program_laws.specs.Bodies.Parts.{items_have_valid_parts}
use Rattle.program_laws.specs.Bodies.Standing.{IsReady}
use Rattle.program_laws.specs.Bodies.Typed.{IfTyped, Typed, none}
use Rattle.program_laws.proofs.Bodies.Chained.{after_typed, block_typed, finished_typed, given_typed}
use Rattle.program_laws.proofs.Bodies.Chained.{kept_sound}
use Rattle.program_laws.proofs.Bodies.Chained.{one_typed, opening_typed, scoped_typed, state_typed, two_typed}
use Rattle.program_laws.proofs.Bodies.Chained.{ready_behind, typed_on}
use Rattle.program_laws.proofs.Bodies.Declared.{declaration_typed}
use Rattle.program_laws.proofs.Bodies.Evaluated.{evaluated_sound, head_extends}
use Rattle.program_laws.proofs.Bodies.Evaluated.{head_sound, switching_sound}
use Rattle.program_laws.proofs.Bodies.Laid.{case_laid, evaluated_laid, head_laid, step_laid, switching_laid}
use Rattle.program_laws.proofs.Bodies.Objects.{AreDeclared}
use Rattle.program_laws.proofs.Bodies.Constructs.{AllParts, HeadParts, IsFirst, IsHead, ItemParts, Parts}
use Rattle.program_laws.proofs.Bodies.Constructs.{SwitchParts, Switches, TypesStatement, controlled_typed}
use Rattle.program_laws.proofs.Bodies.Constructs.{do_loop_typed, expression_statement_typed, head_made}
use Rattle.program_laws.proofs.Bodies.Constructs.{if_otherwise_typed, if_then_typed, jump_typed, labelled_typed}
use Rattle.program_laws.proofs.Bodies.Constructs.{loop_typed, made_by, opened_by, returned_typed}
use Rattle.program_laws.proofs.Bodies.Constructs.{unlabelled_typed}

-- the head of a `for`

abbrev head_opens : Statement → List ℕ
head_opens (tree.for line x condition step s) = first_variables x
head_opens s = []

module _ (result : List TypeWord) where
  first_is : (x : ForInit) → is_regular_first x ≡ true → (f : File) → IsReady f.state
      → IfTyped result first_variables first_variables IsFirst f (first_typed x f)
  first_is (t.declares d) c f ready =
      one_typed result variables_in variables_in AreDeclared first_variables first_variables IsFirst f
      (declaration true d f) (λ vs. tree.first_declaration vs)
      (declaration_typed result true d c f ready) (λ vs. refl) (λ vs n is. is) (λ scope vs is. is)
  first_is (t.evaluates None at) c f ready =
      finished_typed result first_variables first_variables IsFirst f ready tree.nothing refl (λ scope. refl)
  first_is (t.evaluates (Some e) at) c f ready =
      one_typed result none none (λ scope e. is_valid scope e ≡ true) first_variables first_variables IsFirst f
      (in_state (evaluated e) f) (λ e. tree.first_expression e)
      (state_typed result anything (λ scope e. is_valid scope e ≡ true) f ready (evaluated e f.state)
      (evaluated_extends e c f.state ready.formed) (evaluated_laid e c f.state ready.formed ready.laid)
      (λ scope last is. evaluated_sound scope last e c f.state))
      (λ x. refl) (λ x n is. is) (λ scope x is. is)

  head_from : (f : File) (r : File × First) → Typed result first_variables first_variables IsFirst f r
      → (b : Answer (State × Head)) → Extending false r.0.state (λ u h. h.first ≡ r.1) b
      → IfTyped result none none HeadParts r.0 (b >>= λ q. Ok (record r.0 { state = q.0 }, q.1))
      → IfTyped result head_made head_made IsHead f (b >>= λ q. Ok (record r.0 { state = q.0 }, q.1))
  head_from f r h (Ok q) e g =
      let same : first_variables q.1.first ≡ first_variables r.1 ++ [] =
      ap first_variables e.1 ∙ sym (append-nil (first_variables r.1)) in
      typed_on result first_variables first_variables IsFirst none none HeadParts head_made head_made IsHead f r
      (record r.0 { state = q.0 }, q.1) q.1 h g same same
      (λ scope is parts. and_from _ _ (ap (is_first scope) e.1 ∙ is) parts)
  head_from f r h (Err x) e g = tt

  head_by : (line : ℕ) (condition step : Option Expression) → is_regular_if condition ≡ true
      → is_regular_if step ≡ true → (f : File) → IsReady f.state → (a : Answer (File × First))
      → IfTyped result first_variables first_variables IsFirst f a
      → IfTyped result head_made head_made IsHead f
      (a >>= λ r. in_state (behind_first line condition step r.1) r.0)
  head_by line condition step c d f ready (Ok r) h =
      let there = ready_behind f r.0 h.leads ready h.linked h.laid in
      let extends = head_extends line condition step c d r.1 r.0.state there.formed in
      head_from f r h (behind_first line condition step r.1 r.0.state) extends
      (state_typed result (λ u h. h.first ≡ r.1) HeadParts r.0 there
      (behind_first line condition step r.1 r.0.state) extends
      (head_laid line condition step c d r.1 r.0.state there.formed there.laid)
      (λ scope last is. head_sound scope last line condition step c d r.1 r.0.state))
  head_by line condition step c d f ready (Err e) h = tt

  -- a statement that is valid in the scope of its head
  abbrev ForParts : Scope → Statement → Type 0
  ForParts inner s = (scope : Scope) → inner ≡ within scope (head_opens s) → Parts scope s

  for_loop_typed : (line : ℕ) (x : ForInit) → is_regular_first x ≡ true → (condition step : Option Expression)
      → is_regular_if condition ≡ true → is_regular_if step ≡ true → (body : FileTyping Statement)
      → TypesStatement result body → TypesStatement result (for_typed line x condition step body)
  for_loop_typed line x c condition step d e body h f ready =
      block_typed result all_variables head_opens ForParts Parts f ready
      (head_typed line x condition step ~> λ h. body ~> λ s. finished (tree.for line h.first h.condition h.step s))
      (λ g k. two_typed result head_made head_made IsHead all_variables none Parts all_variables head_opens ForParts
      (λ h s. tree.for line h.first h.condition h.step s) (λ h s. refl) (λ h s. sym (append-nil (head_made h)))
      (λ inner z s p q. λ scope same.
      subst (λ w. (is_valid_head w z.first z.condition z.step && has_valid_parts w s) ≡ true) same
      (and_from (is_valid_head inner z.first z.condition z.step) (has_valid_parts inner s) p q)) g k
      (head_typed line x condition step g) (λ z. body)
      (head_by line condition step d e g k (first_typed x g) (first_is x c g k)) (λ z j i. h j i))
      (λ scope s is. is scope refl)

  -- declarations in blocks
  local_is : (d : t.Declaration) → is_regular_declaration d ≡ true → (f : File) → IsReady f.state
      → IfTyped result all_variables declared_by Parts f (local_typed d f)
  local_is d c f ready =
      one_typed result variables_in variables_in AreDeclared all_variables declared_by Parts f (declaration false d f)
      (λ vs. tree.declaration vs) (declaration_typed result false d c f ready) (λ vs. refl)
      (λ vs n is. is) (λ scope vs is. is)

  case_typed : (ls : Labels) (line : ℕ) (e : Expression) → is_regular e ≡ true → (f : File) → IsReady f.state
      → IfTyped result none none (λ scope ls. Unit {0}) f (in_state (case_label ls line e) f)
  case_typed ls line e c f ready =
      let extends = case_extends ls line e c f.state ready.formed in
      state_typed result anything (λ scope ls. Unit {0}) f ready (case_label ls line e f.state) extends
      (case_laid ls line e c f.state ready.formed ready.laid)
      (kept_sound result anything f.state (case_label ls line e f.state) extends)

  default_typed : (ls : Labels) (line : ℕ) (f : File) → IsReady f.state
      → IfTyped result none none (λ scope ls. Unit {0}) f (in_state (judged (default_label ls line)) f)
  default_typed ls line f ready =
      let extends = step_extends f.state ready.formed (default_label ls line) in
      state_typed result anything (λ scope ls. Unit {0}) f ready (judged (default_label ls line) f.state) extends
      (step_laid f.state ready.laid (default_label ls line f.state))
      (kept_sound result anything f.state (judged (default_label ls line) f.state) extends)

  switching_is : (line : ℕ) (e : Expression) → is_regular e ≡ true → (f : File) → IsReady f.state
      → IfTyped result none none Switches f (in_state (switching_on line e) f)
  switching_is line e c f ready =
      state_typed result anything Switches f ready (switching_on line e f.state)
      (switching_extends line e c f.state ready.formed)
      (switching_laid line e c f.state ready.formed ready.laid)
      (λ scope last is. switching_sound scope last line e c f.state)

mutual
  pub statement_typed : (a : Around) (ls : Labels) (s : t.Statement) → is_regular_statement s ≡ true → (f : File)
      → IsReady f.state → IfTyped a.result made_by none ItemParts f (statement a ls s f)
  statement_typed a ls (t.compound b) c f ready =
      labelled_typed a.result ls none (block a b) f (block_is a b c f ready)
  statement_typed a ls (t.expression e at) c f ready =
      labelled_typed a.result ls none (in_state (expression_typed e)) f
      (expression_statement_typed a.result e c f ready)
  statement_typed a ls (t.if_then at l e r s) c f ready =
      labelled_typed a.result ls none (if_typed at.line e (controlled (statement a no_labels s))) f
      (if_then_typed a.result at.line e (first _ _ c) (controlled (statement a no_labels s))
      (controlled_typed a.result (statement a no_labels s)
      (λ g k. statement_typed a no_labels s (second (is_regular e) _ c) g k)) f ready)
  statement_typed a ls (t.if_else at l e r s word other) c f ready =
      labelled_typed a.result ls none
      (if_else_typed at.line e (controlled (statement a no_labels s)) (controlled (statement a no_labels other))) f
      (if_otherwise_typed a.result at.line e (first _ _ (first _ _ c)) (controlled (statement a no_labels s))
      (controlled (statement a no_labels other))
      (controlled_typed a.result (statement a no_labels s)
      (λ g k. statement_typed a no_labels s (second (is_regular e) _ (first _ _ c)) g k))
      (controlled_typed a.result (statement a no_labels other)
      (λ g k. statement_typed a no_labels other (second (is_regular e && is_regular_statement s) _ c) g k)) f ready)
  statement_typed a ls (t.switch at l e r b) c f ready =
      labelled_typed a.result ls none (switch_typed at.line e (λ v. switch_block (switching a) v b)) f
      (scoped_typed a.result all_variables Parts f ready
      (in_state (switching_on at.line e) ~> λ v. switch_block (switching a) v b)
      (λ g k. after_typed a.result Switches all_variables none Parts g k (in_state (switching_on at.line e) g)
      (λ v. switch_block (switching a) v b) (switching_is a.result at.line e (first _ _ c) g k)
      (λ v j i. switch_is (switching a) v b (second (is_regular e) _ c) j i)))
  statement_typed a ls (t.while_do at l e r s) c f ready =
      labelled_typed a.result ls none (while_typed at.line e (controlled (statement (looping a) no_labels s))) f
      (loop_typed a.result at.line e (first _ _ c) (controlled (statement (looping a) no_labels s))
      (controlled_typed a.result (statement (looping a) no_labels s)
      (λ g k. statement_typed (looping a) no_labels s (second (is_regular e) _ c) g k)) f ready)
  statement_typed a ls (t.do_while at s word l e r end) c f ready =
      labelled_typed a.result ls none (do_typed at.line (controlled (statement (looping a) no_labels s)) e) f
      (do_loop_typed a.result at.line e (second (is_regular_statement s) _ c)
      (controlled (statement (looping a) no_labels s))
      (controlled_typed a.result (statement (looping a) no_labels s)
      (λ g k. statement_typed (looping a) no_labels s (first _ _ c) g k)) f ready)
  statement_typed a ls (t.for at l x condition semicolon step r s) c f ready =
      let heads = first (is_regular_first x && is_regular_if condition && is_regular_if step)
      (is_regular_statement s) c in
      let two = first (is_regular_first x && is_regular_if condition) (is_regular_if step) heads in
      labelled_typed a.result ls none
      (for_typed at.line x condition step (controlled (statement (looping a) no_labels s))) f
      (for_loop_typed a.result at.line x (first (is_regular_first x) (is_regular_if condition) two) condition step
      (second (is_regular_first x) (is_regular_if condition) two)
      (second (is_regular_first x && is_regular_if condition) (is_regular_if step) heads)
      (controlled (statement (looping a) no_labels s))
      (controlled_typed a.result (statement (looping a) no_labels s)
      (λ g k. statement_typed (looping a) no_labels s
      (second (is_regular_first x && is_regular_if condition && is_regular_if step) (is_regular_statement s) c) g k))
      f ready)
  statement_typed a ls (t.case at e colon s) c f ready =
      after_typed a.result (λ scope ls. Unit {0}) made_by none ItemParts f ready
      (in_state (case_label ls at.line e) f)
      (λ ls. statement a ls s) (case_typed a.result ls at.line e (first _ _ c) f ready)
      (λ new g k. given_typed a.result made_by none ItemParts (λ scope. Unit {0}) g (statement a new s g)
      (statement_typed a new s (second (is_regular e) _ c) g k))
  statement_typed a ls (t.default at colon s) c f ready =
      after_typed a.result (λ scope ls. Unit {0}) made_by none ItemParts f ready
      (in_state (judged (default_label ls at.line)) f) (λ ls. statement a ls s)
      (default_typed a.result ls at.line f ready)
      (λ new g k. given_typed a.result made_by none ItemParts (λ scope. Unit {0}) g (statement a new s g)
      (statement_typed a new s c g k))
  statement_typed a ls (t.break at end) c f ready =
      labelled_typed a.result ls none (in_state (judged (jump a.inside.may_break at.line tree.break))) f
      (jump_typed a.result a.inside.may_break at.line tree.break refl (λ scope. refl) f ready)
  statement_typed a ls (t.continue at end) c f ready =
      labelled_typed a.result ls none (in_state (judged (jump a.inside.may_continue at.line tree.continue))) f
      (jump_typed a.result a.inside.may_continue at.line tree.continue refl (λ scope. refl) f ready)
  statement_typed a ls (t.return at e end) c f ready =
      labelled_typed a.result ls none (in_state (returned at.line a.result e)) f
      (returned_typed a.result at.line e c f ready)

  block_is : (a : Around) (b : Block) → is_regular_block b ≡ true → (f : File) → IsReady f.state
      → IfTyped a.result all_variables none Parts f (block a b f)
  block_is a (t.block l xs r) c f ready =
      one_typed a.result each_variables none
      (λ scope ss. have_valid_parts (within scope (block_variables ss)) ss ≡ true) all_variables none Parts f
      (in_scope (block_items a xs) f) (λ ss. tree.block l.line ss)
      (block_typed a.result each_variables block_variables AllParts
      (λ scope ss. have_valid_parts (within scope (block_variables ss)) ss ≡ true) f ready (block_items a xs)
      (λ g k. items_typed a xs c g k) (λ scope ss is. is))
      (λ ss. refl) (λ ss n is. is) (λ scope ss is. is)

  pub items_typed : (a : Around) (xs : BlockItems) → are_regular_block_items xs ≡ true → (f : File)
      → IsReady f.state → IfTyped a.result each_variables block_variables AllParts f (block_items a xs f)
  items_typed a t.no_items c f ready =
      finished_typed a.result each_variables block_variables AllParts f ready tree.no_statements refl (λ scope. refl)
  items_typed a (t.items x more) c f ready =
      two_typed a.result all_variables declared_by Parts each_variables block_variables AllParts each_variables
      block_variables AllParts (λ s ss. tree.statements s ss) (λ s ss. refl) (λ s ss. refl)
      (λ scope s ss p q. and_from _ _ p q) f ready (block_item a x f) (λ s. block_items a more)
      (item_typed a x (first _ _ c) f ready) (λ s g k. items_typed a more (second (is_regular_block_item x) _ c) g k)

  item_typed : (a : Around) (x : BlockItem) → is_regular_block_item x ≡ true → (f : File) → IsReady f.state
      → IfTyped a.result all_variables declared_by Parts f (block_item a x f)
  item_typed a (t.local d) c f ready = local_is a.result d c f ready
  item_typed a (t.inner s) c f ready =
      opening_typed a.result all_variables declared_by Parts f (without_labels (statement a no_labels s) f)
      (unlabelled_typed a.result (statement a no_labels s) f (statement_typed a no_labels s c f ready))

  switch_is : (a : Around) (v : Value) (b : Block) → is_regular_block b ≡ true → (f : File) → IsReady f.state
      → IfTyped a.result all_variables none (λ scope s. Switches scope v → Parts scope s) f (switch_block a v b f)
  switch_is a v (t.block l xs r) c f ready =
      let type = type_of (kind_of v.tree) in
      one_typed a.result items_variables none
      (λ scope is. items_have_valid_parts (within scope (switch_variables is)) is ≡ true) all_variables none
      (λ scope s. Switches scope v → Parts scope s) f (in_scope (switch_items a type [] xs) f)
      (λ is. tree.switch v.tree l.line is)
      (block_typed a.result items_variables switch_variables SwitchParts
      (λ scope is. items_have_valid_parts (within scope (switch_variables is)) is ≡ true) f ready
      (switch_items a type [] xs) (λ g k. switch_items_typed a type [] xs c g k) (λ scope is h. h))
      (λ is. refl) (λ is n h. h)
      (λ scope is h fine. and_from (is_valid scope v.tree && is_promoted (kind_of v.tree)) _ fine h)

  switch_items_typed : (a : Around) (type : IntType) (earlier : List CaseLabel) (xs : BlockItems)
      → are_regular_block_items xs ≡ true → (f : File) → IsReady f.state
      → IfTyped a.result items_variables switch_variables SwitchParts f (switch_items a type earlier xs f)
  switch_items_typed a type earlier t.no_items c f ready =
      finished_typed a.result items_variables switch_variables SwitchParts f ready tree.no_items refl (λ scope. refl)
  switch_items_typed a type earlier (t.items x more) c f ready =
      two_typed a.result made_by opened_by ItemParts items_variables switch_variables SwitchParts items_variables
      switch_variables SwitchParts (λ s is. tree.items s.labels s.statement is) (λ s is. refl) (λ s is. refl)
      (λ scope s is p q. and_from _ _ p q) f ready (switch_item a (labels_on type earlier) x f)
      (λ s. switch_items a type (earlier ++ s.labels) more)
      (switch_item_typed a (labels_on type earlier) x (first _ _ c) f ready)
      (λ s g k. switch_items_typed a type (earlier ++ s.labels) more (second (is_regular_block_item x) _ c) g k)

  switch_item_typed : (a : Around) (ls : Labels) (x : BlockItem) → is_regular_block_item x ≡ true → (f : File)
      → IsReady f.state → IfTyped a.result made_by opened_by ItemParts f (switch_item a ls x f)
  switch_item_typed a ls (t.local d) c f ready =
      labelled_typed a.result ls declared_by (local_typed d) f (local_is a.result d c f ready)
  switch_item_typed a ls (t.inner s) c f ready =
      opening_typed a.result made_by opened_by ItemParts f (statement a ls s f) (statement_typed a ls s c f ready)
