-- Where no list of parameters is too long among the counts of a text, none is among those behind it (C99 5.2.4.1).
use Rattle.std.proofs.Common.{◌≡◌, ℕ, ◌≤◌, Bool, true, false, refl, List, [], ◌∷◌, Option, Some, None, nat_lt}
use Rattle.std.proofs.Common.{if◌then◌else◌}
use Rattle.std.proofs.lemmas.Bool.{ltb-false}
use Rattle.c_syntax.specs.declared.position.Position.{Position}
use Rattle.c_syntax.specs.Statements as s
use Rattle.c_syntax.specs.Tree.{Arguments, Declarator, Designation, Designator, Enumerator, Expression, Initializer}
use Rattle.c_syntax.specs.Tree.{InitializerItem, Member, Members, MoreArguments, MoreDeclarators, MoreEnumerators}
use Rattle.c_syntax.specs.Tree.{MoreItems, MoreParameters, Parameters, Specifier, Specifiers, TypedDeclarator}
use Rattle.c_syntax.specs.Tree as t
use Rattle.c_counts.specs.Counts.{Count, of_parameters, others, parameters_counted}
use Rattle.c_counts.specs.Counts as counts
use Rattle.c_counts.specs.Excess.{first_above, parameters_among}

-- no list of parameters has more than so many
abbrev pub AreWithin : (most : ℕ) → List Count → Type 0
AreWithin most cs = first_above most (parameters_among cs) ≡ None

within_by : (b : Bool) (n : ℕ) (other : Option ℕ) → (if b then Some n else other) ≡ None
    → (b ≡ false) × (other ≡ None)
within_by true n other h = absurd cc
within_by false n other h = (refl, h)

pub first_within : (m n : ℕ) (cs : List Count) → AreWithin m (of_parameters n ∷ cs) → (n ≤ m) × AreWithin m cs
first_within m n cs h =
    let both = within_by (nat_lt m n) n (first_above m (parameters_among cs)) h in
    (ltb-false m n both.0, both.1)

counted_within : (m : ℕ) (ps : Parameters) (cs : List Count) → AreWithin m (parameters_counted ps cs)
    → AreWithin m cs
counted_within m t.no_parameters cs h = h
counted_within m (t.void_parameters at) cs h = h
counted_within m (t.parameters x more) cs h = (first_within m _ cs h).1

mutual
  expression_within : (m : ℕ) (e : Expression) (cs : List Count) → AreWithin m (counts.expression e cs)
      → AreWithin m cs
  expression_within m (t.identifier x) cs h = h
  expression_within m (t.integer x) cs h = h
  expression_within m (t.character x) cs h = h
  expression_within m (t.strings x more) cs h = h
  expression_within m (t.parenthesized l e r) cs h = expression_within m e cs h
  expression_within m (t.subscript a l b r) cs h = expression_within m b cs (expression_within m a _ h)
  expression_within m (t.call f l args r) cs h = arguments_within m args cs (expression_within m f _ h)
  expression_within m (t.member e w at x) cs h = expression_within m e cs h
  expression_within m (t.postfix e w at) cs h = expression_within m e cs h
  expression_within m (t.unary w at e) cs h = expression_within m e cs h
  expression_within m (t.sizeof_expression at e) cs h = expression_within m e cs h
  expression_within m (t.sizeof_type at l x r) cs h = typed_within m x cs h
  expression_within m (t.cast l x r e) cs h = expression_within m e cs (typed_within m x _ h)
  expression_within m (t.binary a w at b) cs h = expression_within m b cs (expression_within m a _ h)
  expression_within m (t.conditional c q a colon b) cs h =
      expression_within m b cs (expression_within m a _ (expression_within m c _ h))
  expression_within m (t.assignment a w at b) cs h = expression_within m b cs (expression_within m a _ h)

  arguments_within : (m : ℕ) (x : Arguments) (cs : List Count) → AreWithin m (counts.arguments x cs) → AreWithin m cs
  arguments_within m t.no_arguments cs h = h
  arguments_within m (t.arguments e more) cs h = more_arguments_within m more cs (expression_within m e _ h)

  more_arguments_within : (m : ℕ) (x : MoreArguments) (cs : List Count) → AreWithin m (counts.more_arguments x cs)
      → AreWithin m cs
  more_arguments_within m t.end_of_arguments cs h = h
  more_arguments_within m (t.more_arguments at e more) cs h =
      more_arguments_within m more cs (expression_within m e _ h)

  typed_within : (m : ℕ) (x : TypedDeclarator) (cs : List Count) → AreWithin m (counts.typed_declarator x cs)
      → AreWithin m cs
  typed_within m (t.typed specs d) cs h = declarator_within m d cs (specifiers_within m specs _ h)

  pub declarator_within : (m : ℕ) (d : Declarator) (cs : List Count) → AreWithin m (counts.declarator d cs)
      → AreWithin m cs
  declarator_within m (t.named x) cs h = h
  declarator_within m t.unnamed cs h = h
  declarator_within m (t.pointer at consts d) cs h = declarator_within m d cs h
  declarator_within m (t.grouped l d r) cs h = declarator_within m d cs h
  declarator_within m (t.open_array d l r) cs h = declarator_within m d cs h
  declarator_within m (t.array d l e r) cs h = expression_within m e cs (declarator_within m d _ h)
  declarator_within m (t.function d l ps r) cs h =
      parameters_within m ps cs (counted_within m ps _ (declarator_within m d _ h))

  parameters_within : (m : ℕ) (x : Parameters) (cs : List Count) → AreWithin m (counts.parameters x cs)
      → AreWithin m cs
  parameters_within m t.no_parameters cs h = h
  parameters_within m (t.void_parameters at) cs h = h
  parameters_within m (t.parameters x more) cs h = more_parameters_within m more cs (typed_within m x _ h)

  more_parameters_within : (m : ℕ) (x : MoreParameters) (cs : List Count)
      → AreWithin m (counts.more_parameters x cs) → AreWithin m cs
  more_parameters_within m t.end_of_parameters cs h = h
  more_parameters_within m (t.more_parameters at x more) cs h =
      more_parameters_within m more cs (typed_within m x _ h)

  pub specifiers_within : (m : ℕ) (x : Specifiers) (cs : List Count) → AreWithin m (counts.specifiers x cs)
      → AreWithin m cs
  specifiers_within m t.no_specifiers cs h = h
  specifiers_within m (t.specifiers x more) cs h = specifiers_within m more cs (specifier_within m x _ h)

  specifier_within : (m : ℕ) (x : Specifier) (cs : List Count) → AreWithin m (counts.specifier x cs) → AreWithin m cs
  specifier_within m (t.keyword w at) cs h = h
  specifier_within m (t.typedef_name x) cs h = h
  specifier_within m (t.structure w at x) cs h = h
  specifier_within m (t.structure_body w at x l ms r) cs h = members_within m ms cs h
  specifier_within m (t.enumeration at x) cs h = h
  specifier_within m (t.enumeration_body at x l e more comma r) cs h =
      more_enumerators_within m more cs (enumerator_within m e _ h)

  members_within : (m : ℕ) (x : Members) (cs : List Count) → AreWithin m (counts.members x cs) → AreWithin m cs
  members_within m t.no_members cs h = h
  members_within m (t.members x more) cs h = members_within m more cs (member_within m x _ h)

  member_within : (m : ℕ) (x : Member) (cs : List Count) → AreWithin m (counts.member x cs) → AreWithin m cs
  member_within m (t.member_declaration specs d more end) cs h =
      more_declarators_within m more cs (declarator_within m d _ (specifiers_within m specs _ h))

  more_declarators_within : (m : ℕ) (x : MoreDeclarators) (cs : List Count)
      → AreWithin m (counts.more_declarators x cs) → AreWithin m cs
  more_declarators_within m t.end_of_declarators cs h = h
  more_declarators_within m (t.more_declarators at d more) cs h =
      more_declarators_within m more cs (declarator_within m d _ h)

  enumerator_within : (m : ℕ) (x : Enumerator) (cs : List Count) → AreWithin m (counts.enumerator x cs)
      → AreWithin m cs
  enumerator_within m (t.plain x) cs h = h
  enumerator_within m (t.valued x at e) cs h = expression_within m e cs h

  more_enumerators_within : (m : ℕ) (x : MoreEnumerators) (cs : List Count)
      → AreWithin m (counts.more_enumerators x cs) → AreWithin m cs
  more_enumerators_within m t.end_of_enumerators cs h = h
  more_enumerators_within m (t.more_enumerators at x more) cs h =
      more_enumerators_within m more cs (enumerator_within m x _ h)

-- initializers

designator_within : (m : ℕ) (x : Designator) (cs : List Count) → AreWithin m (counts.designator x cs) → AreWithin m cs
designator_within m (t.element l e r) cs h = expression_within m e cs h
designator_within m (t.member_named at x) cs h = h

designators_within : (m : ℕ) (xs : List Designator) (cs : List Count) → AreWithin m (counts.designators xs cs)
    → AreWithin m cs
designators_within m [] cs h = h
designators_within m (x ∷ xs) cs h = designators_within m xs cs (designator_within m x _ h)

designation_within : (m : ℕ) (x : Option Designation) (cs : List Count) → AreWithin m (counts.designation x cs)
    → AreWithin m cs
designation_within m None cs h = h
designation_within m (Some d) cs h = designators_within m d.designators cs h

mutual
  initializer_within : (m : ℕ) (x : Initializer) (cs : List Count) → AreWithin m (counts.initializer x cs)
      → AreWithin m cs
  initializer_within m (t.value e) cs h = expression_within m e cs h
  initializer_within m (t.braced l x more comma r) cs h = more_items_within m more cs (item_within m x _ h)

  item_within : (m : ℕ) (x : InitializerItem) (cs : List Count) → AreWithin m (counts.item x cs) → AreWithin m cs
  item_within m (t.item x i) cs h = initializer_within m i cs (designation_within m x _ h)

  more_items_within : (m : ℕ) (x : MoreItems) (cs : List Count) → AreWithin m (counts.more_items x cs)
      → AreWithin m cs
  more_items_within m t.end_of_items cs h = h
  more_items_within m (t.more_items at x more) cs h = more_items_within m more cs (item_within m x _ h)

-- declarations

optional_initializer_within : (m : ℕ) (x : Option (Position × Initializer)) (cs : List Count)
    → AreWithin m (counts.optional_initializer x cs) → AreWithin m cs
optional_initializer_within m None cs h = h
optional_initializer_within m (Some x) cs h = initializer_within m x.1 cs h

init_declarator_within : (m : ℕ) (d : s.InitDeclarator) (cs : List Count) → AreWithin m (counts.init_declarator d cs)
    → AreWithin m cs
init_declarator_within m d cs h = optional_initializer_within m d.initializer cs (declarator_within m d.declarator _ h)

more_init_declarators_within : (m : ℕ) (ds : List (Position × s.InitDeclarator)) (cs : List Count)
    → AreWithin m (counts.more_init_declarators ds cs) → AreWithin m cs
more_init_declarators_within m [] cs h = h
more_init_declarators_within m (d ∷ ds) cs h =
    more_init_declarators_within m ds cs (init_declarator_within m d.1 _ h)

init_declarators_within : (m : ℕ) (x : Option s.InitDeclarators) (cs : List Count)
    → AreWithin m (counts.init_declarators x cs) → AreWithin m cs
init_declarators_within m None cs h = h
init_declarators_within m (Some ds) cs h =
    more_init_declarators_within m ds.others cs (init_declarator_within m ds.first _ h)

declaration_within : (m : ℕ) (d : s.Declaration) (cs : List Count) → AreWithin m (counts.declaration d cs)
    → AreWithin m cs
declaration_within m d cs h = init_declarators_within m d.declarators cs (specifiers_within m d.specifiers _ h)

-- statements

optional_within : (m : ℕ) (e : Option Expression) (cs : List Count) → AreWithin m (counts.optional e cs)
    → AreWithin m cs
optional_within m None cs h = h
optional_within m (Some e) cs h = expression_within m e cs h

for_init_within : (m : ℕ) (x : s.ForInit) (cs : List Count) → AreWithin m (counts.for_init x cs) → AreWithin m cs
for_init_within m (s.declares d) cs h = declaration_within m d cs h
for_init_within m (s.evaluates e at) cs h = optional_within m e cs h

mutual
  statement_within : (m : ℕ) (x : s.Statement) (cs : List Count) → AreWithin m (counts.statement x cs)
      → AreWithin m cs
  statement_within m (s.compound b) cs h = block_within m b cs h
  statement_within m (s.expression e at) cs h = optional_within m e cs h
  statement_within m (s.if_then at l e r x) cs h = statement_within m x cs (expression_within m e _ h)
  statement_within m (s.if_else at l e r x word other) cs h =
      statement_within m other cs (statement_within m x _ (expression_within m e _ h))
  statement_within m (s.switch at l e r b) cs h = block_within m b cs (expression_within m e _ h)
  statement_within m (s.while_do at l e r x) cs h = statement_within m x cs (expression_within m e _ h)
  statement_within m (s.do_while at x word l e r end) cs h = expression_within m e cs (statement_within m x _ h)
  statement_within m (s.for at l first condition semicolon step r x) cs h =
      statement_within m x cs
      (optional_within m step _ (optional_within m condition _ (for_init_within m first _ h)))
  statement_within m (s.case at e colon x) cs h = statement_within m x cs (expression_within m e _ h)
  statement_within m (s.default at colon x) cs h = statement_within m x cs h
  statement_within m (s.break at end) cs h = h
  statement_within m (s.continue at end) cs h = h
  statement_within m (s.return at e end) cs h = optional_within m e cs h

  block_within : (m : ℕ) (x : s.Block) (cs : List Count) → AreWithin m (counts.block x cs) → AreWithin m cs
  block_within m (s.block l xs r) cs h = block_items_within m xs cs h

  block_items_within : (m : ℕ) (x : s.BlockItems) (cs : List Count) → AreWithin m (counts.block_items x cs)
      → AreWithin m cs
  block_items_within m s.no_items cs h = h
  block_items_within m (s.items x more) cs h = block_items_within m more cs (block_item_within m x _ h)

  block_item_within : (m : ℕ) (x : s.BlockItem) (cs : List Count) → AreWithin m (counts.block_item x cs)
      → AreWithin m cs
  block_item_within m (s.local d) cs h = declaration_within m d cs h
  block_item_within m (s.inner x) cs h = statement_within m x cs h

-- files

pub external_within : (m : ℕ) (x : s.External) (cs : List Count) → AreWithin m (counts.external x cs)
    → AreWithin m cs
external_within m (s.definition specs d b) cs h =
    block_within m b cs (declarator_within m d _ (specifiers_within m specs _ h))
external_within m (s.declaration d) cs h = declaration_within m d cs h
