-- Initializers, declarations, statements and files without where they lie in memory.
use Rattle.std.specs.Prelude.{List, [], ◌∷◌, map, Option, Some, None}
use Rattle.c_syntax.specs.declared.position.Position.{Position}
use Rattle.c_syntax.specs.declared.declaration.Initializer.TheOpen.{Initializer-F, InitializerItem-F}
use Rattle.c_syntax.specs.declared.declaration.Initializer as ri
use Rattle.c_syntax.specs.declared.declaration.InitializerItem as rj
use Rattle.c_syntax.specs.declared.declaration.Designator as rg
use Rattle.c_syntax.specs.declared.declaration.Designation.{Designation}
use Rattle.c_syntax.specs.declared.declaration.InitDeclarator.{InitDeclarator}
use Rattle.c_syntax.specs.declared.declaration.InitDeclarators.{InitDeclarators}
use Rattle.c_syntax.specs.declared.declaration.Declaration.{Declaration}
use Rattle.c_syntax.specs.declared.statement.BlockItem.TheOpen.{BlockItem-F, Statement-F, Block-F}
use Rattle.c_syntax.specs.declared.statement.Block as rb
use Rattle.c_syntax.specs.declared.statement.BlockItem as rk
use Rattle.c_syntax.specs.declared.statement.Statement as rs
use Rattle.c_syntax.specs.declared.statement.ForInit as rf
use Rattle.c_syntax.specs.declared.statement.External as re
use Rattle.c_syntax.specs.declared.statement.Unit.{Unit}
use Rattle.c_syntax.specs.declared.tree.Expression as rx
use Rattle.c_syntax.specs.Tree as t
use Rattle.c_syntax.specs.Statements as s
use Rattle.c_syntax.specs.View.{expression_of, declarator_of, specifiers_in, behind_comma}

abbrev pub designator_of : rg.Designator → t.Designator
designator_of (rg.TheVariants.Element l e r) = t.element l (expression_of e) r
designator_of (rg.TheVariants.Member at x) = t.member_named at x

abbrev pub designators_in : List rg.Designator → List t.Designator
designators_in z = map designator_of z

abbrev pub designation_of : Option Designation → Option t.Designation
designation_of None = None
designation_of (Some x) = Some (record { designators = designators_in x.designators; equals = x.equals })

abbrev pub more_items_of : List (Position × t.InitializerItem) → t.MoreItems
more_items_of [] = t.end_of_items
more_items_of (x ∷ z) = t.more_items x.0 x.1 (more_items_of z)

abbrev pub initializer_step : Initializer-F t.Initializer t.InitializerItem → t.Initializer
initializer_step (Initializer-F.Value v) = t.value (expression_of v.expression)
initializer_step (Initializer-F.Braced l x z c r) = t.braced l x (more_items_of z) c r

abbrev pub item_step : InitializerItem-F t.Initializer t.InitializerItem → t.InitializerItem
item_step x = t.item (designation_of x.designation) x.initializer

abbrev pub initializer_of : ri.Initializer → t.Initializer
initializer_of = ri.fold-Initializer t.Initializer t.InitializerItem initializer_step item_step

abbrev pub item_of : rj.InitializerItem → t.InitializerItem
item_of = rj.fold-InitializerItem t.Initializer t.InitializerItem initializer_step item_step

abbrev pub more_items_in : List (Position × rj.InitializerItem) → t.MoreItems
more_items_in z = more_items_of (map (behind_comma item_of) z)

abbrev pub initialized_of : Option (Position × ri.Initializer) → Option (Position × t.Initializer)
initialized_of None = None
initialized_of (Some x) = Some (behind_comma initializer_of x)

abbrev pub init_declarator_of : InitDeclarator → s.InitDeclarator
init_declarator_of x = record { declarator = declarator_of x.declarator; initializer = initialized_of x.initializer }

abbrev pub more_init_declarators_in : List (Position × InitDeclarator) → List (Position × s.InitDeclarator)
more_init_declarators_in z = map (behind_comma init_declarator_of) z

abbrev pub init_declarators_of : Option InitDeclarators → Option s.InitDeclarators
init_declarators_of None = None
init_declarators_of (Some x) = Some (record {
  first = init_declarator_of x.first;
  others =
      more_init_declarators_in x.others;
})

abbrev pub declaration_of : Declaration → s.Declaration
declaration_of x = record {
  specifiers = specifiers_in x.specifiers;
  declarators =
      init_declarators_of x.declarators;
  semicolon = x.semicolon;
}

abbrev pub optional_of : Option rx.Expression → Option t.Expression
optional_of None = None
optional_of (Some e) = Some (expression_of e)

abbrev pub for_init_of : rf.ForInit → s.ForInit
for_init_of (rf.TheVariants.Declaration d) = s.declares (declaration_of d)
for_init_of (rf.TheVariants.Expression e at) = s.evaluates (optional_of e) at

abbrev pub items_of : List s.BlockItem → s.BlockItems
items_of [] = s.no_items
items_of (x ∷ z) = s.items x (items_of z)

abbrev pub block_item_step : BlockItem-F s.BlockItem s.Statement s.Block → s.BlockItem
block_item_step (BlockItem-F.Declaration d) = s.local (declaration_of d)
block_item_step (BlockItem-F.Statement x) = s.inner x

abbrev pub statement_step : Statement-F s.BlockItem s.Statement s.Block → s.Statement
statement_step (Statement-F.Block b) = s.compound b
statement_step (Statement-F.Expression e at) = s.expression (optional_of e) at
statement_step (Statement-F.If at c x) = s.if_then at c.left (expression_of c.inner) c.right x
statement_step (Statement-F.IfElse at c x q y) = s.if_else at c.left (expression_of c.inner) c.right x q y
statement_step (Statement-F.Switch at c b) = s.switch at c.left (expression_of c.inner) c.right b
statement_step (Statement-F.While at c x) = s.while_do at c.left (expression_of c.inner) c.right x
statement_step (Statement-F.Do at x z) =
    s.do_while at x z.again z.condition.left (expression_of z.condition.inner) z.condition.right z.semicolon
statement_step (Statement-F.For at z x) =
    s.for at z.left (for_init_of z.init) (optional_of z.condition) z.semicolon (optional_of z.step) z.right x
statement_step (Statement-F.Case z x) = s.case z.position (expression_of z.value) z.colon x
statement_step (Statement-F.Default at colon x) = s.default at colon x
statement_step (Statement-F.Break at semi) = s.break at semi
statement_step (Statement-F.Continue at semi) = s.continue at semi
statement_step (Statement-F.Return at e semi) = s.return at (optional_of e) semi

abbrev pub block_step : Block-F s.BlockItem s.Statement s.Block → s.Block
block_step b = s.block b.left (items_of b.items) b.right

abbrev pub statement_of : rs.Statement → s.Statement
statement_of = rs.fold-Statement s.BlockItem s.Statement s.Block block_item_step statement_step block_step

abbrev pub block_of : rb.Block → s.Block
block_of = rb.fold-Block s.BlockItem s.Statement s.Block block_item_step statement_step block_step

abbrev pub block_item_of : rk.BlockItem → s.BlockItem
block_item_of = rk.fold-BlockItem s.BlockItem s.Statement s.Block block_item_step statement_step block_step

abbrev pub items_in : List rk.BlockItem → s.BlockItems
items_in z = items_of (map block_item_of z)

abbrev pub external_of : re.External → s.External
external_of (re.TheVariants.Function z d b) = s.definition (specifiers_in z) (declarator_of d) (block_of b)
external_of (re.TheVariants.Declaration d) = s.declaration (declaration_of d)

abbrev pub externals_in : List re.External → List s.External
externals_in z = map external_of z

abbrev pub unit_of : Unit → s.Unit
unit_of u = record { externals = externals_in u.externals }
