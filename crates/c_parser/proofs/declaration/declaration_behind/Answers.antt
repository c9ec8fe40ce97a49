use Rattle.std.proofs.Common.{sym}
use Rattle.c_syntax.specs.StatementsView.{declaration_of}
use Rattle.c_parser.proofs.Typedefs.{plain_leaves}
use Rattle.c_parser.proofs.declaration.declaration_behind.Goals as goal

pub returns-clause-names : goal.returns-clause-names
returns-clause-names c =
    sym (plain_leaves (declaration_of c.in_ok-declaration.declaration) c.args.names.now
    c.in_ok-declaration.ensures.plain)
