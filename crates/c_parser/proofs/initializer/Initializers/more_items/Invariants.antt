use Rattle.std.proofs.Common.{◌≡◌, ◌-◌, length, map}
use Rattle.c_syntax.specs.View.{behind_comma}
use Rattle.c_syntax.specs.StatementsView.{item_of}
use Rattle.c_grammar.specs.InitializerReader.{item_from, initializers}
use Rattle.c_grammar.specs.Nested.{readers}
use Rattle.c_grammar.specs.Reader.{behind_commas_to_brace}
use Rattle.c_parser.proofs.InitializerLists.{extending_to_brace}
use Rattle.c_parser.proofs.initializer.Initializers.more_items.Given as goal

abbrev pub invariant-loop : goal.invariant-loop
invariant-loop g l =
    behind_commas_to_brace (item_from (readers l.self.names.now l.self.levels)
    (initializers l.self.names.now l.self.levels)) (length l.fn.tokens.rest.now) l.fn.tokens.rest.now
    ≡ extending_to_brace (map (behind_comma item_of) l.others.items)
    (behind_commas_to_brace (item_from (readers l.self.names.now l.self.levels)
    (initializers l.self.names.now l.self.levels)) (l.end - l.counter) l.tokens.rest.now)
