use Rattle.std.proofs.Common.{rules, arith, ◌≡◌, ◌+◌, min, length, take, true, false}
use Rattle.std.proofs.lemmas.Grind.{common_steps}
use Rattle.c_parser.specs.Parsed as spec
use Rattle.c_parser.proofs.Answered.{told}
use Rattle.c_parser.proofs.parser.fault_at.Goals as goal

pub returns-then-is_nested_too_deep : goal.returns-then-is_nested_too_deep
returns-then-is_nested_too_deep c =
    let on : c.line_at-line.result ≡ spec.line_at c.args.tokens.now c.args.at =
    first_of (search rules, grind (arith, common_steps)) in
    let far : c.min-end.result ≡ min (c.args.at + 1) (length c.args.tokens.now.tokens) =
    first_of (search rules, grind (arith, common_steps)) in
    let kind : spec.is_nested_too_deep (take c.min-end.result c.args.tokens.now.tokens) ≡ true =
    first_of (search rules, grind (arith, common_steps)) in
    told c.args.tokens.now c.args.at c.line_at-line.result c.min-end.result true on far kind

pub returns-else-is_nested_too_deep : goal.returns-else-is_nested_too_deep
returns-else-is_nested_too_deep c =
    let on : c.line_at-line.result ≡ spec.line_at c.args.tokens.now c.args.at =
    first_of (search rules, grind (arith, common_steps)) in
    let far : c.min-end.result ≡ min (c.args.at + 1) (length c.args.tokens.now.tokens) =
    first_of (search rules, grind (arith, common_steps)) in
    let kind : spec.is_nested_too_deep (take c.min-end.result c.args.tokens.now.tokens) ≡ false =
    first_of (search rules, grind (arith, common_steps)) in
    told c.args.tokens.now c.args.at c.line_at-line.result c.min-end.result false on far kind
