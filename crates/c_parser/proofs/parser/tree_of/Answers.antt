use Rattle.std.proofs.Common.{rules, arith, ◌≡◌, ◌-◌, ◌∙◌, ◌≤◌, ap, length, Err}
use Rattle.std.proofs.lemmas.Grind.{common_steps}
use Rattle.c_syntax.specs.Words.{positioned}
use Rattle.c_grammar.specs.UnitReader.{unit_from}
use Rattle.c_parser.specs.Parsed as spec
use Rattle.c_parser.proofs.Answered.{as_many, refused_at}
use Rattle.c_parser.proofs.parser.tree_of.Goals as goal

pub returns : goal.returns
returns c =
    let words : c.in-Ok.words.items ≡ positioned c.args.tokens.now.tokens =
    first_of (search rules, grind (arith, common_steps)) in
    let refused : unit_from c.in-Ok.words.items ≡ Err c.unit.new.tokens.rest.now =
    first_of (search rules, grind (arith, common_steps)) in
    let count : length c.in-Ok.words.items ≡ length c.args.tokens.now.tokens =
    ap length words ∙ as_many 0 c.args.tokens.now.tokens in
    let here : c.saturating_sub-at.result ≡ length c.in-Ok.words.items - length c.unit.new.tokens.rest.now =
    first_of (search rules, grind (arith, common_steps)) in
    let within : c.saturating_sub-at.result ≤ length c.args.tokens.now.tokens =
    first_of (search rules, grind (arith, common_steps)) in
    let told : spec.IsFaultAt c.args.tokens.now c.saturating_sub-at.result c.fault_at.result =
    first_of (search rules, grind (arith, common_steps)) in
    refused_at c.args.tokens.now c.in-Ok.words.items c.unit.new.tokens.rest.now c.saturating_sub-at.result
    c.fault_at.result words refused here within told
