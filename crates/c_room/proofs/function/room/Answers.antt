use Rattle.std.proofs.Common.{◌≡◌, ◌+◌, ◌*◌, ap, ◌∙◌, length, map, arith}
use Rattle.std.specs.Prelude.{max}
use Rattle.c_tree.specs.Blocks.{each_contents}
use Rattle.c_tree.specs.Room.{content_bytes, greatest_height, static_contents, structure_bytes}
use Rattle.c_tree.specs.Statements.{statements_in}
use Rattle.c_tree.specs.View.{statement_of}
use Rattle.c_tree.specs.Walk.{sum_of}
use Rattle.c_room.specs.Contents.{with_contents, with_statements}
use Rattle.c_room.specs.Demands.{nothing}
use Rattle.c_room.specs.Numbers.{fitting}
use Rattle.c_room.proofs.Composed.{greater_is, product_is, room_is, sum_is}
use Rattle.c_room.proofs.Gathered.{all_contents, statements_are}
use Rattle.c_room.proofs.function.room.Goals as goal

pub returns : goal.returns
returns c = λ os n f same_parameters same_variables same_body height_is.
    let body = statements_in (map statement_of c.args.body.now) in
    let contents = each_contents body in
    let demand : c.statements-demand.result ≡ with_contents nothing contents = c.statements-demand.ensures
    ∙ ap (λ d. with_statements d body) c.nothing.ensures ∙ statements_are nothing body in
    let are = all_contents contents in
    let taken = length c.args.parameters.now in
    let own = length c.args.variables.now in
    let height = max (greatest_height contents) (greatest_height (static_contents os n)) in
    let bytes = structure_bytes c.args.returned + sum_of (map content_bytes contents) in
    let most = greater_is (greatest_height contents) (greatest_height (static_contents os n)) c.greater-height.ensures
    (ap (λ d. d.height) demand ∙ are.height) height_is in
    let named = sum_is taken own c.plus.ensures c.known-taken.ensures c.known-own.ensures in
    let values = sum_is (taken + own) height c.plus-2.ensures named most in
    let homes = product_is 40 ((taken + own) + height) c.times-homes.ensures values (omega arith) in
    let tagged = sum_is 1 taken c.plus-3.ensures c.known.ensures c.known-taken.ensures in
    let tags = product_is 32 (1 + taken) c.times-tags.ensures tagged (omega arith) in
    let passed = sum_is (structure_bytes c.args.returned) (sum_of (map content_bytes contents)) c.plus-4.ensures
    c.structure_bytes.ensures (ap (λ d. d.passed) demand ∙ are.passed) in
    let structures = product_is 5 bytes c.times-structures.ensures passed (omega arith) in
    let first = sum_is 96 (40 * ((taken + own) + height)) c.plus-5.ensures c.known-2.ensures homes in
    let second = sum_is (96 + 40 * ((taken + own) + height)) (32 * (1 + taken)) c.plus-6.ensures first tags in
    sum_is (96 + 40 * ((taken + own) + height) + 32 * (1 + taken)) (5 * bytes) c.plus-7.ensures second structures
    ∙ ap fitting (room_is os n c.args.returned f c.args.parameters.now c.args.variables.now body same_parameters
    same_variables same_body)
