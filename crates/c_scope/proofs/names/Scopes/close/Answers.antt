use Rattle.std.proofs.Common.{◌∙◌, map, ap}
use Rattle.std.proofs.lemmas.List.{map_push}
use Rattle.c_scope.specs.Names.{names_of, scopes_of}
use Rattle.c_scope.proofs.Scoping.{closed_is}
use Rattle.c_scope.proofs.names.Scopes.close.Goals as goal

pub returns-in-Some : goal.returns-in-Some
returns-in-Some g c =
    closed_is (scopes_of c.args.self.now) (map names_of c.pop.new.self.items) (names_of c.in-Some.before)
    (ap (map names_of) c.in-Some.ensures.items ∙ map_push names_of c.pop.new.self.items c.in-Some.before)
