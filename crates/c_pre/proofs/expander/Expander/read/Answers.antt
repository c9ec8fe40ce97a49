use Rattle.std.proofs.Common.{option_map, ap, sym, ◌∙◌}
use Rattle.c_pre.specs.Expansion.{expansion, replaced, use_of, turn}
use Rattle.c_pre.specs.Directives.{names_among}
use Rattle.c_pre.specs.Outcomes.{macro_of, macros_of}
use Rattle.c_pre.specs.Pending.{left, hiding, resumed}
use Rattle.c_pre.specs.Progress.{reading, object_like}
use Rattle.c_pre.proofs.Proceeding.{reads_steps}
use Rattle.c_pre.proofs.expander.Expander.read.Goals as goal

pub returns-in-None : goal.returns-in-None
returns-in-None c =
    let macros = macros_of c.args.macros.now in
    let old = c.args.self.now in
    let l = left old in
    let x = hiding old.unread.sets c.args.x in
    let definition = c.in-Some.definition in
    let is = sym c.macro_for.ensures ∙ ap (option_map (λ m. (m.name, macro_of m.meaning))) c.in-Some.is in
    reads_steps (reading macros old c.args.x)
    (λ ms. object_like ms old c.args.x definition.name definition.meaning.list.now) macros c.replace.new.self
    c.args.out.now.items c.replace.result c.requires.few
    (ap (λ o. resumed (expansion macros) l.frames (turn (expansion macros) l.line x o l.room l.tokens)) is
    ∙ ap (λ p. resumed (expansion macros) l.frames (replaced (expansion macros) l.line
    (use_of l.line x definition.name (macro_of definition.meaning)) (option_map (λ t. names_among t.now) p) x l.room
    l.tokens)) c.in-None.is)
    c.replace.ensures
