use Rattle.std.proofs.Common.{[], ◌∷◌, refl, sym, ap, ◌∙◌}
use Rattle.c_pre.specs.Expansion.{put_in, read_again, expansion}
use Rattle.c_pre.specs.InnerFirst.{inner_first}
use Rattle.c_pre.specs.Pending.{left, resumed}
use Rattle.c_pre.specs.Progress.{object_like}
use Rattle.c_pre.specs.SharedSets.{names_of}
use Rattle.c_pre.proofs.Proceeding.{put_steps, sets_then_put}
use Rattle.c_pre.proofs.expander.Expander.replace.Goals as goal

pub returns : goal.returns
returns c =
    let old = c.args.self.now.unread in
    let new = c.put_in.new.self in
    let sets = c.with.new.self in
    let calls = inner_first c.args.self.now.calls.items in
    let list = c.args.list.now in
    let l = left c.args.self.now in
    let here = names_of sets c.in_ok-here.here in
    let line = c.line-line.result in
    put_steps (put_in line here [] [] list) old new calls c.requires.sound c.requires.within
    (λ macros. object_like macros c.args.self.now c.args.x c.args.name list) line _ c.put_in.result refl refl
    (λ macros. ap (λ n. resumed (expansion macros) l.frames (read_again (expansion macros) l.line n l.room
    (put_in n (c.args.name ∷ names_of old.sets c.args.x.hidden) [] [] list) l.tokens)) (sym c.line-line.ensures)
    ∙ ap (λ h. resumed (expansion macros) l.frames (read_again (expansion macros) l.line line l.room
    (put_in line h [] [] list) l.tokens)) (sym c.in_ok-here.ensures.names))
    (sets_then_put (put_in line here [] [] list) old _ new line c.put_in.result c.in_ok-here.ensures.grows refl refl
    c.put_in.ensures)
