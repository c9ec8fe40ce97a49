use Rattle.std.proofs.Common.{[], ◌∷◌, Some, option_map, subst, sym, ap, ◌∙◌}
use Rattle.std.proofs.lemmas.Result.{err_from_is_err_and}
use Rattle.c_pre.specs.Arguments.{taken, with_argument}
use Rattle.c_pre.specs.Ends.{Popped, role_of}
use Rattle.c_pre.specs.InnerFirst.{inner_first}
use Rattle.c_pre.specs.Pending.{above, end_of, hiding, left_in, comes_to}
use Rattle.c_pre.specs.SharedSets.{names_of}
use Rattle.c_pre.proofs.Ending.{token_known, behind_sound, ends_by, closed_by, parted_by}
use Rattle.c_pre.proofs.Proceeding.{steps_by, steps_memory}
use Rattle.c_pre.proofs.expander.Expander.end_argument.Goals as goal

pub returns-in_err-end_argument : goal.returns-in_err-end_argument
returns-in_err-end_argument c =
    let error = err_from_is_err_and c.from_residual.result c.from_residual.ensures.1 in
    steps_memory _ _ c.from_residual.result error.0 error.1 error.2

pub end_call-requires-clause-sound : goal.end_call-requires-clause-sound
end_call-requires-clause-sound c =
    behind_sound c.args.self.now.unread c.next.new.self (inner_first c.args.self.now.calls.items) c.in-Some.separator
    (subst (λ end. Popped c.args.self.now.unread c.next.new.self end c.in-Some.separator) c.end-outer.ensures
    c.in-Some.ensures) c.args.call c.end_argument.new.self c.in_ok-end_argument.ensures c.requires.none c.requires.sound

pub begin_argument-requires-clause-sound : goal.begin_argument-requires-clause-sound
begin_argument-requires-clause-sound c =
    behind_sound c.args.self.now.unread c.next.new.self (inner_first c.args.self.now.calls.items) c.in-Some.separator
    (subst (λ end. Popped c.args.self.now.unread c.next.new.self end c.in-Some.separator) c.end-outer.ensures
    c.in-Some.ensures) c.args.call c.end_argument.new.self c.in_ok-end_argument.ensures c.requires.none c.requires.sound

pub end_call-requires-clause-close : goal.end_call-requires-clause-close
end_call-requires-clause-close c =
    token_known c.args.self.now.unread c.next.new.self (inner_first c.args.self.now.calls.items) c.in-Some.separator
    (subst (λ end. Popped c.args.self.now.unread c.next.new.self end c.in-Some.separator) c.end-outer.ensures
    c.in-Some.ensures) c.requires.sound.unread

pub returns-in-Closes : goal.returns-in-Closes
returns-in-Closes c =
    let old = c.args.self.now.unread in
    let new = c.next.new.self in
    let outer = inner_first c.args.self.now.calls.items in
    let x = c.in-Some.separator in
    let popped = subst (λ end. Popped old new end x) c.end-outer.ensures c.in-Some.ensures in
    steps_by (λ macros. comes_to macros (left_in old.sets (c.args.call ∷ outer) old.tokens.items old.room)) _
    c.end_call.new.self c.end_call.result
    (λ macros. ends_by old new outer x popped c.args.call c.end_argument.new.self c.in_ok-end_argument.ensures
    c.requires.none macros
    (λ s. Some (record {
      arguments = [] ∷ [];
      close = names_of s x.hidden;
      follow = above (end_of outer) s new.tokens.items;
    }))
    (closed_by (hiding old.sets x) (above (end_of outer) old.sets new.tokens.items)
    (sym c.of.ensures ∙ ap role_of c.in-Closes.is)))
    c.end_call.ensures

pub returns-in-Parts : goal.returns-in-Parts
returns-in-Parts c =
    let old = c.args.self.now.unread in
    let new = c.next.new.self in
    let outer = inner_first c.args.self.now.calls.items in
    let x = c.in-Some.separator in
    let popped = subst (λ end. Popped old new end x) c.end-outer.ensures c.in-Some.ensures in
    steps_by (λ macros. comes_to macros (left_in old.sets (c.args.call ∷ outer) old.tokens.items old.room)) _
    c.begin_argument.new.self c.begin_argument.result
    (λ macros. ends_by old new outer x popped c.args.call c.end_argument.new.self c.in_ok-end_argument.ensures
    c.requires.none macros (λ s. option_map with_argument (taken 0 (above (end_of outer) s new.tokens.items)))
    (parted_by (hiding old.sets x) (above (end_of outer) old.sets new.tokens.items)
    (sym c.of.ensures ∙ ap role_of c.in-Parts.is)))
    c.begin_argument.ensures
