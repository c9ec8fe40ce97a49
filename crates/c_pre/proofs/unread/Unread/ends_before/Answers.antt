use Rattle.std.proofs.Common.{◌≡◌, ◌-◌, ◌∷◌, false, take, sym, ap, ◌∙◌, arith}
use Rattle.c_pre.specs.declared.arguments.Ends.{Ends}
use Rattle.c_pre.specs.ArgumentEnds.{roles, height, ends_of}
use Rattle.c_pre.specs.Ends.{role_of}
use Rattle.c_pre.proofs.ArgumentEnds.{within, opened_ends, closed_ends, parted_ends}
use Rattle.c_pre.proofs.Heights.{take_all}
use Rattle.c_pre.proofs.unread.Unread.ends_before.Goals as goal

pub ends_at-requires : goal.ends_at-requires
ends_at-requires c =
    let tokens = c.args.self.now.tokens.items in
    let all : c.ends_at-behind.result ≡ ends_of (roles tokens) =
    c.ends_at-behind.ensures ∙ ap (λ ts. ends_of (roles ts)) (take_all c.len-height.result tokens
    (omega (arith, c.len-height.ensures))) in
    let is : c.ends_at-behind.result.call ≡ height false 0 (roles tokens) = ap (λ (e : Ends). e.call) all in
    omega (arith, within false tokens, is, c.saturating_sub.ensures)

pub returns-in-Opens : goal.returns-in-Opens
returns-in-Opens c =
    let tokens = c.args.self.now.tokens.items in
    let all : c.ends_at-behind.result ≡ ends_of (roles tokens) =
    c.ends_at-behind.ensures ∙ ap (λ ts. ends_of (roles ts)) (take_all c.len-height.result tokens
    (omega (arith, c.len-height.ensures))) in
    let is : c.saturating_sub.result ≡ height false 0 (roles tokens) - 1 =
    c.saturating_sub.ensures ∙ ap (λ (e : Ends). e.call - 1) all in
    opened_ends tokens c.ends_at.result (c.ends_at.ensures ∙ ap (λ n. ends_of (roles (take n tokens))) is)
    ∙ ap (λ r. ends_of (r ∷ roles tokens)) (sym (ap role_of c.in-Opens.is) ∙ c.of.ensures)

pub returns-in-Closes : goal.returns-in-Closes
returns-in-Closes c =
    let tokens = c.args.self.now.tokens.items in
    closed_ends tokens _ (omega (arith, c.len-height.ensures))
    ∙ ap (λ r. ends_of (r ∷ roles tokens)) (sym (ap role_of c.in-Closes.is) ∙ c.of.ensures)

pub returns-in-Parts : goal.returns-in-Parts
returns-in-Parts c =
    let tokens = c.args.self.now.tokens.items in
    let all : c.ends_at-behind.result ≡ ends_of (roles tokens) =
    c.ends_at-behind.ensures ∙ ap (λ ts. ends_of (roles ts)) (take_all c.len-height.result tokens
    (omega (arith, c.len-height.ensures))) in
    parted_ends tokens _ c.ends_at-behind.result (omega (arith, c.len-height.ensures)) all
    ∙ ap (λ r. ends_of (r ∷ roles tokens)) (sym (ap role_of c.in-Parts.is) ∙ c.of.ensures)

pub returns-in-Other : goal.returns-in-Other
returns-in-Other c =
    let tokens = c.args.self.now.tokens.items in
    c.ends_at-behind.ensures ∙ ap (λ ts. ends_of (roles ts)) (take_all c.len-height.result tokens
    (omega (arith, c.len-height.ensures)))
    ∙ ap (λ r. ends_of (r ∷ roles tokens)) (sym (ap role_of c.in-Other.is) ∙ c.of.ensures)
