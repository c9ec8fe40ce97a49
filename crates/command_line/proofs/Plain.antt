-- What follows from the app of a command.
use Rattle.std.proofs.Common.{◌≡◌, ◌∙◌, Bool, true, false, not, refl, ap}
use Rattle.clap.specs.Words.{App, app_of}
use Rattle.clap.specs.declared.builder.command.Command.{Command}
use Rattle.clap.specs.declared.builder.command.Command.TheViews.{out-Command}
use Rattle.clap.proofs.WalkLemmas.{both}

not_true : (b : Bool) → not b ≡ true → b ≡ false
not_true true e = cc
not_true false e = refl

-- a plain command has no global argument
pub no_globals : (command : Command) (app : App) → app_of command ≡ app → app.top.is_plain ≡ true
    → (out-Command command).has_globals ≡ false
no_globals command app same plain =
    let fields = ap (λ (a : App). a.top.is_plain) same ∙ plain in
    not_true _ (both _ _ (both _ _ (both _ _ fields).1).1).0
