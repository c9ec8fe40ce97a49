-- The subcommand of clap's matches.
use Rattle.std.proofs.Common.{◌≡◌, ◌∙◌, List, Option, Some, None, refl, sym, ap, option_and_then, option_map}
use Rattle.std.specs.Box.{box_value}
use Rattle.clap.specs.Words.{Row, Text, found_of, rows_of, subcommand_name_of, subcommand_rows_of}
use Rattle.clap.specs.declared.parser.matches.ArgMatches.{ArgMatches}
use Rattle.clap.specs.declared.parser.matches.ArgMatches.TheViews.{out-ArgMatches, out-SubCommand}
use Rattle.command_line.specs.Asked.{command_at, rows_in}

-- an option of pairs, from its first parts and its second parts
pair_of : {X A B : Type 0} (o : Option X) (f : X → A) (h : X → A × B) (a : A) (b : B) → ((x : X) → f x ≡ (h x).0)
    → option_map f o ≡ Some a → option_map (λ (p : A × B). p.1) (option_map h o) ≡ Some b → option_map h o ≡ Some (a, b)
pair_of None f h a b same first second = cc
pair_of {X} {A} {B} (Some x) f h a b same first second =
    let left : a ≡ (h x).0 = cc (same x) in
    let right : b ≡ (h x).1 = cc in
    λ i. Some (sym left i, sym right i)

-- the name and the rows of a subcommand, from each alone
subcommand_is : (matches : ArgMatches) (name : Text) (rows : List Row) → subcommand_name_of matches ≡ Some name
    → option_map (λ (p : Text × List Row). p.1) (subcommand_rows_of matches) ≡ Some rows
    → subcommand_rows_of matches ≡ Some (name, rows)
subcommand_is matches name rows named found =
    pair_of (out-ArgMatches matches).subcommand (λ b. (out-SubCommand (box_value b)).name.now)
    (λ b. ((out-SubCommand (box_value b)).name.now, rows_of (found_of (out-SubCommand (box_value b)).matches))) name
    rows (λ b. refl) named found

-- the command of a subcommand that is known by its name
pub command_of_name : (matches inner : ArgMatches) (name known : Text) → Some name ≡ subcommand_name_of matches
    → Some (rows_of (found_of inner)) ≡ option_map (λ (p : Text × List Row). p.1) (subcommand_rows_of matches)
    → name ≡ known
    → command_at (known, rows_in inner) ≡ option_and_then command_at (subcommand_rows_of matches)
unfolding rows_in
command_of_name matches inner name known named found same =
    let met = subcommand_is matches name (rows_in inner) (sym named) (sym found) in
    sym (ap (option_and_then command_at) met ∙ ap (λ (text : Text). command_at (text, rows_in inner)) same)
