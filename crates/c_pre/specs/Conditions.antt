-- Conditions of `#if` and `#elif` (C99 6.10.1): `defined` is replaced first, then macros are, then each name becomes 0.
use Rattle.std.specs.Prelude.{ℕ, zero, suc, Bool, false, not, ◌==◌, [], ◌∷◌, map, Option, Some, None, is_some}
use Rattle.std.specs.Prelude.{option_map, Result, Ok, Err, if◌then◌else◌, bytes_eq, codes}
use Rattle.c_lexer.specs.declared.token.Token.{Token}
use Rattle.c_lexer.specs.declared.token.TokenKind.{TokenKind}
use Rattle.c_lexer.specs.declared.token.TokenKind.TheVariants.{Integer}
use Rattle.c_conditions.specs.Conditions.{condition_value}
use Rattle.c_pre.specs.declared.condition.Judged.{Judged}
use Rattle.c_pre.specs.declared.fault.PreFault.{PreFault}
use Rattle.c_pre.specs.declared.fault.PreFaultKind.TheVariants.{BadCondition}
use Rattle.c_pre.specs.Lines.{Tokens}
use Rattle.c_pre.specs.Names.{Name, Macros, name_of}
use Rattle.c_pre.specs.Directives.{is_open, is_close}
use Rattle.c_pre.specs.Trace.{Trace, quiet, fails}
use Rattle.c_pre.specs.Expansion.{expansion, of_text, trace_of}

-- the constant 1 or 0 where a token stands
abbrev pub number_at : Token → Bool → Token
number_at token holds = record token { kind = Integer (if holds then codes "1" else codes "0") }

abbrev pub is_spelled : Option Name → Name → Bool
is_spelled None bytes = false
is_spelled (Some name) bytes = bytes_eq name bytes

abbrev pub is_defined : TokenKind → Bool
is_defined word = is_spelled (name_of word) (codes "defined")

-- a name, and how many tokens it is written with
abbrev pub written : ℕ → TokenKind → Option (Name × ℕ)
written length word = option_map (λ name. (name, length)) (name_of word)

-- behind a `(`: a name and `)`
abbrev pub in_parentheses : Tokens → Option (Name × ℕ)
in_parentheses (token ∷ close ∷ more) = if is_close close.kind then written 3 token.kind else None
in_parentheses _ = None

-- behind `defined`: a name, or one in parentheses (paragraph 1)
abbrev pub operand : Tokens → Option (Name × ℕ)
operand [] = None
operand (token ∷ more) = if is_open token.kind then in_parentheses more else written 1 token.kind

-- whether a name is defined as a macro; or the token as it is, where it is no `defined` of a name. And how many tokens
-- behind it belong to it.
abbrev pub told : Macros → Token → Option (Name × ℕ) → Token × ℕ
told macros token None = (token, 0)
told macros token (Some name) = (number_at token (is_some (macros name.0)), name.1)

abbrev pub marked : Macros → Token → Tokens → Token × ℕ
marked macros token more =
    told macros token (if is_defined token.kind then operand more else None)

-- the tokens, of which some are left out first, with 1 or 0 for each `defined` of a name
abbrev pub marked_behind : ℕ → Macros → Tokens → Tokens
marked_behind n macros [] = []
marked_behind (suc n) macros (token ∷ more) = marked_behind n macros more
marked_behind zero macros (token ∷ more) =
    (marked macros token more).0 ∷ marked_behind (marked macros token more).1 macros more

-- each name that is left becomes 0, keywords too (paragraph 4)
abbrev pub without_name : Token → Token
without_name token = if is_some (name_of token.kind) then number_at token false else token

-- whether the condition on this line holds, and the room that is left
abbrev pub judged : (line room : ℕ) → Option ℕ → Trace Judged
judged line room None = fails line BadCondition
judged line room (Some word) = quiet (record { holds = not (word == 0); room = room })

-- the same of its expanded tokens, and of what stands at the end of the expansion
abbrev pub judged_at_end : ℕ → Tokens → Result ℕ PreFault → Trace Judged
judged_at_end line tokens (Ok room) = judged line room (condition_value (map without_name tokens))
judged_at_end line tokens (Err fault) = record { given = []; end = Err fault }

-- a condition by itself. It gives no token, but what is put in takes from the room.
unfoldable pub condition_at : ℕ → Macros → ℕ → Tokens → Trace Judged
condition_at line macros room tokens =
    let expanded = trace_of (expansion macros None room (of_text (marked_behind 0 macros tokens))) in
    judged_at_end line expanded.given expanded.end
