-- The arguments of a function-like macro's call (C99 6.10.3 paragraph 11).
use Rattle.std.specs.Prelude.{ℕ, zero, suc, Bool, true, false, List, [], ◌∷◌, Option, Some, None, option_map}
use Rattle.std.specs.Prelude.{nat_eq}
use Rattle.c_lexer.specs.declared.token.TokenKind.{TokenKind}
use Rattle.c_lexer.specs.declared.token.TokenKind.TheVariants.{Punctuator}
use Rattle.c_lexer.specs.declared.punctuator.Punctuator.TheVariants.{LeftParenthesis, RightParenthesis, Comma}
use Rattle.c_pre.specs.Names.{Names}
use Rattle.c_pre.specs.HideSets.{HidingToken}

-- what a token is to arguments
pub data Role : Type 0 where
  opens : Role
  closes : Role
  parts : Role
  other : Role

abbrev pub role : TokenKind → Role
role (Punctuator LeftParenthesis) = opens
role (Punctuator RightParenthesis) = closes
role (Punctuator Comma) = parts
role _ = other

-- the arguments of a call, the hide set of its `)`, and what follows
pub record Call : Type 0 where
  pub arguments : List (List HidingToken)
  pub close : Names
  pub follow : List HidingToken

-- the call that begins with a token of its first argument
abbrev pub first_begins : HidingToken → List (List HidingToken) → List (List HidingToken)
first_begins x [] = (x ∷ []) ∷ []
first_begins x (argument ∷ more) = (x ∷ argument) ∷ more

abbrev pub with_token : HidingToken → Call → Call
with_token x call = record call { arguments = first_begins x call.arguments }

abbrev pub with_argument : Call → Call
with_argument call = record call { arguments = [] ∷ call.arguments }

abbrev pub closed : HidingToken → List HidingToken → Call
closed x follow = record { arguments = [] ∷ []; close = x.hidden; follow = follow }

-- behind the `(` of a call, inside of so many inner parentheses: arguments parted by commas outside inner parentheses,
-- up to the matching `)`, which has to be there. `more` is the call that is read behind a token.
abbrev pub taken_by : Role → ℕ → HidingToken → List HidingToken → (ℕ → Option Call) → Option Call
taken_by opens depth x follow more = option_map (with_token x) (more (suc depth))
taken_by closes zero x follow more = Some (closed x follow)
taken_by closes (suc depth) x follow more = option_map (with_token x) (more depth)
taken_by parts zero x follow more = option_map with_argument (more zero)
taken_by parts (suc depth) x follow more = option_map (with_token x) (more (suc depth))
taken_by other depth x follow more = option_map (with_token x) (more depth)

abbrev pub taken : ℕ → List HidingToken → Option Call
taken depth [] = None
taken depth (x ∷ follow) = taken_by (role x.token.kind) depth x follow (λ inner. taken inner follow)

-- what stands behind a `(`, if one stands there
abbrev pub behind_open : Role → List HidingToken → Option (List HidingToken)
behind_open opens more = Some more
behind_open _ more = None

abbrev pub opened : List HidingToken → Option (List HidingToken)
opened [] = None
opened (x ∷ more) = behind_open (role x.token.kind) more

-- whether the first argument has no tokens
abbrev pub begins_empty : List (List HidingToken) → Bool
begins_empty ([] ∷ more) = true
begins_empty arguments = false

-- whether the number of arguments is that of the parameters (6.10.3 paragraph 4): where there is no parameter, no
-- tokens between the parentheses are no argument and not one
abbrev pub fits : ℕ → Bool → ℕ → Bool
fits zero true (suc zero) = true
fits parameters is_empty arguments = nat_eq parameters arguments
