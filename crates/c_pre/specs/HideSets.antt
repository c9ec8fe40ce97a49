-- Hide sets (C99 6.10.3.4): the names by which a token is not replaced.
use Rattle.std.specs.Prelude.{[], ◌∷◌, if◌then◌else◌}
use Rattle.c_lexer.specs.declared.token.Token.{Token}
use Rattle.c_pre.specs.Names.{Name, Names, member}

-- a token with its hide set
pub record HidingToken : Type 0 where
  pub token : Token
  pub hidden : Names

-- the names that both sets have
abbrev pub common : Names → Names → Names
common [] other = []
common (name ∷ names) other = if member name other then name ∷ common names other else common names other

abbrev pub with_name : Name → Names → Names
with_name name names = if member name names then names else name ∷ names

-- the names of both sets: those of the first, one after the other, join the second
abbrev pub joined : Names → Names → Names
joined [] other = other
joined (name ∷ names) other = joined names (with_name name other)
