-- Where the arguments of calls end, and the calls, that begin with unread tokens (C99 6.10.3 paragraphs 10 and 11).
use Rattle.std.specs.Prelude.{ℕ, zero, suc, Bool, true, false, List, [], ◌∷◌, length, map, if◌then◌else◌}
use Rattle.c_pre.specs.declared.arguments.Ends.{Ends}
use Rattle.c_pre.specs.declared.hiding.Hiding.{Hiding}
use Rattle.c_pre.specs.Arguments.{Role, opens, closes, parts, other, role}
use Rattle.c_pre.specs.InnerFirst.{inner_first}

-- what the tokens of a vector are to arguments, the next token first
abbrev pub role_in : Hiding → Role
role_in x = role x.token.kind

abbrev pub roles : List Hiding → List Role
roles unread = inner_first (map role_in unread)

-- inside of so many inner parentheses, how many tokens are unread from the first `)` on that stands outside of those,
-- or with `at_comma` from the first comma or `)`; 0 where none does. `here` tokens are unread from the first one on.
abbrev pub height_by : Bool → Role → ℕ → ℕ → (ℕ → ℕ) → ℕ
height_by at_comma opens depth here more = more (suc depth)
height_by at_comma closes zero here more = here
height_by at_comma closes (suc depth) here more = more depth
height_by at_comma parts zero here more = if at_comma then here else more zero
height_by at_comma parts (suc depth) here more = more (suc depth)
height_by at_comma other depth here more = more depth

abbrev pub height : Bool → ℕ → List Role → ℕ
height at_comma depth [] = 0
height at_comma depth (r ∷ follow) =
    height_by at_comma r depth (suc (length follow)) (λ inner. height at_comma inner follow)

-- the ends of what begins with the first of these
abbrev pub ends_of : List Role → Ends
ends_of unread = record { argument = height true zero unread; call = height false zero unread }

-- those of each token of a vector, behind which these stand
abbrev pub each_ends : List Role → List Hiding → List Ends
each_ends behind [] = []
each_ends behind (x ∷ before) = ends_of (role_in x ∷ behind) ∷ each_ends (role_in x ∷ behind) before
