-- The limits of what directives and macros may give.
use Rattle.std.specs.Prelude.{ℕ}

-- how many tokens a text may expand to
abbrev pub max_expanded_tokens : ℕ
max_expanded_tokens = 1048576

-- how many tokens replacement lists may put in, all together
abbrev pub max_replacement_tokens : ℕ
max_replacement_tokens = 16777216
