-- For the code: the next token, and where an argument ends.
use Rattle.std.specs.Prelude.{◌≡◌, ℕ, zero, suc, ◌+◌, ◌≤◌, ◌<◌, List, [], ◌∷◌, ◌++◌, length, Option, Some, None}
use Rattle.std.specs.Prelude.{option_map}
use Rattle.c_pre.specs.declared.arguments.Role.{Role}
use Rattle.c_pre.specs.declared.arguments.Role.TheVariants as r
use Rattle.c_pre.specs.declared.hiding.Hiding.{Hiding}
use Rattle.c_pre.specs.declared.unread.Unread.{Unread}
use Rattle.c_pre.specs.Arguments as spec
use Rattle.c_pre.specs.HideSets.{HidingToken}
use Rattle.c_pre.specs.Pending.{above}

abbrev pub role_of : Role → spec.Role
role_of r.Opens = spec.opens
role_of r.Closes = spec.closes
role_of r.Parts = spec.parts
role_of r.Other = spec.other

-- how many tokens stand before the comma or `)` that ends an argument, inside of so many inner parentheses
abbrev pub length_by : spec.Role → ℕ → (ℕ → Option ℕ) → Option ℕ
length_by spec.opens depth more = option_map suc (more (suc depth))
length_by spec.closes zero more = Some 0
length_by spec.closes (suc depth) more = option_map suc (more depth)
length_by spec.parts zero more = Some 0
length_by spec.parts (suc depth) more = option_map suc (more (suc depth))
length_by spec.other depth more = option_map suc (more depth)

abbrev pub argument_length : ℕ → List HidingToken → Option ℕ
argument_length depth [] = None
argument_length depth (x ∷ follow) = length_by (spec.role x.token.kind) depth (λ inner. argument_length inner follow)

-- the last of the vector was taken, which stood above so many
pub record Popped (old new : Unread) (end : ℕ) (x : Hiding) : Type 0 where
  pub tokens : old.tokens.items ≡ new.tokens.items ++ x ∷ []
  pub above_end : end ≤ length new.tokens.items
  pub sets : new.sets ≡ old.sets
  pub room : new.room ≡ old.room

pub record Stays (old new : Unread) : Type 0 where
  pub tokens : new.tokens.items ≡ old.tokens.items
  pub sets : new.sets ≡ old.sets
  pub room : new.room ≡ old.room

-- a token was put before all others
pub record Pushed (old new : Unread) (x : Hiding) : Type 0 where
  pub tokens : new.tokens.items ≡ old.tokens.items ++ x ∷ []
  pub sets : new.sets ≡ old.sets
  pub room : new.room ≡ old.room

abbrev pub NextIs : Unread → Unread → ℕ → Option Hiding → Type 0
NextIs old new end None = (length old.tokens.items ≤ end) × Stays old new
NextIs old new end (Some x) = Popped old new end x

abbrev pub OpenIs : Unread → Unread → ℕ → Option Hiding → Type 0
OpenIs old new end None = (spec.opened (above end old.sets old.tokens.items) ≡ None) × Stays old new
OpenIs old new end (Some x) = Popped old new end x × (spec.role x.token.kind ≡ spec.opens)

-- the height of the comma or `)` that ends the present argument
abbrev pub EndIs : Unread → ℕ → Option ℕ → Type 0
EndIs unread end None = argument_length zero (above end unread.sets unread.tokens.items) ≡ None
EndIs unread end (Some height) =
    ((k : ℕ) × (height + k ≡ length unread.tokens.items)
    × (argument_length zero (above end unread.sets unread.tokens.items) ≡ Some k)) × (end < height)
