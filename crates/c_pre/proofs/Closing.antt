-- The first `)` behind the parameters of a macro.
use Rattle.std.proofs.Common.{◌≡◌, ℕ, suc, ◌+◌, Bool, true, false, [], ◌∷◌, length, take, drop, Option, Some}
use Rattle.std.proofs.Common.{None, option_map, refl, sym, ap, ◌∙◌, arith, if◌then◌else◌, ◌-◌}
use Rattle.std.specs.List.{list_any}
use Rattle.std.specs.Prelude.{not, ◌&&◌}
use Rattle.c_lexer.specs.declared.token.Token.{Token}
use Rattle.c_pre.specs.Directives.{define, unknown_directive, is_close, is_left_out, to_close, are_parameters}
use Rattle.c_pre.specs.Directives.{names_among, function_like}
use Rattle.c_pre.specs.Names.{Name}
use Rattle.c_pre.proofs.Cutting.{tail_is}
use Rattle.c_pre.specs.Lines.{Tokens}
use Rattle.c_pre.specs.Outcomes.{close_index}

-- a place behind n more tokens
abbrev pub behind : ℕ → Option ℕ → Option ℕ
behind n place = option_map (λ k. n + k) place

pub behind_more : (n : ℕ) (place : Option ℕ) → behind n (option_map suc place) ≡ behind (n + 1) place
behind_more n None = refl
behind_more n (Some k) = let e : n + suc k ≡ n + 1 + k = omega arith in ap Some e

pub behind_none : (place : Option ℕ) → behind 0 place ≡ place
behind_none None = refl
behind_none (Some k) = let e : 0 + k ≡ k = omega arith in ap Some e

-- the tokens before a place, and those behind the token there
abbrev pub parted_at : Tokens → Option ℕ → Option (Tokens × Tokens)
parted_at tokens None = None
parted_at tokens (Some n) = Some (take n tokens, drop (suc n) tokens)

abbrev pub longer : Token → Option (Tokens × Tokens) → Option (Tokens × Tokens)
longer token None = None
longer token (Some p) = Some (token ∷ p.0, p.1)

is_longer : (token : Token) (o : Option (Tokens × Tokens)) → option_map (λ p. (token ∷ p.0, p.1)) o ≡ longer token o
is_longer token None = refl
is_longer token (Some p) = refl

by_place : (token : Token) (more : Tokens) (place : Option ℕ)
    → longer token (parted_at more place) ≡ parted_at (token ∷ more) (option_map suc place)
by_place token more None = refl
by_place token more (Some k) = refl

by_first : (token : Token) (more : Tokens) (b : Bool) (o : Option (Tokens × Tokens)) (place : Option ℕ)
    → o ≡ longer token (parted_at more place) → (x : Option (Tokens × Tokens)) → x ≡ Some ([], more)
    → (if b then x else o) ≡ parted_at (token ∷ more) (if b then Some 0 else option_map suc place)
by_first token more true o place e x f = f
by_first token more false o place e x f = e ∙ by_place token more place

pub parted : (tokens : Tokens) → to_close tokens ≡ parted_at tokens (close_index tokens)
parted [] = refl
parted (token ∷ more) =
    by_first token more (is_close token.kind) _ (close_index more)
    (is_longer token (to_close more) ∙ ap (longer token) (parted more)) _ refl

-- a definition whose parameters end before the place n
module _ (name : Name) (tokens : Tokens) (n at : ℕ) (place : close_index tokens ≡ Some n) (at-is : at ≡ suc n) where
  abbrev list : Tokens
  list = take (length tokens - at) (drop at tokens)

  list_is : list ≡ drop (suc n) tokens
  list_is = tail_is tokens at ∙ ap (λ k. drop k tokens) at-is

  to_is : to_close tokens ≡ Some (take n tokens, list)
  to_is = parted tokens ∙ ap (parted_at tokens) place
      ∙ ap (λ (l : Tokens). Some (take n tokens, l)) (sym list_is)

  by_tests : (names left_out fits : Bool) → names ≡ are_parameters (take n tokens)
      → left_out ≡ list_any (λ token. is_left_out token.kind) list → (names && not left_out) ≡ fits
      → (if fits then define name (record { parameters = Some (names_among (take n tokens)); list = list })
      else unknown_directive) ≡ function_like name (to_close tokens)
  by_tests names left_out fits p q e =
      ap (λ b. if b then define name (record { parameters = Some (names_among (take n tokens)); list = list })
      else unknown_directive)
      (sym e ∙ ap (λ x. x && not left_out) p ∙ ap (λ x. are_parameters (take n tokens) && not x) q)
      ∙ ap (function_like name) (sym to_is)

  pub not_defined : (names left_out : Bool) → names ≡ are_parameters (take n tokens)
      → left_out ≡ list_any (λ token. is_left_out token.kind) list → (names && not left_out) ≡ false
      → unknown_directive ≡ function_like name (to_close tokens)
  not_defined names left_out p q e = by_tests names left_out false p q e

  pub defined : (names left_out : Bool) → names ≡ are_parameters (take n tokens)
      → left_out ≡ list_any (λ token. is_left_out token.kind) list → (names && not left_out) ≡ true
      → define name (record { parameters = Some (names_among (take n tokens)); list = list })
      ≡ function_like name (to_close tokens)
  defined names left_out p q e = by_tests names left_out true p q e
