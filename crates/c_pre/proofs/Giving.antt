-- The token that is one too many.
use Rattle.std.proofs.Common.{◌≡◌, ℕ, zero, suc, ◌≤◌, false, [], ◌∷◌, ◌++◌, length, drop, Result, Err, refl, nat_le}
use Rattle.std.proofs.Common.{length-append, arith, if◌then◌else◌}
use Rattle.std.proofs.lemmas.Bool.{lt-leb}
use Rattle.c_lexer.specs.declared.token.Token.{Token}
use Rattle.c_pre.specs.declared.fault.PreFault.{PreFault}
use Rattle.c_pre.specs.declared.fault.PreFaultKind.TheVariants.{TooMany}
use Rattle.c_pre.specs.Limits.{max_expanded_tokens}
use Rattle.c_pre.specs.Lines.{Tokens}
use Rattle.c_pre.specs.Trace.{after, gives, answer, line_of, fault_at}

line_of-last : (n : ℕ) (given : Tokens) (token : Token) → length given ≡ n
    → line_of (drop n (given ++ token ∷ [])) ≡ token.line
line_of-last zero [] token e = refl
line_of-last (suc n) [] token e = absurd (omega arith)
line_of-last zero (t ∷ given) token e = absurd (omega arith)
line_of-last (suc n) (t ∷ given) token e = line_of-last n given token (omega arith)

past : {X : Type 0} (n : ℕ) (given : Tokens) (token : Token) (x : Result X PreFault) → length given ≡ n
    → (if nat_le (length (given ++ token ∷ [])) n then x
    else Err (fault_at (line_of (drop n (given ++ token ∷ []))) TooMany)) ≡ Err (fault_at token.line TooMany)
past n given token x e =
    let m : nat_le (length (given ++ token ∷ [])) n
    ≡ false = lt-leb (length (given ++ token ∷ [])) n (omega (arith, length-append given (token ∷ []))) in
    rw (m, line_of-last n given token e) refl

pub one_too_many : (given : Tokens) (token : Token) → length given ≤ max_expanded_tokens
    → max_expanded_tokens ≤ length given
    → answer (after given (gives token)) ≡ Err (fault_at token.line TooMany)
unfolding answer
one_too_many given token a b = past max_expanded_tokens given token _ (omega arith)
