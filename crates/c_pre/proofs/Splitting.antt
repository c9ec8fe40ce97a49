-- Arguments, one after the other.
use Rattle.std.proofs.Common.{◌≡◌, ℕ, zero, suc, false, List, [], ◌∷◌, ◌++◌, length, Option, Some, None}
use Rattle.std.proofs.Common.{option_map, is_some, unwrap_or, refl, ap, ◌∙◌, arith}
use Rattle.c_pre.specs.Arguments.{Role, opens, closes, parts, other, Call, role, with_token, with_argument}
use Rattle.c_pre.specs.Arguments.{taken_by, taken}
use Rattle.c_pre.specs.Ends.{length_by, argument_length}
use Rattle.c_pre.specs.HideSets.{HidingToken}
use Rattle.c_pre.specs.Pending.{other_arguments}

-- a call with another first argument
abbrev pub with_first : List HidingToken → Call → Call
with_first first call = record call { arguments = first ∷ other_arguments call.arguments }

some_suc : (o : Option ℕ) (n : ℕ) → option_map suc o ≡ Some (suc n) → o ≡ Some n
some_suc None n e = absurd (cc)
some_suc (Some k) n e = let s : suc k ≡ suc n = ap (λ o. unwrap_or o 0) e in ap Some (omega arith)

not_none : {A : Type 0} (x : A) → None ≡ Some x → ⊥
not_none x e = cc

suc_not_zero : (o : Option ℕ) → option_map suc o ≡ Some 0 → ⊥
suc_not_zero None e = not_none 0 e
suc_not_zero (Some k) e = let s : suc k ≡ 0 = ap (λ o. unwrap_or o 0) e in absurd (omega arith)

zero_not_suc : (n : ℕ) → Some 0 ≡ Some (suc n) → ⊥
zero_not_suc n e = let s : 0 ≡ suc n = ap (λ o. unwrap_or o 0) e in absurd (omega arith)

argument_first : (o : Option Call) → option_map with_argument o
    ≡ option_map (with_first []) (option_map with_argument o)
argument_first None = refl
argument_first (Some call) = refl

token_first : (x : HidingToken) (first : List HidingToken) (o : Option Call)
    → option_map (with_token x) (option_map (with_first first) o) ≡ option_map (with_first (x ∷ first)) o
token_first x first None = refl
token_first x first (Some call) = refl

at_end : (r : Role) (depth : ℕ) (x : HidingToken) (follow : List HidingToken)
    → length_by r depth (λ inner. argument_length inner follow) ≡ Some 0
    → taken_by r depth x follow (λ inner. taken inner follow)
    ≡ option_map (with_first []) (taken_by r zero x follow (λ inner. taken inner follow))
at_end opens depth x follow e = absurd (suc_not_zero (argument_length (suc depth) follow) e)
at_end closes zero x follow e = refl
at_end closes (suc depth) x follow e = absurd (suc_not_zero (argument_length depth follow) e)
at_end parts zero x follow e = argument_first (taken zero follow)
at_end parts (suc depth) x follow e = absurd (suc_not_zero (argument_length (suc depth) follow) e)
at_end other depth x follow e = absurd (suc_not_zero (argument_length depth follow) e)

before_end : (r : Role) (depth : ℕ) (x : HidingToken) (first follow : List HidingToken) (rest : Option Call)
    → length_by r depth (λ inner. argument_length inner follow) ≡ Some (suc (length first))
    → ((inner : ℕ) → argument_length inner follow ≡ Some (length first)
    → taken inner follow ≡ option_map (with_first first) rest)
    → taken_by r depth x follow (λ inner. taken inner follow) ≡ option_map (with_first (x ∷ first)) rest
before_end opens depth x first follow rest e f =
    ap (option_map (with_token x)) (f (suc depth) (some_suc (argument_length (suc depth) follow) (length first) e))
    ∙ token_first x first rest
before_end closes zero x first follow rest e f = absurd (zero_not_suc (length first) e)
before_end closes (suc depth) x first follow rest e f =
    ap (option_map (with_token x)) (f depth (some_suc (argument_length depth follow) (length first) e))
    ∙ token_first x first rest
before_end parts zero x first follow rest e f = absurd (zero_not_suc (length first) e)
before_end parts (suc depth) x first follow rest e f =
    ap (option_map (with_token x)) (f (suc depth) (some_suc (argument_length (suc depth) follow) (length first) e))
    ∙ token_first x first rest
before_end other depth x first follow rest e f =
    ap (option_map (with_token x)) (f depth (some_suc (argument_length depth follow) (length first) e))
    ∙ token_first x first rest

-- the first argument of a call is what stands before its end
pub first_taken : (first rest : List HidingToken) (depth : ℕ) → argument_length depth (first ++ rest)
    ≡ Some (length first)
    → taken depth (first ++ rest) ≡ option_map (with_first first) (taken zero rest)
first_taken [] [] depth e = absurd (not_none 0 e)
first_taken [] (x ∷ follow) depth e = at_end (role x.token.kind) depth x follow e
first_taken (x ∷ first) rest depth e =
    before_end (role x.token.kind) depth x first (first ++ rest) (taken zero rest) e
    (λ inner h. first_taken first rest inner h)

pub none_of : {A : Type 0} (o : Option A) → is_some o ≡ false → o ≡ None
none_of None e = refl
none_of (Some x) e = absurd (cc)

pub mapped_some : {A B : Type 0} (f : A → B) (o : Option A) → is_some (option_map f o) ≡ is_some o
mapped_some f None = refl
mapped_some f (Some x) = refl
