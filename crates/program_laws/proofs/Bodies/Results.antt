-- What a function gives has the kind of its type, where its type spells its signature (C99 6.7.5.3).
use Rattle.std.proofs.Common.{◌≡◌, true, ap, ◌∙◌, List, [], ◌∷◌}
use Rattle.c_tree.specs.declared.c_type.TypeWord.{TypeWord}
use Rattle.c_tree.specs.declared.c_type.TypeWord.TheVariants as word
use Rattle.c_tree.specs.declared.expression.Kind.{Kind}
use Rattle.c_tree.specs.Kinds.{Signature}
use Rattle.c_tree.specs.TypesAgree.{agrees, behind_types, is_end, is_kind_of, kind_of_type, takes_kind}
use Rattle.c_tree.specs.Valid.{Scope}
use Rattle.c_call_rules.specs.FineCalls.{Spells}
use Rattle.c_call_rules.specs.FunctionTypes.{result_type}
use Rattle.typing_laws.specs.Validity.Steps.{Structures}
use Rattle.typing_laws.proofs.Validity.Common.{first, second}
use Rattle.typing_laws.proofs.Validity.PointerCalls.{result_behind}
use Rattle.program_laws.specs.Bodies.Standing.{IsResult}

result_by : (es : Structures) (ks : List Kind) (ws : List TypeWord) (k : Kind) → agrees es ws ks k ≡ true
    → is_kind_of (kind_of_type es (result_type 0 ws)) k ≡ true
result_by es [] [] k e = absurd cc
result_by es [] (word.Gives ∷ type) k e =
    first (is_kind_of (kind_of_type es type) k) (is_end (behind_types 1 type)) e
result_by es [] (w ∷ ws) k e = absurd cc
result_by es (j ∷ ks) [] k e = absurd cc
result_by es (j ∷ ks) (word.Takes ∷ ws) k e =
    ap (λ type. is_kind_of (kind_of_type es type) k) (result_behind 1 ws)
    ∙ result_by es ks (behind_types 1 ws) k
    (second (takes_kind es (word.Takes ∷ ws) j) (agrees es (behind_types 1 ws) ks k) e)
result_by es (j ∷ ks) (w ∷ ws) k e = absurd cc

pub result_is : (scope : Scope) (last : Structures) (type : List TypeWord) (s : Signature) → Spells last type s
    → scope.result ≡ s.result → IsResult scope last (result_type 0 type)
result_is scope last type s spelled same = record {
  kind = ap (is_kind_of (kind_of_type last (result_type 0 type))) same ∙ result_by last s.parameters type s.result
      spelled;
}
