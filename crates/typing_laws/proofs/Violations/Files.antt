-- The first violation in a file is what typing answers.
use Rattle.std.proofs.Common.{◌≡◌, ℕ, Bool, true, false, refl, sym, ap, ◌∙◌, subst, List, [], ◌∷◌, ◌++◌}
use Rattle.std.proofs.Common.{Option, Some, None, if◌then◌else◌, length, map}
use Rattle.std.proofs.lemmas.Option.{none-some}
use Rattle.std.specs.Prelude.{Ok, Err, codes, option_map}
use Rattle.c_syntax.specs.Statements as t
use Rattle.c_syntax.specs.Tree.{Declarator, Specifiers}
use Rattle.c_tree.specs.declared.c_type.TypeWord.{TypeWord}
use Rattle.c_tree.specs.declared.program.Variable.{Variable}
use Rattle.c_tree.specs.Programs.{Program}
use Rattle.c_tree.specs.Statements.{Statements}
use Rattle.c_faults.specs.declared.fault.Fault.{Fault}
use Rattle.c_faults.specs.declared.fault.Rule.TheVariants.{NoMain}
use Rattle.c_faults.specs.Answer.{Answer, violates, ◌>>=◌}
use Rattle.c_const.specs.Initializers.{first_not_constant}
use Rattle.c_counts.specs.Counts.{Count, counts_of}
use Rattle.c_counts.specs.Excess.{first_above, members_among, most_members, most_parameters, parameters_among}
use Rattle.c_facts.specs.Facts.{facts_in}
use Rattle.c_scope.specs.declared.meaning.Designated.TheVariants as what
use Rattle.c_scope.specs.declared.meaning.Meaning.{Meaning}
use Rattle.c_scope.specs.declared.meaning.Meaning.TheVariants as meaning
use Rattle.c_scope.specs.Names.{Name, declared}
use Rattle.c_scope.specs.Parameters.{ParameterScope}
use Rattle.c_declarator_typing.specs.Declarators.{Shape}
use Rattle.c_declarator_typing.specs.Specifications.{Specification}
use Rattle.c_typing_state.specs.State.{judged}
use Rattle.c_unit_typing.specs.Constructs.{Around}
use Rattle.c_unit_typing.specs.Declarations.{stored_once}
use Rattle.c_unit_typing.specs.Files.{File}
use Rattle.c_unit_typing.specs.declared.limits.Limited.{Limited}
use Rattle.c_unit_typing.specs.declared.limits.Limited.TheVariants as limited
use Rattle.c_unit_typing.specs.Programs.{program_of}
use Rattle.c_unit_typing.specs.Typed.{TypedUnit, a_program, global_bytes, limited_program, most_bytes}
use Rattle.c_unit_typing.specs.Typed.{most_functions, typed_as, typed_unit, unless_not_constant, when_large}
use Rattle.c_unit_typing.specs.Units as typing
use Rattle.c_unit_typing.specs.Units.{all_defined, around_body, defined_as, entered, file_before, is_main, left}
use Rattle.c_unit_typing.specs.Units.{parameters_in, scope_or_none}
use Rattle.typing_laws.specs.Violations.Agreeing.{Agree, Agrees, fault_of, first_of}
use Rattle.typing_laws.specs.Violations.Files.{behind_name, body, defined, defined_by, definition, external}
use Rattle.typing_laws.specs.Violations.Files.{externals, fault_in, file_with, first_in, function_left, judged_again}
use Rattle.typing_laws.specs.Violations.Files.{main_violations, or_those, use_violations, violations, with_body}
use Rattle.typing_laws.specs.Violations.Files.{with_end}
use Rattle.typing_laws.specs.Violations.Expressions.{first_token, name_token}
use Rattle.typing_laws.specs.Violations.Judgements.{Judgement, Violation}
use Rattle.typing_laws.specs.Violations.Statements.{within}
use Rattle.typing_laws.proofs.Violations.Agreeing.{answer_agrees, followed_agrees, made_agrees, ruled_agrees, two_agree}
use Rattle.typing_laws.proofs.Violations.Declarations.{declaration_agrees, put_agrees}
use Rattle.typing_laws.proofs.Violations.Expressions.{shape_agrees, specification_agrees}
use Rattle.typing_laws.proofs.Violations.Statements.{items_agree_in}

leaves : (line : ℕ) (type : List TypeWord) (ps : List Variable) (j : Judgement File Statements)
    (x : Answer (File × Statements)) → Agree j x
    → Agrees (function_left line type ps j) (x >>= λ r. Ok (left line type ps r, tt))
leaves line type ps j (Ok r) e = record { by = ap (function_left line type ps) e }
leaves line type ps j (Err f) e = record { by = (e.0, ap (option_map (λ ss. tt)) e.1) }

body_agrees : (a : Around) (b : t.Block) (f : File) → Agrees (body (within a) b f) (typing.body a b f)
body_agrees a (t.block l xs r) f = items_agree_in a xs f

with_body_agrees : (line : ℕ) (scope : Option ParameterScope) (b : t.Block) (m : Option Meaning) (f : File)
    → Agrees (with_body line scope b m f) (typing.with_body line scope b m f)
with_body_agrees line scope b (Some (meaning.Named (what.Function n) type)) f =
    let g = entered n type (scope_or_none scope) f in
    leaves line type (parameters_in g.state (scope_or_none scope).names) (body (within (around_body type)) b g)
    (typing.body (around_body type) b g) (body_agrees (around_body type) b g).by
with_body_agrees line scope b m f = record { by = refl }

defined_agrees : (n : ℕ) (b : t.Block) (v : Specification × Shape) (name : Option (Name × ℕ)) (f : File)
    → Agrees (defined n b v name f) (typing.defined_by v.0 v.1 b name f)
defined_agrees n b v None f = record { by = refl }
defined_agrees n b v (Some name) f =
    followed_agrees (behind_name b v name) (typing.with_body name.1 v.1.parameters b)
    (put_agrees f (answer_agrees n f.state (defined_as v.0 v.1 name f.state)))
    (λ m g. with_body_agrees name.1 v.1.parameters b m g)

definition_agrees : (specs : Specifiers) (d : Declarator) (b : t.Block) (f : File)
    → Agrees (definition specs d b f) (typing.definition specs d b f)
definition_agrees specs d b f =
    two_agree (defined_by d b) (λ v. typing.defined_by v.0 v.1 b v.1.name)
    (put_agrees f (ruled_agrees (first_token specs) (λ spec. judged (stored_once spec))
    (specification_agrees false specs f.state)))
    (λ g. put_agrees g (shape_agrees true d g.state)) (λ v g. defined_agrees (name_token 0 d) b v v.1.name g)

external_agrees : (e : t.External) (f : File) → Agrees (external e f) (typing.external e f)
external_agrees (t.definition specs d b) f = definition_agrees specs d b f
external_agrees (t.declaration d) f = made_agrees (λ vs. tt) (declaration_agrees false d f)

pub externals_agree : (es : List t.External) (f : File) → Agrees (externals es f) (typing.externals es f)
externals_agree [] f = record { by = refl }
externals_agree (e ∷ es) f =
    followed_agrees (λ done. externals es) (λ done. typing.externals es) (external_agrees e f)
    (λ done g. externals_agree es g)

-- the end of the file

first_fault : (vs : List Violation) (gs : List Fault) (g : Fault) → first_of vs ≡ Some g
    → first_in (map (λ v. v.fault) vs ++ gs) ≡ Some g
first_fault [] gs g e = absurd (none-some g e)
first_fault (v ∷ vs) gs g e = e

abbrev EndsAs : File × List Fault → Answer File → Type 0
EndsAs r (Ok f) = r ≡ (f, [])
EndsAs r (Err g) = first_in r.1 ≡ Some g

abbrev ended_by : (end : ℕ) → Bool → Option ℕ → File → Answer File
ended_by end b u f = if b then all_defined u f else violates NoMain end

end_is : (end : ℕ) (b : Bool) (u : Option ℕ) (f : File)
    → EndsAs (f, main_violations end b ++ use_violations u) (ended_by end b u f)
end_is end true None f = refl
end_is end true (Some line) f = refl
end_is end false u f = refl

ends : (end : ℕ) (j : Judgement File (Unit {0})) (x : Answer (File × Unit {0})) → Agree j x
    → EndsAs (with_end end j) (x >>= λ r. typing.ended end r.0)
ends end j (Ok r) e =
    subst (λ k. EndsAs (with_end end k) (typing.ended end r.0)) (sym e)
    (end_is end (is_main (declared (codes "main") r.0.state.environment.entities)) r.0.state.undefined r.0)
ends end j (Err f) e = first_fault j.violations _ f e.0

file_ends : (objects : Option (List (List Bool))) (end : ℕ) (es : List t.External)
    → EndsAs (file_with objects end es) (typing.file_with objects end es)
file_ends objects end es =
    ends end (externals es (file_before objects (facts_in es)))
    (typing.externals es (file_before objects (facts_in es)))
    (externals_agree es (file_before objects (facts_in es))).by

fault_is : (r : File × List Fault) (x : Answer File) → EndsAs r x → first_in r.1 ≡ fault_of x
fault_is r (Ok f) e = ap (λ r. first_in r.1) e
fault_is r (Err g) e = e

those : (fs gs : List Fault) (g : Fault) → first_in fs ≡ Some g → first_in (or_those fs gs) ≡ Some g
those [] gs g e = absurd (none-some g e)
those (f ∷ fs) gs g e = e

again : (end : ℕ) (es : List t.External) (r : File × List Fault) (x : Answer File) → EndsAs r x
    → first_in (judged_again end es r) ≡ fault_of (x >>= λ f. typing.file_with (Some f.taken) end es)
again end es r (Ok f) e =
    ap (λ r. first_in (judged_again end es r)) e
    ∙ fault_is (file_with (Some f.taken) end es) (typing.file_with (Some f.taken) end es)
    (file_ends (Some f.taken) end es)
again end es r (Err g) e = those r.1 _ g e

pub file_first : (end : ℕ) (u : t.Unit) → first_in (violations end u) ≡ fault_of (typing.file_in end u.externals)
file_first end u =
    again end u.externals (file_with None end u.externals) (typing.file_with None end u.externals)
    (file_ends None end u.externals)

-- limits are no violations of rules, nor is an initializer that is not constant

no_fault_when : (which : Limited) (count : Option ℕ) (u : TypedUnit) → fault_in u ≡ None
    → fault_in (when_large which count u) ≡ None
no_fault_when which None u e = e
no_fault_when which (Some n) u e = refl

no_fault_limited : (counts : List Count) (p : Program) → fault_in (limited_program counts p) ≡ None
no_fault_limited counts p =
    no_fault_when limited.Functions (first_above most_functions (length p.functions ∷ [])) _
    (no_fault_when limited.Parameters (first_above most_parameters (parameters_among counts)) _
    (no_fault_when limited.Members (first_above most_members (members_among counts)) _
    (no_fault_when limited.Globals (first_above most_bytes (global_bytes p ∷ [])) (a_program p) refl)))

no_fault_unless : (line : Option ℕ) (counts : List Count) (p : Program)
    → fault_in (unless_not_constant line (limited_program counts p)) ≡ None
no_fault_unless None counts p = no_fault_limited counts p
no_fault_unless (Some line) counts p = refl

fault_as : (es : List t.External) (x : Answer File) → fault_of x ≡ fault_in (typed_as es x)
fault_as es (Err f) = refl
fault_as es (Ok f) = sym (no_fault_unless (first_not_constant (program_of f)) (counts_of es) (program_of f))

pub unit_first : (end : ℕ) (u : t.Unit) → first_in (violations end u) ≡ fault_in (typed_unit end u)
unfolding typed_unit
unit_first end u = file_first end u ∙ fault_as u.externals (typing.file_in end u.externals)
