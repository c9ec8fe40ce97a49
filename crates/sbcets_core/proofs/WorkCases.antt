-- The outcomes of `work`, case by case.
use Rattle.std.proofs.Common.{◌≡◌, ℕ, ◌==◌, true, List, [], ◌∷◌, length, Option, Some, refl, ap, ◌∙◌, inl, inr}
use Rattle.std.proofs.Common.{arith, subst, sym}
use Rattle.std.proofs.lemmas.Bool.{eqb-true}
use Rattle.sb_outside.specs.Content.{gained, GainsPart}
use Rattle.sb_outside.proofs.Gains.{gained_nil}
use Rattle.sb_base.specs.Budgets.{default_sizes}
use Rattle.rv_sim.specs.declared.trap.TrapKind.{TrapKind}
use Rattle.rv_sim.specs.declared.stop.Stop.{Stop}
use Rattle.rv_sim.specs.declared.stop.Stop.TheVariants as stops
use Rattle.image_compiler.specs.declared.compiler.Built.{Built as BuiltImage}
use Rattle.command_line.specs.Asked.{default_limit}
use Rattle.command_line.specs.Generator.{work_source}
use Rattle.sbcets_core.specs.declared.outcome.Outcome.{Outcome}
use Rattle.sbcets_core.specs.declared.outcome.Outcome.TheVariants.{Exited, Built, Usage, WriteFault, InputFault, Memory}
use Rattle.sbcets_core.specs.declared.outcome.Outcome.TheVariants.{Limit, Refused, ImageRefused, Trap}
use Rattle.sbcets_core.specs.declared.outcome.Outcome.TheVariants.{Done, Running, ListRefused}
use Rattle.sbcets_core.specs.declared.outcome.Outcome.TheVariants as outcomes
use Rattle.sbcets_core.specs.Accepted.{IsBuiltFrom}
use Rattle.sbcets_core.specs.Counting.{Counts, CommandCounts, counts_of}
use Rattle.sbcets_core.specs.Commands.{Outside, DoesNothing, RunsImage}
use Rattle.sbcets_core.specs.Works.{IsUnworked, Worked, Works, alone, with_outputs, work_lines}
use Rattle.sbcets_core.proofs.Running.{never_traps}

-- a sink that keeps nothing of what was sent
pub keeps_nothing : (old now sent : List ℕ) → now ≡ old → GainsPart (Some old) (Some now) sent
keeps_nothing old now sent same = record {
  kept = [];
  lost = sent;
  parts = refl;
  gains = ap Some same ∙ sym (gained_nil (Some old));
}

-- nothing was sent
pub gains_nothing : (told : Option (List ℕ)) (sent : List ℕ) → (length sent == 0) ≡ true → told ≡ gained told sent
gains_nothing told [] none = sym (gained_nil told)
gains_nothing told (b ∷ bs) none =
    let e : length (b ∷ bs) ≡ 0 = eqb-true (length (b ∷ bs)) 0 none in
    absurd (omega (arith, e))

-- ---- without a run

pub unworked_works : (seed count : ℕ) (outcome : Outcome) (image : List ℕ) (before after : Outside)
    → DoesNothing image before after → IsUnworked seed count outcome → Works seed count outcome image before after
unworked_works seed count (Refused refusal) image before after d u = (u, d)
unworked_works seed count Memory image before after d u = d
unworked_works seed count (outcomes.ReadFault fault) image before after d u = absurd u
unworked_works seed count (Exited status) image before after d u = absurd u
unworked_works seed count Built image before after d u = absurd u
unworked_works seed count Done image before after d u = absurd u
unworked_works seed count Usage image before after d u = absurd u
unworked_works seed count WriteFault image before after d u = absurd u
unworked_works seed count InputFault image before after d u = absurd u
unworked_works seed count (Limit n) image before after d u = absurd u
unworked_works seed count (Running n) image before after d u = absurd u
unworked_works seed count (ImageRefused fault) image before after d u = absurd u
unworked_works seed count (ListRefused kind line) image before after d u = absurd u
unworked_works seed count (Trap kind pc) image before after d u = absurd u

pub unworked_counts : (seed count : ℕ) (outcome : Outcome) (before after : Counts) → after ≡ before
    → IsUnworked seed count outcome → CommandCounts outcome before after
unworked_counts seed count (Refused refusal) before after same u = same
unworked_counts seed count Memory before after same u = same
unworked_counts seed count (outcomes.ReadFault fault) before after same u = absurd u
unworked_counts seed count (Exited status) before after same u = absurd u
unworked_counts seed count Built before after same u = absurd u
unworked_counts seed count Done before after same u = absurd u
unworked_counts seed count Usage before after same u = absurd u
unworked_counts seed count WriteFault before after same u = absurd u
unworked_counts seed count InputFault before after same u = absurd u
unworked_counts seed count (Limit n) before after same u = absurd u
unworked_counts seed count (Running n) before after same u = absurd u
unworked_counts seed count (ImageRefused fault) before after same u = absurd u
unworked_counts seed count (ListRefused kind line) before after same u = absurd u
unworked_counts seed count (Trap kind pc) before after same u = absurd u

-- ---- with a run

-- what was built, how it ran by itself, and how long its source is
pub record Ran (seed count : ℕ) (built : BuiltImage) (size : ℕ) (stop : Stop) (shown reported : List ℕ) : Type 0 where
  pub is_built : IsBuiltFrom (work_source seed count) default_sizes built
  pub size_is : size ≡ length (work_source seed count)
  pub run : RunsImage built.image.items default_limit stop (alone [] []) (alone shown reported)

pub ran_to : (seed count : ℕ) (built : BuiltImage) (size : ℕ) (stop end : Stop) (shown reported : List ℕ)
    → IsBuiltFrom (work_source seed count) default_sizes built → size ≡ length (work_source seed count)
    → RunsImage built.image.items default_limit stop (alone [] []) (alone shown reported) → stop ≡ end
    → Ran seed count built size end shown reported
ran_to seed count built size stop end shown reported is_built size_is run same =
    subst (λ e. Ran seed count built size e shown reported) same
    (record { is_built = is_built; size_is = size_is; run = run })

worked : (seed count : ℕ) (built : BuiltImage) (size : ℕ) (stop : Stop) (shown reported : List ℕ)
    → Ran seed count built size stop shown reported → Worked seed count built.image.items stop
worked seed count built size stop shown reported r = record {
  built = built;
  is_built = r.is_built;
  image_is = refl;
  shown = shown;
  reported = reported;
  run = r.run;
}

outputs : (before : Outside) (o o' e e' : Option (List ℕ)) → o ≡ o' → e ≡ e'
    → with_outputs before o e ≡ with_outputs before o' e'
outputs before o o' e e' p q = λ j. with_outputs before (p j) (q j)

pub exit_works : (seed count status : ℕ) (built : BuiltImage) (size : ℕ) (shown reported : List ℕ) (before : Outside)
    (o e : Option (List ℕ)) → Ran seed count built size (stops.Exited status) shown reported
    → o ≡ gained before.streams.output (work_lines size built.checks built.dropped status (length shown))
    → e ≡ gained before.streams.errors reported
    → Works seed count (Exited status) built.image.items before (with_outputs before o e)
unfolding worked
exit_works seed count status built size shown reported before o e r told said = record {
  of = worked seed count built size (stops.Exited status) shown reported r;
  leaves = outputs before _ _ _ _
      (subst (λ n. o ≡ gained before.streams.output (work_lines n built.checks built.dropped status (length shown)))
      r.size_is told) said;
}

pub lines_fail : (seed count status : ℕ) (built : BuiltImage) (size : ℕ) (shown reported : List ℕ) (before : Outside)
    (o e : Option (List ℕ)) → Ran seed count built size (stops.Exited status) shown reported
    → GainsPart before.streams.output o (work_lines size built.checks built.dropped status (length shown))
    → e ≡ gained before.streams.errors reported
    → Works seed count WriteFault built.image.items before (with_outputs before o e)
unfolding worked
lines_fail seed count status built size shown reported before o e r part said =
    inr (record {
      status = status;
      of = worked seed count built size (stops.Exited status) shown reported r;
      part = subst
          (λ n. GainsPart before.streams.output o (work_lines n built.checks built.dropped status (length shown)))
          r.size_is part;
      leaves = outputs before _ _ _ _ refl said;
    })

pub report_fails : (seed count : ℕ) (built : BuiltImage) (size : ℕ) (stop : Stop) (shown reported : List ℕ)
    (before : Outside) (e : Option (List ℕ)) → Ran seed count built size stop shown reported
    → GainsPart before.streams.errors e reported
    → Works seed count WriteFault built.image.items before (with_outputs before before.streams.output e)
unfolding worked
report_fails seed count built size stop shown reported before e r part =
    inl (record {
      stop = stop;
      of = worked seed count built size stop shown reported r;
      part = part;
      leaves = refl;
    })

pub limit_works : (seed count : ℕ) (built : BuiltImage) (size : ℕ) (shown reported : List ℕ) (before : Outside)
    (e : Option (List ℕ)) → Ran seed count built size stops.Limit shown reported
    → e ≡ gained before.streams.errors reported
    → Works seed count (Limit default_limit) built.image.items before (with_outputs before before.streams.output e)
unfolding worked
limit_works seed count built size shown reported before e r said = (
  refl,
  record {
    of = worked seed count built size stops.Limit shown reported r;
    leaves = outputs before _ _ _ _ refl said;
  },
)

-- it never traps
pub no_trap_alone : (seed count : ℕ) (built : BuiltImage) (size : ℕ) (kind : TrapKind) (pc : ℕ)
    (shown reported : List ℕ) → Ran seed count built size (stops.Trap kind pc) shown reported → ⊥
no_trap_alone seed count built size kind pc shown reported r =
    never_traps (work_source seed count) default_sizes built default_limit kind pc (alone [] [])
    (alone shown reported) r.is_built r.run

-- the counts
pub counted : (reads writes input o o' e e' : ℕ) → o' ≡ o → e' ≡ e
    → counts_of reads writes input o' e' ≡ counts_of reads writes input o e
counted reads writes input o o' e e' p q = λ j. counts_of reads writes input (p j) (q j)
