-- Code and tables that grow.
use Rattle.std.proofs.Common.{◌≡◌, ℕ, zero, suc, ◌+◌, ◌*◌, ◌≤◌, List, [], ◌∷◌, ◌++◌, length, Some, None, refl, sym, ap}
use Rattle.std.proofs.Common.{◌∙◌, subst, arith}
use Rattle.std.proofs.lemmas.Option.{same_Some}
use Rattle.c_tree.specs.declared.expression.Kind.TheVariants.{Void, Scalar as OfScalar, Structure, Array}
use Rattle.tac_ir.specs.declared.instruction.Instruction.{Instruction}
use Rattle.tac_ir.specs.declared.instruction.Instruction.TheVariants as tac
use Rattle.tac_ir.specs.declared.key.Key.{Key}
use Rattle.tac_ir.specs.Temporaries.{temporaries}
use Rattle.c_lower.specs.Placed.{Placed, Holds, HasAt}
use Rattle.program_lowering.specs.declared.expressions.emitter.Emitter.{Emitter}
use Rattle.program_lowering.specs.ExpressionCode.Weights.{Weights, Weighs, weight_of, code_weight, no_weight}
use Rattle.program_lowering.specs.ExpressionCode.Weights.{taken_into, taking_weight, returning_weight}
use Rattle.program_lowering.specs.ExpressionCode.Emitted.{Has, Added, Stays, Keeps, IsReal, Fills, Emits}
use Rattle.program_lowering.proofs.ExpressionCode.Leading.{leads_none, leads_added, added_stays, closed_then}
use Rattle.program_lowering.proofs.ExpressionCode.Leading.{same_nodes, added_adds, adds_before}
use Rattle.program_lowering.specs.ExpressionCode.Last.{KeyAdded, TextAdded, TakingCode, Outcomes}

-- lists

pub stays_all : {A : Type 0} (xs : List A) → Stays xs xs
stays_all xs n x h = h

pub stays_by : {A : Type 0} (xs ys : List A) → ys ≡ xs → Stays xs ys
stays_by xs ys e n x h = subst (λ l. HasAt l n x) (sym e) h

more_stays : {A : Type 0} (xs : List A) (y : A) → Stays xs (xs ++ y ∷ [])
more_stays [] y n x h = cc
more_stays (z ∷ xs) y zero x h = h
more_stays (z ∷ xs) y (suc n) x h = more_stays xs y n x h

pub one_more : {A : Type 0} (xs ys : List A) (y : A) → ys ≡ xs ++ y ∷ [] → Stays xs ys
one_more xs ys y e n x h = subst (λ l. HasAt l n x) (sym e) (more_stays xs y n x h)

last_has : {A : Type 0} (xs : List A) (y : A) → HasAt (xs ++ y ∷ []) (length xs) y
last_has [] y = refl
last_has (x ∷ xs) y = last_has xs y

pub has_last : {A : Type 0} (xs ys : List A) (y : A) (n : ℕ) → ys ≡ xs ++ y ∷ [] → n ≡ length xs → HasAt ys n y
has_last xs ys y n e at = subst (λ l. HasAt l n y) (sym e)
    (subst (λ m. HasAt (xs ++ y ∷ []) m y) (sym at) (last_has xs y))

from_more : {A : Type 0} (P : A → Type 0) (xs : List A) (y : A) → ((n : ℕ) (x : A) → HasAt xs n x → P x) → P y
    → (n : ℕ) (x : A) → HasAt (xs ++ y ∷ []) n x → P x
from_more P [] y h p zero x e = subst P (same_Some y x e) p
from_more P [] y h p (suc n) x e = cc
from_more P (z ∷ xs) y h p zero x e = h 0 x e
from_more P (z ∷ xs) y h p (suc n) x e = from_more P xs y (λ m w. h (suc m) w) p n x e

weight_more : (texts : List (List ℕ)) (is : List Instruction) (i : Instruction) (w : Weights)
    → code_weight texts (is ++ i ∷ []) w ≡ code_weight texts is w + weight_of texts i w
weight_more texts [] i w = omega arith
weight_more texts (j ∷ is) i w = omega (arith, weight_more texts is i w)

-- weights

pub weighs_same : {w : Weights} {m n : ℕ} → m ≡ n → Weighs w m n
weighs_same e = record { exactly = λ even. e; at_most = λ spares. omega (arith, e) }

pub weighs_from : {w : Weights} {m n k : ℕ} → m ≡ n → Weighs w n k → Weighs w m k
weighs_from e h = record {
  exactly = λ even. e ∙ h.exactly even;
  at_most = λ spares. omega (arith, e, h.at_most spares);
}

pub weighs_into : {w : Weights} {m n k : ℕ} → Weighs w m n → n ≡ k → Weighs w m k
weighs_into h e = record {
  exactly = λ even. h.exactly even ∙ e;
  at_most = λ spares. omega (arith, e, h.at_most spares);
}

pub weighs_then : {w : Weights} {b c n : ℕ} (a k j : ℕ) → Weighs w b (a + k) → Weighs w c (b + j) → k + j ≡ n
    → Weighs w c (a + n)
weighs_then a k j h g e = record {
  exactly = λ even. omega (arith, h.exactly even, g.exactly even, e);
  at_most = λ spares. omega (arith, h.at_most spares, g.at_most spares, e);
}

weighs_behind : {w : Weights} {c k n : ℕ} (a : ℕ) → c ≡ a + k → Weighs w k n → Weighs w c (a + n)
weighs_behind a e h = record {
  exactly = λ even. omega (arith, e, h.exactly even);
  at_most = λ spares. omega (arith, e, h.at_most spares);
}

-- emitters

pub fills_after : {a b : Emitter} {c : Placed} → Keeps a b → Fills b c → Fills a c
fills_after k f = record {
  code = λ n i r h. f.code n i r (k.code n i h);
  keys = λ n x h. f.keys n x (k.keys n x h);
  blocks = λ n x h. f.blocks n x (k.blocks n x h);
  loops = λ n x h. f.loops n x (k.loops n x h);
  texts = λ n x h. f.texts n x (k.texts n x h);
  literals = f.literals ∙ k.literals;
}

pub fills_before : {a b : Emitter} {c : Placed} {m : ℕ} {k : Weights → ℕ} → Emits a b m k → Fills b c → Fills a c
fills_before e f = fills_after e.kept f

pub keeps_all : {a : Emitter} → Keeps a a
keeps_all = record {
  code = λ n x h. h;
  keys = λ n x h. h;
  blocks = λ n x h. h;
  loops = λ n x h. h;
  texts = λ n x h. h;
  literals = refl;
}

pub keeps_on : {a b c : Emitter} → Keeps a b → Keeps b c → Keeps a c
keeps_on k l = record {
  code = λ n x h. l.code n x (k.code n x h);
  keys = λ n x h. l.keys n x (k.keys n x h);
  blocks = λ n x h. l.blocks n x (k.blocks n x h);
  loops = λ n x h. l.loops n x (k.loops n x h);
  texts = λ n x h. l.texts n x (k.texts n x h);
  literals = l.literals ∙ k.literals;
}

pub emits_none : {a : Emitter} {k : Weights → ℕ} (m : ℕ) → ((w : Weights) → k w ≡ 0) → Emits a a m k
emits_none m none = record {
  kept = keeps_all;
  fits = λ limit le f. f;
  grown = λ w texts s. weighs_same (omega (arith, none w));
}

pub emits_then : {a b c : Emitter} {m n : ℕ} {k j : Weights → ℕ} (most : ℕ) (weight : Weights → ℕ) → Emits a b m k
    → Emits b c n j → m ≤ most → n ≤ most → ((w : Weights) → k w + j w ≡ weight w) → Emits a c most weight
emits_then most weight e f lm ln lk = record {
  kept = keeps_on e.kept f.kept;
  fits = λ limit le h. f.fits limit (omega (arith, le, ln)) (e.fits limit (omega (arith, le, lm)) h);
  grown = λ w texts s.
      weighs_then _ _ _ (e.grown w texts (λ n x h. s n x (f.kept.texts n x h))) (f.grown w texts s) (lk w);
}

pub emits_within : {a b : Emitter} {m : ℕ} {k : Weights → ℕ} (most : ℕ) (weight : Weights → ℕ) → Emits a b m k
    → m ≤ most → ((w : Weights) → k w ≡ weight w) → Emits a b most weight
emits_within most weight e lm lk = record {
  kept = e.kept;
  fits = λ limit le h. e.fits limit (omega (arith, le, lm)) h;
  grown = λ w texts s. weighs_into (e.grown w texts s) (omega (arith, lk w));
}

-- an instruction that weighs so much in whatever texts come later
added_as : {a b : Emitter} {n : ℕ} {i : Instruction} (m : ℕ) (weight : Weights → ℕ) → Added a b n i
    → temporaries i ≤ m
    → ((w : Weights) (texts : List (List ℕ)) → Stays b.texts.items texts → Weighs w (weight_of texts i w) (weight w))
    → Emits a b m weight
added_as {a} {b} {n} {i} m weight h le of = record {
  kept = record {
    code = one_more a.code.items b.code.items i h.code;
    keys = stays_by a.keys.items b.keys.items h.keys;
    blocks = stays_by a.blocks.items b.blocks.items h.blocks;
    loops = stays_by a.loops.items b.loops.items h.loops;
    texts = stays_by a.texts.items b.texts.items h.texts;
    literals = h.literals;
  };
  fits = λ limit most f. record {
    by = λ k x g. from_more (λ y. temporaries y ≤ limit) a.code.items i f.by (omega (arith, le, most)) k x
        (subst (λ l. HasAt l k x) h.code g);
  };
  grown = λ w texts s.
      weighs_behind (code_weight texts a.code.items w)
      (ap (λ is. code_weight texts is w) h.code ∙ weight_more texts a.code.items i w) (of w texts s);
}

-- just so much
pub added_by : {a b : Emitter} {n : ℕ} {i : Instruction} (m : ℕ) (weight : Weights → ℕ) → Added a b n i
    → temporaries i ≤ m
    → ((w : Weights) (texts : List (List ℕ)) → Stays b.texts.items texts → weight_of texts i w ≡ weight w)
    → Emits a b m weight
added_by m weight h le of = added_as m weight h le (λ w texts s. weighs_same (of w texts s))

-- one without a text
pub added_emits : {a b : Emitter} {n : ℕ} {i : Instruction} (m : ℕ) → Added a b n i → temporaries i ≤ m
    → ((texts : List (List ℕ)) (w : Weights) → weight_of texts i w ≡ weight_of [] i w) → Emits a b m (weight_of [] i)
added_emits {i = i} m h le same = added_by m (weight_of [] i) h le (λ w texts s. same texts w)

pub added_has : {a b : Emitter} {n : ℕ} {i : Instruction} → Added a b n i → Has b n i
added_has {a} {b} {n} {i} h = has_last a.code.items b.code.items i n h.code h.place

pub added_holds : {a b : Emitter} {n : ℕ} {i : Instruction} {c : Placed} → Added a b n i → IsReal i → Fills b c
    → Holds c n i
added_holds {n = n} {i = i} h r f = f.code n i r (added_has h)

-- tables

-- where the code stays as it is
pub same_emits : (a b : Emitter) → b.code.items ≡ a.code.items → Stays a.keys.items b.keys.items
    → Stays a.blocks.items b.blocks.items
    → Stays a.loops.items b.loops.items → Stays a.texts.items b.texts.items
    → b.literals.items ≡ a.literals.items → Emits a b 0 no_weight
same_emits a b code keys blocks loops texts literals = record {
  kept = record {
    code = stays_by a.code.items b.code.items code;
    keys = keys;
    blocks = blocks;
    loops = loops;
    texts = texts;
    literals = literals;
  };
  fits = λ limit le f. record { by = λ n i h. f.by n i (subst (λ l. HasAt l n i) code h) };
  grown = λ w ts s. weighs_same (omega (arith, ap (λ is. code_weight ts is w) code));
}

pub no_key : (a : Emitter) → KeyAdded a a None None
no_key a = record { emits = emits_none 0 (λ w. refl); same = same_nodes; is = λ c f. tt }

pub some_key : (a b : Emitter) (key : Key) (n : ℕ) → b.code.items ≡ a.code.items → b.keys.items ≡ a.keys.items
    ++ key ∷ []
    → b.blocks.items ≡ a.blocks.items → b.loops.items ≡ a.loops.items → b.texts.items ≡ a.texts.items
    → b.literals.items ≡ a.literals.items → n ≡ length a.keys.items → KeyAdded a b (Some key) (Some n)
some_key a b key n code keys blocks loops texts literals at = record {
  emits = same_emits a b code (one_more a.keys.items b.keys.items key keys)
      (stays_by a.blocks.items b.blocks.items blocks)
      (stays_by a.loops.items b.loops.items loops) (stays_by a.texts.items b.texts.items texts) literals;
  same = record { code = code; loops = loops };
  is = λ c f. f.keys n key (has_last a.keys.items b.keys.items key n keys at);
}

pub text_added : (a b : Emitter) (text : List ℕ) (n : ℕ) → b.code.items ≡ a.code.items → b.keys.items ≡ a.keys.items
    → b.blocks.items ≡ a.blocks.items → b.loops.items ≡ a.loops.items → b.texts.items ≡ a.texts.items ++ text ∷ []
    → b.literals.items ≡ a.literals.items → n ≡ length a.texts.items → TextAdded a b text n
text_added a b text n code keys blocks loops texts literals at = record {
  emits = same_emits a b code (stays_by a.keys.items b.keys.items keys) (stays_by a.blocks.items b.blocks.items blocks)
      (stays_by a.loops.items b.loops.items loops)
      (one_more a.texts.items b.texts.items text texts) literals;
  same = record { code = code; loops = loops };
  is = λ ts s. s n text (has_last a.texts.items b.texts.items text n texts at);
}

-- contents taken, and the ways of `&&` and `||`

taken_as_argument : (d size : ℕ) (w : Weights)
    → Weighs w (taken_into d (Structure size) w) (taking_weight (Structure size) w)
taken_as_argument zero size w = record {
  exactly = λ even. even.by (Structure size);
  at_most = λ spares. spares.by (Structure size);
}
taken_as_argument (suc d) size w = weighs_same refl

pub take_structure : {a b : Emitter} {size line d n next : ℕ}
    → Added a b n (tac.Take (Structure size) line d d next)
    → TakingCode a b (Structure size) line d n next
take_structure {size = size} {d = d} h = record {
  emits = added_as (d + 1) (taking_weight (Structure size)) h (omega arith) (λ w ts s. taken_as_argument d size w);
  leads = leads_added h;
  returns = λ e.
      added_by (d + 1) (returning_weight (Structure size)) h (omega arith)
      (λ w ts s. ap (λ k. taken_into k (Structure size) w) e);
  stands = λ c f. added_holds h tt f;
}

pub take_void : {a : Emitter} {line d next : ℕ} → TakingCode a a Void line d next next
take_void {d = d} = record {
  emits = emits_none (d + 1) (λ w. refl);
  leads = leads_none;
  returns = λ e. emits_none (d + 1) (λ w. refl);
  stands = λ c f. refl;
}

pub take_scalar : {a : Emitter} {k : _} {line d next : ℕ} → TakingCode a a (OfScalar k) line d next next
take_scalar {d = d} = record {
  emits = emits_none (d + 1) (λ w. refl);
  leads = leads_none;
  returns = λ e. emits_none (d + 1) (λ w. refl);
  stands = λ c f. refl;
}

pub take_array : {a : Emitter} {size line d next : ℕ} → TakingCode a a (Array size) line d next next
take_array {d = d} = record {
  emits = emits_none (d + 1) (λ w. refl);
  leads = leads_none;
  returns = λ e. emits_none (d + 1) (λ w. refl);
  stands = λ c f. refl;
}

pub three_ways : {a b c e : Emitter} {d zero one test next : ℕ} → Added a b zero (tac.Constant d 0 next)
    → Added b c one (tac.Constant d 1 next)
    → Added c e test (tac.Branch d one zero)
    → Outcomes a e d zero one test next
three_ways {d = d} {zero = wz} {one = wo} {next = m} hz ho ht =
    let ez = added_emits (d + 1) hz (omega arith) (λ ts w. refl) in
    let eo = added_emits (d + 1) ho (omega arith) (λ ts w. refl) in
    let et = added_emits (d + 1) ht (omega arith) (λ ts w. refl) in
    let two = emits_then (d + 1) (λ w. 2 * w.constant) ez eo (omega arith) (omega arith) (λ w. omega arith) in
    record {
      emits = emits_then (d + 1) (λ w. w.branch + 2 * w.constant) two et (omega arith) (omega arith) (λ w. omega arith);
      leads = record {
        bodies = adds_before (added_adds hz) (adds_before (added_adds ho) (added_adds ht));
        by = λ ss s o.
            let z = added_stays hz s o in
            let v = added_stays ho z.0.closed (z.0.opens m o.0, tt) in
            let t = added_stays ht v.0.closed (v.1, (v.0.opens wz z.1, tt)) in (
              closed_then z.0 (closed_then v.0 t.0),
              (t.0.opens wz (v.0.opens wz z.1), (t.0.opens wo v.1, (t.1, tt))),
            );
      };
      gives_zero = λ p f. added_holds hz tt (fills_before eo (fills_before et f));
      gives_one = λ p f. added_holds ho tt (fills_before et f);
      tests = λ p f. added_holds ht tt f;
    }

pub ruleset keys_added = (no_key, some_key)

pub ruleset texts_added = (text_added)

pub ruleset takings = (take_structure, take_void, take_scalar, take_array)
