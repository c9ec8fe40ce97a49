-- A block keeps objects sound: its own are new, and die where it is left, and the names around it are good again.
use Rattle.source_meaning.specs.Good.{function_count, IsEntered, EntersBy}
use Rattle.source_meaning.specs.Good.{After, Any, AreTyped, CompletionIs, Context, HasHome, IsGood, Leaves, Sure}
use Rattle.source_meaning.specs.Good.{context_of, object_kind}
use Rattle.c_tree.specs.Valid.{Scope}
use Rattle.std.proofs.Common.{◌≡◌, ℕ, zero, suc, ◌+◌, ◌≤◌, List, [], ◌∷◌, map, Bool, true, false, ◌||◌, Some, None}
use Rattle.std.proofs.Common.{length, get_or, if◌then◌else◌, refl, sym, subst, nat_le, nat_lt}
use Rattle.std.proofs.lemmas.Bool.{leb-true}
use Rattle.sb_base.specs.declared.ending.Ending.TheVariants.{Stack, Keys}
use Rattle.obj_memory.specs.Objects.{Objects}
use Rattle.obj_memory.specs.Sound.{Continues}
use Rattle.obj_memory.proofs.Soundness.{sound_tag_continues}
use Rattle.c_tree.specs.declared.expression.Kind.{Kind}
use Rattle.c_tree.specs.declared.program.Variable.{Variable}
use Rattle.c_tree.specs.Blocks.{no_variable, closed, is_among, opened, block_objects}
use Rattle.source_meaning.specs.State.{Home, NoObject, InObject, State, Outcome, Gives, Ended, Paused, Run, on, ◌>>=◌}
use Rattle.source_meaning.specs.State.{◌>>◌, done, stop, choose, change, skip, Setting}
use Rattle.source_meaning.specs.Statements.{Completion, Normal, Broken, Continued, Returned}
use Rattle.addr_map.specs.Places.{MapSizes, AreMapped}
use Rattle.source_meaning.specs.Places.{stack_end}
use Rattle.source_meaning.specs.Actions.{take_key}
use Rattle.source_meaning.specs.Blocks.{pass_or_stop, objects_end, has_objects, place_variables, without_homes}
use Rattle.source_meaning.specs.Blocks.{test_keys, over, homes_over, Block, place_block, enter_block, leave_block}
use Rattle.source_meaning.specs.Blocks.{scoped}
use Rattle.source_meaning.specs.Keeping.{AreTagged, AllLie, LivesOn}
use Rattle.source_meaning.proofs.ActionsAct.{continues_without}
use Rattle.source_meaning.proofs.Separating.{separate_without, separate_back}
use Rattle.source_meaning.proofs.Holding.{all_lie_on, lives_then, held_on}
use Rattle.source_meaning.proofs.Typing.{opened_as}
use Rattle.obj_memory.specs.declared.value.Value.{Value}
use Rattle.source_meaning.proofs.Sure.{stops_same, stops_then, argument_on, stable_tagged}
use Rattle.source_meaning.proofs.Laying.{within_stack, PlacedHome, placed_home, placed_from, without_sound, without_low}
use Rattle.source_meaning.proofs.Laying.{without_lives, ends_but_then, ends_without, Placed, PlacesBy, places}
use Rattle.source_meaning.specs.Good.{AllFrom, EndsBut}

pub completion_on : (functions : ℕ) (result : Kind) (f : Completion) (old new : Objects) → Continues old new
    → CompletionIs functions result f old → CompletionIs functions result f new
completion_on functions result Normal old new c h = tt
completion_on functions result Broken old new c h = tt
completion_on functions result Continued old new c h = tt
completion_on functions result (Returned v) old new c h = argument_on _ result v old new c h

-- the homes of variables

abbrev HomesOf : List Variable → List Home → Objects → Type 0
HomesOf vs frame o = (x : ℕ) (kind : Kind) → object_kind vs x ≡ Some kind → HasHome frame o x kind

closed_by : (d : Variable) (b : Bool) → d.is_object ≡ b → (closed d).is_object ≡ false
closed_by d true e = subst (λ c. (if c then no_variable else d).is_object ≡ false) (sym e) refl
closed_by d false e = subst (λ c. (if c then no_variable else d).is_object ≡ false) (sym e) e

closed_plain : (d : Variable) → (closed d).is_object ≡ false
closed_plain d = closed_by d d.is_object refl

no_home : (h : Home) (n : ℕ) (kind : Kind) (o : Objects) → PlacedHome n false kind h o → h ≡ NoObject
no_home NoObject n kind o p = refl
no_home (InObject k) n kind o p = absurd p

not_in : {A : Type 0} {k : ℕ} → NoObject ≡ InObject k → A
not_in e = absurd (cc)

over_home : (outer h : Home) (fs hs : List Home) (o : Objects) (kind : Kind) → HasHome (h ∷ hs) o 0 kind
    → HasHome (over outer h ∷ fs) o 0 kind
over_home outer NoObject fs hs o kind p = not_in p.home
over_home outer (InObject k) fs hs o kind p = record { object = p.object; home = p.home; held = p.held }

-- the first of some variables, whether the block declares it or not
first_home : (n : ℕ) (here : Bool) (d v : Variable) (outer h : Home) (fs hs : List Home) (o : Objects)
    → PlacedHome n (if here then d else closed d).is_object (if here then d else closed d).kind h o
    → ((kind : Kind) → (if v.is_object then Some v.kind else None) ≡ Some kind → HasHome (outer ∷ fs) o 0 kind)
    → (kind : Kind) → (if (if here then d else v).is_object then Some (if here then d else v).kind else None)
    ≡ Some kind → HasHome (over outer h ∷ fs) o 0 kind
first_home n true d v outer h fs hs o p q kind e = over_home outer h fs hs o kind
    (placed_home n d.is_object d refl h hs o p kind e)
first_home n false d v outer h fs hs o p q kind e =
    let none = no_home h n (closed d).kind o (subst (λ b. PlacedHome n b (closed d).kind h o) (closed_plain d) p) in
    subst (λ z. HasHome (over outer z ∷ fs) o 0 kind) (sym none)
    (let r = q kind e in record { object = r.object; home = r.home; held = r.held })

pub homes_entered : (n : ℕ) (numbers : List ℕ) (first : ℕ) (all vs : List Variable) (frame homes : List Home)
    (o : Objects) → HomesOf vs frame o → Placed n (opened numbers first all (map closed all)) homes o
    → HomesOf (opened numbers first all vs) (homes_over frame homes) o
homes_entered n numbers first [] vs frame homes o h p x kind e = absurd (cc)
homes_entered n numbers first (d ∷ ds) [] frame homes o h p x kind e = absurd (cc)
homes_entered n numbers first (d ∷ ds) (v ∷ vs) frame [] o h p x kind e = absurd p
homes_entered n numbers first (d ∷ ds) (v ∷ vs) [] (i ∷ is) o h p zero kind e =
    let r = first_home n (is_among numbers first) d v NoObject i [] is o p.0 (λ kind e. not_in (h zero kind e).home)
    kind e in
    outer_none i is o kind r
  where
    outer_none : (i : Home) (is : List Home) (o : Objects) (kind : Kind) → HasHome (over NoObject i ∷ []) o 0 kind
        → HasHome (i ∷ is) o 0 kind
    outer_none NoObject is o kind r = not_in r.home
    outer_none (InObject k) is o kind r = record { object = r.object; home = r.home; held = r.held }
homes_entered n numbers first (d ∷ ds) (v ∷ vs) [] (i ∷ is) o h p (suc x) kind e =
    let r = homes_entered n numbers (suc first) ds vs [] is o (λ y kind k. not_in (h (suc y) kind k).home) p.1 x kind
    e in
    record { object = r.object; home = r.home; held = r.held }
homes_entered n numbers first (d ∷ ds) (v ∷ vs) (g ∷ gs) (i ∷ is) o h p zero kind e =
    let r = first_home n (is_among numbers first) d v g i gs is o p.0 (h zero) kind e in
    record { object = r.object; home = r.home; held = r.held }
homes_entered n numbers first (d ∷ ds) (v ∷ vs) (g ∷ gs) (i ∷ is) o h p (suc x) kind e =
    let r = homes_entered n numbers (suc first) ds vs gs is o
    (λ y kind k. let q = h (suc y) kind k in record { object = q.object; home = q.home; held = q.held }) p.1 x kind
    e in
    record { object = r.object; home = r.home; held = r.held }

-- a block without objects names no more than what is around it

neither : (a b : Bool) → (a || b) ≡ false → (a ≡ false) × (b ≡ false)
neither true b e = absurd (cc)
neither false b e = (refl, e)

first_same : (here : Bool) (d v : Variable) → (if here then d else closed d).is_object ≡ false → (kind : Kind)
    → (if (if here then d else v).is_object then Some (if here then d else v).kind else None) ≡ Some kind
    → (if v.is_object then Some v.kind else None) ≡ Some kind
first_same true d v none kind e =
    let bad = subst (λ b. (if b then Some d.kind else None) ≡ Some kind) none e in absurd (cc)
first_same false d v none kind e = e

names_same : (numbers : List ℕ) (first : ℕ) (all vs : List Variable)
    → has_objects (opened numbers first all (map closed all)) ≡ false
    → (x : ℕ) (kind : Kind) → object_kind (opened numbers first all vs) x ≡ Some kind → object_kind vs x ≡ Some kind
names_same numbers first [] vs none x kind e = absurd (cc)
names_same numbers first (d ∷ ds) [] none x kind e = absurd (cc)
names_same numbers first (d ∷ ds) (v ∷ vs) none zero kind e = first_same (is_among numbers first) d v
    (neither _ _ none).0 kind e
names_same numbers first (d ∷ ds) (v ∷ vs) none (suc x) kind e = names_same numbers (suc first) ds vs
    (neither _ _ none).1 x kind e

module _ (base : Scope) (sizes : MapSizes) (all vars : List Variable) (numbers : List ℕ) where
  abbrev sc : Context
  sc = context_of base sizes all vars

  abbrev inner : Context
  inner = context_of base sizes all (opened numbers 0 all vars)

  -- the objects of the block
  abbrev own : List Variable
  own = block_objects all numbers

  -- where the block is entered, more objects can be named, and the same plain variables
  opened_typed : (functions : ℕ) (values : List Value) → AreTyped functions sc.scope values
      → AreTyped functions inner.scope values
  opened_typed functions values h = record
      { there = h.there; value = h.value; named = opened_as numbers 0 all vars h.named }

  homes_lived : (s s' : State) → IsGood sc s → LivesOn s.objects s'.objects → s'.frame ≡ s.frame
      → HomesOf vars s'.frame s'.objects
  homes_lived s s' good l same x kind e =
      let home = good.homes x kind e in
      record {
        object = home.object;
        home = subst (λ f. get_or f x NoObject ≡ InObject home.object) (sym same)
            home.home;
        held = held_on s.objects s'.objects l home.object kind home.held;
      }

  abbrev Entered : State → Block → State → Type 0
  Entered s b s' = IsEntered base sizes all vars numbers s b s'

  abbrev Enters : State → Outcome Block → Type 0
  Enters s o = EntersBy base sizes all vars numbers s o

  placed_block : (s : State) (k : ℕ) → IsGood sc s → (o : Outcome (List Home))
      → PlacesBy (function_count sc) sizes (record s { keys = k }) (length s.objects) own o
      → Enters s (on o (λ homes. change (λ z. record z { frame = homes_over s.frame homes })
      >> done (record { homes = homes; frame = s.frame; stacked = s.stacked })))
  placed_block s k good (Gives homes s2) h = record {
    block = refl;
    good = record {
      kept = record {
        sound = h.0.sound;
        lie = subst (λ x. AllLie s2.objects x) (sym h.1)
            (all_lie_on s.objects s2.objects h.0.lives.continues s.accesses good.kept.lie);
      };
      low = h.0.low;
      statics = λ n kind e. held_on s.objects s2.objects h.0.lives n kind (good.statics n kind e);
      homes = homes_entered (length s.objects) numbers 0 all vars s.frame homes s2.objects
          (λ x kind e. let home = good.homes x kind e in record {
            object = home.object;
            home = home.home;
            held = held_on s.objects s2.objects h.0.lives home.object kind
                home.held;
          })
          h.0.placed;
      plain = subst (λ x. AreTagged (function_count sc) x s2.objects) (sym h.2)
          (stable_tagged _ s.plain s.objects s2.objects h.0.lives good.plain);
      typed = subst (AreTyped (function_count sc) inner.scope) (sym h.2)
          (opened_typed (function_count sc) s.plain good.typed);
      separate = h.0.separate;
    };
    lives = h.0.lives;
    new = placed_from (length s.objects) own homes s2.objects h.0.placed;
    ends = h.0.ends;
  }
  placed_block s k good (Ended e s2) h = absurd h
  placed_block s k good (Paused s2) h = absurd h

  module _ (g : Setting) (same : g.sizes ≡ sizes) (mapped : AreMapped sizes) (line : ℕ) where
    placing : (s : State) (k : ℕ) → IsGood sc s → objects_end own s.stacked ≤ stack_end g
        → Enters s (place_block own (record s { keys = k }))
    placing s k good fits =
        placed_block s k good (place_variables own (record s { keys = k }))
        (places (function_count sc) sizes mapped own (record s { keys = k }) good.kept.sound good.low good.separate
        (within_stack g sizes same (objects_end own s.stacked) fits))

    key_enters : (s : State) → IsGood sc s → objects_end own s.stacked ≤ stack_end g → (b : Bool)
        → Enters s (on (choose b (change (λ s. record s { keys = s.keys + 1 })) (stop (Keys line)) s)
        (λ _. place_block own))
    key_enters s good fits true = placing s (s.keys + 1) good fits
    key_enters s good fits false = stops_same sc s good

    keys_enter : (s : State) → IsGood sc s → objects_end own s.stacked ≤ stack_end g → (b : Bool)
        → Enters s (on (choose b (take_key g line) skip s) (λ _. place_block own))
    keys_enter s good fits true = key_enters s good fits (nat_lt s.keys g.sizes.budgets.keys)
    keys_enter s good fits false = placing s s.keys good fits

    space_enters : (s : State) → IsGood sc s → (b : Bool) → nat_le (objects_end own s.stacked) (stack_end g) ≡ b
        → Enters s (on (pass_or_stop b (Stack line) s) (λ _. test_keys g own line >> place_block own))
    space_enters s good true e = keys_enter s good (leb-true _ _ e) (has_objects own)
    space_enters s good false e = stops_same sc s good

    pub enters : (s : State) → IsGood sc s → Enters s (enter_block g own line s)
    enters s good = space_enters s good (nat_le (objects_end own s.stacked) (stack_end g)) refl

  left_good : (s : State) → IsGood sc s → (homes : List Home) (s2 : State) → IsGood inner s2
      → LivesOn s.objects s2.objects → AllFrom (length s.objects) homes → EndsBut s.objects s2.objects homes
      → Leaves sc s (leave_block (record { homes = homes; frame = s.frame; stacked = s.stacked }) s2)
  left_good s good homes s2 after lives new ends =
      let c = continues_without homes s2.objects in
      let l = without_lives s.objects s2.objects homes lives new c in
      let ended = ends_without s.objects s2.objects homes c ends in
      record {
        good = record {
          kept = record {
            sound = without_sound _ homes s2.objects after.kept.sound;
            lie = all_lie_on s2.objects
                (without_homes homes s2.objects) c s2.accesses after.kept.lie;
          };
          low = without_low homes s2.objects after.low;
          statics = λ n kind e. held_on s.objects (without_homes homes s2.objects) l n kind (good.statics n kind e);
          homes = λ x kind e.
              let home = good.homes x kind e in
              record {
                object = home.object;
                home = home.home;
                held = held_on s.objects (without_homes homes s2.objects)
                    l home.object kind home.held;
              };
          plain = λ x. sound_tag_continues _ s2.objects (without_homes homes s2.objects) c _ (after.plain x);
          typed = record { there = after.typed.there; value = after.typed.value; named = good.typed.named };
          separate = separate_back sizes s.stacked s2.stacked s.objects (without_homes homes s2.objects) good.separate
              (separate_without sizes s2.stacked homes s2.objects after.separate) l.continues ended;
        };
        lives = l;
        frame = refl;
        ended = ended;
      }

  -- a block that is left after a part that kept its names
  pub left_by : (s : State) → IsGood sc s → (b : Block) (s1 s2 : State) → Entered s b s1 → Leaves inner s1 s2
      → Leaves sc s (leave_block b s2)
  left_by s good b s1 s2 up h =
      subst (λ z. Leaves sc s (leave_block z s2)) (sym up.block)
      (left_good s good b.homes s2 h.good (lives_then s.objects s1.objects s2.objects up.lives h.lives) up.new
      (ends_but_then s.objects s1.objects s2.objects b.homes up.ends h.lives.continues h.ended))

  completed : (s : State) → IsGood sc s → (b : Block) (s1 : State) → Entered s b s1 → (o : Outcome Completion)
      → After inner s1 (CompletionIs (function_count sc) base.result) o
      → After sc s (CompletionIs (function_count sc) base.result)
      (on o (λ completion. change (leave_block b) >> done completion))
  completed s good b s1 up (Gives f s2) h = (
    left_by s good b s1 s2 up h.0,
    completion_on _ base.result f s2.objects (without_homes b.homes s2.objects)
        (continues_without b.homes s2.objects) h.1,
  )
  completed s good b s1 up (Ended e s2) h = stops_then s.objects s1.objects s2 up.lives h
  completed s good b s1 up (Paused s2) h = stops_then s.objects s1.objects s2 up.lives h

  entered_by : (s : State) → IsGood sc s → (o : Outcome Block) → Enters s o → (body : Run Completion)
      → Sure inner Any body (CompletionIs (function_count sc) base.result)
      → After sc s (CompletionIs (function_count sc) base.result)
      (on o (λ b. body >>= (λ completion. change (leave_block b) >> done completion)))
  entered_by s good (Gives b s1) up body h = completed s good b s1 up (body s1) (h.by s1 up.good tt)
  entered_by s good (Ended e s1) up body h = up
  entered_by s good (Paused s1) up body h = absurd up

  -- a block without objects

  pub good_inside : (s : State) → has_objects own ≡ false → IsGood sc s → IsGood inner s
  good_inside s none good = record {
    kept = good.kept;
    low = good.low;
    statics = good.statics;
    homes = λ x kind e. good.homes x kind (names_same numbers 0 all vars none x kind e);
    plain = good.plain;
    typed = opened_typed (function_count sc) s.plain good.typed;
    separate = good.separate;
  }

  leaves_outside : (s s' : State) → IsGood sc s → Leaves inner s s' → Leaves sc s s'
  leaves_outside s s' good h = record {
    good = record {
      kept = h.good.kept;
      low = h.good.low;
      statics = h.good.statics;
      homes = homes_lived s s' good
          h.lives h.frame;
      plain = h.good.plain;
      typed = record { there = h.good.typed.there; value = h.good.typed.value; named = good.typed.named };
      separate = h.good.separate;
    };
    lives = h.lives;
    frame = h.frame;
    ended = h.ended;
  }

  after_outside : (s : State) → IsGood sc s → (o : Outcome Completion)
      → After inner s (CompletionIs (function_count sc) base.result) o
      → After sc s (CompletionIs (function_count sc) base.result) o
  after_outside s good (Gives f s') h = (leaves_outside s s' good h.0, h.1)
  after_outside s good (Ended e s') h = h
  after_outside s good (Paused s') h = h

  scoped_by : (g : Setting) → g.sizes ≡ sizes → AreMapped sizes → (line : ℕ) (body : Run Completion)
      → Sure inner Any body (CompletionIs (function_count sc) base.result) → (b : Bool) → has_objects own ≡ b
      → Sure sc Any (choose b
      (enter_block g own line >>= (λ b. body >>= (λ completion. change (leave_block b) >> done completion))) body)
      (CompletionIs (function_count sc) base.result)
  scoped_by g same mapped line body h true e = record
      { by = λ s good p. entered_by s good (enter_block g own line s) (enters g same mapped line s good) body h }
  scoped_by g same mapped line body h false e = record
      { by = λ s good p. after_outside s good (body s) (h.by s (good_inside s e good) tt) }

  pub scoped_sure : (g : Setting) → g.sizes ≡ sizes → AreMapped sizes → (line : ℕ) (body : Run Completion)
      → Sure inner Any body (CompletionIs (function_count sc) base.result)
      → Sure sc Any (scoped g own line body) (CompletionIs (function_count sc) base.result)
  scoped_sure g same mapped line body h = scoped_by g same mapped line body h (has_objects own) refl
