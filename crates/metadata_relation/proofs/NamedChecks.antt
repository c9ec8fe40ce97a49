-- The checks of pointers whose keys begin with the names of objects.
use Rattle.std.proofs.Common.{◌≡◌, inl, ℕ, ◌+◌, ◌-◌, ◌%◌, ◌^◌, ◌<◌, ◌≤◌, true, List, [], ◌∷◌, ◌++◌}
use Rattle.std.proofs.Common.{length, get_or, Option, Some, None, refl, sym, ap, ap₂, ◌∙◌, subst, arith}
use Rattle.std.specs.Prelude.{slice_get, ◌==◌, if◌then◌else◌}
use Rattle.std.proofs.lemmas.Bool.{eq-eqb, eqb-true, false≢true, lt-ltb}
use Rattle.std.proofs.lemmas.Option.{slice_get_within}
use Rattle.std.proofs.Math.Nat.{min-le_left}
use Rattle.sb_base.specs.declared.ending.Ending.TheVariants.{Spatial as SpatialAt, Temporal as TemporalAt}
use Rattle.obj_memory.specs.declared.value.Tag.{Tag}
use Rattle.obj_memory.specs.declared.value.Tag.TheVariants.{Untagged, OfFunction, OfObject}
use Rattle.obj_memory.specs.declared.value.Value.{Value}
use Rattle.obj_memory.specs.Judgement.{are_within, narrowed_tag}
use Rattle.obj_memory.specs.Objects.{ObjectState, Objects, object_at, pointer_to}
use Rattle.c_tree.specs.Valid.{at_number}
use Rattle.c_tree.specs.Kinds.{size_of_kind}
use Rattle.source_meaning.specs.State.{State, Home, NoObject, InObject}
use Rattle.source_meaning.specs.Actions.{home_value}
use Rattle.source_meaning.specs.Blocks.{pass_or_stop}
use Rattle.source_meaning.specs.Judging.{is_within, is_live_tag}
use Rattle.source_meaning.proofs.ValidNames.{both}
use Rattle.tac_ir.specs.declared.instruction.Test.{Test}
use Rattle.tac_ir.specs.declared.instruction.Test.TheVariants.{Spatial, Temporal}
use Rattle.tac_ir.specs.declared.instruction.Instruction.TheVariants as tac
use Rattle.tac_ir.specs.declared.key.Base.{Base}
use Rattle.tac_ir.specs.declared.key.Base.TheVariants.{Plain, Automatic, Static}
use Rattle.tac_ir.specs.declared.key.Member.{Member}
use Rattle.tac_ir.specs.declared.key.Key.{Key}
use Rattle.tac_ir.specs.declared.function.StaticData.{StaticData}
use Rattle.tac_ir.specs.Costs.{spent}
use Rattle.tac_ir.specs.Fitting.{is_whole, is_home_of, is_static_of, is_base_there}
use Rattle.tac_ir.specs.Keys.{base_value, scaled_value, path_tag, key_tag, key_word, same_tag, gives}
use Rattle.tac_ir.proofs.KeyWork.{base_work}
use Rattle.tac_ir.proofs.SameTags.{same_bounds, same_life}
use Rattle.tac_ir.specs.Meaning.{check}
use Rattle.tac_ir.specs.Stage.{Temps, Frame, Stage, Stands, came}
use Rattle.rv_isa.specs.declared.instruction.RegOp.TheVariants.{Add}
use Rattle.rv_isa.specs.Results.{reg_result}
use Rattle.flat_code.specs.declared.instruction.RightOperand.TheVariants.{Number}
use Rattle.flat_code.specs.declared.instruction.FlatInstruction.{FlatInstruction}
use Rattle.flat_code.specs.declared.instruction.FlatInstruction.TheVariants.{Operate}
use Rattle.flat_code.specs.Memory.{Bytes, put}
use Rattle.flat_code.specs.State as flat
use Rattle.flat_code.specs.Calls.{function_in}
use Rattle.flat_code.specs.Meaning.{body_of}
use Rattle.flat_code.specs.Words.{IsOfWords}
use Rattle.flat_code.proofs.Stored.{put_same, put_other}
use Rattle.flat_code.specs.Routines.Routine.{HasAt}
use Rattle.flat_code.proofs.Routines.Regions.{laid_out}
use Rattle.metadata_plan.specs.Registers.{all_variables, most_temporaries}
use Rattle.metadata_plan.specs.Entries.{is_name, has_fixed_path, can_compare}
use Rattle.metadata_plan.specs.Expanded.{Leads}
use Rattle.metadata_plan.proofs.Flat.{leads_comes, operate_comes}
use Rattle.metadata_relation.specs.Registers.{temporary_register, first_free, home_register}
use Rattle.metadata_relation.specs.Blocks.{is_short, Range, path_range, static_object}
use Rattle.metadata_relation.specs.Blocks.{named_size, named_address, range_code, compare_code, judge_code}
use Rattle.metadata_relation.specs.Blocks.{check_code}
use Rattle.metadata_relation.specs.Holding.{IsHome}
use Rattle.metadata_relation.specs.Stages.{Compiled, map_of, expansion_of, world, IsAt}
use Rattle.metadata_relation.specs.Steps.{IsCompiled}
use Rattle.metadata_relation.proofs.Comparing.{short_code, short_operand, range_front, HasAddress, ranged}
use Rattle.metadata_relation.proofs.Pointers.{home_word}
use Rattle.metadata_relation.proofs.Ranges.{behind, fixed_path}
use Rattle.metadata_relation.proofs.Simple.{position, computed, taken, goes_on}
use Rattle.metadata_relation.proofs.Statics.{static_here}
use Rattle.metadata_relation.proofs.Standing.{IsNode, node, Result}

-- ---- what is named

-- the object of a tag, and whether it is of one
abbrev pub IsOf : (object : ℕ) → Tag → Type 0
IsOf o Untagged = ⊥
IsOf o (OfFunction f) = ⊥
IsOf o (OfObject m b) = o ≡ m

live_of : (o : ℕ) (t : Tag) (objects : Objects) → IsOf o t → (object_at objects o).is_live ≡ true
    → is_live_tag t objects ≡ true
live_of o Untagged objects e live = absurd e
live_of o (OfFunction f) objects e live = absurd e
live_of o (OfObject m b) objects e live = ap (λ z. (object_at objects z).is_live) (sym e) ∙ live

own_tag : (o : ℕ) (objects : Objects) → IsOf o (pointer_to o objects).tag
unfolding pointer_to
own_tag o objects = refl

-- a path keeps the object
path_of : (o : ℕ) (b : Value) → IsOf o b.tag → (ms : List Member) (s : State) → IsOf o (path_tag b ms s)
path_of o b e [] s = e
path_of o b e (m ∷ ms) s = by (path_tag b ms s) (path_of o b e ms s)
  where
    by : (t : Tag) → IsOf o t → IsOf o (narrowed_tag ((b.word + (m.constant + scaled_value m.scaled s)) % 2 ^ 64) m.size t)
    by Untagged e = e
    by (OfFunction f) e = e
    by (OfObject q c) e = e

-- a range of a path ends where the object does, or before
path_ends : (size : ℕ) (ms : List Member) → (path_range size ms).end ≤ size
path_ends size [] = omega arith
path_ends size (m ∷ ms) =
    let inner = path_ends size ms in
    let least = min-le_left (path_range size ms).end (m.constant + m.size) in
    omega (arith, inner, least)

-- an object is whole
whole_is : (size : ℕ) (o : ObjectState) → is_whole size o ≡ true → (o.is_live ≡ true) × (o.size ≡ size)
whole_is size o e = (let two = both o.is_live (o.size == size) e in (two.0, eqb-true o.size size two.1))

sum_is : (x y : ℕ) → reg_result Add x y ≡ (x + y) % 2 ^ 64
unfolding reg_result
sum_is x y = refl

module _ (c : Compiled) (IsGood : Bytes → Type 0) (right : IsCompiled c IsGood) (u n : ℕ) (temps : Temps)
    (ws : List Frame) (s : State) (v : flat.State) (xs : List flat.Frame)
    (h : IsAt c IsGood u n temps ws s u (c.layout.address u n) v xs) (words : IsOfWords v) where
  abbrev pc : ℕ
  pc = c.layout.address u n

  abbrev free : ℕ
  free = first_free h.code

  abbrev body : List FlatInstruction
  body = body_of (function_in c.layout.program u)

  abbrev Gives : Stage → Type 0
  Gives a = Result c IsGood a (flat.Stands u (c.layout.address u n) v xs)

  abbrev Address : (list : List FlatInstruction) → (address : ℕ) → Type 0
  Address = HasAddress c IsGood right u n temps ws s v xs h words

  abbrev list_of : Base → (offset : ℕ) → List FlatInstruction
  list_of b offset = named_address c.layout.expansion.inline.operators (map_of c) (expansion_of c).code h.code b offset
      (first_free h.code)

  -- what is known of an object that a key begins with
  record IsNamed (b : Base) : Type 0 where
    pub object : ℕ
    pub live : (object_at s.objects object).is_live ≡ true
    pub value : base_value b s ≡ pointer_to object s.objects
    pub size : named_size (map_of c) (expansion_of c).code h.code b ≡ (object_at s.objects object).size
    pub addressed : (offset : ℕ) → (object_at s.objects object).address + offset < 2 ^ 31 - 2 ^ 11
        → HasAt (body_of (function_in c.layout.program u)) (c.layout.address u n) (list_of b offset)
        → Address (list_of b offset) ((object_at s.objects object).address + offset)

  -- the home of a variable has the address of its object
  automatic_address : (x o : ℕ) → IsHome (world c h.keys s v) o (home_register h.code x) v.values → (offset : ℕ)
      → (object_at s.objects o).address + offset < 2 ^ 31 - 2 ^ 11
      → HasAt (body_of (function_in c.layout.program u)) (c.layout.address u n) (list_of (Automatic x) offset)
      → Address (list_of (Automatic x) offset) ((object_at s.objects o).address + offset)
  unfolding pointer_to
  automatic_address x o home offset low has =
      let ops = c.layout.expansion.inline.operators in
      let from = home_register h.code x in
      let address = (object_at s.objects o).address in
      let short : is_short offset ≡ true = lt-ltb offset (2 ^ 31 - 2 ^ 11) (omega (arith, low)) in
      let list_is : list_of (Automatic x) offset ≡ Operate Add free from (Number offset) ∷ [] =
      ap₂ (λ y z. y ++ (Operate Add free from z ∷ [])) (short_code ops offset free (free + 1) short)
      (short_operand offset free short) in
      let one = operate_comes (map_of c) c.layout.program u pc v xs Add free from (Number offset)
      (subst (HasAt body pc) list_is has).0 in
      let made : flat.Values = put v.values free (reg_result Add (v.values from) (offset % 2 ^ 64)) in
      let word : v.values from ≡ address = home_word (world c h.keys s v) o from v.values home in
      let sum = sum_is (v.values from) (offset % 2 ^ 64) in
      subst (λ z. Address z (address + offset)) (sym list_is) (record {
        values = made;
        comes = record { steps = one.steps; work = one.work; few = omega (arith, one.few); comes = one.comes };
        gives = put_same v.values free _ ∙ sum ∙ omega (arith, word, low);
        others = λ y lt. put_other v.values free _ y (λ e. omega (arith, lt, e));
      })

  automatic_named : (x : ℕ) → is_home_of (size_of_kind (at_number (all_variables h.code) x).kind)
      (get_or s.frame x NoObject) s.objects ≡ true → IsNamed (Automatic x)
  automatic_named x e = by (get_or s.frame x NoObject) refl e
    where
      by : (o : Home) → get_or s.frame x NoObject ≡ o
          → is_home_of (size_of_kind (at_number (all_variables h.code) x).kind) o s.objects ≡ true
          → IsNamed (Automatic x)
      by NoObject is e = absurd (false≢true e)
      by (InObject o) is e =
          let whole = whole_is (size_of_kind (at_number (all_variables h.code) x).kind) (object_at s.objects o) e in
          record {
            object = o;
            live = whole.0;
            value = ap (λ z. home_value z s.objects) is;
            size = sym whole.1;
            addressed = automatic_address x o (h.holds.homes.homes x o is);
          }

  static_named : (q : ℕ) → is_static_of (slice_get (expansion_of c).code.statics q) (object_at s.objects q) ≡ true
      → IsNamed (Static q)
  static_named q e = by (slice_get (expansion_of c).code.statics q) refl e
    where
      by : (o : Option StaticData) → slice_get (expansion_of c).code.statics q ≡ o
          → is_static_of o (object_at s.objects q) ≡ true → IsNamed (Static q)
      by None is e = absurd (false≢true e)
      by (Some d) is e =
          let lt = slice_get_within (expansion_of c).code.statics q d is in
          let here = static_here c right.sizes s.objects h.steady.statics q lt in
          let place = sym here.address in
          record {
            object = q;
            live = (whole_is d.size (object_at s.objects q) e).0;
            value = refl;
            size = sym here.size;
            addressed = λ offset low has.
                (let whole = (static_object (map_of c) (expansion_of c).code q).address + offset in
                let same : whole ≡ (object_at s.objects q).address + offset = ap (λ z. z + offset) place in
                let made = right.inline.operators.constant (map_of c) c.layout.program
                (position c IsGood right u n temps ws s v xs h words) free whole (free + 1) (omega arith)
                (omega (arith, same, low)) (record { has = has; words = words }) in
                let k = computed c IsGood right u n temps ws s v xs h words
                (pc + length (list_of (Static q) offset)) free whole (free + 1) 5 made in
                record {
                  values = made.after;
                  comes = k;
                  gives = made.gives ∙ same;
                  others = λ y l. made.others y (omega (arith, l)) (λ e. omega (arith, l, e));
                });
          }

  named : (b : Base) → is_name b ≡ true → is_base_there (all_variables h.code) (expansion_of c).code.statics b s ≡ true
      → IsNamed b
  named (Plain x) e there = cc
  named (Automatic x) e there = automatic_named x there
  named (Static q) e there = static_named q there

  -- ---- the check

  module _ (of : Test) (size line q a next : ℕ) (key : Key)
      (at : slice_get h.code.code n ≡ Some (tac.Judge of size line (Some q) a next))
      (found : slice_get h.code.keys q ≡ Some key) (compares : can_compare of key ≡ true)
      (there : is_base_there (all_variables h.code) (expansion_of c).code.statics key.base s ≡ true)
      (given_by : gives key (spent 1 s) (temps a).value ≡ true) where
    k : IsNode c u n h.code (tac.Judge of size line (Some q) a next)
    k = node c IsGood right u n temps ws s v xs h (tac.Judge of size line (Some q) a next) at

    -- the block is that of the key
    abbrev code : List FlatInstruction
    code = compare_code c.layout.expansion.inline.operators (map_of c) (expansion_of c).code h.code of key size line
        (temporary_register h.code a) (first_free h.code)

    code_is : judge_code c.layout.expansion h.code of (slice_get h.code.keys q) size line (temporary_register h.code a)
        (first_free h.code) ≡ code
    code_is =
        ap (λ o. judge_code c.layout.expansion h.code of o size line (temporary_register h.code a) (first_free h.code)) found
        ∙ ap (λ b. if b then code
        else check_code c.layout.expansion.inline of size line (temporary_register h.code a) (first_free h.code)) compares

    has : HasAt (body_of (function_in c.layout.program u)) (c.layout.address u n) code
    has = subst (HasAt body pc) code_is k.put.has

    on : Leads (body_of (function_in c.layout.program u)) (c.layout.address u n + length code) (c.layout.address u next)
    on = subst (λ z. Leads body (pc + length z) (c.layout.address u next)) code_is k.put.leads

    same : same_tag (temps a).value.tag (key_tag key (spent 1 s)) ≡ true
    same = (both ((temps a).value.word % 2 ^ 64 == key_word key (spent 1 s))
        (same_tag (temps a).value.tag (key_tag key (spent 1 s))) given_by).1

    is_named : is_name key.base ≡ true
    is_named = named_by of compares
      where
        named_by : (of : Test) → can_compare of key ≡ true → is_name key.base ≡ true
        named_by Spatial e = (both (is_name key.base) (has_fixed_path key) e).0
        named_by Temporal e = e

    object : IsNamed key.base
    object = named key.base is_named there

    -- its life is not asked for
    lives : is_live_tag (temps a).value.tag s.objects ≡ true
    lives =
        let value : Value = base_value key.base (spent 1 s) in
        let of_base : IsOf object.object value.tag =
        subst (λ (z : Value). IsOf object.object z.tag) (sym (base_work key.base (s.work + 1) s ∙ object.value))
        (own_tag object.object s.objects) in
        same_life (temps a).value.tag (key_tag key (spent 1 s)) same s.objects
        ∙ live_of object.object (key_tag key (spent 1 s)) s.objects
        (path_of object.object value of_base key.path (spent 1 s)) object.live

    passes_life : compare_code c.layout.expansion.inline.operators (map_of c) (expansion_of c).code h.code of key size line
        (temporary_register h.code a) (first_free h.code) ≡ []
        → Gives (came (pass_or_stop (is_live_tag (temps a).value.tag s.objects) (TemporalAt line) (spent 1 s))
        (λ _ z. Stands u next temps ws z))
    passes_life none =
        let e : pc + length code ≡ pc = ap (λ z. pc + length z) none ∙ omega arith in
        subst (λ b. Gives (came (pass_or_stop b (TemporalAt line) (spent 1 s)) (λ _ z. Stands u next temps ws z)))
        (sym lives)
        (goes_on c IsGood right u n temps ws s v xs h words (tac.Judge of size line (Some q) a next) k next s.turns v.turns 2
        v.values refl (inl refl) (λ y lt. refl)
        (leads_comes (map_of c) c.layout.program u pc v xs (c.layout.address u next)
        (subst (λ z. Leads body z (c.layout.address u next)) e on))
        h.stands.turns (omega arith))

    -- the bounds lie behind the address of the object
    abbrev range : Range
    range = path_range (named_size (map_of c) (expansion_of c).code h.code key.base) key.path

    abbrev address : ℕ
    address = (object_at s.objects object.object).address

    placed : address + named_size (map_of c) (expansion_of c).code h.code key.base + 1 < 2 ^ 31 - 2 ^ 11
    placed =
        let last = (h.stands.for.objects.placed object.object object.live).last in
        let small = (laid_out (map_of c) right.mapped).small in
        let size = object.size in
        omega (arith, last, small, size)

    bounds_are : has_fixed_path key ≡ true → (w : ℕ)
        → is_within (temps a).value.tag w size ≡ are_within (behind address range) w size
    unfolding pointer_to
    bounds_are fixed w =
        let value : Value = base_value key.base (spent 1 s) in
        let value_is = base_work key.base (s.work + 1) s ∙ object.value in
        let whole = named_size (map_of c) (expansion_of c).code h.code key.base in
        let tag_is : value.tag ≡ OfObject object.object (record { base = address; bound = address + whole }) =
        ap (λ (z : Value). z.tag) value_is
        ∙ ap (λ z. OfObject object.object (record { base = address; bound = address + z })) (sym object.size) in
        same_bounds (temps a).value.tag (key_tag key (spent 1 s)) same w size
        ∙ ap (λ t. is_within t w size)
        (fixed_path object.object address whole value (omega (arith, placed)) (ap (λ (z : Value). z.word) value_is) tag_is
        key.path fixed (spent 1 s))

    passes_bounds : has_fixed_path key ≡ true
        → compare_code c.layout.expansion.inline.operators (map_of c) (expansion_of c).code h.code of key size line
        (temporary_register h.code a) (first_free h.code)
        ≡ range_code c.layout.expansion.inline.operators (list_of key.base range.start) range size line
        (temporary_register h.code a) (first_free h.code)
        → Gives (came (pass_or_stop (is_within (temps a).value.tag (temps a).value.word size) (SpatialAt line) (spent 1 s))
        (λ _ z. Stands u next temps ws z))
    passes_bounds fixed is =
        let i = tac.Judge of size line (Some q) a next in
        let low : a < most_temporaries h.code.code = k.temporaries_low in
        let ends = path_ends (named_size (map_of c) (expansion_of c).code h.code key.base) key.path in
        let word = taken c IsGood right u n temps ws s v xs h words i k a (eq-eqb a a refl) low in
        let has_range = subst (HasAt body pc) is has in
        subst (λ b. Gives (came (pass_or_stop b (SpatialAt line) (spent 1 s)) (λ _ z. Stands u next temps ws z)))
        (sym (ap (λ z. is_within (temps a).value.tag z size) word ∙ bounds_are fixed (v.values (temporary_register h.code a))))
        (ranged c IsGood right u n temps ws s v xs h words i k refl next (inl refl) (list_of key.base range.start) a address
        range size line has_range (subst (λ z. Leads body (pc + length z) (c.layout.address u next)) is on) low
        (λ fits. object.addressed range.start (omega (arith, placed, ends, fits))
        (range_front c.layout.expansion.inline.operators (list_of key.base range.start) range size line
        (temporary_register h.code a) (first_free h.code) fits body pc has_range))
        (omega (arith, placed, ends)))

  pub judge_named : (of : Test) (size line q a next : ℕ) (key : Key)
      → slice_get h.code.code n ≡ Some (tac.Judge of size line (Some q) a next) → slice_get h.code.keys q ≡ Some key
      → can_compare of key ≡ true
      → is_base_there (all_variables h.code) (expansion_of c).code.statics key.base s ≡ true
      → gives key (spent 1 s) (temps a).value ≡ true
      → Gives (came (check of size (temps a).value line (spent 1 s)) (λ _ z. Stands u next temps ws z))
  judge_named Temporal size line q a next key at found compares there given_by =
      passes_life Temporal size line q a next key at found compares there given_by refl
  judge_named Spatial size line q a next key at found compares there given_by =
      passes_bounds Spatial size line q a next key at found compares there given_by
      (both (is_name key.base) (has_fixed_path key) compares).1 refl
