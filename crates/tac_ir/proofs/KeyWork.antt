-- What a key gives does not depend on the count of work.
use Rattle.std.proofs.Common.{◌≡◌, ℕ, ◌+◌, ◌%◌, ◌^◌, List, [], ◌∷◌, Option, Some, None, refl, ap, ◌∙◌}
use Rattle.std.specs.Prelude.{◌&&◌, ◌==◌}
use Rattle.obj_memory.specs.declared.value.Value.{Value}
use Rattle.obj_memory.specs.Judgement.{narrowed_tag}
use Rattle.source_meaning.specs.State.{State}
use Rattle.source_meaning.specs.Acting.{at_work}
use Rattle.tac_ir.specs.declared.key.Base.{Base}
use Rattle.tac_ir.specs.declared.key.Base.TheVariants.{Plain, Automatic, Static}
use Rattle.tac_ir.specs.declared.key.Scaled.{Scaled}
use Rattle.tac_ir.specs.declared.key.Member.{Member}
use Rattle.tac_ir.specs.declared.key.Key.{Key}
use Rattle.tac_ir.specs.Keys.{base_value, scaled_value, path_tag, key_word, key_tag, same_tag, gives}

pub base_work : (b : Base) (k : ℕ) (s : State) → base_value b (at_work k s) ≡ base_value b s
base_work (Plain x) k s = refl
base_work (Automatic x) k s = refl
base_work (Static n) k s = refl

pub scaled_work : (v : Option Scaled) (k : ℕ) (s : State) → scaled_value v (at_work k s) ≡ scaled_value v s
scaled_work None k s = refl
scaled_work (Some v) k s = refl

pub path_work : (b : Value) (path : List Member) (k : ℕ) (s : State) → path_tag b path (at_work k s) ≡ path_tag b path s
path_work b [] k s = refl
path_work b (m ∷ ms) k s =
    ap (λ n. narrowed_tag ((b.word + (m.constant + n)) % 2 ^ 64) m.size (path_tag b ms (at_work k s)))
    (scaled_work m.scaled k s)
    ∙ ap (λ t. narrowed_tag ((b.word + (m.constant + scaled_value m.scaled s)) % 2 ^ 64) m.size t) (path_work b ms k s)

pub word_work : (key : Key) (k : ℕ) (s : State) → key_word key (at_work k s) ≡ key_word key s
word_work key k s =
    ap (λ (b : Value). (b.word + (key.constant + scaled_value key.scaled (at_work k s))) % 2 ^ 64)
    (base_work key.base k s)
    ∙ ap (λ n. ((base_value key.base s).word + (key.constant + n)) % 2 ^ 64) (scaled_work key.scaled k s)

pub tag_work : (key : Key) (k : ℕ) (s : State) → key_tag key (at_work k s) ≡ key_tag key s
tag_work key k s = ap (λ (b : Value). path_tag b key.path (at_work k s)) (base_work key.base k s)
    ∙ path_work (base_value key.base s) key.path k s

pub gives_work : (key : Key) (k : ℕ) (s : State) (v : Value) → gives key (at_work k s) v ≡ gives key s v
gives_work key k s v =
    ap (λ n. v.word % 2 ^ 64 == n && same_tag v.tag (key_tag key (at_work k s))) (word_work key k s)
    ∙ ap (λ t. v.word % 2 ^ 64 == key_word key s && same_tag v.tag t) (tag_work key k s)
