-- What is known of static objects whose initializers are constant.
use Rattle.std.specs.Prelude.{◌≡◌, ℕ, ◌<◌, List, [], ◌∷◌, true, Ok}
use Rattle.obj_memory.specs.Objects.{ObjectState, Objects}
use Rattle.c_tree.specs.Statements.{Content, value_content, literal_content, Part}
use Rattle.c_tree.specs.Programs.{StaticObject}
use Rattle.c_const.specs.Addresses.{Pointers}
use Rattle.c_const.specs.Contents.{Contents, initial_contents, are_inside}

abbrev pub AreBytes : List ℕ → Type 0
AreBytes [] = Unit {0}
AreBytes (b ∷ bs) = (b < 256) × AreBytes bs

-- the bytes of literals are bytes
abbrev pub HasBytes : Content → Type 0
HasBytes (value_content e) = Unit {0}
HasBytes (literal_content bytes) = AreBytes bytes

abbrev pub HaveBytes : List Part → Type 0
HaveBytes [] = Unit {0}
HaveBytes (q ∷ qs) = HasBytes q.content × HaveBytes qs

-- an object whose initializer is constant, lies in it, and leaves these contents
pub record IsConstant (ps : Pointers) (object : StaticObject) (contents : Contents) : Type 0 where
  pub leaves : initial_contents ps object ≡ Ok contents
  pub inside : are_inside object ≡ true
  pub bytes : HaveBytes object.parts

abbrev pub AreConstant : Pointers → List StaticObject → List Contents → Type 0
AreConstant ps [] [] = Unit {0}
AreConstant ps (o ∷ os) (c ∷ cs) = IsConstant ps o c × AreConstant ps os cs
AreConstant ps _ _ = ⊥

-- an object with these contents
abbrev pub filled : Contents → ObjectState → ObjectState
filled c o = record o { bytes = c.bytes; tags = c.tags }

-- all of them
abbrev pub filled_all : List Contents → Objects → Objects
filled_all [] os = []
filled_all (c ∷ cs) [] = []
filled_all (c ∷ cs) (o ∷ os) = filled c o ∷ filled_all cs os
