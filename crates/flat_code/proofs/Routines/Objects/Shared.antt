-- Objects that were made with one key.
use Rattle.std.proofs.Common.{◌≡◌, ◌≢◌, ℕ, ◌+◌, ◌<◌, ◌≤◌, length, sym, arith}
use Rattle.obj_memory.specs.declared.object.Storage.TheVariants.{Static}
use Rattle.obj_memory.specs.Objects.{Objects, object_at}
use Rattle.flat_code.specs.Memory.{Bytes}
use Rattle.flat_code.specs.Routines.Objects.StandsFor.{Views, Keys, StandsFor}

pub one_key : (g : Views) (k : Keys) (objects : Objects) (m : Bytes) (n i j : ℕ) → StandsFor g k objects m → n ≤ i
    → i ≤ j → j < length objects → (object_at objects n).storage ≢ Static → (object_at objects i).storage ≢ Static
    → (object_at objects j).storage ≢ Static → (k.held n).key ≡ (k.held j).key
    → (k.held i ≡ k.held n) × (k.held j ≡ k.held n)
one_key g k objects m n i j st ni ij jl sn si sj e =
    let q = st.keyed in
    let an = ((q.each n (omega arith)).other sn).0 in
    let aj = ((q.each j jl).other sj).0 in
    let low = q.rising n i ni (omega arith) sn si in
    let high = q.rising i j ij jl si sj in (
      q.shared i n (omega arith) (omega arith) si sn (omega arith),
      q.shared j n jl (omega arith) sj sn (omega arith),
    )
