-- A vector as a contract sees it: its items, and the room that is left.
use Rattle.std.specs.Prelude.{ℕ, ◌-◌, length, vec_len, vec_capacity}
use Rattle.smallvec.specs.SmallVec.{SmallVec}
use Rattle.me_terms.specs.Sequences.{SequenceValue}
use Rattle.std.specs.declared.vec.Vec.{Vec}
use Rattle.std.specs.declared.alloc.Global.{Global}

abbrev pub sequence_value : {T : Type 0} → Vec T Global → SequenceValue T
sequence_value v = record { items = v.items; spare = vec_capacity v - vec_len v }

abbrev pub small_sequence_value : SmallVec ℕ → SequenceValue ℕ
small_sequence_value v = record { items = v.items; spare = v.capacity - length v.items }
