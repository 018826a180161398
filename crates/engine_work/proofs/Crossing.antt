-- What may go to another thread.
use mathlib.Core.List.{[], ◌∷◌}
use mir.Syntax.{Sym}
use denote.RattleType.{RattleType}
use denote.Builtin.{u32}
use denote.Param.Send.{IsSend, IsSync, recorded_send, sendable, struct_send}
use denote.Struct.Declared.{shape}
use denote.Struct.Struct.{Struct}
use denote.Struct.Tuple.{TupleAt, type_at}

-- a number may be shared
pub number_sync : IsSync u32
number_sync = search sendable

-- six values that may go to another thread may go together, as what a closure has captured
pub six_send : (name : Sym) (A B C D E F : RattleType) → IsSend A → IsSend B → IsSend C → IsSend D →
    IsSend E → IsSend F → IsSend (TupleAt name (A ∷ B ∷ C ∷ D ∷ E ∷ F ∷ []))
six_send name A B C D E F a b c d e f =
    let t = type_at name (A ∷ B ∷ C ∷ D ∷ E ∷ F ∷ []) in
    recorded_send (Struct (shape t)) t.D t.to t.to_one
    (struct_send (shape t) (a, (b, (c, (d, (e, (f, tt)))))))
