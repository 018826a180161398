use Rattle.seuss_run.proofs.CheckLemmas.{kind_refused, type_refused, arguments_refused, count_refused}
use Rattle.seuss_run.proofs.loading.resolved_tree.Goals as goal

-- a name of another kind
pub returns-in-Err-WrongKind : goal.returns-in-Err-WrongKind
returns-in-Err-WrongKind c = let h = rw c.in-Err-WrongKind.field-0-is at c.in-Err-WrongKind.ensures in
    kind_refused c.args.tree c.in-Err-WrongKind.line h.0 h.1 h.2

-- an expression of another type
pub returns-in-Err-WrongType : goal.returns-in-Err-WrongType
returns-in-Err-WrongType c =
    let h = rw c.in-Err-WrongType.field-0-is at c.in-Err-WrongType.ensures in
    type_refused c.args.tree c.in-Err-WrongType.line h.0 h.1 h.2 h.3

-- another number of arguments
pub returns-in-Err-Arguments : goal.returns-in-Err-Arguments
returns-in-Err-Arguments c =
    let h = rw c.in-Err-Arguments.field-0-is at c.in-Err-Arguments.ensures in
    arguments_refused c.args.tree c.in-Err-Arguments.line h.0 h.1 h.2 h.3 h.4

-- an item that passes a limit
pub returns-in-Err-Count : goal.returns-in-Err-Count
returns-in-Err-Count c =
    let h = rw c.in-Err-Count.field-0-is at c.in-Err-Count.ensures in
    count_refused c.args.tree c.in-Err-Count.line h.0 h.1 h.2 h.3 h.4 h.5
