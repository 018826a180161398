-- Proofs of the goals of `order_parts`.
use Rattle.std.proofs.Common.{◌≡◌, List, sym, ap, subst, ◌∙◌}
use Rattle.seuss_program.specs.declared.tree.Ref.{Ref}
use Rattle.seuss_program.specs.declared.tree.Cat.{Cat}
use Rattle.seuss_program.specs.declared.tree.Tree.{Tree}
use Rattle.seuss_program.specs.declared.program.Program.{Program}
use Rattle.box_types.specs.Namings.{named}
use Rattle.call_order.specs.Calls.{in_cats, in_bodies, in_pres, is_partial, is_total, partial_calls}
use Rattle.call_order.specs.Calls.{total_calls}
use Rattle.call_order.specs.Cycles.{GivesBoxes}
use Rattle.call_order.proofs.OrderLemmas.{partial_same, total_same, gives_boxes, begins_by, none_by}
use Rattle.call_order.proofs.OrderLemmas.{orders_by}
use Rattle.call_order.proofs.ordering.order_parts.Goals as goal

-- what is found on the program is what the text has
on_partial : (tree : Tree) (p : Program) (cats : List (Cat Ref)) → cats ≡ p.cats → p ≡ named tree →
    in_cats cats in_bodies is_partial tree.cats ≡ partial_calls tree
on_partial tree p cats h is = ap (λ (cs : List (Cat Ref)). in_cats cs in_bodies is_partial tree.cats)
    (h ∙ ap (λ (x : Program). x.cats) is) ∙ partial_same tree

on_total : (tree : Tree) (p : Program) (cats : List (Cat Ref)) → cats ≡ p.cats → p ≡ named tree →
    in_cats cats in_pres is_total tree.cats ≡ total_calls tree
on_total tree p cats h is = ap (λ (cs : List (Cat Ref)). in_cats cs in_pres is_total tree.cats)
    (h ∙ ap (λ (x : Program). x.cats) is) ∙ total_same tree

pub set_levels-requires-clause-there : goal.set_levels-requires-clause-there
set_levels-requires-clause-there c = subst (λ (p : Program). GivesBoxes p.boxes) (sym c.requires.named)
    (gives_boxes c.args.tree.now)

pub returns-in-Some : goal.returns-in-Some
returns-in-Some c = begins_by (partial_calls c.args.tree.now) _ c.in-Some.line _
    (on_partial c.args.tree.now c.args.program _ c.as_slice.ensures c.requires.named)
    c.first_partial_call.ensures c.in-Some.is

pub returns-in-Some-first_total_call : goal.returns-in-Some-first_total_call
returns-in-Some-first_total_call c = (
  none_by (partial_calls c.args.tree.now) _ _
      (on_partial c.args.tree.now c.args.program _ c.as_slice.ensures c.requires.named)
      c.first_partial_call.ensures c.in-None.is,
  begins_by (total_calls c.args.tree.now) _ c.in-Some-first_total_call.line _
      (on_total c.args.tree.now c.args.program _ c.as_slice-in-None.ensures c.requires.named)
      c.first_total_call.ensures c.in-Some-first_total_call.is,
)

pub returns-in-None-first_total_call : goal.returns-in-None-first_total_call
returns-in-None-first_total_call c = orders_by c.set_levels.result c.args.program c.args.tree.now
    c.requires.named
    (none_by (partial_calls c.args.tree.now) _ _
    (on_partial c.args.tree.now c.args.program _ c.as_slice.ensures c.requires.named)
    c.first_partial_call.ensures c.in-None.is)
    (none_by (total_calls c.args.tree.now) _ _
    (on_total c.args.tree.now c.args.program _ c.as_slice-in-None.ensures c.requires.named)
    c.first_total_call.ensures c.in-None-first_total_call.is)
    c.set_levels.ensures
