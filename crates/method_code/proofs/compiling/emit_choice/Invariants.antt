use Rattle.std.proofs.Common.{◌≡◌, ◌≤◌, ◌++◌, ◌∷◌, length, drop, All}
use Rattle.std.specs.List.{flat_map}
use Rattle.method_code.specs.declared.method.Head.{Head}
use Rattle.method_code.specs.declared.instruction.Instruction.TheVariants as I
use Rattle.method_code.specs.Codes.{alternative_code, heads}
use Rattle.method_code.proofs.compiling.emit_choice.Given as goal

abbrev pub invariant-loop-alternative : goal.invariant-loop-alternative
invariant-loop-alternative l = record {
  heads : l.heads ++ heads (length l.code) (drop l.alternative-index l.alternatives)
      ≡ heads 1 l.alternatives;
  code : l.code ++ flat_map alternative_code (drop l.alternative-index l.alternatives) ≡ I.Reject
      ∷ flat_map alternative_code l.alternatives;
  starts : All (λ (h : Head). h.start ≤ 4000000000) l.heads;
}
