use Rattle.std.proofs.Common.{refl, sym, ap, ◌∙◌}
use Rattle.method_code.specs.declared.frame.Frame.{Frame}
use Rattle.method_code.specs.Chains.{back_in}
use Rattle.method_code.proofs.StackLemmas.{accepted-pops}
use Rattle.method_code.proofs.activation.Activation.go_on.Goals as goal

pub returns : goal.returns
returns c = (
  accepted-pops c.args.self.now c.args.found c.pop.new.self c.in-Some.waiting c.in-Some.ensures
      ∙ ap (λ (f : Frame). back_in c.pop.new.self c.args.self.now.plain c.in-Some.waiting f)
      (sym c.in_ok-self.ensures),
  refl,
)
