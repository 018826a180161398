-- The input of accepted bytes that ask for a run.
use Rattle.std.proofs.Common.{◌≡◌, ℕ, List, sym, subst}
use Rattle.std.specs.Prelude.{Ok, All, IsTrue}
use Rattle.seuss_parser.specs.Inputs.{words_of}
use Rattle.seuss_program.specs.Values.{fits}
use Rattle.seuss_run.specs.declared.words.Command.{Command}
use Rattle.seuss_run.specs.declared.words.Command.TheVariants as C
use Rattle.seuss_run.specs.Verdicts.{Loaded, Running, IsVerdict, is_loaded}
use Rattle.seuss_run.proofs.InputNumbers.{numbers_fit}

-- what is loaded has an input of numbers of 64 bits
loaded_fits : (bytes : List ℕ) (given : Loaded) → is_loaded bytes (Ok given) →
    All (λ z. IsTrue (fits z)) given.1
loaded_fits bytes given loaded =
    let parts = loaded.2.2 in
    let input = parts.2 in
    let same : given.1 ≡ input.0.1 = input.2.1 in
    subst (All (λ z. IsTrue (fits z))) (sym same)
    (numbers_fit (words_of parts.0.1) input.0.1 input.1.1.1)

-- a run has that input
running_fits : (bytes : List ℕ) (given loaded : Loaded) → is_loaded bytes (Ok loaded) →
    Running given ≡ Running loaded → All (λ z. IsTrue (fits z)) given.1
running_fits bytes given loaded read is =
    let same : given ≡ loaded = cc in
    subst (λ (g : Loaded). All (λ z. IsTrue (fits z)) g.1) (sym same) (loaded_fits bytes loaded read)

-- whatever the command
pub run_fits : (c : Command) (bytes : List ℕ) (given : Loaded) → IsVerdict c bytes (Ok (Running given)) →
    All (λ z. IsTrue (fits z)) given.1
unfolding IsVerdict
run_fits (C.Run rounds workers budget) bytes given verdict =
    running_fits bytes given verdict.0 verdict.1 verdict.2.0
run_fits (C.Sim rounds width turns budget) bytes given verdict =
    running_fits bytes given verdict.0 verdict.1 verdict.2.0
run_fits (C.Tight names) bytes given verdict = absurd (cc verdict.2.1)
run_fits command bytes given verdict = absurd (cc verdict.2)
