use Rattle.seuss_parser.specs.Inputs.{words_of}
use Rattle.seuss_run.proofs.InputNumbers.{numbers_fit}
use Rattle.seuss_run.proofs.loading.text_input.Goals as goal

-- the numbers of the input have 64 bits
pub returns-in-Ok-clause-fit : goal.returns-in-Ok-clause-fit
returns-in-Ok-clause-fit c = numbers_fit (words_of c.args.text.now) c.in-Ok.numbers c.in-Ok.ensures.1
