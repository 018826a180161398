use Rattle.std.proofs.Common.{rules}
use Rattle.seuss_text.specs.Bytes.{is_name_byte}
use Rattle.seuss_text.proofs.WordLemmas.{all_in_front}
use Rattle.seuss_text.proofs.words.is_letters.Goals as goal

-- letters, digits and `_` go on to the end
pub returns-then-is_ascii_alphabetic : goal.returns-then-is_ascii_alphabetic
returns-then-is_ascii_alphabetic c = let all = all_in_front is_name_byte c.in-Some.rest.now in search rules
