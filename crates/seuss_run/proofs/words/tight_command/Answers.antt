use Rattle.std.proofs.Common.{◌+◌, ◌∷◌, [], ◌++◌, ◌∙◌, ◌≡◌, map, ap, sym, drop, string_bytes}
use Rattle.seuss_run.specs.Commands.{action_in}
use Rattle.seuss_run.proofs.WordLists.{items_from, goes_on, one_more}
use Rattle.seuss_run.proofs.words.tight_command.Goals as goal

-- one action more
pub loop-word-preserved : goal.loop-word-preserved
loop-word-preserved c =
    let words = c.args.words.now in
    let i = c.loop-word.word-index in
    let rest = map string_bytes (drop (i + 1) words) in
    let names = c.in-Some.names in
    let read = rw (c.in-Some.is, c.as_str.ensures.value) at c.in_ok-names.ensures in
    let here = items_from string_bytes words i c.word-item.result c.loop-word-test.true c.word-item.is in
    let pushed : c.push.new.self ≡ c.loop-word.actions ++ names ∷ [] = c.in_ok-push-in-Some.ensures.ok in
    c.loop-word.invariant
    ∙ (ap (goes_on action_in c.loop-word.actions) here
    ∙ (one_more action_in c.loop-word.actions (string_bytes c.word-item.result) rest names (sym read)
    ∙ ap (λ made. goes_on action_in made rest) (sym pushed)))
