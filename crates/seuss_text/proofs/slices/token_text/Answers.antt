-- The token of this number lies within the text, and has its kind.
use Rattle.std.proofs.Common.{◌≡◌, get_or, ap, ◌∙◌}
use Rattle.std.proofs.lemmas.List.{get_or_default}
use Rattle.seuss_text.specs.Words.{kind_of}
use Rattle.seuss_text.specs.Rows.{token_text}
use Rattle.seuss_text.specs.declared.token.Token.{Token}
use Rattle.seuss_text.specs.declared.token.TokenKind.TheVariants.{Name}
use Rattle.seuss_text.proofs.RowLemmas.{token_within, token_kind}
use Rattle.seuss_text.proofs.slices.token_text.Goals as goal

pub slice_of-requires-clause-rising : goal.slice_of-requires-clause-rising
slice_of-requires-clause-rising c =
    rw c.as_slice.ensures
    (token_within c.args.text.now c.args.tokens.now.list c.requires.tokens c.args.at _ c.requires.at).0

pub slice_of-requires-clause-within : goal.slice_of-requires-clause-within
slice_of-requires-clause-within c =
    rw c.as_slice.ensures
    (token_within c.args.text.now c.args.tokens.now.list c.requires.tokens c.args.at _ c.requires.at).1

pub returns-clause-kind : goal.returns-clause-kind
returns-clause-kind c d =
    let e : Token = record { kind = Name; start = 0; stop = 0; line = 0 } in
    let same : get_or c.as_slice.result.now c.args.at e ≡ get_or c.args.tokens.now.list c.args.at d =
    ap (λ l. get_or l c.args.at e) c.as_slice.ensures ∙
    get_or_default c.args.tokens.now.list c.args.at e d c.requires.at in
    ap kind_of c.slice_of.ensures ∙ ap (λ t. kind_of (token_text c.args.text.now t)) same ∙
    token_kind c.args.text.now c.args.tokens.now.list c.requires.tokens c.args.at d c.requires.at
