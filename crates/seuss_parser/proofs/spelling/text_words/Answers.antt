use Rattle.std.proofs.Common.{◌≡◌, ℕ, ◌+◌, ◌<◌, ◌≤◌, List, [], ◌∷◌, ◌++◌, length, take, drop, get_or, ap}
use Rattle.std.proofs.Common.{sym, ◌∙◌, arith, append_assoc}
use Rattle.std.proofs.lemmas.List.{take_more, map-append, take_all, drop_at, length-map, length-take-le}
use Rattle.seuss_text.specs.declared.token.Token.{Token}
use Rattle.seuss_text.specs.declared.token.TokenKind.TheVariants as K
use Rattle.seuss_parser.specs.Words.{word_of, words_of}
use Rattle.seuss_parser.specs.declared.word.Word.{Word}
use Rattle.seuss_parser.proofs.ListLemmas.{append-nothing}
use Rattle.seuss_parser.proofs.spelling.text_words.Goals as goal

-- one more token is one more word
words_of-more : (text : List ℕ) (tokens : List Token) (i : ℕ) (d : Token) (front words : List Word)
    (word : Word) → i < length tokens → words_of text (take i tokens) ≡ front ++ words →
    word ≡ word_of text (get_or tokens i d) →
    words_of text (take (i + 1) tokens) ≡ front ++ (words ++ word ∷ [])
words_of-more text tokens i d front words word h before here =
    rw (take_more tokens i d h, map-append, before, here)
    (append_assoc front words (word_of text (get_or tokens i d) ∷ []))

-- the words behind the first ones
words_of-behind : (text : List ℕ) (tokens : List Token) (from i : ℕ) (words : List Word) →
    from ≤ length tokens → length tokens ≤ i →
    words_of text (take i tokens) ≡ words_of text (take from tokens) ++ words →
    words ≡ drop from (words_of text tokens)
words_of-behind text tokens from i words within end are =
    let all : take i tokens ≡ tokens = take_all i tokens end in
    let long : length (words_of text (take from tokens)) ≡ from =
    length-map (take from tokens) (λ token. word_of text token) ∙ length-take-le from tokens within in
    sym (drop_at (words_of text (take from tokens)) words from long)
    ∙ ap (λ ws. drop from ws) (sym are ∙ ap (λ ts. words_of text ts) all)

some_token : Token
some_token = record { kind = K.Name; start = 0; stop = 0; line = 0 }

pub loop-at-init : goal.loop-at-init
loop-at-init c = record {
  so_far = rw c.new-words.ensures.items
      (sym (append-nothing (words_of c.args.text.now (take c.args.from c.args.tokens.now.list))));
  within = c.requires.from;
}

pub loop-at-preserved : goal.loop-at-preserved
loop-at-preserved c = record {
  so_far =
      let more = words_of-more c.args.text.now c.args.tokens.now.list c.loop-at.at some_token
      (words_of c.args.text.now (take c.args.from c.args.tokens.now.list))
      c.loop-at.words.items c.in_ok-token_word.field-0
      (omega arith) c.loop-at.invariant.so_far (c.in_ok-token_word.ensures some_token) in
      rw c.in_ok-push_back.ensures.items more;
  within = omega arith;
}

pub returns : goal.returns
returns c = words_of-behind c.args.text.now c.args.tokens.now.list c.args.from c.loop-at.at
    c.loop-at.words.items c.requires.from (omega arith) c.loop-at.invariant.so_far
