-- A text for each word that a phrase may be finished with.
use Rattle.std.specs.Prelude.{codes, pos, refl}
use Rattle.seuss_text.specs.Words.{signs, keywords}
use Rattle.seuss_text.specs.Limits.{decimal_value}
use Rattle.seuss_text.specs.declared.token.TokenKind.TheVariants as K
use Rattle.seuss_parser.specs.Symbols.{symbol_text, keyword_of, sign_of}
use Rattle.seuss_parser.specs.Words.{as_symbol, as_name, as_numeral, as_version, as_one_of}
use Rattle.seuss_parser.specs.Trees.{disjunction, conjunction, comparison, addition, multiplication}
use Rattle.seuss_parser.specs.Trees.{function, pair_function, truth, small_kind, arrow, side}
use Rattle.seuss_parser.specs.Spelling.{IsWord}
use Rattle.seuss_parser.specs.declared.symbol.Symbol.{Symbol}
use Rattle.seuss_parser.specs.declared.symbol.Symbol.TheVariants as S
use Rattle.seuss_parser.specs.declared.word.Sort.TheVariants.{Fixed, Name as Named, Number}
use Rattle.seuss_parser.specs.declared.word.Word.{Word}
use Rattle.seuss_parser.proofs.WordReads.{WordSample}

abbrev pub fixed : Symbol → Word
fixed symbol = record { line = 1; sort = Fixed symbol }

word-Seuss : IsWord (fixed S.Seuss)
unfolding keywords signs keyword_of sign_of
word-Seuss = record {
  bytes = symbol_text S.Seuss;
  kind = K.Keyword;
  is = record { is_token = refl; is_sort = refl };
}

word-Cat : IsWord (fixed S.Cat)
unfolding keywords signs keyword_of sign_of
word-Cat = record {
  bytes = symbol_text S.Cat;
  kind = K.Keyword;
  is = record { is_token = refl; is_sort = refl };
}

word-Box : IsWord (fixed S.Box)
unfolding keywords signs keyword_of sign_of
word-Box = record {
  bytes = symbol_text S.Box;
  kind = K.Keyword;
  is = record { is_token = refl; is_sort = refl };
}

word-Var : IsWord (fixed S.Var)
unfolding keywords signs keyword_of sign_of
word-Var = record {
  bytes = symbol_text S.Var;
  kind = K.Keyword;
  is = record { is_token = refl; is_sort = refl };
}

word-Total : IsWord (fixed S.Total)
unfolding keywords signs keyword_of sign_of
word-Total = record {
  bytes = symbol_text S.Total;
  kind = K.Keyword;
  is = record { is_token = refl; is_sort = refl };
}

word-Partial : IsWord (fixed S.Partial)
unfolding keywords signs keyword_of sign_of
word-Partial = record {
  bytes = symbol_text S.Partial;
  kind = K.Keyword;
  is = record { is_token = refl; is_sort = refl };
}

word-Action : IsWord (fixed S.Action)
unfolding keywords signs keyword_of sign_of
word-Action = record {
  bytes = symbol_text S.Action;
  kind = K.Keyword;
  is = record { is_token = refl; is_sort = refl };
}

word-Is : IsWord (fixed S.Is)
unfolding keywords signs keyword_of sign_of
word-Is = record {
  bytes = symbol_text S.Is;
  kind = K.Keyword;
  is = record { is_token = refl; is_sort = refl };
}

word-When : IsWord (fixed S.When)
unfolding keywords signs keyword_of sign_of
word-When = record {
  bytes = symbol_text S.When;
  kind = K.Keyword;
  is = record { is_token = refl; is_sort = refl };
}

word-Let : IsWord (fixed S.Let)
unfolding keywords signs keyword_of sign_of
word-Let = record {
  bytes = symbol_text S.Let;
  kind = K.Keyword;
  is = record { is_token = refl; is_sort = refl };
}

word-If : IsWord (fixed S.If)
unfolding keywords signs keyword_of sign_of
word-If = record {
  bytes = symbol_text S.If;
  kind = K.Keyword;
  is = record { is_token = refl; is_sort = refl };
}

word-Then : IsWord (fixed S.Then)
unfolding keywords signs keyword_of sign_of
word-Then = record {
  bytes = symbol_text S.Then;
  kind = K.Keyword;
  is = record { is_token = refl; is_sort = refl };
}

word-Else : IsWord (fixed S.Else)
unfolding keywords signs keyword_of sign_of
word-Else = record {
  bytes = symbol_text S.Else;
  kind = K.Keyword;
  is = record { is_token = refl; is_sort = refl };
}

word-While : IsWord (fixed S.While)
unfolding keywords signs keyword_of sign_of
word-While = record {
  bytes = symbol_text S.While;
  kind = K.Keyword;
  is = record { is_token = refl; is_sort = refl };
}

word-Do : IsWord (fixed S.Do)
unfolding keywords signs keyword_of sign_of
word-Do = record {
  bytes = symbol_text S.Do;
  kind = K.Keyword;
  is = record { is_token = refl; is_sort = refl };
}

word-End : IsWord (fixed S.End)
unfolding keywords signs keyword_of sign_of
word-End = record {
  bytes = symbol_text S.End;
  kind = K.Keyword;
  is = record { is_token = refl; is_sort = refl };
}

word-Semi : IsWord (fixed S.Semi)
unfolding keywords signs keyword_of sign_of
word-Semi = record {
  bytes = symbol_text S.Semi;
  kind = K.Keyword;
  is = record { is_token = refl; is_sort = refl };
}

word-Int : IsWord (fixed S.Int)
unfolding keywords signs keyword_of sign_of
word-Int = record {
  bytes = symbol_text S.Int;
  kind = K.Keyword;
  is = record { is_token = refl; is_sort = refl };
}

word-Bool : IsWord (fixed S.Bool)
unfolding keywords signs keyword_of sign_of
word-Bool = record {
  bytes = symbol_text S.Bool;
  kind = K.Keyword;
  is = record { is_token = refl; is_sort = refl };
}

word-Seq : IsWord (fixed S.Seq)
unfolding keywords signs keyword_of sign_of
word-Seq = record {
  bytes = symbol_text S.Seq;
  kind = K.Keyword;
  is = record { is_token = refl; is_sort = refl };
}

word-True : IsWord (fixed S.True)
unfolding keywords signs keyword_of sign_of
word-True = record {
  bytes = symbol_text S.True;
  kind = K.Keyword;
  is = record { is_token = refl; is_sort = refl };
}

word-And : IsWord (fixed S.And)
unfolding keywords signs keyword_of sign_of
word-And = record {
  bytes = symbol_text S.And;
  kind = K.Keyword;
  is = record { is_token = refl; is_sort = refl };
}

word-Or : IsWord (fixed S.Or)
unfolding keywords signs keyword_of sign_of
word-Or = record {
  bytes = symbol_text S.Or;
  kind = K.Keyword;
  is = record { is_token = refl; is_sort = refl };
}

word-Not : IsWord (fixed S.Not)
unfolding keywords signs keyword_of sign_of
word-Not = record {
  bytes = symbol_text S.Not;
  kind = K.Keyword;
  is = record { is_token = refl; is_sort = refl };
}

word-First : IsWord (fixed S.First)
unfolding keywords signs keyword_of sign_of
word-First = record {
  bytes = symbol_text S.First;
  kind = K.Keyword;
  is = record { is_token = refl; is_sort = refl };
}

word-Front : IsWord (fixed S.Front)
unfolding keywords signs keyword_of sign_of
word-Front = record {
  bytes = symbol_text S.Front;
  kind = K.Keyword;
  is = record { is_token = refl; is_sort = refl };
}

word-At : IsWord (fixed S.At)
unfolding keywords signs keyword_of sign_of
word-At = record {
  bytes = symbol_text S.At;
  kind = K.Keyword;
  is = record { is_token = refl; is_sort = refl };
}

word-Assign : IsWord (fixed S.Assign)
unfolding keywords signs keyword_of sign_of
word-Assign = record {
  bytes = symbol_text S.Assign;
  kind = K.Sign;
  is = record { is_token = refl; is_sort = refl };
}

word-Arrow : IsWord (fixed S.Arrow)
unfolding keywords signs keyword_of sign_of
word-Arrow = record {
  bytes = symbol_text S.Arrow;
  kind = K.Sign;
  is = record { is_token = refl; is_sort = refl };
}

word-Colon : IsWord (fixed S.Colon)
unfolding keywords signs keyword_of sign_of
word-Colon = record {
  bytes = symbol_text S.Colon;
  kind = K.Sign;
  is = record { is_token = refl; is_sort = refl };
}

word-Semicolon : IsWord (fixed S.Semicolon)
unfolding keywords signs keyword_of sign_of
word-Semicolon = record {
  bytes = symbol_text S.Semicolon;
  kind = K.Sign;
  is = record { is_token = refl; is_sort = refl };
}

word-Comma : IsWord (fixed S.Comma)
unfolding keywords signs keyword_of sign_of
word-Comma = record {
  bytes = symbol_text S.Comma;
  kind = K.Sign;
  is = record { is_token = refl; is_sort = refl };
}

word-Dot : IsWord (fixed S.Dot)
unfolding keywords signs keyword_of sign_of
word-Dot = record {
  bytes = symbol_text S.Dot;
  kind = K.Sign;
  is = record { is_token = refl; is_sort = refl };
}

word-Open : IsWord (fixed S.Open)
unfolding keywords signs keyword_of sign_of
word-Open = record {
  bytes = symbol_text S.Open;
  kind = K.Sign;
  is = record { is_token = refl; is_sort = refl };
}

word-Close : IsWord (fixed S.Close)
unfolding keywords signs keyword_of sign_of
word-Close = record {
  bytes = symbol_text S.Close;
  kind = K.Sign;
  is = record { is_token = refl; is_sort = refl };
}

word-OpenSquare : IsWord (fixed S.OpenSquare)
unfolding keywords signs keyword_of sign_of
word-OpenSquare = record {
  bytes = symbol_text S.OpenSquare;
  kind = K.Sign;
  is = record { is_token = refl; is_sort = refl };
}

word-CloseSquare : IsWord (fixed S.CloseSquare)
unfolding keywords signs keyword_of sign_of
word-CloseSquare = record {
  bytes = symbol_text S.CloseSquare;
  kind = K.Sign;
  is = record { is_token = refl; is_sort = refl };
}

word-Equal : IsWord (fixed S.Equal)
unfolding keywords signs keyword_of sign_of
word-Equal = record {
  bytes = symbol_text S.Equal;
  kind = K.Sign;
  is = record { is_token = refl; is_sort = refl };
}

word-Plus : IsWord (fixed S.Plus)
unfolding keywords signs keyword_of sign_of
word-Plus = record {
  bytes = symbol_text S.Plus;
  kind = K.Sign;
  is = record { is_token = refl; is_sort = refl };
}

word-Minus : IsWord (fixed S.Minus)
unfolding keywords signs keyword_of sign_of
word-Minus = record {
  bytes = symbol_text S.Minus;
  kind = K.Sign;
  is = record { is_token = refl; is_sort = refl };
}

word-Times : IsWord (fixed S.Times)
unfolding keywords signs keyword_of sign_of
word-Times = record {
  bytes = symbol_text S.Times;
  kind = K.Sign;
  is = record { is_token = refl; is_sort = refl };
}

pub sample-Seuss : WordSample (as_symbol S.Seuss)
sample-Seuss = record { word = fixed S.Seuss; value = 1; is_word = word-Seuss; read = refl }

pub sample-Cat : WordSample (as_symbol S.Cat)
sample-Cat = record { word = fixed S.Cat; value = 1; is_word = word-Cat; read = refl }

pub sample-Box : WordSample (as_symbol S.Box)
sample-Box = record { word = fixed S.Box; value = 1; is_word = word-Box; read = refl }

pub sample-Var : WordSample (as_symbol S.Var)
sample-Var = record { word = fixed S.Var; value = 1; is_word = word-Var; read = refl }

pub sample-Total : WordSample (as_symbol S.Total)
sample-Total = record { word = fixed S.Total; value = 1; is_word = word-Total; read = refl }

pub sample-Partial : WordSample (as_symbol S.Partial)
sample-Partial = record { word = fixed S.Partial; value = 1; is_word = word-Partial; read = refl }

pub sample-Action : WordSample (as_symbol S.Action)
sample-Action = record { word = fixed S.Action; value = 1; is_word = word-Action; read = refl }

pub sample-Is : WordSample (as_symbol S.Is)
sample-Is = record { word = fixed S.Is; value = 1; is_word = word-Is; read = refl }

pub sample-When : WordSample (as_symbol S.When)
sample-When = record { word = fixed S.When; value = 1; is_word = word-When; read = refl }

pub sample-Let : WordSample (as_symbol S.Let)
sample-Let = record { word = fixed S.Let; value = 1; is_word = word-Let; read = refl }

pub sample-If : WordSample (as_symbol S.If)
sample-If = record { word = fixed S.If; value = 1; is_word = word-If; read = refl }

pub sample-Then : WordSample (as_symbol S.Then)
sample-Then = record { word = fixed S.Then; value = 1; is_word = word-Then; read = refl }

pub sample-Else : WordSample (as_symbol S.Else)
sample-Else = record { word = fixed S.Else; value = 1; is_word = word-Else; read = refl }

pub sample-While : WordSample (as_symbol S.While)
sample-While = record { word = fixed S.While; value = 1; is_word = word-While; read = refl }

pub sample-Do : WordSample (as_symbol S.Do)
sample-Do = record { word = fixed S.Do; value = 1; is_word = word-Do; read = refl }

pub sample-End : WordSample (as_symbol S.End)
sample-End = record { word = fixed S.End; value = 1; is_word = word-End; read = refl }

pub sample-Semi : WordSample (as_symbol S.Semi)
sample-Semi = record { word = fixed S.Semi; value = 1; is_word = word-Semi; read = refl }

pub sample-Int : WordSample (as_symbol S.Int)
sample-Int = record { word = fixed S.Int; value = 1; is_word = word-Int; read = refl }

pub sample-Bool : WordSample (as_symbol S.Bool)
sample-Bool = record { word = fixed S.Bool; value = 1; is_word = word-Bool; read = refl }

pub sample-Seq : WordSample (as_symbol S.Seq)
sample-Seq = record { word = fixed S.Seq; value = 1; is_word = word-Seq; read = refl }

pub sample-Not : WordSample (as_symbol S.Not)
sample-Not = record { word = fixed S.Not; value = 1; is_word = word-Not; read = refl }

pub sample-Assign : WordSample (as_symbol S.Assign)
sample-Assign = record { word = fixed S.Assign; value = 1; is_word = word-Assign; read = refl }

pub sample-Colon : WordSample (as_symbol S.Colon)
sample-Colon = record { word = fixed S.Colon; value = 1; is_word = word-Colon; read = refl }

pub sample-Semicolon : WordSample (as_symbol S.Semicolon)
sample-Semicolon = record { word = fixed S.Semicolon; value = 1; is_word = word-Semicolon; read = refl }

pub sample-Comma : WordSample (as_symbol S.Comma)
sample-Comma = record { word = fixed S.Comma; value = 1; is_word = word-Comma; read = refl }

pub sample-Dot : WordSample (as_symbol S.Dot)
sample-Dot = record { word = fixed S.Dot; value = 1; is_word = word-Dot; read = refl }

pub sample-Open : WordSample (as_symbol S.Open)
sample-Open = record { word = fixed S.Open; value = 1; is_word = word-Open; read = refl }

pub sample-Close : WordSample (as_symbol S.Close)
sample-Close = record { word = fixed S.Close; value = 1; is_word = word-Close; read = refl }

pub sample-OpenSquare : WordSample (as_symbol S.OpenSquare)
sample-OpenSquare = record { word = fixed S.OpenSquare; value = 1; is_word = word-OpenSquare; read = refl }

pub sample-CloseSquare : WordSample (as_symbol S.CloseSquare)
sample-CloseSquare = record
    { word = fixed S.CloseSquare; value = 1; is_word = word-CloseSquare; read = refl }

pub sample-Equal : WordSample (as_symbol S.Equal)
sample-Equal = record { word = fixed S.Equal; value = 1; is_word = word-Equal; read = refl }

pub sample-Minus : WordSample (as_symbol S.Minus)
sample-Minus = record { word = fixed S.Minus; value = 1; is_word = word-Minus; read = refl }

pub sample-disjunction : WordSample (as_one_of disjunction)
sample-disjunction = record { word = fixed S.Or; value = _; is_word = word-Or; read = refl }

pub sample-conjunction : WordSample (as_one_of conjunction)
sample-conjunction = record { word = fixed S.And; value = _; is_word = word-And; read = refl }

pub sample-comparison : WordSample (as_one_of comparison)
sample-comparison = record { word = fixed S.Equal; value = _; is_word = word-Equal; read = refl }

pub sample-addition : WordSample (as_one_of addition)
sample-addition = record { word = fixed S.Plus; value = _; is_word = word-Plus; read = refl }

pub sample-multiplication : WordSample (as_one_of multiplication)
sample-multiplication = record { word = fixed S.Times; value = _; is_word = word-Times; read = refl }

pub sample-function : WordSample (as_one_of function)
sample-function = record { word = fixed S.First; value = _; is_word = word-First; read = refl }

pub sample-pair_function : WordSample (as_one_of pair_function)
sample-pair_function = record { word = fixed S.At; value = _; is_word = word-At; read = refl }

pub sample-truth : WordSample (as_one_of truth)
sample-truth = record { word = fixed S.True; value = _; is_word = word-True; read = refl }

pub sample-small_kind : WordSample (as_one_of small_kind)
sample-small_kind = record { word = fixed S.Int; value = _; is_word = word-Int; read = refl }

pub sample-arrow : WordSample (as_one_of arrow)
sample-arrow = record { word = fixed S.Arrow; value = _; is_word = word-Arrow; read = refl }

pub sample-side : WordSample (as_one_of side)
sample-side = record { word = fixed S.Front; value = _; is_word = word-Front; read = refl }

pub sample-name : WordSample as_name
unfolding keywords signs
sample-name = record {
  word = record { line = 1; sort = Named (codes "a") };
  value = _;
  is_word = record { bytes = codes "a"; kind = K.Name; is = record { is_token = refl; is_sort = refl } };
  read = refl;
}

pub sample-numeral : WordSample as_numeral
unfolding keywords signs
sample-numeral = record {
  word = record { line = 1; sort = Number (pos (decimal_value (codes "1"))) };
  value = _;
  is_word = record { bytes = codes "1"; kind = K.Number; is = record { is_token = refl; is_sort = refl } };
  read = refl;
}

pub sample-version : WordSample as_version
unfolding keywords signs
sample-version = record {
  word = record { line = 1; sort = Number (pos (decimal_value (codes "1"))) };
  value = tt;
  is_word = record { bytes = codes "1"; kind = K.Number; is = record { is_token = refl; is_sort = refl } };
  read = refl;
}
