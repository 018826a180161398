-- A text has one answer for a program.
use Rattle.std.proofs.Common.{◌≡◌, ℕ, ◌+◌, List, [], ◌∷◌, ◌++◌, map, Option, None, Some, Result, Ok, Err}
use Rattle.std.proofs.Common.{refl, sym, ap, subst, ◌∙◌, All, ◌⊎◌, inl, inr, ◌≤◌, length, arith}
use Rattle.std.specs.Prelude.{slice_get}
use Rattle.std.specs.List.{flat_map}
use Rattle.std.proofs.lemmas.List.Elements.{All-nil, All-cons, All-head, All-tail}
use Rattle.seuss_text.specs.Rows.{AreTokens, token_text}
use Rattle.seuss_text.specs.Words.{kind_of}
use Rattle.seuss_text.specs.Limits.{AreInLimits, IsTooLong, max_text}
use Rattle.seuss_text.specs.Refusals.{BadByteAt, RangeAt}
use Rattle.seuss_text.specs.declared.token.Token.{Token}
use Rattle.seuss_parser.specs.SingleExpressions.{ParsesExpression, SaysOfWords}
use Rattle.seuss_parser.specs.Spelling.{IsWord}
use Rattle.seuss_parser.specs.Words.{words_of, word_of}
use Rattle.seuss_parser.specs.declared.refusal.ParseRefusal.{ParseRefusal}
use Rattle.seuss_parser.specs.declared.refusal.ParseRefusal.TheVariants as P
use Rattle.seuss_parser.specs.declared.word.Word.{Word}
use Rattle.seuss_program.specs.declared.program.Program.{Program}
use Rattle.seuss_program.specs.declared.tree.Expr.{Expr}
use Rattle.seuss_program.specs.declared.tree.Name.{Name}
use Rattle.safety_check.specs.declared.property.Property.{Property}
use Rattle.safety_texts.specs.declared.refusal.PropertyRefusal.{PropertyRefusal}
use Rattle.safety_texts.specs.declared.refusal.PropertyRefusal.TheVariants as R
use Rattle.safety_texts.specs.declared.texts.PropertyText.{PropertyText}
use Rattle.safety_texts.specs.Lists.{AreList, Ended, Stopped, Further, StoppedFurther, IsOne, IsNone, head}
use Rattle.safety_texts.specs.Lists.{IsNoExpression}
use Rattle.safety_texts.specs.Verdicts.{undeclared, unresolved, misshapen, property_of, Spells, SpellsNone}
use Rattle.safety_texts.specs.Verdicts.{IsBad, NoToken, NoList, NotDeclared, NotResolved, OtherForm, AreOf}
use Rattle.safety_texts.specs.Verdicts.{IsVerdict, IsAnswered}

-- words have one answer at a place
abbrev pub HaveOne : Type 0
HaveOne = (words : List Word) (from : ℕ) (one other : Result (Expr Name × ℕ) ParseRefusal) →
    All IsWord words → ParsesExpression one words from → ParsesExpression other words from →
    SaysOfWords one → SaysOfWords other → one ≡ other

-- what was found, as an answer
found_at : Expr Name × ℕ → Result (Expr Name × ℕ) ParseRefusal
found_at pair = Ok pair

-- answers of the same are of the same
same_found : (x y : Expr Name × ℕ) → found_at x ≡ found_at y → x ≡ y
unfolding found_at
same_found x y same = cc

module _ (law : HaveOne) (words : List Word) (all : All IsWord words) where
  -- where there is an expression, none is missing
  found_or_none : (at line : ℕ) (found : Expr Name × ℕ) → ParsesExpression (Ok found) words at →
      IsNoExpression words at line → ⊥
  found_or_none at line found is (inl none) =
      let same = law words at (Ok found) (Err (P.Syntax line)) all is none tt tt in absurd (cc)
  found_or_none at line found is (inr deep) =
      let same = law words at (Ok found) (Err (P.Nesting line)) all is deep tt tt in absurd (cc)

  -- no expression is missing by two lines
  one_missing : (at line other : ℕ) → IsNoExpression words at line → IsNoExpression words at other →
      line ≡ other
  one_missing at line other (inl a) (inl b) =
      let same = law words at (Err (P.Syntax line)) (Err (P.Syntax other)) all a b tt tt in cc
  one_missing at line other (inl a) (inr b) =
      let same = law words at (Err (P.Syntax line)) (Err (P.Nesting other)) all a b tt tt in absurd (cc)
  one_missing at line other (inr a) (inl b) =
      let same = law words at (Err (P.Nesting line)) (Err (P.Syntax other)) all a b tt tt in absurd (cc)
  one_missing at line other (inr a) (inr b) =
      let same = law words at (Err (P.Nesting line)) (Err (P.Nesting other)) all a b tt tt in cc

  -- one property stands at a place, with one place behind it
  one_text : (at : ℕ) (t u : PropertyText) (next after : ℕ) → IsOne words at t next →
      IsOne words at u after → (t ≡ u) × (next ≡ after)
  unfolding found_at
  one_text at t u next after one other =
      let cats : t.cat ≡ u.cat = cc (one.head, other.head) in
      let pairs : (t.expr, next) ≡ (u.expr, after) = same_found (t.expr, next) (u.expr, after)
      (law words (at + 3) (Ok (t.expr, next)) (Ok (u.expr, after)) all one.expr other.expr tt tt) in
      let exprs : t.expr ≡ u.expr = ap (λ (p : Expr Name × ℕ). p.0) pairs in (
        ap (λ (n : Name). record { cat = n; expr = t.expr }) cats
            ∙ ap (λ (e : Expr Name). record { cat = u.cat; expr = e }) exprs,
        ap (λ (p : Expr Name × ℕ). p.1) pairs,
      )

  -- where one stands, none is missing
  text_or_none : (at : ℕ) (t : PropertyText) (next line : ℕ) → IsOne words at t next →
      IsNone words at line → ⊥
  text_or_none at t next line one (inl missing) =
      absurd (cc (one.head, missing))
  text_or_none at t next line one (inr missing) =
      found_or_none (at + 3) line (t.expr, next) one.expr missing.none

  -- none is missing by two lines
  one_none : (at line other : ℕ) → IsNone words at line → IsNone words at other → line ≡ other
  one_none at line other (inl a) (inl b) =
      cc
  one_none at line other (inl a) (inr b) =
      let there = b.head in absurd (cc)
  one_none at line other (inr a) (inl b) =
      let there = a.head in absurd (cc)
  one_none at line other (inr a) (inr b) = one_missing (at + 3) line other a.none b.none

  -- words are one list, or none by one line
  one_list : (at : ℕ) (found : Result (List PropertyText) ℕ) → AreList words at found →
      (place : ℕ) (other : Result (List PropertyText) ℕ) → at ≡ place → AreList words place other →
      found ≡ other
  one_list _ _ (Ended at none) _ _ same (Ended place gone) = refl
  one_list _ _ (Ended at none) _ _ same (Stopped place word line there missing) = absurd (cc)
  one_list _ _ (Ended at none) _ _ same (Further place word text next texts there one list) = absurd (cc)
  one_list _ _ (Ended at none) _ _ same (StoppedFurther place word text next line there one list) =
      absurd (cc)
  one_list _ _ (Stopped at word line there missing) _ _ same (Ended place gone) = absurd (cc)
  one_list _ _ (Stopped at word line there missing) _ _ same (Stopped place other l is none) =
      ap Err (one_none at line l missing (subst (λ n. IsNone words n l) (sym same) none))
  one_list _ _ (Stopped at word line there missing) _ _ same (Further place other t n ts is one list) =
      absurd (text_or_none at t n line (subst (λ k. IsOne words k t n) (sym same) one) missing)
  one_list _ _ (Stopped at word line there missing) _ _ same (StoppedFurther place other t n l is one list) =
      absurd (text_or_none at t n line (subst (λ k. IsOne words k t n) (sym same) one) missing)
  one_list _ _ (Further at word text next texts there one list) _ _ same (Ended place gone) = absurd (cc)
  one_list _ _ (Further at word text next texts there one list) _ _ same (Stopped place other l is none) =
      absurd (text_or_none at text next l one (subst (λ n. IsNone words n l) (sym same) none))
  one_list _ _ (Further at word text next texts there one list) _ _ same
      (Further place other t n ts is first others) =
      let both = one_text at text t next n one (subst (λ k. IsOne words k t n) (sym same) first) in
      let rest : Ok texts ≡ Ok ts = one_list next (Ok texts) list n (Ok ts) both.1 others in
      let here : text ≡ t = both.0 in
      let behind : texts ≡ ts = cc in
      ap (λ (x : PropertyText). Ok (x ∷ texts)) here ∙ ap (λ (xs : List PropertyText). Ok (t ∷ xs)) behind
  one_list _ _ (Further at word text next texts there one list) _ _ same
      (StoppedFurther place other t n l is first others) =
      let both = one_text at text t next n one (subst (λ k. IsOne words k t n) (sym same) first) in
      let rest : Ok texts ≡ Err l = one_list next (Ok texts) list n (Err l) both.1 others in absurd (cc)
  one_list _ _ (StoppedFurther at word text next line there one list) _ _ same (Ended place gone) =
      absurd (cc)
  one_list _ _ (StoppedFurther at word text next line there one list) _ _ same
      (Stopped place other l is none) =
      absurd (text_or_none at text next l one (subst (λ n. IsNone words n l) (sym same) none))
  one_list _ _ (StoppedFurther at word text next line there one list) _ _ same
      (Further place other t n ts is first others) =
      let both = one_text at text t next n one (subst (λ k. IsOne words k t n) (sym same) first) in
      let rest : Err line ≡ Ok ts = one_list next (Err line) list n (Ok ts) both.1 others in absurd (cc)
  one_list _ _ (StoppedFurther at word text next line there one list) _ _ same
      (StoppedFurther place other t n l is first others) =
      let both = one_text at text t next n one (subst (λ k. IsOne words k t n) (sym same) first) in
      one_list next (Err line) list n (Err l) both.1 others

-- the first line of three lists that are looked at one after the other
first_of : List ℕ → List ℕ → List ℕ → Option ℕ
first_of (line ∷ lines) second third = Some line
first_of [] (line ∷ lines) third = Some line
first_of [] [] (line ∷ lines) = Some line
first_of [] [] [] = None

-- what is found in a list of properties, or that it is none
first_fault : Program → Result (List PropertyText) ℕ → Option ℕ
first_fault p (Err line) = Some line
first_fault p (Ok texts) = first_of (flat_map (undeclared p) texts) (flat_map (unresolved p) texts)
    (flat_map misshapen (map (property_of p) texts))

-- a text has tokens, which are a list or none, in which this is found
record IsListed (p : Program) (text : List ℕ) (fault : Option ℕ) : Type 0 where
  tokens : List Token
  are_tokens : AreTokens text tokens
  in_limits : AreInLimits text tokens
  found : Result (List PropertyText) ℕ
  list : AreList (words_of text tokens) 0 found
  is : first_fault p found ≡ fault

-- the same of texts that were spelled
listed_by : (p : Program) (text : List ℕ) (texts : List PropertyText) (fault : Option ℕ) →
    Spells text texts → first_fault p (Ok texts) ≡ fault → IsListed p text fault
listed_by p text texts fault spelled is = record {
  tokens = spelled.tokens;
  are_tokens = spelled.are_tokens;
  in_limits = spelled.in_limits;
  found = Ok texts;
  list = spelled.are_list;
  is = is;
}

-- three lists by their fronts
by_first : (a b c rest : List ℕ) (line : ℕ) → a ≡ line ∷ rest → first_of a b c ≡ Some line
unfolding first_of
by_first a b c rest line is = ap (λ xs. first_of xs b c) is

by_second : (a b c rest : List ℕ) (line : ℕ) → a ≡ [] → b ≡ line ∷ rest → first_of a b c ≡ Some line
unfolding first_of
by_second a b c rest line none is =
    ap (λ xs. first_of xs b c) none ∙ ap (λ xs. first_of [] xs c) is

by_third : (a b c rest : List ℕ) (line : ℕ) → a ≡ [] → b ≡ [] → c ≡ line ∷ rest → first_of a b c ≡ Some line
unfolding first_of
by_third a b c rest line none gone is =
    ap (λ xs. first_of xs b c) none ∙ (ap (λ xs. first_of [] xs c) gone ∙ ap (λ xs. first_of [] [] xs) is)

by_none : (a b c : List ℕ) → a ≡ [] → b ≡ [] → c ≡ [] → first_of a b c ≡ None
unfolding first_of
by_none a b c none gone nothing =
    ap (λ xs. first_of xs b c) none
    ∙ (ap (λ xs. first_of [] xs c) gone ∙ ap (λ xs. first_of [] [] xs) nothing)

module _ (p : Program) (text : List ℕ) where
  -- a text that is refused has no tokens, or a fault in its list
  refused : (line : ℕ) → IsBad p text line → (BadByteAt text line ⊎ RangeAt text line)
      ⊎ IsListed p text (Some line)
  unfolding first_fault
  refused line (NoToken fault) = inl fault
  refused line (NoList none) = inr (record {
    tokens = none.tokens;
    are_tokens = none.are_tokens;
    in_limits = none.in_limits;
    found = Err line;
    list = none.no_list;
    is = refl;
  })
  refused line (NotDeclared texts spelled begins) = inr (listed_by p text texts (Some line) spelled
      (by_first _ _ _ begins.0 line begins.1))
  refused line (NotResolved texts spelled declared begins) = inr (listed_by p text texts (Some line) spelled
      (by_second _ _ _ begins.0 line declared begins.1))
  refused line (OtherForm texts spelled declared resolved begins) =
      inr (listed_by p text texts (Some line) spelled
      (by_third _ _ _ begins.0 line declared resolved begins.1))

  -- one that isn't has none
  accepted : (properties : List Property) (is : AreOf p text properties) →
      first_fault p (Ok is.texts) ≡ None
  unfolding first_fault
  accepted properties is = by_none _ _ _ is.declared is.resolved is.shaped

-- what the laws of tokens say
pub record TokenLaws : Type 0 where
  pub one_reading : (text : List ℕ) (xs ys : List Token) → AreTokens text xs → AreTokens text ys → xs ≡ ys
  pub kinds : (text : List ℕ) (tokens : List Token) → AreTokens text tokens →
      All (λ (t : Token). kind_of (token_text text t) ≡ Some t.kind) tokens
  pub bad_byte : (text : List ℕ) (m n : ℕ) → BadByteAt text m → BadByteAt text n → m ≡ n
  pub range : (text : List ℕ) (m n : ℕ) → RangeAt text m → RangeAt text n → m ≡ n
  pub one_kind : (text : List ℕ) (m n : ℕ) → BadByteAt text m → RangeAt text n → ⊥
  pub no_bad_byte : (text : List ℕ) (tokens : List Token) (n : ℕ) → AreTokens text tokens →
      BadByteAt text n → ⊥
  pub no_range : (text : List ℕ) (tokens : List Token) (n : ℕ) → AreTokens text tokens →
      AreInLimits text tokens → RangeAt text n → ⊥

-- the words of a text's tokens are words
words_are : (text : List ℕ) (tokens : List Token) →
    All (λ (t : Token). kind_of (token_text text t) ≡ Some t.kind) tokens → All IsWord (words_of text tokens)
words_are text [] kinds = All-nil IsWord
words_are text (token ∷ tokens) kinds =
    All-cons IsWord (word_of text token) (words_of text tokens)
    (record {
      bytes = token_text text token;
      kind = token.kind;
      is = record {
        is_token = All-head (λ (t : Token). kind_of (token_text text t) ≡ Some t.kind) token tokens kinds;
        is_sort = refl;
      };
    })
    (words_are text tokens
    (All-tail (λ (t : Token). kind_of (token_text text t) ≡ Some t.kind) token tokens kinds))

module _ (law : HaveOne) (laws : TokenLaws) (p : Program) (text : List ℕ) where
  -- two lists of a text are one
  one_found : (a b : Option ℕ) (one : IsListed p text a) (other : IsListed p text b) →
      one.found ≡ other.found
  one_found a b one other =
      let same : other.tokens ≡ one.tokens =
      laws.one_reading text other.tokens one.tokens other.are_tokens one.are_tokens in
      one_list law (words_of text one.tokens)
      (words_are text one.tokens (laws.kinds text one.tokens one.are_tokens)) 0 one.found one.list 0
      other.found refl (subst (λ ts. AreList (words_of text ts) 0 other.found) same other.list)

  -- and so is what is found in them
  one_fault : (a b : Option ℕ) → IsListed p text a → IsListed p text b → a ≡ b
  one_fault a b one other = sym one.is ∙ (ap (first_fault p) (one_found a b one other) ∙ other.is)

  -- a text with tokens has no other fault of tokens
  no_token_fault : (line : ℕ) (a : Option ℕ) → BadByteAt text line ⊎ RangeAt text line →
      IsListed p text a → ⊥
  no_token_fault line a (inl bad) listed = laws.no_bad_byte text listed.tokens line listed.are_tokens bad
  no_token_fault line a (inr bad) listed =
      laws.no_range text listed.tokens line listed.are_tokens listed.in_limits bad

  -- one fault of tokens
  one_token_fault : (m n : ℕ) → BadByteAt text m ⊎ RangeAt text m → BadByteAt text n ⊎ RangeAt text n →
      m ≡ n
  one_token_fault m n (inl a) (inl b) = laws.bad_byte text m n a b
  one_token_fault m n (inl a) (inr b) = absurd (laws.one_kind text m n a b)
  one_token_fault m n (inr a) (inl b) = absurd (laws.one_kind text n m b a)
  one_token_fault m n (inr a) (inr b) = laws.range text m n a b

  -- a text that is refused is refused at one line
  one_bad : (m n : ℕ) → IsBad p text m → IsBad p text n → m ≡ n
  one_bad m n one other = by (refused p text m one) (refused p text n other)
    where
      by : (BadByteAt text m ⊎ RangeAt text m) ⊎ IsListed p text (Some m) →
          (BadByteAt text n ⊎ RangeAt text n) ⊎ IsListed p text (Some n) → m ≡ n
      by (inl a) (inl b) = one_token_fault m n a b
      by (inl a) (inr b) = absurd (no_token_fault m (Some n) a b)
      by (inr a) (inl b) = absurd (no_token_fault n (Some m) b a)
      by (inr a) (inr b) = let same : Some m ≡ Some n = one_fault (Some m) (Some n) a b in cc

  -- one that isn't refused has one list
  listed_of : (properties : List Property) (is : AreOf p text properties) → IsListed p text None
  listed_of properties is = listed_by p text is.texts None is.spelled (accepted p text properties is)

  one_of : (xs ys : List Property) → AreOf p text xs → AreOf p text ys → xs ≡ ys
  unfolding listed_of listed_by
  one_of xs ys one other =
      let same : Ok one.texts ≡ Ok other.texts =
      one_found None None (listed_of xs one) (listed_of ys other) in
      let texts : one.texts ≡ other.texts = cc in
      one.properties_are ∙ (ap (map (property_of p)) texts ∙ sym other.properties_are)

  -- and isn't refused
  of_or_bad : (xs : List Property) (line : ℕ) → AreOf p text xs → IsBad p text line → ⊥
  of_or_bad xs line one bad = by (refused p text line bad)
    where
      by : (BadByteAt text line ⊎ RangeAt text line) ⊎ IsListed p text (Some line) → ⊥
      by (inl fault) = no_token_fault line None fault (listed_of xs one)
      by (inr listed) =
          let same : None ≡ Some line = one_fault None (Some line) (listed_of xs one) listed in absurd (cc)

  -- a text isn't too long and within the limit
  apart : length text ≤ max_text → IsTooLong text → ⊥
  apart within long = omega arith

  -- a text has one answer
  pub one_verdict : (one other : Result (List Property) PropertyRefusal) → IsVerdict p text one →
      IsVerdict p text other → IsAnswered one → IsAnswered other → one ≡ other
  one_verdict (Ok xs) (Ok ys) a b here there = ap Ok (one_of xs ys a.1 b.1)
  one_verdict (Ok xs) (Err R.TooLong) a b here there = absurd (apart a.0 b)
  one_verdict (Ok xs) (Err (R.Bad line)) a b here there = absurd (of_or_bad xs line a.1 b.1)
  one_verdict (Ok xs) (Err R.Memory) a b here there = absurd there
  one_verdict (Err R.TooLong) (Ok ys) a b here there = absurd (apart b.0 a)
  one_verdict (Err R.TooLong) (Err R.TooLong) a b here there = refl
  one_verdict (Err R.TooLong) (Err (R.Bad line)) a b here there = absurd (apart b.0 a)
  one_verdict (Err R.TooLong) (Err R.Memory) a b here there = absurd there
  one_verdict (Err (R.Bad line)) (Ok ys) a b here there = absurd (of_or_bad ys line b.1 a.1)
  one_verdict (Err (R.Bad line)) (Err R.TooLong) a b here there = absurd (apart a.0 b)
  one_verdict (Err (R.Bad line)) (Err (R.Bad other)) a b here there =
      ap (λ n. Err (R.Bad n)) (one_bad line other a.1 b.1)
  one_verdict (Err (R.Bad line)) (Err R.Memory) a b here there = absurd there
  one_verdict (Err R.Memory) s a b here there = absurd here
