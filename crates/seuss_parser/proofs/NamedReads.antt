-- Reading what begins with a name: the name is read once, and the next word tells what it begins.
use Rattle.std.proofs.Common.{◌≡◌, ℕ, false, List, [], ◌++◌, refl, sym, ◌∙◌, ap, subst}
use Rattle.std.proofs.Common.{Option, Some, None, inl, inr, append_assoc}
use Rattle.seuss_parser.specs.Phrases.{Piece, Phrase, Then, Only, Either, Optional}
use Rattle.seuss_parser.specs.Words.{as_name}
use Rattle.seuss_parser.specs.Grammar.{IsSymbol, IsName, IsCall, IsAssignment, IsBinding, IsCallStatement}
use Rattle.seuss_parser.specs.Grammar.{IsPre}
use Rattle.seuss_parser.specs.StatementReading.{read_plain_call}
use Rattle.seuss_parser.specs.StatementReading.{read_binding, read_named, read_plain_pre}
use Rattle.seuss_parser.specs.StatementReading.{read_bound_pre, read_pre}
use Rattle.seuss_parser.specs.Fronts.{begins_with}
use Rattle.seuss_parser.specs.declared.symbol.Symbol.TheVariants as S
use Rattle.seuss_program.specs.declared.tree.Name.{Name}
use Rattle.seuss_program.specs.declared.tree.Call.{Call}
use Rattle.seuss_program.specs.declared.tree.Pre.{Pre}
use Rattle.seuss_program.specs.declared.tree.Statement.{Statement}
use Rattle.seuss_program.specs.declared.tree.Statement.TheVariants as T
use Rattle.seuss_parser.proofs.Sets.{part-self, part-everything, everything, the_symbol}
use Rattle.seuss_parser.proofs.Sets.{the_names, joined}
use Rattle.seuss_parser.proofs.ListLemmas.{append-nothing}
use Rattle.seuss_parser.proofs.Tells.{Reads, Firsts}
use Rattle.seuss_parser.proofs.WordReads.{reads-word}
use Rattle.seuss_parser.proofs.ChoiceReads.{reads-as, reads-either}
use Rattle.seuss_parser.proofs.FirstSets.{name-in, firsts-word, firsts-then, firsts-optional_then}
use Rattle.seuss_parser.proofs.FirstSets.{leads-firsts}
use Rattle.seuss_parser.proofs.WordTests.{tests-symbol}
use Rattle.seuss_parser.proofs.CommonReads.{after, last, reads-symbol, firsts-symbol}
use Rattle.seuss_parser.proofs.CallReads.{own_brackets, IsCallOf, reads-call_of, reads-call, firsts-call}
use Rattle.seuss_parser.proofs.AheadReads.{IsBoundCall, IsAssigned, reads-call_or_value, behind_statement}
use Rattle.seuss_parser.proofs.Samples.{sample-name, sample-Assign, sample-Semicolon}

-- calls, perhaps with a name that the result is bound to, as the grammar has them and as they are read
module _ (brackets : ℕ) {A : Type 0} (make : Option Name → Call Name → A) where
  abbrev pub CallWith : Phrase A
  CallWith value room pieces left =
      Then (Optional (IsBinding brackets))
      (λ bind. λ v r ps l. Then (IsCall brackets) (λ call. Only (make bind call)) v r ps l) value room
      pieces left

  abbrev pub Plain : Name → Phrase A
  Plain name value room pieces left =
      Then (IsCallOf brackets name) (λ call. Only (make None call)) value room pieces left

  abbrev pub Bound : Name → Phrase A
  Bound name value room pieces left =
      Then (IsCall brackets) (λ call. Only (make (Some name) call)) value room pieces left

  abbrev pub Assigning : Name → Phrase A
  Assigning name value room pieces left = Then (IsSymbol S.Assign) (λ line. Bound name) value room pieces
      left

  abbrev pub Named : Phrase A
  Named value room pieces left = Then IsName (λ name. Either (Plain name) (Assigning name)) value room
      pieces left

  pub named-call : (value : A) (room : ℕ) (pieces : List Piece) (left : ℕ) →
      CallWith value room pieces left →
      Named value room pieces left
  unfolding IsCall IsCallOf IsBinding
  named-call value room pieces left both =
      from both.first both.front both.between both.back both.spelled both.begins both.goes_on
    where
      from : (bind : Option Name) (front : List Piece) (between : ℕ) (back : List Piece) →
          pieces ≡ front ++ back →
          Optional (IsBinding brackets) bind room front between →
          Then (IsCall brackets) (λ call. Only (make bind call)) value between back left →
          Named value room pieces left
      from None front between back spelled (nothing, stays) call =
          let name = call.begins in record {
            first = name.first;
            front = name.front;
            between = name.between;
            back = name.back ++ call.back;
            spelled = spelled ∙ ap (λ ps. ps ++ back) nothing ∙ call.spelled
                ∙ ap (λ ps. ps ++ call.back) name.spelled ∙ append_assoc name.front name.back call.back;
            begins = subst (λ n. IsName name.first n name.front name.between) stays name.begins;
            goes_on = inl (record {
              first = call.first;
              front = name.back;
              between = call.between;
              back = call.back;
              spelled = refl;
              begins = name.goes_on;
              goes_on = call.goes_on;
            });
          }
      from (Some bound) front between back spelled name call =
          let assign = name.goes_on in
          let only = assign.goes_on in record {
            first = name.first;
            front = name.front;
            between = name.between;
            back = assign.front ++ back;
            spelled = spelled ∙ ap (λ ps. ps ++ back)
                (name.spelled ∙ ap (λ ps. name.front ++ ps)
                (assign.spelled ∙ ap (λ ps. assign.front ++ ps) only.spelled ∙ append-nothing assign.front))
                ∙ append_assoc name.front assign.front back;
            begins = name.begins;
            goes_on = inr (record {
              first = assign.first;
              front = assign.front;
              between = assign.between;
              back = back;
              spelled = refl;
              begins = assign.begins;
              goes_on = subst (λ n. Bound name.first value n back left) only.room_stays
                  (subst (λ m. Bound m value between back left) only.is_this call);
            });
          }

  pub call-named : (value : A) (room : ℕ) (pieces : List Piece) (left : ℕ) → Named value room pieces left →
      CallWith value room pieces left
  unfolding IsCall IsCallOf IsBinding
  call-named value room pieces left name = from name.goes_on
    where
      from : Either (Plain name.first) (Assigning name.first) value name.between name.back left →
          CallWith value room pieces left
      from (inl plain) = record {
        first = None;
        front = [];
        between = room;
        back = pieces;
        spelled = refl;
        begins = (refl, refl);
        goes_on = record {
          first = plain.first;
          front = name.front ++ plain.front;
          between = plain.between;
          back = plain.back;
          spelled = name.spelled ∙ ap (λ ps. name.front ++ ps) plain.spelled
              ∙ sym (append_assoc name.front plain.front plain.back);
          begins = record {
            first = name.first;
            front = name.front;
            between = name.between;
            back = plain.front;
            spelled = refl;
            begins = name.begins;
            goes_on = plain.begins;
          };
          goes_on = plain.goes_on;
        };
      }
      from (inr bound) = record {
        first = Some name.first;
        front = name.front ++ bound.front;
        between = bound.between;
        back = bound.back;
        spelled = name.spelled ∙ ap (λ ps. name.front ++ ps) bound.spelled
            ∙ sym (append_assoc name.front bound.front bound.back);
        begins = record {
          first = name.first;
          front = name.front;
          between = name.between;
          back = bound.front;
          spelled = refl;
          begins = name.begins;
          goes_on = record {
            first = bound.first;
            front = bound.front;
            between = bound.between;
            back = [];
            spelled = sym (append-nothing bound.front);
            begins = bound.begins;
            goes_on = record { is_this = refl; spelled = refl; room_stays = refl };
          };
        };
        goes_on = bound.goes_on;
      }

  pub firsts-plain : (name : Name) → Firsts (Plain name) (the_symbol S.Dot)
  unfolding IsCallOf
  firsts-plain name = firsts-then (firsts-then (firsts-symbol S.Dot))

  firsts-binding : Firsts (IsBinding brackets) the_names
  unfolding IsBinding
  firsts-binding = firsts-then (firsts-word name-in false)

  pub firsts-call_with : Firsts CallWith (joined the_names the_names)
  firsts-call_with = firsts-optional_then firsts-binding (λ bind. firsts-then (firsts-call brackets))

-- statements that begin with a name
module _ (brackets : ℕ) where
  abbrev pub IsPlainCall : Name → Phrase (Statement Name)
  IsPlainCall name = Plain brackets T.Call name

  abbrev pub IsBound : Name → Phrase (Statement Name)
  IsBound name value room pieces left =
      Then (IsSymbol S.Assign) (λ line. Either (IsBoundCall brackets name) (IsAssigned brackets name))
      value room pieces left

  abbrev pub IsNamed : Phrase (Statement Name)
  IsNamed value room pieces left =
      Then IsName (λ name. Either (IsPlainCall name) (IsBound name)) value room pieces left

  abbrev pub IsNamedStatement : Phrase (Statement Name)
  IsNamedStatement = Either (IsAssignment brackets) (IsCallStatement brackets)

  pub grammar-named : (value : Statement Name) (room : ℕ) (pieces : List Piece) (left : ℕ) →
      IsNamed value room pieces left → IsNamedStatement value room pieces left
  unfolding IsAssignment IsCallStatement IsBoundCall IsAssigned
  grammar-named value room pieces left name = from name.goes_on
    where
      called : Either (Plain brackets T.Call name.first) (Assigning brackets T.Call name.first) value
          name.between
          name.back left → IsNamedStatement value room pieces left
      called phrase = inr (call-named brackets T.Call value room pieces left (record {
        first = name.first;
        front = name.front;
        between = name.between;
        back = name.back;
        spelled = name.spelled;
        begins = name.begins;
        goes_on = phrase;
      }))

      assigned : (line : ℕ) (front : List Piece) (between : ℕ) (back : List Piece) →
          name.back ≡ front ++ back →
          IsSymbol S.Assign line name.between front between →
          Either (IsBoundCall brackets name.first) (IsAssigned brackets name.first) value between back left →
          IsNamedStatement value room pieces left
      assigned line front between back spelled sign (inl call) = called (inr (record {
        first = line;
        front = front;
        between = between;
        back = back;
        spelled = spelled;
        begins = sign;
        goes_on = call;
      }))
      assigned line front between back spelled sign (inr phrase) = inl (record {
        first = name.first;
        front = name.front;
        between = name.between;
        back = name.back;
        spelled = name.spelled;
        begins = name.begins;
        goes_on = record {
          first = line;
          front = front;
          between = between;
          back = back;
          spelled = spelled;
          begins = sign;
          goes_on = phrase;
        };
      })

      from : Either (IsPlainCall name.first) (IsBound name.first) value name.between name.back left →
          IsNamedStatement value room pieces left
      from (inl plain) = called (inl plain)
      from (inr bound) =
          assigned bound.first bound.front bound.between bound.back bound.spelled bound.begins bound.goes_on

  pub named-grammar : (value : Statement Name) (room : ℕ) (pieces : List Piece) (left : ℕ) →
      IsNamedStatement value room pieces left → IsNamed value room pieces left
  unfolding IsAssignment IsCallStatement IsBoundCall IsAssigned
  named-grammar value room pieces left (inl phrase) = record {
    first = phrase.first;
    front = phrase.front;
    between = phrase.between;
    back = phrase.back;
    spelled = phrase.spelled;
    begins = phrase.begins;
    goes_on = inr (record {
      first = phrase.goes_on.first;
      front = phrase.goes_on.front;
      between = phrase.goes_on.between;
      back = phrase.goes_on.back;
      spelled = phrase.goes_on.spelled;
      begins = phrase.goes_on.begins;
      goes_on = inr phrase.goes_on.goes_on;
    });
  }
  named-grammar value room pieces left (inr phrase) =
      let name = named-call brackets T.Call value room pieces left phrase in record {
        first = name.first;
        front = name.front;
        between = name.between;
        back = name.back;
        spelled = name.spelled;
        begins = name.begins;
        goes_on = from name.first name.between name.back name.goes_on;
      }
    where
      from : (name : Name) (between : ℕ) (back : List Piece) →
          Either (Plain brackets T.Call name) (Assigning brackets T.Call name) value between back left →
          Either (IsPlainCall name) (IsBound name) value between back left
      from name between back (inl plain) = inl plain
      from name between back (inr bound) = inr (record {
        first = bound.first;
        front = bound.front;
        between = bound.between;
        back = bound.back;
        spelled = bound.spelled;
        begins = bound.begins;
        goes_on = inl bound.goes_on;
      })

  pub firsts-named : Firsts IsNamed the_names
  firsts-named = firsts-then (firsts-word name-in false)

module _ (any depth : ℕ) where
  plain-call : (name : Name) → Reads (IsPlainCall own_brackets name) (IsPlainCall any name)
      (read_plain_call name) depth everything
  unfolding read_plain_call
  plain-call name = last (λ call. T.Call None call) (reads-call_of any depth name)

  binding : (name : Name) → Reads (IsBound own_brackets name) (IsBound any name) (read_binding name) depth
      behind_statement
  unfolding read_binding
  binding name = after (reads-symbol S.Assign depth sample-Assign)
      (λ line. reads-call_or_value any depth name)

  pub reads-named : Reads (IsNamed own_brackets) (IsNamed any) read_named depth behind_statement
  unfolding read_named
  reads-named = after (reads-word as_name sample-name depth false) (λ name.
      reads-either (begins_with S.Dot) (the_symbol S.Dot) (tests-symbol S.Dot)
      (IsPlainCall own_brackets name) (IsPlainCall any name) (IsBound own_brackets name) (IsBound any name)
      (read_plain_call name) (read_binding name) depth everything behind_statement behind_statement
      (the_symbol S.Dot) (the_symbol S.Assign) (plain-call name) (binding name)
      (firsts-plain any T.Call name)
      (leads-firsts behind_statement (firsts-then (firsts-symbol S.Assign))
      (part-self (the_symbol S.Assign)))
      (part-everything behind_statement) (part-self behind_statement) (part-self (the_symbol S.Dot))
      (record { shown = refl }))

  -- the call before an alternative
  abbrev pre : Option Name → Call Name → Pre Name
  pre bind call = record { bind = bind; call = call }

  plain-pre : (name : Name) → Reads (Plain own_brackets pre name) (Plain any pre name) (read_plain_pre name)
      depth
      everything
  unfolding read_plain_pre
  plain-pre name = last (λ call. pre None call) (reads-call_of any depth name)

  bound-pre : (name : Name) → Reads (Assigning own_brackets pre name) (Assigning any pre name)
      (read_bound_pre name) depth everything
  unfolding read_bound_pre
  bound-pre name = after (reads-symbol S.Assign depth sample-Assign) (λ line.
      last (λ call. pre (Some name) call) (reads-call any depth))

  pub reads-pre : Reads (IsPre own_brackets) (IsPre any) read_pre depth everything
  unfolding IsPre read_pre
  reads-pre = after (reads-symbol S.Semicolon depth sample-Semicolon) (λ line.
      reads-as (call-named own_brackets pre) (named-call any pre) (part-self everything)
      (after (reads-word as_name sample-name depth false) (λ name.
      reads-either (begins_with S.Dot) (the_symbol S.Dot) (tests-symbol S.Dot)
      (Plain own_brackets pre name) (Plain any pre name) (Assigning own_brackets pre name)
      (Assigning any pre name) (read_plain_pre name) (read_bound_pre name) depth everything everything
      everything
      (the_symbol S.Dot) (the_symbol S.Assign) (plain-pre name) (bound-pre name)
      (firsts-plain any pre name)
      (leads-firsts everything (firsts-then (firsts-symbol S.Assign)) (part-self (the_symbol S.Assign)))
      (part-self everything) (part-self everything) (part-self (the_symbol S.Dot))
      (record { shown = refl }))))
