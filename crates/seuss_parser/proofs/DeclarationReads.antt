-- Reading procedures, variables, certificates, cats, boxes and programs tells of those of the grammar.
use Rattle.std.proofs.Common.{ℕ, false, [], refl}
use Rattle.std.specs.Prelude.{is_some, nat_abs}
use Rattle.seuss_parser.specs.Phrases.{Phrase, Either, Optional, Many}
use Rattle.seuss_parser.specs.Readings.{Reading, either, many, optional}
use Rattle.seuss_parser.specs.Words.{as_name, as_numeral, as_version, as_one_of}
use Rattle.seuss_parser.specs.Grammar.{IsName, IsOneOf, IsSigned, IsArguments, IsPerhapsGroup}
use Rattle.seuss_parser.specs.Grammar.{IsParam, IsResult, IsTotal, IsPartial, IsAction}
use Rattle.seuss_parser.specs.Grammar.{IsProcedure, IsGiven, IsStart, IsSequence, IsIntOf, IsBoolOf}
use Rattle.seuss_parser.specs.Grammar.{IsSeqOf}
use Rattle.seuss_parser.specs.Grammar.{IsVariable, IsHint, IsSemi, IsBox, IsCat, IsProgram}
use Rattle.seuss_parser.specs.CommonReading.{read_name, read_one_of, read_signed}
use Rattle.seuss_parser.specs.CommonReading.{read_perhaps_group, read_arguments}
use Rattle.seuss_parser.specs.DeclarationReading.{read_param, read_result, read_total, read_partial}
use Rattle.seuss_parser.specs.DeclarationReading.{read_action}
use Rattle.seuss_parser.specs.DeclarationReading.{read_procedure, read_given, read_start, read_sequence}
use Rattle.seuss_parser.specs.DeclarationReading.{read_int_of}
use Rattle.seuss_parser.specs.DeclarationReading.{read_bool_of, read_seq_of, read_variable, read_hint}
use Rattle.seuss_parser.specs.DeclarationReading.{read_semi}
use Rattle.seuss_parser.specs.DeclarationReading.{read_box, read_cat, read_program}
use Rattle.seuss_parser.specs.Fronts.{begins_with, begins_with_one_of, begins_procedure}
use Rattle.seuss_parser.specs.Trees.{small_kind, truth, side, int_variable, bool_variable, seq_variable}
use Rattle.seuss_parser.specs.declared.symbol.Symbol.TheVariants as S
use Rattle.seuss_program.specs.declared.tree.Name.{Name}
use Rattle.seuss_program.specs.declared.tree.Form.TheVariants as F
use Rattle.seuss_parser.proofs.Sets.{Sorts, Part, part-self, part-everything, everything, nothing, others}
use Rattle.seuss_parser.proofs.Sets.{the_symbol, the_names, the_numbers, joined}
use Rattle.seuss_parser.proofs.Tells.{Reads, Firsts}
use Rattle.seuss_parser.proofs.WordReads.{reads-word}
use Rattle.seuss_parser.proofs.ChoiceReads.{reads-then, reads-either}
use Rattle.seuss_parser.proofs.RepeatReads.{reads-many, reads-optional}
use Rattle.seuss_parser.proofs.FirstSets.{name-in, table-in, the_table, firsts-word, firsts-then}
use Rattle.seuss_parser.proofs.FirstSets.{firsts-either}
use Rattle.seuss_parser.proofs.FirstSets.{firsts-wider, leads-firsts, leads-only, leads-then, leads-many}
use Rattle.seuss_parser.proofs.WordTests.{tests-symbol, tests-table, tests-procedure, the_procedures}
use Rattle.seuss_parser.proofs.CommonReads.{after, last, reads-symbol, firsts-symbol, reads-arguments}
use Rattle.seuss_parser.proofs.CommonReads.{reads-perhaps_group, reads-perhaps_separated}
use Rattle.seuss_parser.proofs.CommonReads.{reads-signed, firsts-signed}
use Rattle.seuss_parser.proofs.CallReads.{own_brackets}
use Rattle.seuss_parser.proofs.StatementReads.{own_blocks, reads-body, reads-alternatives}
use Rattle.seuss_parser.proofs.StatementReads.{firsts-alternatives}
use Rattle.seuss_parser.proofs.Samples.{sample-name, sample-numeral, sample-version, sample-small_kind}
use Rattle.seuss_parser.proofs.Samples.{sample-truth}
use Rattle.seuss_parser.proofs.Samples.{sample-side, sample-Seuss, sample-Cat, sample-Box, sample-Var}
use Rattle.seuss_parser.proofs.Samples.{sample-Total}
use Rattle.seuss_parser.proofs.Samples.{sample-Partial, sample-Action, sample-Is, sample-End, sample-Semi}
use Rattle.seuss_parser.proofs.Samples.{sample-Int}
use Rattle.seuss_parser.proofs.Samples.{sample-Bool, sample-Seq, sample-Colon, sample-Comma, sample-Equal}
use Rattle.seuss_parser.proofs.Samples.{sample-OpenSquare, sample-CloseSquare}

-- what may follow a certificate, a procedure, a variable, and what a cat has in brackets
abbrev pub behind_semi : Sorts
behind_semi = joined (the_symbol S.Semi) (the_symbol S.End)

abbrev pub behind_procedure : Sorts
behind_procedure = joined the_procedures behind_semi

abbrev pub behind_variable : Sorts
behind_variable = joined (the_symbol S.Var) behind_procedure

module _ (depth : ℕ) where
  a-name : Reads IsName IsName read_name depth everything
  a-name = reads-word as_name sample-name depth false

  -- parameters and results, which the grammar has at any depth
  module _ (any blocks : ℕ) where
    reads-param : Reads (IsParam own_brackets own_blocks) (IsParam any blocks) read_param depth everything
    unfolding IsParam read_param
    reads-param = after a-name (λ name. after (reads-symbol S.Colon depth sample-Colon) (λ colon.
        last (λ kind. record { name = name; kind = kind.is })
        (reads-word (as_one_of small_kind) sample-small_kind depth false)))

    firsts-param : Firsts (IsParam any blocks) the_names
    unfolding IsParam
    firsts-param = firsts-then (firsts-word name-in false)

    reads-params : Reads (IsArguments (IsParam own_brackets own_blocks)) (IsArguments (IsParam any blocks))
        (read_arguments read_param) depth everything
    reads-params = reads-arguments (IsParam own_brackets own_blocks) (IsParam any blocks) read_param depth
        everything
        the_names reads-param firsts-param (part-everything (the_symbol S.Comma))
        (part-everything (the_symbol S.Close)) (record { shown = refl })

    reads-result : Reads (IsResult own_brackets own_blocks) (IsResult any blocks) read_result depth
        everything
    unfolding IsResult read_result
    reads-result = after (reads-symbol S.Colon depth sample-Colon)
        (λ colon. reads-symbol S.Int depth sample-Int)

    firsts-result : Firsts (IsResult any blocks) (the_symbol S.Colon)
    unfolding IsResult
    firsts-result = firsts-then (firsts-symbol S.Colon)

    reads-perhaps_result : (behind : Sorts) → Part behind (others (the_symbol S.Colon)) →
        Reads (Optional (IsResult own_brackets own_blocks)) (Optional (IsResult any blocks))
        (optional (begins_with S.Colon) read_result) depth behind
    reads-perhaps_result behind fails = reads-optional (IsResult own_brackets own_blocks)
        (IsResult any blocks)
        read_result (begins_with S.Colon) depth everything behind (the_symbol S.Colon) (the_symbol S.Colon)
        (tests-symbol S.Colon) reads-result firsts-result (part-self (the_symbol S.Colon)) fails
        (part-everything behind)

  reads-given : Reads IsGiven IsGiven read_given depth everything
  unfolding IsGiven read_given
  reads-given = after a-name (λ name. after (reads-symbol S.Colon depth sample-Colon) (λ colon.
      last (λ cat. record { name = name; cat = cat }) a-name))

  firsts-given : Firsts IsGiven the_names
  unfolding IsGiven
  firsts-given = firsts-then (firsts-word name-in false)

  reads-start : {A : Type 0} (P : Phrase A) (one : Reading A) → Reads P P one depth everything →
      Reads (IsStart P) (IsStart P) (read_start one) depth everything
  unfolding IsStart read_start
  reads-start P one item = after (reads-symbol S.Equal depth sample-Equal) (λ sign. item)

  firsts-start : {A : Type 0} (P : Phrase A) → Firsts (IsStart P) (the_symbol S.Equal)
  unfolding IsStart
  firsts-start P = firsts-then (firsts-symbol S.Equal)

  reads-perhaps_start : {A : Type 0} (P : Phrase A) (one : Reading A) → Reads P P one depth everything →
      Reads (Optional (IsStart P)) (Optional (IsStart P)) (optional (begins_with S.Equal) (read_start one))
      depth
      behind_variable
  reads-perhaps_start P one item = reads-optional (IsStart P) (IsStart P) (read_start one)
      (begins_with S.Equal)
      depth everything behind_variable (the_symbol S.Equal) (the_symbol S.Equal) (tests-symbol S.Equal)
      (reads-start P one item) (firsts-start P) (part-self (the_symbol S.Equal)) (record { shown = refl })
      (part-everything behind_variable)

  reads-sequence : Reads IsSequence IsSequence read_sequence depth everything
  unfolding IsSequence read_sequence
  reads-sequence = after (reads-symbol S.OpenSquare depth sample-OpenSquare) (λ open_line.
      reads-then (reads-perhaps_separated IsSigned IsSigned read_signed depth everything
      (joined (the_symbol S.Minus) the_numbers) (reads-signed depth) firsts-signed S.CloseSquare
      (part-everything (the_symbol S.Comma)) (part-everything (the_symbol S.CloseSquare))
      (record { shown = refl })
      (record { shown = refl }) (record { shown = refl }))
      (λ numbers. last (λ close. numbers) (reads-symbol S.CloseSquare depth sample-CloseSquare))
      (λ numbers. leads-firsts everything (firsts-then (firsts-symbol S.CloseSquare))
      (part-self (the_symbol S.CloseSquare))))

  reads-int_of : (name : Name) → Reads (IsIntOf name) (IsIntOf name) (read_int_of name) depth behind_variable
  unfolding IsIntOf read_int_of
  reads-int_of name = after (reads-symbol S.Int depth sample-Int) (λ line.
      last (λ start. int_variable name start)
      (reads-perhaps_start IsSigned read_signed (reads-signed depth)))

  reads-bool_of : (name : Name) → Reads (IsBoolOf name) (IsBoolOf name) (read_bool_of name) depth
      behind_variable
  unfolding IsBoolOf read_bool_of
  reads-bool_of name = after (reads-symbol S.Bool depth sample-Bool) (λ line.
      last (λ start. bool_variable name start) (reads-perhaps_start (IsOneOf truth) (read_one_of truth)
      (reads-word (as_one_of truth) sample-truth depth false)))

  reads-seq_of : (name : Name) → Reads (IsSeqOf name) (IsSeqOf name) (read_seq_of name) depth behind_variable
  unfolding IsSeqOf read_seq_of
  reads-seq_of name = after (reads-symbol S.Seq depth sample-Seq) (λ line.
      last (λ start. seq_variable name start) (reads-perhaps_start IsSequence read_sequence reads-sequence))

  firsts-int_of : (name : Name) → Firsts (IsIntOf name) (the_symbol S.Int)
  unfolding IsIntOf
  firsts-int_of name = firsts-then (firsts-symbol S.Int)

  firsts-bool_of : (name : Name) → Firsts (IsBoolOf name) (the_symbol S.Bool)
  unfolding IsBoolOf
  firsts-bool_of name = firsts-then (firsts-symbol S.Bool)

  firsts-seq_of : (name : Name) → Firsts (IsSeqOf name) (the_symbol S.Seq)
  unfolding IsSeqOf
  firsts-seq_of name = firsts-then (firsts-symbol S.Seq)

  reads-later_kind : (name : Name) → Reads (Either (IsBoolOf name) (IsSeqOf name))
      (Either (IsBoolOf name) (IsSeqOf name))
      (either (begins_with S.Bool) (read_bool_of name) (read_seq_of name)) depth behind_variable
  reads-later_kind name = reads-either (begins_with S.Bool) (the_symbol S.Bool) (tests-symbol S.Bool)
      (IsBoolOf name) (IsBoolOf name) (IsSeqOf name) (IsSeqOf name) (read_bool_of name) (read_seq_of name)
      depth
      behind_variable behind_variable behind_variable (the_symbol S.Bool) (the_symbol S.Seq)
      (reads-bool_of name)
      (reads-seq_of name) (firsts-bool_of name)
      (leads-firsts behind_variable (firsts-seq_of name) (part-self (the_symbol S.Seq)))
      (part-self behind_variable) (part-self behind_variable) (part-self (the_symbol S.Bool))
      (record { shown = refl })

  reads-variable : Reads IsVariable IsVariable read_variable depth behind_variable
  unfolding IsVariable read_variable
  reads-variable = after (reads-symbol S.Var depth sample-Var) (λ line. after a-name (λ name.
      after (reads-symbol S.Colon depth sample-Colon) (λ colon.
      reads-either (begins_with S.Int) (the_symbol S.Int) (tests-symbol S.Int)
      (IsIntOf name) (IsIntOf name) (Either (IsBoolOf name) (IsSeqOf name))
      (Either (IsBoolOf name) (IsSeqOf name))
      (read_int_of name) (either (begins_with S.Bool) (read_bool_of name) (read_seq_of name)) depth
      behind_variable behind_variable behind_variable (the_symbol S.Int)
      (joined (the_symbol S.Bool) (the_symbol S.Seq)) (reads-int_of name) (reads-later_kind name)
      (firsts-int_of name)
      (leads-firsts behind_variable (firsts-either (firsts-bool_of name) (firsts-seq_of name))
      (part-self (joined (the_symbol S.Bool) (the_symbol S.Seq))))
      (part-self behind_variable) (part-self behind_variable) (part-self (the_symbol S.Int))
      (record { shown = refl }))))

  firsts-variable : Firsts IsVariable (the_symbol S.Var)
  unfolding IsVariable
  firsts-variable = firsts-then (firsts-symbol S.Var)

  reads-hint : Reads IsHint IsHint read_hint depth everything
  unfolding IsHint read_hint
  reads-hint = after (reads-word (as_one_of side) sample-side depth false) (λ end. after a-name (λ name.
      last (λ deep. record { front = end.is; name = name; depth = nat_abs deep.value; line = deep.line })
      (reads-word as_numeral sample-numeral depth false)))

  firsts-hint : Firsts IsHint (the_table side)
  unfolding IsHint
  firsts-hint = firsts-then (firsts-word (table-in side) false)

  reads-semi : Reads IsSemi IsSemi read_semi depth behind_semi
  unfolding IsSemi read_semi
  reads-semi = after (reads-symbol S.Semi depth sample-Semi) (λ line. after a-name (λ first.
      after (reads-symbol S.Comma depth sample-Comma) (λ comma. after a-name (λ second.
      last (λ hints. record { line = line; first = first; second = second; hints = hints })
      (reads-many IsHint IsHint read_hint (begins_with_one_of side) depth everything behind_semi
      (the_table side)
      (the_table side) (tests-table side) reads-hint firsts-hint firsts-hint (part-self (the_table side))
      (record { shown = refl }) (part-everything behind_semi) (part-everything (the_table side)))))))

  firsts-semi : Firsts IsSemi (the_symbol S.Semi)
  unfolding IsSemi
  firsts-semi = firsts-then (firsts-symbol S.Semi)

  reads-box : Reads IsBox IsBox read_box depth (the_symbol S.Box)
  unfolding IsBox read_box
  reads-box = after (reads-symbol S.Box depth sample-Box) (λ line. after a-name (λ name.
      after (reads-symbol S.Colon depth sample-Colon) (λ colon. after a-name (λ cat.
      last (λ given. record { name = name; cat = cat; given = given })
      (reads-perhaps_group IsName IsName read_name depth everything the_names a-name
      (firsts-word name-in false)
      (part-everything (the_symbol S.Comma)) (part-everything (the_symbol S.Close)) (the_symbol S.Box)
      (record { shown = refl }))))))

  firsts-box : Firsts IsBox (the_symbol S.Box)
  unfolding IsBox
  firsts-box = firsts-then (firsts-symbol S.Box)

  -- procedures, of any depth
  module _ (any blocks : ℕ) where
    reads-total : Reads (IsTotal own_brackets own_blocks) (IsTotal any blocks) read_total depth everything
    unfolding IsTotal read_total
    reads-total = after (reads-symbol S.Total depth sample-Total) (λ line. after a-name (λ name.
        after (reads-params any blocks) (λ params.
        reads-then (reads-perhaps_result any blocks (the_symbol S.Is) (record { shown = refl })) (λ gives.
        after (reads-symbol S.Is depth sample-Is) (λ is_line.
        reads-then (reads-body any blocks depth (the_symbol S.End) (record { shown = refl })) (λ body.
        last (λ end. record { name = name; params = params; gives = is_some gives; form = F.Total body })
        (reads-symbol S.End depth sample-End))
        (λ body. leads-firsts everything (firsts-then (firsts-symbol S.End))
        (part-self (the_symbol S.End)))))
        (λ gives. leads-firsts everything (firsts-then (firsts-symbol S.Is))
        (part-self (the_symbol S.Is))))))

    reads-partial : Reads (IsPartial own_brackets own_blocks) (IsPartial any blocks) read_partial depth
        everything
    unfolding IsPartial read_partial
    reads-partial = after (reads-symbol S.Partial depth sample-Partial) (λ line. after a-name (λ name.
        after (reads-params any blocks) (λ params.
        reads-then (reads-perhaps_result any blocks (the_symbol S.When) (record { shown = refl })) (λ gives.
        reads-then (reads-alternatives any blocks depth) (λ alternatives.
        last (λ end. record {
          name = name;
          params = params;
          gives = is_some gives;
          form = F.Partial
              alternatives;
        })
        (reads-symbol S.End depth sample-End))
        (λ alternatives. leads-firsts everything (firsts-then (firsts-symbol S.End))
        (part-self (the_symbol S.End))))
        (λ gives. leads-firsts everything (firsts-then (firsts-alternatives any blocks depth))
        (part-self (the_symbol S.When))))))

    reads-action : Reads (IsAction own_brackets own_blocks) (IsAction any blocks) read_action depth
        everything
    unfolding IsAction read_action
    reads-action = after (reads-symbol S.Action depth sample-Action) (λ line. after a-name (λ name.
        reads-then (reads-alternatives any blocks depth) (λ alternatives.
        last (λ end. record { name = name; params = []; gives = false; form = F.Action alternatives })
        (reads-symbol S.End depth sample-End))
        (λ alternatives. leads-firsts everything (firsts-then (firsts-symbol S.End))
        (part-self (the_symbol S.End)))))

    firsts-total : Firsts (IsTotal any blocks) (the_symbol S.Total)
    unfolding IsTotal
    firsts-total = firsts-then (firsts-symbol S.Total)

    firsts-partial : Firsts (IsPartial any blocks) (the_symbol S.Partial)
    unfolding IsPartial
    firsts-partial = firsts-then (firsts-symbol S.Partial)

    firsts-action : Firsts (IsAction any blocks) (the_symbol S.Action)
    unfolding IsAction
    firsts-action = firsts-then (firsts-symbol S.Action)

    firsts-procedure : Firsts (IsProcedure any blocks) the_procedures
    unfolding IsProcedure
    firsts-procedure = firsts-wider (record { shown = refl })
        (firsts-either firsts-total (firsts-either firsts-partial firsts-action))

    reads-later_procedure : Reads (Either (IsPartial own_brackets own_blocks)
        (IsAction own_brackets own_blocks))
        (Either (IsPartial any blocks) (IsAction any blocks))
        (either (begins_with S.Partial) read_partial read_action) depth everything
    reads-later_procedure = reads-either (begins_with S.Partial) (the_symbol S.Partial)
        (tests-symbol S.Partial)
        (IsPartial own_brackets own_blocks) (IsPartial any blocks) (IsAction own_brackets own_blocks)
        (IsAction any blocks) read_partial read_action depth everything everything everything
        (the_symbol S.Partial)
        (the_symbol S.Action) reads-partial reads-action firsts-partial
        (leads-firsts everything firsts-action (part-self (the_symbol S.Action)))
        (part-self everything) (part-self everything) (part-self (the_symbol S.Partial))
        (record { shown = refl })

    reads-procedure : Reads (IsProcedure own_brackets own_blocks) (IsProcedure any blocks) read_procedure
        depth
        everything
    unfolding IsProcedure read_procedure
    reads-procedure = reads-either (begins_with S.Total) (the_symbol S.Total) (tests-symbol S.Total)
        (IsTotal own_brackets own_blocks) (IsTotal any blocks)
        (Either (IsPartial own_brackets own_blocks) (IsAction own_brackets own_blocks))
        (Either (IsPartial any blocks) (IsAction any blocks)) read_total
        (either (begins_with S.Partial) read_partial read_action) depth everything everything everything
        (the_symbol S.Total) (joined (the_symbol S.Partial) (the_symbol S.Action)) reads-total
        reads-later_procedure
        firsts-total
        (leads-firsts everything (firsts-either firsts-partial firsts-action)
        (part-self (joined (the_symbol S.Partial) (the_symbol S.Action))))
        (part-self everything) (part-self everything) (part-self (the_symbol S.Total))
        (record { shown = refl })

  module _ (any blocks : ℕ) where
    semis-part : Reads (Many IsSemi) (Many IsSemi) (many (begins_with S.Semi) read_semi) depth
        (the_symbol S.End)
    semis-part = reads-many IsSemi IsSemi read_semi (begins_with S.Semi) depth behind_semi (the_symbol S.End)
        (the_symbol S.Semi) (the_symbol S.Semi) (tests-symbol S.Semi) reads-semi firsts-semi firsts-semi
        (part-self (the_symbol S.Semi)) (record { shown = refl }) (record { shown = refl })
        (record { shown = refl })

    procs-part : Reads (Many (IsProcedure own_brackets own_blocks)) (Many (IsProcedure any blocks))
        (many begins_procedure read_procedure) depth behind_semi
    procs-part = reads-many (IsProcedure own_brackets own_blocks) (IsProcedure any blocks) read_procedure
        begins_procedure depth everything behind_semi the_procedures the_procedures tests-procedure
        (reads-procedure any blocks) (firsts-procedure own_brackets own_blocks) (firsts-procedure any blocks)
        (part-self the_procedures) (record { shown = refl }) (part-everything behind_semi)
        (part-everything the_procedures)

    vars-part : Reads (Many IsVariable) (Many IsVariable) (many (begins_with S.Var) read_variable) depth
        behind_procedure
    vars-part = reads-many IsVariable IsVariable read_variable (begins_with S.Var) depth behind_variable
        behind_procedure (the_symbol S.Var) (the_symbol S.Var) (tests-symbol S.Var) reads-variable
        firsts-variable
        firsts-variable (part-self (the_symbol S.Var)) (record { shown = refl }) (record { shown = refl })
        (record { shown = refl })

    given-part : Reads (IsPerhapsGroup IsGiven) (IsPerhapsGroup IsGiven) (read_perhaps_group read_given)
        depth
        behind_variable
    given-part = reads-perhaps_group IsGiven IsGiven read_given depth everything the_names reads-given
        firsts-given
        (part-everything (the_symbol S.Comma)) (part-everything (the_symbol S.Close)) behind_variable
        (record { shown = refl })

    pub reads-cat : Reads (IsCat own_brackets own_blocks) (IsCat any blocks) read_cat depth everything
    unfolding IsCat read_cat
    reads-cat = after (reads-symbol S.Cat depth sample-Cat) (λ line. after a-name (λ name.
        reads-then given-part (λ given.
        reads-then vars-part (λ vars.
        reads-then procs-part (λ procs.
        reads-then semis-part (λ semis.
        last (λ end. record { name = name; given = given; vars = vars; procs = procs; semis = semis })
        (reads-symbol S.End depth sample-End))
        (λ semis. leads-firsts everything (firsts-then (firsts-symbol S.End))
        (part-self (the_symbol S.End))))
        (λ procs. leads-then (leads-many firsts-semi (record { shown = refl }) (record { shown = refl }))
        (λ semis. leads-firsts everything (firsts-then (firsts-symbol S.End))
        (part-self (the_symbol S.End)))))
        (λ vars. leads-then (leads-many {behind = behind_semi} (firsts-procedure any blocks)
        (record { shown = refl })
        (record { shown = refl }))
        (λ procs. leads-then (leads-many firsts-semi (record { shown = refl }) (record { shown = refl }))
        (λ semis. leads-firsts everything (firsts-then (firsts-symbol S.End))
        (part-self (the_symbol S.End))))))
        (λ given. leads-then (leads-many {behind = behind_procedure} firsts-variable
        (record { shown = refl }) (record { shown = refl }))
        (λ vars. leads-then (leads-many {behind = behind_semi} (firsts-procedure any blocks)
        (record { shown = refl })
        (record { shown = refl }))
        (λ procs. leads-then (leads-many firsts-semi (record { shown = refl }) (record { shown = refl }))
        (λ semis. leads-firsts everything (firsts-then (firsts-symbol S.End))
        (part-self (the_symbol S.End))))))))

    firsts-cat : Firsts (IsCat any blocks) (the_symbol S.Cat)
    unfolding IsCat
    firsts-cat = firsts-then (firsts-symbol S.Cat)

  boxes-part : Reads (Many IsBox) (Many IsBox) (many (begins_with S.Box) read_box) depth nothing
  boxes-part = reads-many IsBox IsBox read_box (begins_with S.Box) depth (the_symbol S.Box) nothing
      (the_symbol S.Box)
      (the_symbol S.Box) (tests-symbol S.Box) reads-box firsts-box firsts-box (part-self (the_symbol S.Box))
      (record { shown = refl }) (record { shown = refl }) (part-self (the_symbol S.Box))

  cats-part : (any blocks : ℕ) → Reads (Many (IsCat own_brackets own_blocks)) (Many (IsCat any blocks))
      (many (begins_with S.Cat) read_cat) depth (the_symbol S.Box)
  cats-part any blocks = reads-many (IsCat own_brackets own_blocks) (IsCat any blocks) read_cat
      (begins_with S.Cat)
      depth everything (the_symbol S.Box) (the_symbol S.Cat) (the_symbol S.Cat) (tests-symbol S.Cat)
      (reads-cat any blocks) (firsts-cat own_brackets own_blocks) (firsts-cat any blocks)
      (part-self (the_symbol S.Cat)) (record { shown = refl }) (part-everything (the_symbol S.Box))
      (part-everything (the_symbol S.Cat))

  -- Reading a program tells of programs of any depth, behind which no word stands.
  pub reads-program : (any blocks : ℕ) →
      Reads (IsProgram own_brackets own_blocks) (IsProgram any blocks) read_program depth nothing
  unfolding IsProgram read_program
  reads-program any blocks = after (reads-symbol S.Seuss depth sample-Seuss) (λ line.
      after (reads-word as_version sample-version depth false) (λ version.
      reads-then (cats-part any blocks) (λ cats.
      last (λ boxes. record { cats = cats; boxes = boxes }) boxes-part)
      (λ cats. leads-then (leads-many firsts-box (part-self (the_symbol S.Box)) (record { shown = refl }))
      (λ boxes. leads-only (part-self nothing)))))
