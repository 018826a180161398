-- The least level over pairs of members.
use Rattle.std.proofs.Common.{◌≡◌, ℕ, zero, suc, ◌+◌, ◌<◌, ◌≤◌, ◌⊎◌, inl, inr, List, [], ◌∷◌, ◌++◌, length}
use Rattle.std.proofs.Common.{take, get_or, Some, refl, sym, ap, ◌∙◌, subst, arith, length-append}
use Rattle.std.specs.Prelude.{slice_get}
use Rattle.std.proofs.lemmas.Bool.{cases_lt}
use Rattle.std.proofs.lemmas.List.{take_more}
use Rattle.std.proofs.lemmas.Option.{none-some, slice_get_within, slice_get-get_or}
use Rattle.seuss_base.specs.declared.level.Level.{Level}
use Rattle.seuss_base.specs.declared.level.Level.TheVariants.{Firm}
use Rattle.seuss_base.specs.Levels.{IsAtLeast}
use Rattle.seuss_base.specs.Tables.{Table, level_at, Sets}
use Rattle.seuss_program.specs.Lines.{IsIn}
use Rattle.seuss_program.specs.declared.tree.Ref.{Ref}
use Rattle.seuss_program.specs.declared.tree.Form.{Form}
use Rattle.seuss_program.specs.declared.tree.Proc.{Proc}
use Rattle.seuss_program.specs.declared.program.Program.{Program}
use Rattle.seuss_program.specs.declared.program.ActionInfo.{ActionInfo}
use Rattle.seuss_program.specs.Programs.{procedure_of}
use Rattle.method_code.specs.Codes.{cat_number}
use Rattle.compat_matrix.specs.declared.part.Part.{Part}
use Rattle.compat_matrix.specs.declared.member.Member.{Member}
use Rattle.compat_matrix.specs.Rule.{IsAmong, IsRule, Tested, Apart, Certified, Free, Pair, IsLevel}
use Rattle.compat_matrix.specs.Rule.{CertifiedLevels}
use Rattle.compat_matrix.specs.Rules.{ruled}
use Rattle.compat_matrix.specs.Members.{Lists, HasEffects, AreMembers, AreAllMembers}
use Rattle.compat_matrix.specs.Leasts.{Meet, IsLeast, IsLower, HasCells, between}
use Rattle.compat_matrix.proofs.TextCalls.{in_left, in_right, in_either}
use Rattle.compat_matrix.proofs.MemberLemmas.{one_procedure}
use Rattle.compat_matrix.proofs.Walking.{no_member}
use Rattle.compat_matrix.proofs.Ruling.{rule_is}

module _ (p : Program) (L : CertifiedLevels) where
  -- the least level of two lists of pairs is the lower one of their least levels
  pub least_before : (xs ys : List Member) → (xs ≡ []) ⊎ (ys ≡ []) → IsLeast p L xs ys Firm
  least_before xs ys none = record { least = λ found m. absurd (by none m); met = inl refl }
    where
      by : {found : Level} → (xs ≡ []) ⊎ (ys ≡ []) → Meet p L xs ys found → ⊥
      by (inl e) m = subst (λ l. IsIn m.first l) e m.among
      by (inr e) m = subst (λ l. IsIn m.second l) e m.beside

  module _ (one other level : Level) (lower : IsLower one other level) where
    left_above : (found : Level) → IsAtLeast found one → IsAtLeast found level
    left_above found h = let l = lower.one_above in omega (arith, h, l)

    right_above : (found : Level) → IsAtLeast found other → IsAtLeast found level
    right_above found h = let l = lower.other_above in omega (arith, h, l)

    -- two members that meet, as members of other lists
    meets : (xs ys us ws : List Member) (found : Level) (m : Meet p L xs ys found) → IsIn m.first us →
        IsIn m.second ws → Meet p L us ws found
    meets xs ys us ws found m among beside = record {
      first = m.first;
      second = m.second;
      among = among;
      beside = beside;
      box = m.box;
      rule = m.rule;
    }

    -- the lower one of two least levels, where the members that meet are those of either
    joined : (xs ys us ws zs vs : List Member) → IsLeast p L us ws one → IsLeast p L zs vs other →
        ((found : Level) → Meet p L xs ys found → Meet p L us ws found ⊎ Meet p L zs vs found) →
        (Meet p L us ws one → Meet p L xs ys one) → (Meet p L zs vs other → Meet p L xs ys other) →
        IsLeast p L xs ys level
    joined xs ys us ws zs vs a b either left right = record {
      least = λ found m. above found (either found m);
      met = met lower.either a.met b.met;
    }
      where
        above : (found : Level) → Meet p L us ws found ⊎ Meet p L zs vs found → IsAtLeast found level
        above found (inl m) = left_above found (a.least found m)
        above found (inr m) = right_above found (b.least found m)

        met : (level ≡ one) ⊎ (level ≡ other) → (one ≡ Firm) ⊎ Meet p L us ws one →
            (other ≡ Firm) ⊎ Meet p L zs vs other → (level ≡ Firm) ⊎ Meet p L xs ys level
        met (inl e) (inl firm) r = inl (e ∙ firm)
        met (inl e) (inr m) r = inr (subst (λ k. Meet p L xs ys k) (sym e) (left m))
        met (inr e) l (inl firm) = inl (e ∙ firm)
        met (inr e) l (inr m) = inr (subst (λ k. Meet p L xs ys k) (sym e) (right m))

    -- of two parts of the members on the right
    pub least_right : (xs ys zs : List Member) → IsLeast p L xs ys one → IsLeast p L xs zs other →
        IsLeast p L xs (ys ++ zs) level
    least_right xs ys zs a b = joined xs (ys ++ zs) xs ys xs zs a b
        (λ found m. part found m (in_either m.second ys zs m.beside))
        (λ m. meets xs ys xs (ys ++ zs) one m m.among (in_left m.second ys zs m.beside))
        (λ m. meets xs zs xs (ys ++ zs) other m m.among (in_right m.second ys zs m.beside))
      where
        part : (found : Level) (m : Meet p L xs (ys ++ zs) found) → IsIn m.second ys ⊎ IsIn m.second zs →
            Meet p L xs ys found ⊎ Meet p L xs zs found
        part found m (inl h) = inl (meets xs (ys ++ zs) xs ys found m m.among h)
        part found m (inr h) = inr (meets xs (ys ++ zs) xs zs found m m.among h)

    -- of two parts of the members on the left
    pub least_left : (xs zs ys : List Member) → IsLeast p L xs ys one → IsLeast p L zs ys other →
        IsLeast p L (xs ++ zs) ys level
    least_left xs zs ys a b = joined (xs ++ zs) ys xs ys zs ys a b
        (λ found m. part found m (in_either m.first xs zs m.among))
        (λ m. meets xs ys (xs ++ zs) ys one m (in_left m.first xs zs m.among) m.beside)
        (λ m. meets zs ys (xs ++ zs) ys other m (in_right m.first xs zs m.among) m.beside)
      where
        part : (found : Level) (m : Meet p L (xs ++ zs) ys found) → IsIn m.first xs ⊎ IsIn m.first zs →
            Meet p L xs ys found ⊎ Meet p L zs ys found
        part found m (inl h) = inl (meets (xs ++ zs) ys xs ys found m h m.beside)
        part found m (inr h) = inr (meets (xs ++ zs) ys zs ys found m h m.beside)

    -- the same in a loop
    pub right_step : (xs ys : List Member) (at : ℕ) → at < length ys → IsLeast p L xs (take at ys) one →
        IsLeast p L xs (get_or ys at no_member ∷ []) other → IsLeast p L xs (take (at + 1) ys) level
    right_step xs ys at less a b = subst (λ l. IsLeast p L xs l level) (sym (take_more ys at no_member less))
        (least_right xs (take at ys) (get_or ys at no_member ∷ []) a b)

    pub left_step : (xs ys : List Member) (at : ℕ) → at < length xs → IsLeast p L (take at xs) ys one →
        IsLeast p L (get_or xs at no_member ∷ []) ys other → IsLeast p L (take (at + 1) xs) ys level
    left_step xs ys at less a b = subst (λ l. IsLeast p L l ys level) (sym (take_more xs at no_member less))
        (least_left (take at xs) (get_or xs at no_member ∷ []) ys a b)

  get_in : (xs : List Member) (n : ℕ) (x : Member) → slice_get xs n ≡ Some x → IsIn x xs
  get_in [] n x h = absurd (none-some x h)
  get_in (y ∷ xs) zero x h = inl cc
  get_in (y ∷ xs) (suc n) x h = inr (get_in xs n x h)

  in_get : (xs : List Member) (x : Member) → IsIn x xs → (n : ℕ) × (slice_get xs n ≡ Some x)
  in_get [] x h = elim h [ ]
  in_get (y ∷ xs) x (inl e) = (0, ap (λ (z : Member). Some z) e)
  in_get (y ∷ xs) x (inr h) = let found = in_get xs x h in (suc found.0, found.1)

  -- the rule gives one level
  rule_unique : (part other : Part) (m n : Form Ref) (certified level found : Level) →
      IsRule part other m n certified level → IsRule part other m n certified found → level ≡ found
  rule_unique part other m n certified level found (Tested t) (Tested t') = refl
  rule_unique part other m n certified level found (Tested t) (Apart t' l k) = absurd (t' t)
  rule_unique part other m n certified level found (Tested t) (Certified t' l k) = absurd (t' t)
  rule_unique part other m n certified level found (Tested t) (Free t' l) = absurd (t' t)
  rule_unique part other m n certified level found (Apart t l k) (Tested t') = absurd (t t')
  rule_unique part other m n certified level found (Apart t l k) (Apart t' l' k') = refl
  rule_unique part other m n certified level found (Apart t l k) (Certified t' l' k') = absurd (k' k)
  rule_unique part other m n certified level found (Apart t l k) (Free t' l') = absurd (l' l)
  rule_unique part other m n certified level found (Certified t l k) (Tested t') = absurd (t t')
  rule_unique part other m n certified level found (Certified t l k) (Apart t' l' k') = absurd (k k')
  rule_unique part other m n certified level found (Certified t l k) (Certified t' l' k') = refl
  rule_unique part other m n certified level found (Certified t l k) (Free t' l') = absurd (l' l)
  rule_unique part other m n certified level found (Free t l) (Tested t') = absurd (t t')
  rule_unique part other m n certified level found (Free t l) (Apart t' l' k') = absurd (l l')
  rule_unique part other m n certified level found (Free t l) (Certified t' l' k') = absurd (l l')
  rule_unique part other m n certified level found (Free t l) (Free t' l') = refl

  module _ (a b : ActionInfo) (xs ys : List Member) (first : AreMembers p a xs)
      (second : AreMembers p b ys) where
    -- two members on one box have the level of their procedures
    of_members : (i j : ℕ) (x y : Member) → slice_get xs i ≡ Some x → slice_get ys j ≡ Some y →
        x.box_number ≡ y.box_number → Pair p L a b (ruled x y (between p L x y))
    of_members i j x y here there box =
        let left = first.sound i x here in
        let right = second.sound j y there in
        record {
          box = x.box_number;
          first = x.procedure;
          second = y.procedure;
          part = x.part;
          other = y.part;
          among = left.1;
          beside = subst (λ k. IsAmong p b k y.procedure y.part) (sym box) right.1;
          m = left.0.procedure;
          n = right.0.procedure;
          there = left.0.there;
          here = ap (λ k. procedure_of p k y.procedure) box ∙ right.0.there;
          rule = rule_is x y left.0.procedure right.0.procedure left.0.effects right.0.effects left.0.small
              right.0.small (between p L x y);
        }

    module _ (found : Level) (pair : Pair p L a b found) where
      abbrev l : Lists xs pair.box pair.first pair.part
      l = first.whole pair.box pair.first pair.part pair.m pair.among pair.there

      abbrev r : Lists ys pair.box pair.second pair.other
      r = second.whole pair.box pair.second pair.other pair.n pair.beside pair.here

      abbrev x : Member
      x = l.member

      abbrev y : Member
      y = r.member

      abbrev left : HasEffects p x
      left = (first.sound l.at x l.there).0

      abbrev right : HasEffects p y
      right = (second.sound r.at y r.there).0

      same_first : left.procedure ≡ pair.m
      same_first = one_procedure (procedure_of p pair.box pair.first) left.procedure pair.m
          (sym (ap (λ k. procedure_of p k x.procedure) l.is.same_box ∙ ap (λ k. procedure_of p pair.box k)
          l.is.same_number) ∙ left.there) pair.there

      same_second : right.procedure ≡ pair.n
      same_second = one_procedure (procedure_of p pair.box pair.second) right.procedure pair.n
          (sym (ap (λ k. procedure_of p k y.procedure) r.is.same_box ∙ ap (λ k. procedure_of p pair.box k)
          r.is.same_number) ∙ right.there) pair.here

      rule : IsRule pair.part pair.other pair.m.form pair.n.form (between p L x y)
          (ruled x y (between p L x y))
      rule =
          subst (λ t. IsRule t pair.other pair.m.form pair.n.form (between p L x y)
          (ruled x y (between p L x y))) l.is.same_part
          (subst (λ t. IsRule x.part t pair.m.form pair.n.form (between p L x y)
          (ruled x y (between p L x y))) r.is.same_part
          (subst (λ (q : Proc Ref).
          IsRule x.part y.part q.form pair.n.form (between p L x y) (ruled x y (between p L x y)))
          same_first
          (subst (λ (q : Proc Ref).
          IsRule x.part y.part left.procedure.form q.form (between p L x y)
          (ruled x y (between p L x y)))
          same_second
          (rule_is x y left.procedure right.procedure left.effects right.effects left.small right.small
          (between p L x y)))))

      same_certificate : between p L x y ≡ L (cat_number (slice_get p.boxes pair.box)) pair.first pair.second
      same_certificate =
          ap (λ k. L (cat_number (slice_get p.boxes k)) x.procedure y.procedure) l.is.same_box
          ∙ (ap (λ k. L (cat_number (slice_get p.boxes pair.box)) k y.procedure) l.is.same_number
          ∙ ap (λ k. L (cat_number (slice_get p.boxes pair.box)) pair.first k) r.is.same_number)

      same : ruled x y (between p L x y) ≡ found
      same = rule_unique pair.part pair.other pair.m.form pair.n.form (between p L x y)
          (ruled x y (between p L x y)) found rule
          (subst (λ k. IsRule pair.part pair.other pair.m.form pair.n.form k found) (sym same_certificate)
          pair.rule)

      above_least : (level : Level) → IsLeast p L xs ys level → IsAtLeast found level
      above_least level is =
          subst (λ k. IsAtLeast k level) same
          (is.least (ruled x y (between p L x y)) (record {
            first = x;
            second = y;
            among = get_in xs l.at x l.there;
            beside = get_in ys r.at y r.there;
            box = l.is.same_box ∙ sym r.is.same_box;
            rule = refl;
          }))

    -- the least level of the members of two actions is their level
    pub level_is : (level : Level) → IsLeast p L xs ys level → IsLevel p L a b level
    level_is level is = record { least = λ found pair. above_least found pair level is; met = met is.met }
      where
        met : (level ≡ Firm) ⊎ Meet p L xs ys level → (level ≡ Firm) ⊎ Pair p L a b level
        met (inl e) = inl e
        met (inr m) =
            let i = in_get xs m.first m.among in
            let j = in_get ys m.second m.beside in
            inr (subst (λ k. Pair p L a b k) m.rule (of_members i.0 j.0 m.first m.second i.1 j.1
            m.box))

  -- the members of one action more
  each_more : (p : Program) (actions : List ActionInfo) (all : List (List Member)) (a : ActionInfo)
      (ms : List Member) → length all ≡ length actions →
      ((at : ℕ) (b : ActionInfo) (ns : List Member) → slice_get actions at ≡ Some b →
      slice_get all at ≡ Some ns → AreMembers p b ns) → AreMembers p a ms →
      (at : ℕ) (b : ActionInfo) (ns : List Member) → slice_get (actions ++ (a ∷ [])) at ≡ Some b →
      slice_get (all ++ (ms ∷ [])) at ≡ Some ns → AreMembers p b ns
  each_more p [] [] a ms count each one zero b ns h g = subst (λ (x : ActionInfo). AreMembers p x ns)
      (same a b h) (subst (λ (l : List Member). AreMembers p a l) (same ms ns g) one)
    where
      same : {A : Type 0} (x y : A) → Some x ≡ Some y → x ≡ y
      same x y e = cc
  each_more p [] [] a ms count each one (suc at) b ns h g = absurd (none-some b h)
  each_more p [] (l ∷ all) a ms count each one at b ns h g = absurd (omega (arith, count))
  each_more p (c ∷ actions) [] a ms count each one at b ns h g = absurd (omega (arith, count))
  each_more p (c ∷ actions) (l ∷ all) a ms count each one zero b ns h g = each 0 b ns h g
  each_more p (c ∷ actions) (l ∷ all) a ms count each one (suc at) b ns h g =
      each_more p actions all a ms (omega (arith, count)) (λ k b ns h g. each (suc k) b ns h g) one at b ns h
      g

  pub all_more : (p : Program) (actions : List ActionInfo) (all : List (List Member)) (at : ℕ)
      (none : ActionInfo) (ms : List Member) → at < length actions →
      AreAllMembers p (take at actions) all → AreMembers p (get_or actions at none) ms → AreAllMembers p
      (take (at + 1) actions) (all ++ (ms ∷ []))
  all_more p actions all at none ms less are one =
      subst (λ xs. AreAllMembers p xs (all ++ (ms ∷ []))) (sym (take_more actions at none less)) (record {
        count = omega (
          arith,
          are.count,
          length-append all (ms ∷ []),
          length-append (take at actions)
              (get_or actions at none ∷ []),
        );
        each = each_more p (take at actions) all (get_or actions at none) ms are.count are.each one;
      })

  -- a row more, and a cell more, has its level
  pub next_row : (all : List (List Member)) (table : Table) (row : ℕ) →
      HasCells p L all table row (length all) →
      HasCells p L all table (row + 1) 0
  next_row all table row has = record {
    before = λ a b xs ys less within x y. by a b xs ys within x y
        (cases_lt a row) less;
    here = λ b xs ys less x y. absurd (omega (arith, less));
  }
    where
      by : (a b : ℕ) (xs ys : List Member) → b < length all → slice_get all a ≡ Some xs →
          slice_get all b ≡ Some ys → (a < row) ⊎ (row ≤ a) → a < row + 1 →
          IsLeast p L xs ys (level_at table a b)
      by a b xs ys within x y (inl less) le = has.before a b xs ys less within x y
      by a b xs ys within x y (inr above) le =
          let same : a ≡ row = omega (arith, above, le) in
          subst (λ k. IsLeast p L xs ys (level_at table k b)) (sym same) (has.here b xs ys within
          (ap (slice_get all) (sym same) ∙ x) y)

  pub next_cell : (all : List (List Member)) (old new : Table) (row column : ℕ) (xs ys : List Member)
      (level : Level) → old.count ≡ length all → row < length all → column < length all →
      slice_get all row ≡ Some xs → slice_get all column ≡ Some ys → IsLeast p L xs ys level →
      Sets old new row column level → HasCells p L all old row column → HasCells p L all new row (column + 1)
  next_cell all old new row column xs ys level count in_rows in_columns is_row is_column least sets has =
      record {
        before = λ a b vs ws less within v w.
            subst (λ k. IsLeast p L vs ws k) (sym (sets.others a b (omega (arith, less, in_rows, count))
            (omega (arith, within, count)) (inl (λ e. absurd (omega (arith, e, less))))))
            (has.before a b vs ws less within v w);
        here = λ b vs ws less v w. by b vs ws less v w (cases_lt b column);
      }
    where
      one : (vs ws : List Member) → Some vs ≡ Some ws → vs ≡ ws
      one vs ws e = cc

      by : (b : ℕ) (vs ws : List Member) → b < column + 1 → slice_get all row ≡ Some vs →
          slice_get all b ≡ Some ws → (b < column) ⊎ (column ≤ b) → IsLeast p L vs ws (level_at new row b)
      by b vs ws less v w (inl before) =
          subst (λ k. IsLeast p L vs ws k) (sym (sets.others row b (omega (arith, in_rows, count))
          (omega (arith, before, in_columns, count)) (inr (λ e. absurd (omega (arith, e, before))))))
          (has.here b vs ws before v w)
      by b vs ws less v w (inr after) =
          let same : b ≡ column = omega (arith, less, after) in
          let first : xs ≡ vs = one xs vs (sym is_row ∙ v) in
          let second : ys ≡ ws = one ys ws (sym is_column ∙ (ap (slice_get all) (sym same) ∙ w)) in
          subst (λ k. IsLeast p L vs ws (level_at new row k)) (sym same)
          (subst (λ k. IsLeast p L vs ws k) (sym sets.here) (subst (λ vs. IsLeast p L vs ws level) first
          (subst (λ ws. IsLeast p L xs ws level) second least)))

  -- the whole table
  pub table_is : (all : List (List Member)) (table : Table) (a b : ℕ) (x y : ActionInfo) →
      AreAllMembers p p.actions all → HasCells p L all table (length all) 0 →
      slice_get p.actions a ≡ Some x → slice_get p.actions b ≡ Some y → IsLevel p L x y
      (level_at table a b)
  table_is all table a b x y are has here there =
      let in_a : a < length all = omega (arith, slice_get_within p.actions a x here, are.count) in
      let in_b : b < length all = omega (arith, slice_get_within p.actions b y there, are.count) in
      let xs : slice_get all a ≡ Some (get_or all a []) = slice_get-get_or all a [] in_a in
      let ys : slice_get all b ≡ Some (get_or all b []) = slice_get-get_or all b [] in_b in
      level_is x y (get_or all a []) (get_or all b []) (are.each a x (get_or all a []) here xs)
      (are.each b y (get_or all b []) there ys) (level_at table a b)
      (has.before a b (get_or all a []) (get_or all b []) in_a in_b xs ys)
