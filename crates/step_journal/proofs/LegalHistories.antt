-- Legal histories, longer and cut in two.
use Rattle.std.proofs.Common.{List, [], ◌∷◌, ◌++◌, refl, sym, subst}
use Rattle.step_journal.specs.Histories.{IsLegal}

module _ {E V : Type 0} (does : E → V → V → Type 0) where
  -- one step more
  pub legal_push : (v u w : V) (es : List E) (e : E) → IsLegal does v es u → does e u w →
      IsLegal does v (es ++ e ∷ []) w
  legal_push v u w [] e is step = (w, subst (λ (x : V). does e x w) (sym is) step, refl)
  legal_push v u w (f ∷ es) e legal step = (legal.0, legal.1, legal_push legal.0 u w es e legal.2 step)

  -- a beginning and its rest
  pub legal_cut : (v w : V) (es fs : List E) → IsLegal does v (es ++ fs) w → (u : V) × IsLegal does v es u ×
      IsLegal does u fs w
  legal_cut v w [] fs legal = (v, refl, legal)
  legal_cut v w (e ∷ es) fs legal =
      let rest = legal_cut legal.0 w es fs legal.2 in
      (rest.0, (legal.0, legal.1, rest.1), rest.2)
