-- What an engine is made from.
use Rattle.std.proofs.Common.{◌≡◌, ℕ, ◌<◌, ◌≤◌, List, length, sym, ap, ◌∙◌, subst, arith, All, get_or}
use Rattle.std.specs.List.{range_with_len}
use Rattle.std.proofs.lemmas.List.Elements.{All-from_get_or}
use Rattle.std.proofs.lemmas.List.FromFn.{length-range_with_len, get_or-range_with_len}
use Rattle.seuss_base.specs.Tables.{Table}
use Rattle.seuss_program.specs.declared.program.Program.{Program}
use Rattle.seuss_program.specs.declared.state.State.{State}
use Rattle.seuss_program.specs.declared.state.Value.{Value}
use Rattle.seuss_program.specs.Programs.{vars_of}
use Rattle.seuss_program.specs.Keeping.{Keeps, HasForm}
use Rattle.method_code.specs.declared.method.Method.{Method}
use Rattle.method_code.specs.declared.plan.Plan.{Plan}
use Rattle.method_code.specs.Plans.{AreMadeFrom}
use Rattle.loose_records.specs.Settings.{setting_of}
use Rattle.atomic_table.specs.Seated.{TableId}
use Rattle.pass_seats.specs.Names.{Names, AreNames}
use Rattle.pass_seats.specs.Opening.{BlankState, names_of}
use Rattle.shared_engine.specs.Rings.{IsSetUp}

-- each of the first numbers is below their count
below_all : (n : ℕ) → All (λ (a : ℕ). a < n) (range_with_len 0 n)
below_all n =
    All-from_get_or (λ (a : ℕ). a < n) (range_with_len 0 n) 0
    (λ i less. below i (omega (arith, less, length-range_with_len 0 n)))
  where
    below : (i : ℕ) → i < n → get_or (range_with_len 0 n) i 0 < n
    below i less = omega (arith, get_or-range_with_len 0 n i 0 less, less)

-- the names of an engine for a checked program
module _ (p : Program) (running : List Method) (plan : Plan) (rows : Table) (from : State)
    (rounds budget seats : ℕ)
    (blank : BlankState) (names : Names) (code : List Method) (first : ℕ → List Value)
    (is : names ≡ names_of blank seats (setting_of p rows rounds budget) from)
    (keeps : Keeps p) (made : AreMadeFrom p running plan) (form : HasForm p from) (small : budget ≤ 1000000)
    (code_is : running ≡ code) (first_is : first ≡ vars_of from) (tables : length blank.boxes ≡ length p.boxes) where
  abbrev made_of : Names
  made_of = names_of blank seats (setting_of p rows rounds budget) from

  -- they are names of that program
  pub are_names : AreNames names code first
  are_names =
      let core : AreNames made_of code first = record {
        code_is = sym code_is ∙ made.code_is;
        first_is = first_is;
        keeps = keeps;
        form = form;
        boxes = tables;
        actions = below_all (length p.actions);
        budget = small;
      } in
      subst (λ (n : Names). AreNames n code first) (sym is) core

  -- and an engine with them is set up
  pub is_set_up : (parts : ℕ) (quit : TableId) → quit ≡ names.quit → parts ≡ seats →
      IsSetUp names code first parts running plan from budget quit
  is_set_up parts quit quit_is parts_is = record {
    named = are_names;
    code_is = code_is;
    made = subst (λ (q : Program). AreMadeFrom q running plan) (sym (ap (λ (n : Names). n.setting.program) is)) made;
    from_is = sym (ap (λ (n : Names). n.first) is);
    budget_is = sym (ap (λ (n : Names). n.setting.budget) is);
    quit_is = quit_is;
    parts_is = parts_is ∙ sym (ap (λ (n : Names). n.seats) is);
  }
