-- Symbols more, and then one step.
use Rattle.std.proofs.Common.{◌≡◌, sym, ap, subst, ◌∙◌, List, [], ◌∷◌, ◌++◌, length, map}
use Rattle.std.specs.List.{AllByRecursion}
use Rattle.hol_spec.specs.Symbols.{Symbol}
use Rattle.hol_spec.specs.Proofs.{Made, IsStep}
use Rattle.hol_defs.specs.Symbols.{Taken, symbols_at, AreKnownSymbols}
use Rattle.hol_term.specs.Tables.{Trees}
use Rattle.hol_variables.specs.declared.ParamMemo.{ParamMemo}
use Rattle.hol_rules.specs.declared.made.Made.{Made as OneMade}
use Rattle.hol_rules.specs.declared.made.Made.TheVariants as one
use Rattle.hol_rules.specs.declared.made.Step.{Step}
use Rattle.hol_rules.specs.Views.{step_view, steps_view, made_of, made_view, symbol_count, IsNumbered, IsStepKnown, IsKept}
use Rattle.hol_rules.proofs.Pushed.{made_view-pushed, IsKept-pushed}
use Rattle.hol_rules.proofs.Taken.{AreTakenAfter, made_view-symbols, IsKept-symbols}

-- symbols that are new, with how they were made
pub record AreNewly (trees : Trees) (symbols after : List Taken) (xs : List Step) (ys : List OneMade) (new : List Symbol) : Type 0 where
  pub is : symbols_at trees after ≡ symbols_at trees symbols ++ new
  pub names : made_of new (steps_view trees xs) ys ≡ map Made.symbol new
  pub known : AreKnownSymbols trees after
  pub numbered : AllByRecursion (IsNumbered (length xs)) ys
  pub count : symbol_count ys ≡ length new
  pub takes : AreTakenAfter (symbols_at trees symbols) new

module _ (trees : Trees) (symbols : List Taken) (xs : List Step) (ms : List OneMade) {memo : ParamMemo} (h : IsKept trees symbols xs ms memo)
    (after : List Taken) (ys : List OneMade) (new : List Symbol) (n : AreNewly trees symbols after xs ys new) (x : Step) where
  taken : IsKept trees after xs (ms ++ ys) memo
  taken = IsKept-symbols trees symbols xs ms h after new n.is ys n.names n.known n.numbered n.count n.takes

  taken_view : made_view trees after xs (ms ++ ys) ≡ made_view trees symbols xs ms ++ map Made.symbol new
  taken_view = made_view-symbols trees symbols xs ms h after new n.is ys n.names

  pub made_view-defined : made_view trees after (xs ++ x ∷ []) ((ms ++ ys) ++ one.Step (length xs) ∷ [])
      ≡ (made_view trees symbols xs ms ++ map Made.symbol new) ++ Made.step (step_view trees x) ∷ []
  made_view-defined = made_view-pushed trees after xs (ms ++ ys) taken x ∙ ap (λ l. l ++ Made.step (step_view trees x) ∷ []) taken_view

  pub IsKept-defined : IsStepKnown trees x → IsStep (made_view trees symbols xs ms ++ map Made.symbol new) (step_view trees x)
      → IsKept trees after (xs ++ x ∷ []) ((ms ++ ys) ++ one.Step (length xs) ∷ []) memo
  IsKept-defined known follows = IsKept-pushed trees after xs (ms ++ ys) taken x known (subst (λ m. IsStep m (step_view trees x)) (sym taken_view) follows)
