-- What a run made, and which of its steps are assumptions and exports.
use Rattle.std.specs.Prelude.{ℕ, ◌<◌, ◌≤◌, List, ◌++◌, length, map, take, refl, Bool, true, false, Option, Some}
use Rattle.std.specs.Coded.{Coded, code_by, coded×, coded_list, coded_ℕ}
use Rattle.std.specs.List.{AllByRecursion}
use Rattle.hol_spec.specs.Symbols.{Symbol}
use Rattle.hol_spec.specs.Proofs.{Made, steps_of}
use Rattle.hol_proof_laws.specs.ProofCodes.{coded_made}
use Rattle.hol_defs.specs.declared.SymbolKind.{SymbolKind}
use Rattle.hol_defs.specs.declared.SymbolKind.TheVariants.{Primitive, Defined}

-- symbols and steps in order of making; the steps that are assumptions, that are exports, and that earlier articles exported
pub record Run : Type 0 where
  pub made : List Made
  pub assumptions : List ℕ
  pub exports : List ℕ
  pub pool : List ℕ

abbrev pub coded_run : Coded Run
coded_run = code_by ((List Made × List ℕ) × (List ℕ × List ℕ))
    (coded× (coded× (coded_list coded_made) (coded_list coded_ℕ)) (coded× (coded_list coded_ℕ) (coded_list coded_ℕ)))
    (λ r. ((r.made, r.assumptions), (r.exports, r.pool))) (λ p. record { made = p.0.0; assumptions = p.0.1; exports = p.1.0; pool = p.1.1 }) (λ _. refl)

-- the run with these symbols taken
abbrev pub taking : Run → List Symbol → Run
taking r symbols = record r { made = r.made ++ map Made.symbol symbols }

-- how many steps there are, which is the number of the next one
abbrev pub step_count : Run → ℕ
step_count r = length (steps_of r.made)

-- earlier articles exported the first of the exports
abbrev pub run_view : List Made → List ℕ → List ℕ → ℕ → Run
run_view made assumptions exports pool = record { made = made; assumptions = assumptions; exports = exports; pool = take pool exports }

-- the numbers are of steps
abbrev pub AreSteps : List Made → List ℕ → Type 0
AreSteps made ids = AllByRecursion (λ i. i < length (steps_of made)) ids

-- what is known of a run's numbers
pub record IsRunKnown (made : List Made) (assumptions exports : List ℕ) (pool : ℕ) : Type 0 where
  pub assumed : AreSteps made assumptions
  pub exported : AreSteps made exports
  pub earlier : pool ≤ length exports

-- a name of this kind has a type, or a number of arguments, that is settled: it is primitive or defined
abbrev pub is_own_kind : Option SymbolKind → Bool
is_own_kind (Some Primitive) = true
is_own_kind (Some Defined) = true
is_own_kind kind = false
