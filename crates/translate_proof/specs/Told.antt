-- What a module tells of the sequents of a proof.
use Rattle.std.specs.Prelude.{ℕ, List}
use Rattle.std.specs.List.{AllByRecursion}
use Rattle.hol_spec.specs.Proofs.{sequent_at}
use Rattle.hol_spec.specs.Sequents.{Sequent}
use Rattle.hol_rules.specs.Kept.{Kept}
use Rattle.lp_spec.specs.Modules.{Declaration}
use Rattle.translate_spec.specs.Scopes.{SymbolMap}
use Rattle.translate_term.specs.Told.{TellsTerm}
use Rattle.translate_proof.specs.Environments.{Given}

-- the module tells the symbol of each operator and each constant in a sequent
pub record TellsSequent (declarations : List Declaration) (symbols : SymbolMap) (s : Sequent) : Type 0 where
  pub hypotheses : AllByRecursion (TellsTerm declarations symbols) s.hypotheses
  pub conclusion : TellsTerm declarations symbols s.conclusion

-- it tells those of the sequent of a step
abbrev pub TellsStep : Given → Kept → ℕ → Type 0
TellsStep given k id = TellsSequent given.declarations given.symbols (sequent_at k.made id)
