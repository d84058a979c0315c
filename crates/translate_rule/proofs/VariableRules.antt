-- The rule of abstraction, by what its step was given.
use Rattle.std.proofs.Common.{◌≡◌, refl, sym, ap, subst, List, [], ◌∷◌}
use Rattle.hol_spec.specs.Rules.{Rule, Parameters}
use Rattle.hol_spec.specs.Rules as rule
use Rattle.hol_spec.specs.Sequents.{Sequent}
use Rattle.hol_spec.specs.Terms.{Variable}
use Rattle.hol_spec.specs.declared.StepKind.TheVariants as kinds
use Rattle.hol_rules.specs.Views.{parameters_view}
use Rattle.hol_rules.specs.declared.made.Parameters.{Parameters as Given}
use Rattle.hol_rules.specs.declared.made.Parameters.TheVariants as given
use Rattle.hol_term.specs.declared.Variable.{Variable as AVariable}
use Rattle.hol_term.specs.Tables.{Trees}
use Rattle.lp_spec.specs.Modules.{Declaration}
use Rattle.translate_spec.specs.Scopes.{SymbolMap}
use Rattle.translate_term.specs.Told.{TellsType, TellsTerm}
use Rattle.translate_proof.specs.Told.{TellsSequent}

-- the type of the variable is told where the sequent is
variable-of : (d : List Declaration) (tables : SymbolMap) (v : Variable) (one s : Sequent) → Rule kinds.AbsThm (one ∷ []) (Parameters.variable v) s
    → TellsSequent d tables s → TellsType d tables v.1
variable-of d tables v one s (rule.abs_thm e f i) h = let whole = subst (TellsTerm d tables) (ap (λ (s : Sequent). s.conclusion) i) h.conclusion in whole.0.1.0

pub variable-told : (d : List Declaration) (tables : SymbolMap) (v : Variable) (g : Parameters) (one s : Sequent) → Rule kinds.AbsThm (one ∷ []) g s
    → Parameters.variable v ≡ g → TellsSequent d tables s → TellsType d tables v.1
variable-told d tables v g one s r e h = variable-of d tables v one s (subst (λ g. Rule kinds.AbsThm (one ∷ []) g s) (sym e) r) h

-- such a step was given a variable
pub variable-given : (trees : Trees) (p : Given) (g : Parameters) (one s : Sequent) → Rule kinds.AbsThm (one ∷ []) g s → parameters_view trees p ≡ g
    → ((x : AVariable) → p ≡ given.Variable x → ⊥) → ⊥
variable-given trees p g one s (rule.abs_thm {v = w} e f i) is other = go p is other
  where
    go : (p : Given) → parameters_view trees p ≡ Parameters.variable w → ((x : AVariable) → p ≡ given.Variable x → ⊥) → ⊥
    go given.Nothing e o = absurd (cc)
    go (given.Term t) e o = absurd (cc)
    go (given.Variable v) e o = o v refl
    go (given.Sequent q) e o = absurd (cc)
    go (given.Subst x) e o = absurd (cc)
    go (given.Const n t) e o = absurd (cc)
    go (given.List ps) e o = absurd (cc)
    go (given.TypeOp new) e o = absurd (cc)
