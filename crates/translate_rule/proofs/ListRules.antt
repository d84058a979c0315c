-- The rule of lists of constants, by what its step was given.
use Rattle.std.proofs.Common.{◌≡◌, refl, sym, subst, List, [], ◌∷◌, Vec, Global}
use Rattle.std.specs.Prelude.{IsTrue}
use Rattle.std.specs.List.{AllByRecursion}
use Rattle.hol_spec.specs.DefinitionLists.{ConstantPairs, is_definition_list}
use Rattle.hol_spec.specs.Names.{Name}
use Rattle.hol_spec.specs.Rules.{Rule, Parameters}
use Rattle.hol_spec.specs.Rules as rule
use Rattle.hol_spec.specs.Sequents.{Sequent}
use Rattle.hol_spec.specs.declared.StepKind.TheVariants as kinds
use Rattle.hol_rules.specs.Views.{parameters_view}
use Rattle.hol_rules.specs.declared.made.Parameters.{Parameters as Given}
use Rattle.hol_rules.specs.declared.made.Parameters.TheVariants as given
use Rattle.hol_term.specs.declared.Variable.{Variable as AVariable}
use Rattle.hol_term.specs.Tables.{Trees}
use Rattle.lp_spec.specs.Modules.{Declaration}
use Rattle.translate_spec.specs.Scopes.{SymbolMap}
use Rattle.translate_term.specs.Told.{TellsConstant}
use Rattle.translate_rule.specs.Steps.{TellsGiven}

-- what is told of the constants that it was given
pub list-told : (d : List Declaration) (tables : SymbolMap) (pairs : ConstantPairs) (g : Parameters) → Parameters.constants pairs ≡ g → TellsGiven d tables g
    → AllByRecursion (λ p. TellsConstant d tables p.0 p.1.1) pairs
list-told d tables pairs g e h = subst (TellsGiven d tables) (sym e) h

-- they are a list that the premise defines
list-of : (pairs : ConstantPairs) (one s : Sequent) → Rule kinds.DefineConstList (one ∷ []) (Parameters.constants pairs) s
    → IsTrue (is_definition_list pairs one)
list-of pairs one s (rule.define_const_list d l e) = l

pub list-defined : (pairs : ConstantPairs) (g : Parameters) (one s : Sequent) → Rule kinds.DefineConstList (one ∷ []) g s → Parameters.constants pairs ≡ g
    → IsTrue (is_definition_list pairs one)
list-defined pairs g one s r e = list-of pairs one s (subst (λ g. Rule kinds.DefineConstList (one ∷ []) g s) (sym e) r)

-- such a step was given constants
pub list-given : (trees : Trees) (p : Given) (g : Parameters) (one s : Sequent) → Rule kinds.DefineConstList (one ∷ []) g s → parameters_view trees p ≡ g
    → ((x : Vec (Name × AVariable) Global) → p ≡ given.List x → ⊥) → ⊥
list-given trees p g one s (rule.define_const_list {pairs = ps} d l e) is other = go p is other
  where
    go : (p : Given) → parameters_view trees p ≡ Parameters.constants ps → ((x : Vec (Name × AVariable) Global) → p ≡ given.List x → ⊥) → ⊥
    go given.Nothing e o = absurd (cc)
    go (given.Term t) e o = absurd (cc)
    go (given.Variable v) e o = absurd (cc)
    go (given.Sequent q) e o = absurd (cc)
    go (given.Subst x) e o = absurd (cc)
    go (given.Const n t) e o = absurd (cc)
    go (given.List x) e o = o x refl
    go (given.TypeOp new) e o = absurd (cc)
