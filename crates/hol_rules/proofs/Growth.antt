-- Where types and terms come, what was made stays.
use Rattle.std.proofs.Common.{◌≡◌, ◌<◌, refl, sym, ap, subst, ◌∙◌, arith, List, [], ◌∷◌, length}
use Rattle.std.specs.List.{AllByRecursion}
use Rattle.hol_spec.specs.Names.{Name}
use Rattle.hol_spec.specs.Rules as rule
use Rattle.hol_spec.specs.Proofs.{steps_of, symbols_of, IsProof}
use Rattle.hol_type.specs.TableLaws as type_law
use Rattle.hol_term.specs.declared.Variable.{Variable}
use Rattle.hol_term.specs.Tables.{Trees, Keeps}
use Rattle.hol_term.specs.TableLaws as table_law
use Rattle.hol_defs.specs.Lists.{pairs_at, ArePairsKnown}
use Rattle.hol_defs.specs.Symbols.{Taken, AreKnownSymbols}
use Rattle.hol_defs.specs.SymbolLaws.{symbols_at-Keeps, AreKnownSymbols-Keeps}
use Rattle.hol_variables.specs.declared.ParamMemo.{ParamMemo}
use Rattle.hol_variables.specs.NotedLaws.{AreNoted-keeps}
use Rattle.sequent.specs.declared.Sequent.{Sequent}
use Rattle.sequent.specs.Sequents.{sequent_at, IsKnown}
use Rattle.hol_rules.specs.declared.made.Parameters.{Parameters}
use Rattle.hol_rules.specs.declared.made.Parameters.TheVariants as parameters
use Rattle.hol_rules.specs.declared.made.Made.{Made as OneMade}
use Rattle.hol_rules.specs.declared.made.Step.{Step}
use Rattle.hol_rules.specs.Kept.{Grows}
use Rattle.hol_rules.specs.Views.{variable_view, parameters_view, step_view, steps_view, made_of, made_view, AreParametersKnown, IsStepKnown, IsKept}
use Rattle.hol_rules.proofs.PairLaws.{AreKnownPairs-Keeps, type_pairs-Keeps, term_pairs-Keeps}
use Rattle.std.proofs.Math.Path.{ap₂}

module _ {a b : Trees} (k : Keeps a b) where
  pub IsKnown-Keeps : (s : Sequent) → IsKnown a s → IsKnown b s
  IsKnown-Keeps s h = (table_law.AreKnown-Keeps k s.hyps h.0, omega (arith, k.longer, h.1))

  pub sequent_at-Keeps : (s : Sequent) → IsKnown a s → sequent_at a s ≡ sequent_at b s
  sequent_at-Keeps s h = ap₂ (λ hypotheses conclusion. record { hypotheses = hypotheses; conclusion = conclusion }) (table_law.terms_at-Keeps k s.hyps h.0)
      (table_law.term_in-Stays k.stays s.concl.0 h.1)

  variable_view-Keeps : (v : Variable) → v.ty.0 < length a.types → variable_view a v ≡ variable_view b v
  variable_view-Keeps v h = ap (λ t. (v.name, t)) (type_law.tree_at-Stays k.types.stays v.ty.0 h)

  -- the pairs of a list of constants
  pub ArePairsKnown-Keeps : (ps : List (Name × Variable)) → ArePairsKnown a ps → ArePairsKnown b ps
  ArePairsKnown-Keeps [] h = tt
  ArePairsKnown-Keeps (p ∷ ps) h = (omega (arith, k.types.longer, h.0), ArePairsKnown-Keeps ps h.1)

  pub pairs_at-Keeps : (ps : List (Name × Variable)) → ArePairsKnown a ps → pairs_at a ps ≡ pairs_at b ps
  pairs_at-Keeps [] h = refl
  pairs_at-Keeps (p ∷ ps) h = ap₂ (λ v l. (p.0, v) ∷ l) (variable_view-Keeps p.1 h.0) (pairs_at-Keeps ps h.1)

  AreParametersKnown-Keeps : (p : Parameters) → AreParametersKnown a p → AreParametersKnown b p
  AreParametersKnown-Keeps parameters.Nothing h = tt
  AreParametersKnown-Keeps (parameters.Term t) h = omega (arith, k.longer, h)
  AreParametersKnown-Keeps (parameters.Variable v) h = omega (arith, k.types.longer, h)
  AreParametersKnown-Keeps (parameters.Subst s) h = AreKnownPairs-Keeps k s.types.items s.terms.items h
  AreParametersKnown-Keeps (parameters.Sequent s) h = IsKnown-Keeps s h
  AreParametersKnown-Keeps (parameters.Const n t) h = omega (arith, k.longer, h)
  AreParametersKnown-Keeps (parameters.List pairs) h = ArePairsKnown-Keeps pairs.items h
  AreParametersKnown-Keeps (parameters.TypeOp o) h = tt

  pub parameters_view-Keeps : (p : Parameters) → AreParametersKnown a p → parameters_view a p ≡ parameters_view b p
  parameters_view-Keeps parameters.Nothing h = refl
  parameters_view-Keeps (parameters.Term t) h = ap rule.Parameters.term (table_law.term_in-Stays k.stays t.0 h)
  parameters_view-Keeps (parameters.Variable v) h = ap rule.Parameters.variable (variable_view-Keeps v h)
  parameters_view-Keeps (parameters.Subst s) h = ap₂ rule.Parameters.substitution (type_pairs-Keeps k s.types.items s.terms.items h)
      (term_pairs-Keeps k s.types.items s.terms.items h)
  parameters_view-Keeps (parameters.Sequent s) h = ap rule.Parameters.sequent (sequent_at-Keeps s h)
  parameters_view-Keeps (parameters.Const n t) h = ap (rule.Parameters.constant n) (table_law.term_in-Stays k.stays t.0 h)
  parameters_view-Keeps (parameters.List pairs) h = ap rule.Parameters.constants (pairs_at-Keeps pairs.items h)
  parameters_view-Keeps (parameters.TypeOp o) h = refl

  pub step_view-Keeps : (x : Step) → IsStepKnown a x → step_view a x ≡ step_view b x
  step_view-Keeps x h = ap₂ (λ p s. record { kind = x.inference.kind; premises = x.inference.premises; parameters = p; sequent = s })
      (parameters_view-Keeps x.parameters h.parameters) (sequent_at-Keeps x.sequent h.sequent)

  steps_view-Keeps : (xs : List Step) → AllByRecursion (IsStepKnown a) xs → steps_view a xs ≡ steps_view b xs
  steps_view-Keeps [] h = refl
  steps_view-Keeps (x ∷ xs) h = ap₂ (λ y l. y ∷ l) (step_view-Keeps x h.0) (steps_view-Keeps xs h.1)

  pub IsStepKnown-Keeps : (x : Step) → IsStepKnown a x → IsStepKnown b x
  IsStepKnown-Keeps x h = record { parameters = AreParametersKnown-Keeps x.parameters h.parameters; sequent = IsKnown-Keeps x.sequent h.sequent }

  AreStepsKnown-Keeps : (xs : List Step) → AllByRecursion (IsStepKnown a) xs → AllByRecursion (IsStepKnown b) xs
  AreStepsKnown-Keeps [] h = tt
  AreStepsKnown-Keeps (x ∷ xs) h =
      (record { parameters = AreParametersKnown-Keeps x.parameters h.0.parameters; sequent = IsKnown-Keeps x.sequent h.0.sequent }, AreStepsKnown-Keeps xs h.1)

  pub made_view-Keeps : (symbols : List Taken) (xs : List Step) (ms : List OneMade) → AreKnownSymbols a symbols → AllByRecursion (IsStepKnown a) xs
      → made_view a symbols xs ms ≡ made_view b symbols xs ms
  made_view-Keeps symbols xs ms taken h = ap₂ (λ xs steps. made_of xs steps ms) (symbols_at-Keeps k symbols taken) (steps_view-Keeps xs h)

  pub IsKept-Keeps : (symbols : List Taken) (xs : List Step) (ms : List OneMade) {memo : ParamMemo} → IsKept a symbols xs ms memo → IsKept b symbols xs ms memo
  IsKept-Keeps symbols xs ms {memo = memo} h =
      let m = made_view-Keeps symbols xs ms h.symbols_known h.known in
      record {
        distinct = k.distinct h.distinct;
        known = AreStepsKnown-Keeps xs h.known;
        numbered = h.numbered;
        steps = subst (λ made. steps_of made ≡ steps_view b xs) m (h.steps ∙ steps_view-Keeps xs h.known);
        counted = h.counted;
        symbols_taken = ap symbols_of (sym m) ∙ h.symbols_taken ∙ symbols_at-Keeps k symbols h.symbols_known;
        symbols_known = AreKnownSymbols-Keeps k symbols h.symbols_known;
        proof = subst IsProof m h.proof;
        noted = AreNoted-keeps k memo h.noted;
      }

  pub Grows-Keeps : (symbols : List Taken) (xs : List Step) (ms : List OneMade) {memo : ParamMemo} → IsKept a symbols xs ms memo
      → Grows (record { trees = a; made = made_view a symbols xs ms }) (record { trees = b; made = made_view b symbols xs ms })
  Grows-Keeps symbols xs ms h = record { trees = k; made = sym (made_view-Keeps symbols xs ms h.symbols_known h.known) }
