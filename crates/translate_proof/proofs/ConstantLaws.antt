-- Constants that are put for variables, by numbers: what stands for a variable where they are put, and what the hypotheses that define them say.
use Rattle.std.proofs.Common.{◌≡◌, ◌<◌, Bool, true, false, cond, refl, sym, ap, subst, ◌∙◌, arith, List, [], ◌∷◌, length, Some, None}
use Rattle.std.specs.Prelude.{IsSome, IsTrue}
use Rattle.std.specs.List.{AllByRecursion}
use Rattle.std.specs.Map.{lookup}
use Rattle.std.specs.Option.{option_map, unwrap_or}
use Rattle.std.proofs.Math.Path.{fun_ext}
use Rattle.std.proofs.lemmas.Option.{same_Some}
use Rattle.hol_spec.specs.DefinitionLists.{ConstantPairs, constants_put, is_definition_list}
use Rattle.hol_spec.specs.Names.{Name}
use Rattle.hol_spec.specs.Primitives.{bool}
use Rattle.hol_spec.specs.Sequents.{Sequent, IsSequent}
use Rattle.hol_spec.specs.Terms.{Term, Variable, HasType, IsTerm, constant, equation, free, variable_eq}
use Rattle.hol_spec.specs.TermSubstitution.{term_image}
use Rattle.hol_spec.specs.Types.{HolType}
use Rattle.hol_laws.specs.Members.{All-at, All-each}
use Rattle.hol_laws.specs.TermInstances.{substitute-nothing}
use Rattle.hol_laws.specs.TermLaws.{variable_eq-Decides}
use Rattle.hol_proof_laws.specs.DefinitionListLaws.{every-hypothesis, hypothesis-is}
use Rattle.hol_proof_laws.specs.EquationLaws.{equation-sides, SidesOf}
use Rattle.hol_type.specs.declared.table.TypeId.{TypeId}
use Rattle.hol_type.specs.Tables as type
use Rattle.hol_term.specs.declared.TermId.{TermId}
use Rattle.hol_term.specs.declared.Variable.{Variable as AVariable}
use Rattle.hol_term.specs.Shapes.{IsEquation}
use Rattle.hol_term.specs.Tables.{Trees, term_at, type_at}
use Rattle.hol_defs.specs.Lists.{pairs_at as pairs_view, ArePairsKnown as AreConstantPairsKnown}
use Rattle.hol_rules.specs.Views.{variable_view}
use Rattle.holide_sig.specs.declared.module.Module.{Module}
use Rattle.holide_sig.specs.Modules.{declarations_of}
use Rattle.translate_spec.specs.ProofTrees.{refl_tree, self_proof}
use Rattle.translate_spec.specs.Scopes.{constant_tree, term_tree}
use Rattle.translate_laws.specs.ListedScopes.{told_types}
use Rattle.sequent.specs.Params.{same_variable}
use Rattle.translate_term.specs.Told.{TellsConstant, TellsTerm, TellsType, types_in}
use Rattle.translate_proof.specs.declared.rows.Equated.{Equated}
use Rattle.translate_proof.specs.declared.scope.Environment.{Environment}
use Rattle.translate_proof.specs.Constants.{by_variable, scope_with, IsEquatedFormula, IsEquationFormula, TellsConstants}
use Rattle.translate_proof.specs.Environments.{Given, IsTold, Represents}
use Rattle.translate_proof.proofs.SequentLaws.{typed-closed}
use Rattle.translate_proof.proofs.TellLaws.{same-seen}

-- the constant that is put for a variable, by numbers and by names and types
module _ (trees : Trees) (distinct : type.IsDistinct trees.types) (v : AVariable) (known : v.ty.0 < length trees.types) where
  abbrev own : Variable
  own = variable_view trees v

  own-type : (w : AVariable) → w.ty.0 < length trees.types → same_variable v w ≡ true → type_at trees w.ty.0 ≡ own.1
  own-type w l e = sym (ap (λ (u : Variable). u.1) ((variable_eq-Decides own (variable_view trees w)).0 (sym (same-seen trees.types distinct v w known l) ∙ e)))

  lookup-constants_put : (ps : List (Name × AVariable)) → AreConstantPairsKnown trees ps
      → lookup (variable_eq own) (constants_put (pairs_view trees ps)) ≡ option_map (λ n. constant n own.1) (lookup (same_variable v) (by_variable ps))
  lookup-constants_put [] h = refl
  lookup-constants_put (p ∷ ps) h =
      ap (λ b. cond b (Some (constant p.0 (type_at trees p.1.ty.0))) (lookup (variable_eq own) (constants_put (pairs_view trees ps))))
      (sym (same-seen trees.types distinct v p.1 known h.0))
      ∙ go (same_variable v p.1) (own-type p.1 h.0) (lookup-constants_put ps h.1)
    where
      go : (b : Bool) → (b ≡ true → type_at trees p.1.ty.0 ≡ own.1) → lookup (variable_eq own) (constants_put (pairs_view trees ps))
          ≡ option_map (λ n. constant n own.1) (lookup (same_variable v) (by_variable ps))
          → cond b (Some (constant p.0 (type_at trees p.1.ty.0))) (lookup (variable_eq own) (constants_put (pairs_view trees ps)))
          ≡ option_map (λ n. constant n own.1) (cond b (Some p.0) (lookup (same_variable v) (by_variable ps)))
      go true same on = ap (λ a. Some (constant p.0 a)) (same refl)
      go false same on = on

  -- the module tells the constant that is found
  pub TellsConstants-found : (given : Given) (ps : List (Name × AVariable)) (n : Name) → AreConstantPairsKnown trees ps
      → TellsConstants given (pairs_view trees ps) → lookup (same_variable v) (by_variable ps) ≡ Some n
      → TellsConstant given.declarations given.symbols n own.1
  TellsConstants-found given [] n h told e = absurd (cc)
  TellsConstants-found given (p ∷ ps) n h told e = go (same_variable v p.1) (own-type p.1 h.0) (TellsConstants-found given ps n h.1 told.1) e
    where
      go : (b : Bool) → (b ≡ true → type_at trees p.1.ty.0 ≡ own.1)
          → (lookup (same_variable v) (by_variable ps) ≡ Some n → TellsConstant given.declarations given.symbols n own.1)
          → cond b (Some p.0) (lookup (same_variable v) (by_variable ps)) ≡ Some n → TellsConstant given.declarations given.symbols n own.1
      go true same on f =
          let name : p.0 ≡ n = cc in
          subst (λ m. TellsConstant given.declarations given.symbols m own.1) name
          (subst (TellsConstant given.declarations given.symbols p.0) (same refl) told.0)
      go false same on f = on f

  module _ (given : Given) (ps : List (Name × AVariable)) (pairs_known : AreConstantPairsKnown trees ps) where
    image-is : (scope_with given trees ps).terms own ≡ term_tree given.symbols given.scope (term_image (constants_put (pairs_view trees ps)) own)
    image-is = ap (λ a. term_tree given.symbols given.scope (term_image (constants_put (pairs_view trees ps)) (v.name, a))) (substitute-nothing own.1)

    -- where a constant is put for it, that stands for it
    pub scope_with-found : (n : Name) → lookup (same_variable v) (by_variable ps) ≡ Some n → (scope_with given trees ps).terms own
        ≡ constant_tree given.symbols given.scope.types n own.1
    scope_with-found n e =
        image-is
        ∙ ap (λ o. term_tree given.symbols given.scope (unwrap_or o (free v.name own.1)))
        (lookup-constants_put ps pairs_known ∙ ap (option_map (λ m. constant m own.1)) e)

    -- or else what stands for it where none are put
    pub scope_with-absent : lookup (same_variable v) (by_variable ps) ≡ None → (scope_with given trees ps).terms own ≡ given.scope.terms own
    scope_with-absent e =
        image-is
        ∙ ap (λ o. term_tree given.symbols given.scope (unwrap_or o (free v.name own.1)))
        (lookup-constants_put ps pairs_known ∙ ap (option_map (λ m. constant m own.1)) e)

-- a constant in an environment is one in the scope that it stands for
module _ (given : Given) (m : Module) (terms : Trees) (env : Environment) (h : Represents given m terms env) where
  pub constant-stands : (n : Name) (a : HolType) → constant_tree given.symbols (told_types (types_in m.table env.scope.types)) n a
      ≡ constant_tree given.symbols given.scope.types n a
  constant-stands n a = ap (λ w. constant_tree given.symbols w n a) (fun_ext h.types.each)

  pub declared-constant : (n : Name) (a : HolType) → TellsConstant given.declarations given.symbols n a → TellsConstant (declarations_of m) given.symbols n a
  declared-constant n a t = subst (λ d. TellsConstant d given.symbols n a) (sym h.declared) t

-- the hypotheses that define constants are equations
pub definition_list-equations : (pairs : ConstantPairs) (one : Sequent) → IsSequent one → IsTrue (is_definition_list pairs one)
    → AllByRecursion IsEquationFormula one.hypotheses
definition_list-equations pairs one is good =
    let each = every-hypothesis pairs one is good in
    All-each IsEquationFormula one.hypotheses (λ h i.
    let e = All-at _ one.hypotheses h each i in
    let typed = All-at (λ t. HasType t bool) one.hypotheses h is.hypotheses i in
    record { ty = e.0.0.1; left = free e.0.0.0 e.0.0.1; right = e.0.1; is = hypothesis-is h e.0 typed e.1.0; typed = typed })

-- an equation that is taken apart
module _ (trees : Trees) (id left right : TermId) (h : IsEquationFormula (term_at trees id.0))
    (e : IsEquation (term_at trees id.0) (term_at trees left.0) (term_at trees right.0)) where
  both : SidesOf e.0 (term_at trees left.0) (term_at trees right.0)
  both = equation-sides e.0 (term_at trees left.0) (term_at trees right.0) (term_at trees id.0) e.1 h.typed

  pub left_side-IsTerm : IsTerm (term_at trees left.0)
  left_side-IsTerm = subst IsSome (sym both.left) refl

  pub equated-IsEquatedFormula : (ty : TypeId) → id.0 < length trees.terms → right.0 < id.0 → ty.0 < length trees.types
      → HasType (term_at trees left.0) (type_at trees ty.0) → IsEquatedFormula trees (term_at trees id.0) (record { ty = ty; left = left; right = right })
  equated-IsEquatedFormula ty known less ty_known typed =
      let same : e.0 ≡ type_at trees ty.0 = same_Some _ _ (sym both.left ∙ typed) in
      record {
        ty = ty_known;
        right = omega (arith, known, less);
        is = e.1 ∙ ap (λ a. equation a (term_at trees left.0) (term_at trees right.0)) same;
        typed = both.right ∙ ap Some same;
      }

-- an equation and its parts
module _ (trees : Trees) (h : Term) (e : Equated) (is : IsEquatedFormula trees h e) (given : Given) where
  pub self_proof-is : self_proof given.symbols given.scope h ≡ refl_tree given.symbols given.scope (type_at trees e.ty.0) (term_at trees e.right.0)
  self_proof-is = ap (self_proof given.symbols given.scope) is.is

  module _ (told : TellsTerm given.declarations given.symbols h) where
    pub formula_type-told : TellsType given.declarations given.symbols (type_at trees e.ty.0)
    formula_type-told = (subst (TellsTerm given.declarations given.symbols) is.is told).0.0.ty.1.0

    pub formula_right-told : IsTold given (term_at trees e.right.0)
    formula_right-told = record {
      told = (subst (TellsTerm given.declarations given.symbols) is.is told).1;
      closed =
          typed-closed (term_at trees e.right.0) (type_at trees e.ty.0) is.typed;
    }
