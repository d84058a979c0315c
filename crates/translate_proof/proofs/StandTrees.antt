-- What is made in an environment is what is wanted in the scope that it stands for.
use Rattle.std.proofs.Common.{◌≡◌, ◌<◌, Bool, true, false, cond, refl, sym, ap, subst, ◌∙◌, arith, List, [], ◌∷◌, ◌++◌, length, Option, Some, None}
use Rattle.std.specs.List.{AllByRecursion}
use Rattle.std.specs.Map.{lookup}
use Rattle.std.specs.Option.{option_map, unwrap_or}
use Rattle.std.proofs.Math.Path.{ap₂, fun_ext}
use Rattle.hol_spec.specs.Names.{Name}
use Rattle.hol_spec.specs.NameEquality.{name_eq}
use Rattle.hol_spec.specs.Types.{HolType}
use Rattle.hol_spec.specs.Terms.{Term, Variable, variable_eq, term_eq, type_variable_places, free_places}
use Rattle.hol_spec.specs.Terms as term
use Rattle.hol_type.specs.Tables as type
use Rattle.hol_term.specs.declared.TermId.{TermId}
use Rattle.hol_term.specs.declared.Variable.{Variable as AVariable}
use Rattle.hol_term.specs.Tables.{Trees, term_at, IsDistinct}
use Rattle.lp_spec.specs.Trees.{Tree}
use Rattle.lp_spec.specs.Modules.{Declaration, bools}
use Rattle.lp_term.specs.declared.LpId.{LpId}
use Rattle.lp_term.specs.Tables.{tree_at, Holds}
use Rattle.lp_term.specs.TableLaws.{Holds-tree_at, Holds-within, tree_at-Holds}
use Rattle.holide_sig.specs.declared.module.Module.{Module}
use Rattle.holide_sig.specs.Modules.{declarations_of}
use Rattle.translate_spec.specs.Scopes.{SymbolMap, TypeScope, type_tree, term_tree, filler}
use Rattle.translate_laws.specs.ListedScopes.{told, told_types}
use Rattle.translate_laws.specs.TermScopeLaws.{AreInstances, term_tree-agrees}
use Rattle.sequent.specs.Params.{same_variable}
use Rattle.sequent.specs.Sequents.{same_id}
use Rattle.translate_term.specs.Told.{TellsType, TellsTerm, types_in, terms_in, AreTypesKnown, AreTermsKnown}
use Rattle.translate_term.specs.Walks.{Grows}
use Rattle.translate_proof.specs.declared.scope.Environment.{Environment}
use Rattle.translate_proof.specs.Environments.{Given, Represents, Ready, IsTold, TellTypes, TellTerms, TellProofs, proofs_in, AreProofsKnown}
use Rattle.translate_proof.proofs.KeepLaws.{trees_at-append, AreKnown-more}
use Rattle.translate_proof.proofs.TellLaws.{same-seen}
use Rattle.lp_term.specs.TableLaws.{trees_at-Keeps, AreKnown-Keeps}
use Rattle.translate_proof.specs.EnvironmentLaws.{Represents-Grows}
use Rattle.translate_proof.specs.FormulaLaws.{same-formula}

-- one argument more
pub Ready-more : {m n : Module} → Grows m n → (given : Given) (terms : Trees) (env : Environment) (args items : List LpId) (made : List Tree) (r : LpId)
    (x : Tree) → Holds n.table r.0 x → items ≡ args ++ r ∷ [] → Ready given m terms env args made
    → Ready given n terms env items (made ++ x ∷ [])
Ready-more {n = n} g given terms env args items made r x is e h =
    subst (λ l. Ready given n terms env l (made ++ x ∷ [])) (sym e) (record {
      stands = Represents-Grows g given terms env h.stands;
      known = AreKnown-more n.table args r (AreKnown-Keeps g.table args h.known) (Holds-within n.table r.0 x is);
      are = trees_at-append n.table args (r ∷ []) ∙ ap₂ (λ l y. l ++ y ∷ []) (trees_at-Keeps g.table args h.known ∙ h.are) (Holds-tree_at n.table r.0 x is);
    })

all-unit : {A : Type 0} (xs : List A) → AllByRecursion (λ x. Unit {0}) xs
all-unit [] = tt
all-unit (x ∷ xs) = (tt, all-unit xs)

-- a told term's constants are instances
pub told-instances : (declarations : List Declaration) (symbols : SymbolMap) (t : Term) → TellsTerm declarations symbols t → AreInstances symbols t
told-instances d symbols (term.Term.free n t) h = tt
told-instances d symbols (term.Term.bound k) h = tt
told-instances d symbols (term.Term.constant n t) h = h.instance
told-instances d symbols (term.Term.app f x) h = (told-instances d symbols f h.0, told-instances d symbols x h.1)
told-instances d symbols (term.Term.lam t b) h = told-instances d symbols b h.1

module _ (given : Given) (m : Module) (terms : Trees) (env : Environment) (h : Represents given m terms env) where
  types-same : told_types (types_in m.table env.scope.types) ≡ given.scope.types
  types-same = fun_ext h.types.each

  -- the tree of a type
  pub type-stands : (a : HolType) → type_tree given.symbols (told_types (types_in m.table env.scope.types)) a ≡ type_tree given.symbols given.scope.types a
  type-stands a = ap (λ w. type_tree given.symbols w a) types-same

  -- and that of a term
  pub term-stands : (t : Term) → IsTold given t → term_tree given.symbols
      (told given.symbols (types_in m.table env.scope.types) (terms_in terms.types m.table env.scope.terms)) t ≡ term_tree given.symbols given.scope t
  term-stands t k =
      term_tree-agrees given.symbols (λ n. Unit {0}) (λ v. Unit {0}) 0
      (told given.symbols (types_in m.table env.scope.types) (terms_in terms.types m.table env.scope.terms)) given.scope
      (record {
        types = λ n p. h.types.each n;
        terms = λ v q.
            ap (λ w. unwrap_or (lookup (variable_eq v) (terms_in terms.types m.table env.scope.terms)) (filler (type_tree given.symbols w v.1))) types-same
            ∙ h.terms_told.each v;
        bounds = λ j l. absurd (omega (arith, l));
      })
      t (told-instances given.declarations given.symbols t k.told) (all-unit (type_variable_places t)) (all-unit (free_places t)) k.closed

-- what a module tells, its declarations tell
pub declared-type : (given : Given) (m : Module) (terms : Trees) (env : Environment) → Represents given m terms env → (a : HolType)
    → TellsType given.declarations given.symbols a → TellsType (declarations_of m) given.symbols a
declared-type given m terms env h a t = subst (λ d. TellsType d given.symbols a) (sym h.declared) t

pub declared-term : (given : Given) (m : Module) (terms : Trees) (env : Environment) → Represents given m terms env → (t : Term) → IsTold given t
    → TellsTerm (declarations_of m) given.symbols t
declared-term given m terms env h t k = subst (λ d. TellsTerm d given.symbols t) (sym h.declared) k.told

-- a type variable that is found, and one that isn't
lookup-types : (trees : List Tree) (n : Name) (es : List (Name × LpId)) → lookup (name_eq n) (types_in trees es)
    ≡ option_map (λ id. tree_at trees id.0) (lookup (name_eq n) es)
lookup-types trees n [] = refl
lookup-types trees n (e ∷ es) = go (name_eq n e.0) (lookup-types trees n es)
  where
    go : (b : Bool) → lookup (name_eq n) (types_in trees es) ≡ option_map (λ id. tree_at trees id.0) (lookup (name_eq n) es)
        → cond b (Some (tree_at trees e.1.0)) (lookup (name_eq n) (types_in trees es))
        ≡ option_map (λ id. tree_at trees id.0) (cond b (Some e.1) (lookup (name_eq n) es))
    go true h = refl
    go false h = h

types-found-known : (trees : List Tree) (n : Name) (es : List (Name × LpId)) (id : LpId) → AreTypesKnown trees es → lookup (name_eq n) es ≡ Some id
    → id.0 < length trees
types-found-known trees n [] id k h = absurd (cc)
types-found-known trees n (e ∷ es) id k h = go (name_eq n e.0) h (types-found-known trees n es id k.1)
  where
    some : Option LpId → LpId
    some None = e.1
    some (Some x) = x

    go : (b : Bool) → cond b (Some e.1) (lookup (name_eq n) es) ≡ Some id → (lookup (name_eq n) es ≡ Some id → id.0 < length trees) → id.0 < length trees
    go true q on = subst (λ i. i.0 < length trees) (ap some q) k.0
    go false q on = on q

pub type-found : (trees : List Tree) (es : List (Name × LpId)) (n : Name) (id : LpId) (scope : TypeScope) → TellTypes trees es scope → lookup (name_eq n) es
    ≡ Some id → Holds trees id.0 (scope n)
type-found trees es n id scope t h =
    tree_at-Holds trees id.0 (types-found-known trees n es id t.known h)
    ∙ ap Some (sym (ap (λ o. unwrap_or o bools) (lookup-types trees n es ∙ ap (option_map (λ i. tree_at trees i.0)) h)) ∙ t.each n)

pub type-absent : (trees : List Tree) (es : List (Name × LpId)) (n : Name) (scope : TypeScope) → TellTypes trees es scope → lookup (name_eq n) es ≡ None → bools
    ≡ scope n
type-absent trees es n scope t h = sym (ap (λ o. unwrap_or o bools) (lookup-types trees n es ∙ ap (option_map (λ i. tree_at trees i.0)) h)) ∙ t.each n

-- a free variable
module _ (types : List HolType) (one : type.IsDistinct types) (trees : List Tree) (v : AVariable) (known : v.ty.0 < length types) where
  abbrev own : Variable
  own = (v.name, type.tree_at types v.ty.0)

  lookup-terms : (es : List (AVariable × LpId)) → AreTermsKnown types trees es → lookup (variable_eq own) (terms_in types trees es)
      ≡ option_map (λ id. tree_at trees id.0) (lookup (same_variable v) es)
  lookup-terms [] k = refl
  lookup-terms (e ∷ es) k =
      ap (λ b. cond b (Some (tree_at trees e.1.0)) (lookup (variable_eq own) (terms_in types trees es))) (sym (same-seen types one v e.0 known k.0))
      ∙ go (same_variable v e.0) (lookup-terms es k.2)
    where
      go : (b : Bool) → lookup (variable_eq own) (terms_in types trees es) ≡ option_map (λ id. tree_at trees id.0) (lookup (same_variable v) es)
          → cond b (Some (tree_at trees e.1.0)) (lookup (variable_eq own) (terms_in types trees es))
          ≡ option_map (λ id. tree_at trees id.0) (cond b (Some e.1) (lookup (same_variable v) es))
      go true h = refl
      go false h = h

  terms-found-known : (es : List (AVariable × LpId)) (id : LpId) → AreTermsKnown types trees es → lookup (same_variable v) es ≡ Some id → id.0 < length trees
  terms-found-known [] id k h = absurd (cc)
  terms-found-known (e ∷ es) id k h = go (same_variable v e.0) h (terms-found-known es id k.2)
    where
      some : Option LpId → LpId
      some None = e.1
      some (Some x) = x

      go : (b : Bool) → cond b (Some e.1) (lookup (same_variable v) es) ≡ Some id → (lookup (same_variable v) es ≡ Some id → id.0 < length trees)
          → id.0 < length trees
      go true q on = subst (λ i. i.0 < length trees) (ap some q) k.1
      go false q on = on q

  pub variable-found : (es : List (AVariable × LpId)) (id : LpId) (other scope : Variable → Tree) → TellTerms types trees es other scope
      → lookup (same_variable v) es ≡ Some id → Holds trees id.0 (scope own)
  variable-found es id other scope t h =
      tree_at-Holds trees id.0 (terms-found-known es id t.known h)
      ∙ ap Some (sym (ap (λ o. unwrap_or o (other own)) (lookup-terms es t.known ∙ ap (option_map (λ i. tree_at trees i.0)) h)) ∙ t.each own)

  pub variable-absent : (es : List (AVariable × LpId)) (other scope : Variable → Tree) → TellTerms types trees es other scope → lookup (same_variable v) es
      ≡ None → other own ≡ scope own
  variable-absent es other scope t h = sym (ap (λ o. unwrap_or o (other own)) (lookup-terms es t.known ∙ ap (option_map (λ i. tree_at trees i.0)) h)) ∙ t.each
      own

-- a hypothesis
module _ (terms : Trees) (one : IsDistinct terms.terms) (trees : List Tree) (p : TermId) (known : p.0 < length terms.terms) where
  abbrev formula : Term
  formula = term_at terms p.0

  lookup-proofs : (es : List (TermId × LpId)) → AreProofsKnown terms trees es → lookup (term_eq formula) (proofs_in terms trees es)
      ≡ option_map (λ id. tree_at trees id.0) (lookup (same_id p) es)
  lookup-proofs [] k = refl
  lookup-proofs (e ∷ es) k =
      ap (λ b. cond b (Some (tree_at trees e.1.0)) (lookup (term_eq formula) (proofs_in terms trees es))) (sym (same-formula terms one p e.0 known k.0))
      ∙ go (same_id p e.0) (lookup-proofs es k.2)
    where
      go : (b : Bool) → lookup (term_eq formula) (proofs_in terms trees es) ≡ option_map (λ id. tree_at trees id.0) (lookup (same_id p) es)
          → cond b (Some (tree_at trees e.1.0)) (lookup (term_eq formula) (proofs_in terms trees es))
          ≡ option_map (λ id. tree_at trees id.0) (cond b (Some e.1) (lookup (same_id p) es))
      go true h = refl
      go false h = h

  proofs-found-known : (es : List (TermId × LpId)) (id : LpId) → AreProofsKnown terms trees es → lookup (same_id p) es ≡ Some id → id.0 < length trees
  proofs-found-known [] id k h = absurd (cc)
  proofs-found-known (e ∷ es) id k h = go (same_id p e.0) h (proofs-found-known es id k.2)
    where
      some : Option LpId → LpId
      some None = e.1
      some (Some x) = x

      go : (b : Bool) → cond b (Some e.1) (lookup (same_id p) es) ≡ Some id → (lookup (same_id p) es ≡ Some id → id.0 < length trees) → id.0 < length trees
      go true q on = subst (λ i. i.0 < length trees) (ap some q) k.1
      go false q on = on q

  pub proof-found : (es : List (TermId × LpId)) (id : LpId) (other scope : Term → Tree) → TellProofs terms trees es other scope → lookup (same_id p) es
      ≡ Some id → Holds trees id.0 (scope formula)
  proof-found es id other scope t h =
      tree_at-Holds trees id.0 (proofs-found-known es id t.known h)
      ∙ ap Some (sym (ap (λ o. unwrap_or o (other formula)) (lookup-proofs es t.known ∙ ap (option_map (λ i. tree_at trees i.0)) h)) ∙ t.each formula)

  pub proof-absent : (es : List (TermId × LpId)) (other scope : Term → Tree) → TellProofs terms trees es other scope → lookup (same_id p) es ≡ None
      → other formula ≡ scope formula
  proof-absent es other scope t h = sym (ap (λ o. unwrap_or o (other formula)) (lookup-proofs es t.known ∙ ap (option_map (λ i. tree_at trees i.0)) h)) ∙ t.each
      formula
