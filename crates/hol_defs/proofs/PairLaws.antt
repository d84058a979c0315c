-- Pairs of constants and variables, and what equations say of their variables, by numbers and as trees.
use Rattle.std.proofs.Common.{◌≡◌, ◌<◌, suc, refl, sym, ap, subst, ◌∙◌, List, [], ◌∷◌, ◌++◌, map, length, Bool, true, false, nat_eq, cond, Some}
use Rattle.std.specs.Prelude.{◌&&◌, not, is_some}
use Rattle.std.specs.Option.{option_map}
use Rattle.std.specs.List.{filter, filter_map, cons_option, list_all, list_any, AllByRecursion}
use Rattle.std.specs.Map.{lookup}
use Rattle.std.proofs.lemmas.Bool.Decides.{Decides-eqb}
use Rattle.std.proofs.lemmas.List.{map-append, length-map}
use Rattle.std.proofs.lemmas.List.Elements.{filter-append, filter_map-append}
use Rattle.std.proofs.lemmas.Option.{same_Some}
use Rattle.std.proofs.lemmas.Bool.{and_parts, or_parts}
use Rattle.hol_spec.specs.Names.{Name}
use Rattle.hol_spec.specs.NameEquality.{name_eq}
use Rattle.hol_laws.specs.NameEqualityLaws.{name_eq-Decides}
use Rattle.hol_spec.specs.Lists.{is_in, union, distinct}
use Rattle.hol_laws.specs.ListLaws.{union-All, union-map}
use Rattle.hol_spec.specs.Repeats.{no_repeats}
use Rattle.hol_spec.specs.Terms.{Term, Variable as AVariable, variable_eq, free_places, HasType}
use Rattle.hol_laws.specs.TermLaws.{variable_eq-Decides}
use Rattle.hol_spec.specs.Sequents.{Sequent}
use Rattle.hol_spec.specs.Definitions.{Definition}
use Rattle.hol_spec.specs.Symbols.{Symbol, is_taken_constant}
use Rattle.hol_spec.specs.DefinitionLists.{ConstantPairs, names_of, variables_of as pair_variables, variable_equation, defining_equations, definiens, is_definition_list}
use Rattle.hol_type.specs.Tables as type
use Rattle.hol_term.specs.declared.TermId.{TermId}
use Rattle.hol_term.specs.declared.Variable.{Variable}
use Rattle.hol_term.specs.Subterms.{variables_of, HaveTypes}
use Rattle.hol_term.specs.Tables.{Trees, term_at, terms_at, type_at}
use Rattle.hol_defs.specs.declared.lists.Equation.{Equation}
use Rattle.hol_defs.specs.Indexes.{generics_of}
use Rattle.hol_defs.specs.Lists.{same_variable, variable_at, pair_at, pairs_at, equation_at, equations_of, term_of, constants_of, is_list, AreEquationsKnown, ArePairsKnown, AreFound, AreDefined, AreNew}
use Rattle.hol_defs.specs.Symbols.{Taken, symbols_at, AreKnownSymbols}
use Rattle.hol_defs.proofs.EquationLaws.{variable_eq-at, is_in-at}
use Rattle.hol_defs.proofs.IndexLaws.{some-mapped, undefined}
use Rattle.hol_defs.proofs.JudgeLaws.{all-each, all-distinct, is_in-united, once-listed, length-variables_of}

abbrev IsTyped : Trees → Variable → Type 0
IsTyped trees v = v.ty.0 < length trees.types

each_typed : (trees : Trees) (vs : List Variable) → HaveTypes trees vs → AllByRecursion (IsTyped trees) vs
each_typed trees [] h = tt
each_typed trees (v ∷ vs) h = (h.0, each_typed trees vs h.1)

all_typed : (trees : Trees) (vs : List Variable) → AllByRecursion (IsTyped trees) vs → HaveTypes trees vs
all_typed trees [] h = tt
all_typed trees (v ∷ vs) h = (h.0, all_typed trees vs h.1)

variables_of-map : (trees : Trees) (vs : List Variable) → variables_of trees vs ≡ map (variable_at trees) vs
variables_of-map trees [] = refl
variables_of-map trees (v ∷ vs) = ap (λ l. variable_at trees v ∷ l) (variables_of-map trees vs)

pair_types : (trees : Trees) (ps : List (Name × Variable)) → ArePairsKnown trees ps → HaveTypes trees (map (λ p. p.1) ps)
pair_types trees [] h = tt
pair_types trees (p ∷ ps) h = (h.0, pair_types trees ps h.1)

variables_of-pairs : (trees : Trees) (ps : List (Name × Variable)) → variables_of trees (map (λ p. p.1) ps) ≡ pair_variables (pairs_at trees ps)
variables_of-pairs trees [] = refl
variables_of-pairs trees (p ∷ ps) = ap (λ l. variable_at trees p.1 ∷ l) (variables_of-pairs trees ps)

pub names_of-pairs : (trees : Trees) (ps : List (Name × Variable)) → names_of (pairs_at trees ps) ≡ map (λ p. p.0) ps
names_of-pairs trees [] = refl
names_of-pairs trees (p ∷ ps) = ap (λ l. p.0 ∷ l) (names_of-pairs trees ps)

length-pairs : (trees : Trees) (ps : List (Name × Variable)) → length (pair_variables (pairs_at trees ps)) ≡ length ps
length-pairs trees [] = refl
length-pairs trees (p ∷ ps) = ap suc (length-pairs trees ps)

length-names : (ps : List (Name × Variable)) → length (map (λ p. p.0) ps) ≡ length ps
length-names [] = refl
length-names (p ∷ ps) = ap suc (length-names ps)

-- the names, each once, are as many as the pairs where none stands twice
pub names-once : (ps : List (Name × Variable)) (ns : List Name) → ns ≡ union name_eq [] (map (λ p. p.0) ps) → nat_eq (length ns) (length ps)
    ≡ no_repeats name_eq (map (λ p. p.0) ps)
names-once ps ns e = ap (nat_eq (length ns)) (sym (length-names ps)) ∙ once-listed name_eq name_eq-Decides (map (λ p. p.0) ps) ns e

-- the types of the variables, each once, are of the table
pub variables-known : (trees : Trees) (ps : List (Name × Variable)) (vs : List Variable) → vs ≡ union same_variable [] (map (λ p. p.1) ps)
    → ArePairsKnown trees ps → HaveTypes trees vs
variables-known trees ps vs e h =
    subst (HaveTypes trees) (sym e)
    (all_typed trees (union same_variable [] (map (λ p. p.1) ps))
    (union-All (IsTyped trees) same_variable (map (λ p. p.1) ps) [] tt (each_typed trees (map (λ p. p.1) ps) (pair_types trees ps h))))

-- what one hypothesis more says
pub equations_of-last : (trees : Trees) (vs : List Variable) (hs : List TermId) (h : TermId) → equations_of trees vs (hs ++ h ∷ []) ≡ equations_of trees vs hs
    ++ equations_of trees vs (h ∷ [])
equations_of-last trees vs hs h =
    ap (filter (λ e. is_in variable_eq e.0 (variables_of trees vs))) (
    ap (filter_map variable_equation) (map-append (λ (id : TermId). term_at trees id.0) hs (h ∷ []))
    ∙ filter_map-append variable_equation (terms_at trees hs) (terms_at trees (h ∷ [])))
    ∙ filter-append (λ e. is_in variable_eq e.0 (variables_of trees vs)) (filter_map variable_equation (terms_at trees hs))
    (filter_map variable_equation (terms_at trees (h ∷ [])))

module _ (trees : Trees) (one_each : type.IsDistinct trees.types) where
  variables_of-union : (vs ws : List Variable) → HaveTypes trees vs → HaveTypes trees ws → variables_of trees (union same_variable vs ws)
      ≡ union variable_eq (variables_of trees vs) (variables_of trees ws)
  variables_of-union vs ws h k =
      variables_of-map trees (union same_variable vs ws)
      ∙ union-map (variable_at trees) same_variable variable_eq (IsTyped trees) (variable_eq-at trees one_each) ws vs (each_typed trees vs h)
      (each_typed trees ws k)
      ∙ ap (λ l. union variable_eq l (map (variable_at trees) ws)) (sym (variables_of-map trees vs))
      ∙ ap (union variable_eq (variables_of trees vs)) (sym (variables_of-map trees ws))

  module _ (ps : List (Name × Variable)) (vs : List Variable) (is : vs ≡ union same_variable [] (map (λ p. p.1) ps)) (known : ArePairsKnown trees ps) where
    variables-listed : variables_of trees vs ≡ union variable_eq [] (pair_variables (pairs_at trees ps))
    variables-listed =
        ap (variables_of trees) is ∙ variables_of-union [] (map (λ p. p.1) ps) tt (pair_types trees ps known)
        ∙ ap (union variable_eq []) (variables_of-pairs trees ps)

    among-pairs : (v : AVariable) → is_in variable_eq v (variables_of trees vs) ≡ is_in variable_eq v (pair_variables (pairs_at trees ps))
    among-pairs v = ap (is_in variable_eq v) variables-listed ∙ is_in-united variable_eq variable_eq-Decides (pair_variables (pairs_at trees ps)) [] v

    -- what the hypotheses say of the variables of the pairs
    pub equations-are : (hs : List TermId) → equations_of trees vs hs ≡ defining_equations (pairs_at trees ps) (terms_at trees hs)
    equations-are hs = λ i. filter (λ (e : AVariable × Term). among-pairs e.0 i) (filter_map variable_equation (terms_at trees hs))

    -- the variables, each once, are as many as the pairs where none stands twice
    pub variables-once : nat_eq (length vs) (length ps) ≡ no_repeats variable_eq (pair_variables (pairs_at trees ps))
    variables-once =
        (λ i. nat_eq (sym (length-variables_of trees vs) i) (sym (length-pairs trees ps) i))
        ∙ once-listed variable_eq variable_eq-Decides (pair_variables (pairs_at trees ps)) (variables_of trees vs) variables-listed

    -- each of some variables is among them
    pub all-among : (ws : List AVariable) → list_all (λ v. is_in variable_eq v (variables_of trees vs)) ws
        ≡ list_all (λ v. is_in variable_eq v (pair_variables (pairs_at trees ps))) ws
    all-among ws = all-each (λ v. is_in variable_eq v (variables_of trees vs)) (λ v. is_in variable_eq v (pair_variables (pairs_at trees ps))) among-pairs ws

  all-looked : (vs ws : List Variable) → HaveTypes trees vs → HaveTypes trees ws → list_all (λ v. is_in same_variable v vs) ws
      ≡ list_all (λ v. is_in variable_eq v (variables_of trees vs)) (variables_of trees ws)
  all-looked vs [] h k = refl
  all-looked vs (w ∷ ws) h k = λ i. (sym (is_in-at trees one_each w vs k.0 h) i && all-looked vs ws h k.1 i)

  -- each free variable is looked for among others
  pub free-among : (vs ws : List Variable) (t : Term) → HaveTypes trees vs → HaveTypes trees ws → variables_of trees ws ≡ distinct variable_eq (free_places t)
      → list_all (λ v. is_in same_variable v vs) ws ≡ list_all (λ v. is_in variable_eq v (variables_of trees vs)) (free_places t)
  free-among vs ws t h k e =
      all-looked vs ws h k ∙ ap (list_all (λ v. is_in variable_eq v (variables_of trees vs))) e
      ∙ all-distinct variable_eq variable_eq-Decides (λ v. is_in variable_eq v (variables_of trees vs)) (free_places t)

  look-up : (es : List Equation) (v : Variable) → v.ty.0 < length trees.types → AreEquationsKnown trees es
      → lookup (variable_eq (variable_at trees v)) (map (equation_at trees) es) ≡ option_map (λ (t : TermId). term_at trees t.0) (term_of es v)
  look-up [] v hv h = refl
  look-up (e ∷ es) v hv h =
      ap (λ b. cond b (Some (term_at trees e.term.0)) (lookup (variable_eq (variable_at trees v)) (map (equation_at trees) es)))
      (variable_eq-at trees one_each v e.variable hv h.0.ty)
      ∙ go (same_variable v e.variable) (look-up es v hv h.1)
    where
      go : (b : Bool) → lookup (variable_eq (variable_at trees v)) (map (equation_at trees) es) ≡ option_map (λ (t : TermId). term_at trees t.0) (term_of es v)
          → cond b (Some (term_at trees e.term.0)) (lookup (variable_eq (variable_at trees v)) (map (equation_at trees) es))
          ≡ option_map (λ (t : TermId). term_at trees t.0) (cond b (Some e.term) (term_of es v))
      go true h = refl
      go false h = h

  found-typed : (es : List Equation) (v : Variable) (t : TermId) → v.ty.0 < length trees.types → AreEquationsKnown trees es → term_of es v ≡ Some t
      → (t.0 < length trees.terms) × HasType (term_at trees t.0) (type_at trees v.ty.0)
  found-typed [] v t hv h e = absurd (cc)
  found-typed (q ∷ es) v t hv h e = go (same_variable v q.variable) refl e (found-typed es v t hv h.1)
    where
      go : (b : Bool) → same_variable v q.variable ≡ b → cond b (Some q.term) (term_of es v) ≡ Some t
          → (term_of es v ≡ Some t → (t.0 < length trees.terms) × HasType (term_at trees t.0) (type_at trees v.ty.0))
          → (t.0 < length trees.terms) × HasType (term_at trees t.0) (type_at trees v.ty.0)
      go true s e on =
          let same : q.term ≡ t = same_Some _ _ e in
          let ty : v.ty.0 ≡ q.variable.ty.0 = (Decides-eqb v.ty.0 q.variable.ty.0).0
          (and_parts (name_eq v.name q.variable.name) (nat_eq v.ty.0 q.variable.ty.0) s).1 in (
            subst (λ (u : TermId). u.0 < length trees.terms) same h.0.term,
            subst (λ (u : TermId). HasType (term_at trees u.0) (type_at trees v.ty.0)) same
                (subst (λ i. HasType (term_at trees q.term.0) (type_at trees i)) (sym ty) h.0.typed),
          )
      go false s e on = on e

  module _ (all : ConstantPairs) (hs : List Term) (es : List Equation) (are : map (equation_at trees) es ≡ defining_equations all hs)
      (es_known : AreEquationsKnown trees es) where
    definiens-is : (v : Variable) → v.ty.0 < length trees.types → definiens all hs (variable_at trees v)
        ≡ option_map (λ (t : TermId). term_at trees t.0) (term_of es v)
    definiens-is v hv = ap (lookup (variable_eq (variable_at trees v))) (sym are) ∙ look-up es v hv es_known

    -- the terms that are found define the variables
    pub defined-by : (ps : List (Name × Variable)) (ts : List TermId) → ArePairsKnown trees ps → AreFound ps es ts → AreDefined trees all hs ps ts
    defined-by [] [] k f = tt
    defined-by (p ∷ ps) (t ∷ ts) k f =
        ((definiens-is p.1 k.0 ∙ ap (option_map (λ (t : TermId). term_at trees t.0)) f.0, found-typed es p.1 t k.0 es_known f.0), defined-by ps ts k.1 f.1)
    defined-by (p ∷ ps) [] k f = absurd f
    defined-by [] (t ∷ ts) k f = absurd f

    -- each variable has a definition where each has an equation
    pub all-defined : (ps : List (Name × Variable)) → ArePairsKnown trees ps → list_all (λ v. is_some (definiens all hs v)) (pair_variables (pairs_at trees ps))
        ≡ list_all (λ p. is_some (term_of es p.1)) ps
    all-defined [] k = refl
    all-defined (p ∷ ps) k =
        λ i. ((ap is_some (definiens-is p.1 k.0) ∙ some-mapped (λ (t : TermId). term_at trees t.0) (term_of es p.1)) i && all-defined ps k.1 i)

pub all-found : (ps : List (Name × Variable)) (es : List Equation) (ts : List TermId) → AreFound ps es ts → list_all (λ p. is_some (term_of es p.1)) ps ≡ true
all-found [] es [] f = refl
all-found (p ∷ ps) es (t ∷ ts) f = ap (λ o. is_some o && list_all (λ q. is_some (term_of es q.1)) ps) f.0 ∙ all-found ps es ts f.1
all-found (p ∷ ps) es [] f = absurd f
all-found [] es (t ∷ ts) f = absurd f

pub as_many : (trees : Trees) (all : ConstantPairs) (hs : List Term) (ps : List (Name × Variable)) (ts : List TermId) → AreDefined trees all hs ps ts
    → length ps ≡ length ts
as_many trees all hs [] [] d = refl
as_many trees all hs (p ∷ ps) (t ∷ ts) d = ap suc (as_many trees all hs ps ts d.1)
as_many trees all hs (p ∷ ps) [] d = absurd d
as_many trees all hs [] (t ∷ ts) d = absurd d

shuffled : (n v k d f : Bool) → (((n && v) && k) && d && f) ≡ (((n && v) && k) && f && d)
shuffled true true true true true = refl
shuffled true true true true false = refl
shuffled true true true false true = refl
shuffled true true true false false = refl
shuffled true true false d f = refl
shuffled true false k d f = refl
shuffled false v k d f = refl

-- a list of definitions is a list, and each variable of it is defined
module _ (pairs : ConstantPairs) (one : Sequent) where
  abbrev pub each : Bool
  each = list_all (λ v. is_some (definiens pairs one.hypotheses v)) (pair_variables pairs)

  pub list-is : is_definition_list pairs one ≡ (is_list pairs one && each)
  list-is =
      shuffled (no_repeats name_eq (names_of pairs)) (no_repeats variable_eq (pair_variables pairs)) (nat_eq (length one.hypotheses) (length pairs)) each
      (list_all (λ v. is_in variable_eq v (pair_variables pairs)) (free_places one.conclusion))

-- the symbols that are taken are the definitions
pub constants-symbols : (trees : Trees) (all : ConstantPairs) (hs : List Term) (ps : List (Name × Variable)) (ts : List TermId) → AreDefined trees all hs ps ts
    → symbols_at trees (constants_of ps ts) ≡ map Symbol.defined
    (filter_map (λ p. option_map (Definition.constant p.0) (definiens all hs p.1)) (pairs_at trees ps))
constants-symbols trees all hs [] [] d = refl
constants-symbols trees all hs (p ∷ ps) (t ∷ ts) d =
    ap (λ l. Symbol.defined (Definition.constant p.0 (term_at trees t.0)) ∷ l) (constants-symbols trees all hs ps ts d.1)
    ∙ ap (λ o. map Symbol.defined
    (cons_option (option_map (Definition.constant p.0) o)
    (filter_map (λ p. option_map (Definition.constant p.0) (definiens all hs p.1)) (pairs_at trees ps)))) (sym d.0.0)
constants-symbols trees all hs (p ∷ ps) [] d = absurd d
constants-symbols trees all hs [] (t ∷ ts) d = absurd d

-- and their numbers are of the table
pub constants-known : (trees : Trees) (all : ConstantPairs) (hs : List Term) (ps : List (Name × Variable)) (ts : List TermId) → ArePairsKnown trees ps
    → AreDefined trees all hs ps ts → AreKnownSymbols trees (constants_of ps ts)
constants-known trees all hs [] [] k d = tt
constants-known trees all hs (p ∷ ps) (t ∷ ts) k d = (record { term = d.0.1.0; ty = k.0; typed = d.0.1.1 }, constants-known trees all hs ps ts k.1 d.1)
constants-known trees all hs (p ∷ ps) [] k d = absurd d
constants-known trees all hs [] (t ∷ ts) k d = absurd d

-- names that aren't taken, nor stand twice, are new
pub new-names : (trees : Trees) (xs : List Taken) (ps : List (Name × Variable)) → AreKnownSymbols trees xs
    → list_any (is_taken_constant (symbols_at trees xs)) (names_of (pairs_at trees ps)) ≡ false → no_repeats name_eq (names_of (pairs_at trees ps)) ≡ true
    → AreNew (generics_of xs) ps
new-names trees xs [] k e n = tt
new-names trees xs (p ∷ ps) k e n =
    let a = or_parts (is_taken_constant (symbols_at trees xs) p.0) (list_any (is_taken_constant (symbols_at trees xs)) (names_of (pairs_at trees ps))) e in
    let b = not-once (is_in name_eq p.0 (names_of (pairs_at trees ps))) (no_repeats name_eq (names_of (pairs_at trees ps))) n in
    ((undefined trees p.0 xs k a.0, ap (is_in name_eq p.0) (sym (names_of-pairs trees ps)) ∙ b.0), new-names trees xs ps k a.1 b.1)
  where
    not-once : (b c : Bool) → (not b && c) ≡ true → (b ≡ false) × (c ≡ true)
    not-once true c e = absurd (cc)
    not-once false c e = (refl, e)

-- what is judged of a list, one part after the other
module _ (trees : Trees) (ps : List (Name × Variable)) (hs : List TermId) (concl : TermId) where
  abbrev seq : Sequent
  seq = record { hypotheses = terms_at trees hs; conclusion = term_at trees concl.0 }

  counts : nat_eq (length (terms_at trees hs)) (length (pairs_at trees ps)) ≡ nat_eq (length hs) (length ps)
  counts = λ i. nat_eq (length-map hs (λ (id : TermId). term_at trees id.0) i) (length-map ps (pair_at trees) i)

  judged : (n v k f : Bool) → no_repeats name_eq (names_of (pairs_at trees ps)) ≡ n → no_repeats variable_eq (pair_variables (pairs_at trees ps)) ≡ v
      → nat_eq (length hs) (length ps) ≡ k
      → list_all (λ w. is_in variable_eq w (pair_variables (pairs_at trees ps))) (free_places (term_at trees concl.0)) ≡ f → is_list (pairs_at trees ps) seq
      ≡ (n && v && k && f)
  judged n v k f a b c d = λ i. (a i && b i && (counts ∙ c) i && d i)

  pub listed : (n v k f : Bool) → n ≡ no_repeats name_eq (map (λ p. p.0) ps) → v ≡ no_repeats variable_eq (pair_variables (pairs_at trees ps)) → k
      ≡ nat_eq (length hs) (length ps)
      → f ≡ list_all (λ w. is_in variable_eq w (pair_variables (pairs_at trees ps))) (free_places (term_at trees concl.0)) → (n && v && k && f)
      ≡ is_list (pairs_at trees ps) seq
  listed n v k f a b c d = sym (judged n v k f (ap (no_repeats name_eq) (names_of-pairs trees ps) ∙ sym a) (sym b) (sym c) (sym d))
