-- What is judged of a list of constants, by numbers, and its refusals.
use Rattle.std.proofs.Common.{◌≡◌, refl, sym, ap, ◌∙◌, List, [], ◌∷◌, map, Bool, true, false, None, Some, Ok, Err, Result, Global}
use Rattle.std.specs.Prelude.{◌&&◌, not, IfOk, OnOk}
use Rattle.std.specs.declared.vec.Vec.{Vec}
use Rattle.std.specs.List.{list_all, list_any}
use Rattle.hol_spec.specs.Names.{Name}
use Rattle.hol_spec.specs.Defining.{is_closed, has_type_variables_of}
use Rattle.hol_spec.specs.DefinitionLists.{ConstantPairs, names_of, defining_equations, is_definition_list}
use Rattle.hol_spec.specs.Sequents.{Sequent}
use Rattle.hol_spec.specs.Symbols.{Symbol, is_taken_constant}
use Rattle.hol_proof_laws.specs.RuleTaken.{list_parts}
use Rattle.hol_type.specs.Tables as type
use Rattle.hol_term.specs.declared.TermId.{TermId}
use Rattle.hol_term.specs.declared.Variable.{Variable}
use Rattle.hol_term.specs.Tables.{Trees, terms_at}
use Rattle.common.specs.declared.faults.Fault.{Fault}
use Rattle.common.specs.declared.faults.Fault.TheVariants as fault
use Rattle.common.specs.declared.faults.Kind.{Kind}
use Rattle.common.specs.declared.faults.Kind.TheVariants.{NameTaken, NotClosed, ExtraTypeVars, BadDefinitionList}
use Rattle.hol_defs.specs.declared.lists.Equation.{Equation}
use Rattle.hol_defs.specs.Faults.{first_failing, list_fault, Refuses}
use Rattle.hol_defs.specs.Lists.{definitions_fault, equations_fault, undefined_fault, sequent_at, pairs_at, equation_at, is_list, AreEquationsKnown, ArePairsKnown, AreFound, AreDefined, AreNew}
use Rattle.hol_defs.specs.Symbols.{Taken, symbols_at, AreKnownSymbols}
use Rattle.hol_defs.specs.Indexes.{generics_of}
use Rattle.hol_defs.proofs.JudgeLaws.{passing, first_holds, last_holds, first_of_three, second_of_three, third_of_three, none_of_three}
use Rattle.hol_defs.proofs.PairLaws.{each, list-is, all-defined, all-found, defined-by, new-names}

still_fails : (a b c d : Bool) (j k l m : Kind) → first_failing ((a, j) ∷ (b, k) ∷ (c, l) ∷ []) ≡ Some m → first_failing ((a, j) ∷ (b, k) ∷ (c && d, l) ∷ [])
    ≡ Some m
still_fails false b c d j k l m e = e
still_fails true false c d j k l m e = e
still_fails true true false d j k l m e = e
still_fails true true true d j k l m e = absurd (cc)

one_left : (a b c d : Bool) (j k l : Kind) → first_failing ((a, j) ∷ (b, k) ∷ (c, l) ∷ []) ≡ None → first_failing ((a, j) ∷ (b, k) ∷ (c && d, l) ∷ [])
    ≡ first_failing ((d, l) ∷ [])
one_left false b c d j k l e = absurd (cc)
one_left true false c d j k l e = absurd (cc)
one_left true true false d j k l e = absurd (cc)
one_left true true true d j k l e = refl

module _ (pairs : ConstantPairs) (one : Sequent) where
  abbrev closed : Bool
  closed = list_all (λ e. is_closed e.1) (defining_equations pairs one.hypotheses)

  abbrev own : Bool
  own = list_all (λ e. has_type_variables_of e.0.1 e.1) (defining_equations pairs one.hypotheses)

  by_parts : definitions_fault pairs one ≡ first_failing
      ((closed, NotClosed) ∷ (own, ExtraTypeVars) ∷ (is_list pairs one && each pairs one, BadDefinitionList) ∷ [])
  by_parts = ap (λ b. first_failing ((closed, NotClosed) ∷ (own, ExtraTypeVars) ∷ (b, BadDefinitionList) ∷ [])) (list-is pairs one)

  -- what is refused before an equation is looked for each pair is refused
  pub definitions_fault-refused : (f : Fault) → Refuses f (equations_fault pairs one) → Refuses f (definitions_fault pairs one)
  definitions_fault-refused (fault.Refused kind) h =
      by_parts ∙ still_fails closed own (is_list pairs one) (each pairs one) NotClosed ExtraTypeVars BadDefinitionList kind h
  definitions_fault-refused fault.Memory h = tt

  -- where nothing is refused before, each pair's equation is left
  one_equation : equations_fault pairs one ≡ None → definitions_fault pairs one ≡ first_failing ((each pairs one, BadDefinitionList) ∷ [])
  one_equation e = by_parts ∙ one_left closed own (is_list pairs one) (each pairs one) NotClosed ExtraTypeVars BadDefinitionList e

-- a list with a name that is taken
pub list_fault-taken : (symbols : List Symbol) (pairs : ConstantPairs) (one : Sequent) → list_any (is_taken_constant symbols) (names_of pairs) ≡ true
    → list_fault symbols pairs one ≡ Some NameTaken
list_fault-taken symbols pairs one taken = ap
    (λ b. first_failing ((not b, NameTaken) ∷ (closed pairs one, NotClosed) ∷ (own pairs one, ExtraTypeVars) ∷ (is_definition_list pairs one, BadDefinitionList)
    ∷ [])) taken

-- what is judged of a list none of whose names is taken
pub list_fault-new : (symbols : List Symbol) (pairs : ConstantPairs) (one : Sequent) → list_any (is_taken_constant symbols) (names_of pairs) ≡ false
    → list_fault symbols pairs one ≡ definitions_fault pairs one
list_fault-new symbols pairs one free = ap
    (λ b. first_failing ((not b, NameTaken) ∷ (closed pairs one, NotClosed) ∷ (own pairs one, ExtraTypeVars) ∷ (is_definition_list pairs one, BadDefinitionList)
    ∷ [])) free

-- what is judged of a list by the equations that are put: closed, with their own type variables, and a list or not
module _ (trees : Trees) (pairs : ConstantPairs) (one : Sequent) (es : List Equation)
    (said : map (equation_at trees) es ≡ defining_equations pairs one.hypotheses) (a b : Bool)
    (is : a ≡ list_all (λ e. is_closed e.1) (map (equation_at trees) es)) where
  put_closed : (v : Bool) → a ≡ v → closed pairs one ≡ v
  put_closed v e = sym (is ∙ ap (list_all (λ e. is_closed e.1)) said) ∙ e

  pub equations_fault-open : a ≡ false → equations_fault pairs one ≡ Some NotClosed
  equations_fault-open e = first_of_three _ _ _ _ _ _ (put_closed false e)

  module _ (own_is : b ≡ list_all (λ e. has_type_variables_of e.0.1 e.1) (map (equation_at trees) es)) where
    put_own : (v : Bool) → b ≡ v → own pairs one ≡ v
    put_own v e = sym (own_is ∙ ap (list_all (λ e. has_type_variables_of e.0.1 e.1)) said) ∙ e

    pub equations_fault-extra : a ≡ true → b ≡ false → equations_fault pairs one ≡ Some ExtraTypeVars
    equations_fault-extra e f = second_of_three _ _ _ _ _ _ (put_closed true e) (put_own false f)

    pub equations_fault-no_list : a ≡ true → b ≡ true → is_list pairs one ≡ false → equations_fault pairs one ≡ Some BadDefinitionList
    equations_fault-no_list e f g = third_of_three _ _ _ _ _ _ (put_closed true e) (put_own true f) g

    pub equations_fault-none : a ≡ true → b ≡ true → is_list pairs one ≡ true → equations_fault pairs one ≡ None
    equations_fault-none e f g = none_of_three _ _ _ _ _ _ (put_closed true e) (put_own true f) g

-- what hypotheses say, where their equations are put and nothing else is refused
module _ (trees : Trees) (one_each : type.IsDistinct trees.types) (ps : List (Name × Variable)) (hs : List TermId) (concl : TermId) (es : List Equation)
    (known : ArePairsKnown trees ps)
    (said : map (equation_at trees) es ≡ defining_equations (pairs_at trees ps) (terms_at trees hs)) (es_known : AreEquationsKnown trees es) where
  -- what is left to be judged are the pairs without an equation
  pub definitions_fault-judged : equations_fault (pairs_at trees ps) (sequent_at trees hs concl) ≡ None
      → definitions_fault (pairs_at trees ps) (sequent_at trees hs concl) ≡ undefined_fault ps es
  definitions_fault-judged e =
      one_equation (pairs_at trees ps) (sequent_at trees hs concl) e
      ∙ ap (λ b. first_failing ((b, BadDefinitionList) ∷ [])) (all-defined trees one_each (pairs_at trees ps) (terms_at trees hs) es said es_known ps known)

  -- the terms that are found define the constants
  pub terms-defined : (r : Result (Vec TermId Global) Fault) → IfOk r (λ ts. AreFound ps es ts.items)
      → IfOk r (λ ts. AreDefined trees (pairs_at trees ps) (terms_at trees hs) ps ts.items)
  terms-defined (Ok ts) h = defined-by trees one_each (pairs_at trees ps) (terms_at trees hs) es said es_known ps ts.items known h
  terms-defined (Err f) h = tt

-- where terms are found each pair has an equation
pub undefined_fault-found : (ps : List (Name × Variable)) (es : List Equation) (r : Result (Vec TermId Global) Fault) → IfOk r (λ ts. AreFound ps es ts.items)
    → OnOk r (undefined_fault ps es ≡ None)
undefined_fault-found ps es (Ok ts) h = passing _ BadDefinitionList [] (all-found ps es ts.items h)
undefined_fault-found ps es (Err f) h = tt

-- names of which nothing is refused are new
pub list-new : (trees : Trees) (xs : List Taken) (ps : List (Name × Variable)) (one : Sequent) → AreKnownSymbols trees xs
    → list_fault (symbols_at trees xs) (pairs_at trees ps) one ≡ None → AreNew (generics_of xs) ps
list-new trees xs ps one k e =
    let pairs : ConstantPairs = pairs_at trees ps in
    let taken : Bool = list_any (is_taken_constant (symbols_at trees xs)) (names_of pairs) in
    let closed : Bool = list_all (λ e. is_closed e.1) (defining_equations pairs one.hypotheses) in
    let own : Bool = list_all (λ e. has_type_variables_of e.0.1 e.1) (defining_equations pairs one.hypotheses) in
    let list : Bool = is_definition_list pairs one in
    new-names trees xs ps k (first_holds taken NameTaken ((closed, NotClosed) ∷ (own, ExtraTypeVars) ∷ (list, BadDefinitionList) ∷ []) e)
    (list_parts pairs one (last_holds (not taken) closed own list NameTaken NotClosed ExtraTypeVars BadDefinitionList e)).names
