-- How many parameters a sequent has.
use Rattle.std.proofs.Common.{◌≡◌, ℕ, suc, ◌+◌, ◌-◌, ◌^◌, refl, sym, ap, ◌∙◌, arith, List, [], ◌∷◌, ◌++◌, length, subst, Option, Some}
use Rattle.std.specs.Prelude.{min, slice_get, nat_eq}
use Rattle.std.proofs.lemmas.Option.{same_Some}
use Rattle.std.specs.List.{flat_map}
use Rattle.std.proofs.lemmas.List.{length-map, append-nil, append_assoc}
use Rattle.hol_spec.specs.Names.{Name}
use Rattle.hol_spec.specs.NameEquality.{name_eq}
use Rattle.hol_spec.specs.Lists.{distinct, union}
use Rattle.hol_spec.specs.Types.{HolType}
use Rattle.hol_type.specs.Tables as type
use Rattle.hol_spec.specs.Sequents.{Sequent as ASequent, terms_of, type_variables_of, free_variables_of, parameter_count}
use Rattle.hol_spec.specs.Terms.{Term, Variable as AVariable, variable_eq, type_variable_places, free_places}
use Rattle.hol_term.specs.declared.TermId.{TermId}
use Rattle.hol_term.specs.declared.Variable.{Variable}
use Rattle.hol_term.specs.Subterms.{variables_of}
use Rattle.hol_term.specs.Tables.{Trees, term_at, terms_at, AreKnown, IsDistinct}
use Rattle.sequent.specs.declared.Sequent.{Sequent}
use Rattle.sequent.specs.Sequents.{sequent_at}
use Rattle.hol_variables.specs.declared.counting.Found.{Found}
use Rattle.hol_variables.specs.declared.lists.ListId.{ListId}
use Rattle.hol_variables.specs.Lists.{Tells}
use Rattle.hol_variables.specs.Noted.{AreOfSequent, AreOfTerm, Gathers}
use Rattle.hol_variables.specs.Variables.{AreNames, AreVariables, name_at, variable_at, variable_count}
use Rattle.hol_variables.proofs.Gathered.{places-last}
use Rattle.hol_variables.proofs.Names.{AreNames-none, AreNames-union, AreVariables-none, AreVariables-union}

-- counts whose sums are cut at the greatest number
pub counted : (a b c k n : ℕ) → k ≡ min (a + b) (2 ^ 64 - 1) → n ≡ min (k + c) (2 ^ 64 - 1) → n ≡ min (a + b + c) (2 ^ 64 - 1)
counted a b c k n e f = omega (arith, e, f)

length-variables_of : (trees : Trees) (vs : List Variable) → length (variables_of trees vs) ≡ length vs
length-variables_of trees [] = refl
length-variables_of trees (v ∷ vs) = ap suc (length-variables_of trees vs)

-- a sequent's parameters as listed by a walk
pub walked_count : (trees : Trees) (s : Sequent) (names : List Name) (vs : List Variable) (ids : List TermId) → names ≡ type_variables_of (sequent_at trees s)
    → variables_of trees vs ≡ free_variables_of (sequent_at trees s) → ids ≡ s.hyps
    → min (length names + length vs + length ids) (2 ^ 64 - 1) ≡ min (parameter_count (sequent_at trees s)) (2 ^ 64 - 1)
walked_count trees s names vs ids e f g =
    let n = ap length e in
    let v = sym (length-variables_of trees vs) ∙ ap length f in
    let h = ap length g ∙ sym (length-map s.hyps (λ (id : TermId). term_at trees id.0)) in
    λ i. min (n i + v i + h i) (2 ^ 64 - 1)

-- terms of which the first are taken
pub record IsFinding (trees : Trees) (all rest : List TermId) (found : Found) : Type 0 where
  pub done : List TermId
  pub whole : all ≡ done ++ rest
  pub known : AreKnown trees rest
  pub names : AreNames trees.types (flat_map type_variable_places (terms_at trees done)) found.names
  pub variables : AreVariables trees (flat_map free_places (terms_at trees done)) found.variables

terms_at-last : (trees : Trees) (ids : List TermId) (id : TermId) → terms_at trees (ids ++ id ∷ []) ≡ terms_at trees ids ++ term_at trees id.0 ∷ []
terms_at-last trees [] id = refl
terms_at-last trees (i ∷ ids) id = ap (λ l. term_at trees i.0 ∷ l) (terms_at-last trees ids id)

module _ (trees : Trees) (all : List TermId) where
  pub finding_begins : (found : Found) → AreKnown trees all → found.names ≡ [] → found.variables ≡ [] → IsFinding trees all all found
  finding_begins found k e f = record {
    done = [];
    whole = refl;
    known = k;
    names = subst (AreNames trees.types []) (sym e) (AreNames-none trees.types);
    variables = subst (AreVariables trees []) (sym f) (AreVariables-none trees);
  }

  pub finding_goes_on : (rest : List TermId) (id : TermId) (old new : Found) → Gathers trees id old new → IsFinding trees all (id ∷ rest) old
      → IsFinding trees all rest new
  finding_goes_on rest id old new g h = record {
    done = h.done ++ id ∷ [];
    whole = h.whole ∙ sym (append_assoc h.done (id ∷ []) rest);
    known = h.known.1;
    names =
        subst (λ ps. AreNames trees.types ps new.names)
        (places-last type_variable_places (terms_at trees h.done) (term_at trees id.0)
        ∙ ap (flat_map type_variable_places) (sym (terms_at-last trees h.done id)))
        (g.names (flat_map type_variable_places (terms_at trees h.done)) h.names);
    variables =
        subst (λ ps. AreVariables trees ps new.variables)
        (places-last free_places (terms_at trees h.done) (term_at trees id.0) ∙ ap (flat_map free_places) (sym (terms_at-last trees h.done id)))
        (g.variables (flat_map free_places (terms_at trees h.done)) h.variables);
  }

-- the conclusion's variables and the hypotheses' are the sequent's
pub finding_ends : (trees : Trees) (s : Sequent) (rest : List TermId) (old new : Found) → rest ≡ [] → IsFinding trees s.hyps rest old
    → Gathers trees s.concl old new → AreOfSequent trees (sequent_at trees s) new.names new.variables
finding_ends trees s rest old new none h g =
    let all : s.hyps ≡ h.done = h.whole ∙ ap (λ l. h.done ++ l) none ∙ append-nil h.done in
    let ts = terms_at trees h.done in
    let t = term_at trees s.concl.0 in
    let terms : ts ++ t ∷ [] ≡ terms_at trees s.hyps ++ t ∷ [] = ap (λ l. terms_at trees l ++ t ∷ []) (sym all) in
    record {
      type_variables = subst (λ ps. AreNames trees.types ps new.names) (places-last type_variable_places ts t ∙ ap (flat_map type_variable_places) terms)
          (g.names (flat_map type_variable_places ts) h.names);
      free_variables = subst (λ ps. AreVariables trees ps new.variables) (places-last free_places ts t ∙ ap (flat_map free_places) terms)
          (g.variables (flat_map free_places ts) h.variables);
    }

-- the same lists are so, too
pub AreOfSequent-same : (trees : Trees) (s : ASequent) (own free names variables : List ℕ) → names ≡ own → variables ≡ free
    → AreOfSequent trees s own free → AreOfSequent trees s names variables
AreOfSequent-same trees s own free names variables e f h = record {
  type_variables = subst (AreNames trees.types (flat_map type_variable_places (terms_of s))) (sym e) h.type_variables;
  free_variables = subst (AreVariables trees (flat_map free_places (terms_of s))) (sym f) h.free_variables;
}

-- of a sequent without hypotheses they are the conclusion's
pub AreOfSequent-alone : (trees : Trees) (s : Sequent) (names variables : List ℕ) → s.hyps ≡ [] → AreOfTerm trees s.concl.0 names variables
    → AreOfSequent trees (sequent_at trees s) names variables
AreOfSequent-alone trees s names variables e h =
    subst (λ hyps. AreOfSequent trees (sequent_at trees (record { hyps = hyps; concl = s.concl })) names variables) (sym e) (record {
      type_variables = subst (λ ps. AreNames trees.types ps names) (sym (append-nil (type_variable_places (term_at trees s.concl.0)))) h.type_variables;
      free_variables = subst (λ ps. AreVariables trees ps variables) (sym (append-nil (free_places (term_at trees s.concl.0)))) h.free_variables;
    })

-- as many as there are of them, and the hypotheses
pub found_count : (trees : Trees) (s : Sequent) (ids : List TermId) (own free names variables : List ℕ) → AreOfSequent trees (sequent_at trees s) own free
    → names ≡ own → variables ≡ free → ids ≡ s.hyps
    → min (length names + length variables + length ids) (2 ^ 64 - 1) ≡ min (parameter_count (sequent_at trees s)) (2 ^ 64 - 1)
found_count trees s ids own free names variables h en ev eh =
    let n = ap length en ∙ sym (length-map own (name_at trees.types)) ∙ ap length h.type_variables.are in
    let v = ap length ev ∙ sym (length-map free (variable_at trees)) ∙ ap length h.free_variables.are in
    let k = ap length eh ∙ sym (length-map s.hyps (λ (id : TermId). term_at trees id.0)) in
    λ i. min (n i + v i + k i) (2 ^ 64 - 1)

-- what is taken of a term
pub Gathers-lists : (trees : Trees) (id : TermId) (names variables : List ℕ) (old new : Found) → type.IsDistinct trees.types → IsDistinct trees.terms
    → AreOfTerm trees id.0 names variables → new.names ≡ union nat_eq old.names names → new.variables ≡ union nat_eq old.variables variables
    → Gathers trees id old new
Gathers-lists trees id names variables old new dt d h en ev = record {
  names = λ before n. subst (AreNames trees.types (before ++ type_variable_places (term_at trees id.0))) (sym en)
      (AreNames-union trees.types dt before (type_variable_places (term_at trees id.0)) old.names names n h.type_variables);
  variables = λ before v. subst (AreVariables trees (before ++ free_places (term_at trees id.0))) (sym ev)
      (AreVariables-union trees d before (free_places (term_at trees id.0)) old.variables variables v h.free_variables);
}

-- a list that is kept has the variables that its term has
pub variables_listed : (trees : Trees) (places : List AVariable) (lists : List (List ℕ)) (o : Option ListId) (id : ListId) (numbers list : List ℕ)
    → Tells (AreVariables trees places) lists o → o ≡ Some id → slice_get lists id.0 ≡ Some list → numbers ≡ list → AreVariables trees places numbers
variables_listed trees places lists o id numbers list t e at n =
    let own = subst (Tells (AreVariables trees places) lists) e t in
    subst (AreVariables trees places) (sym (n ∙ same_Some _ _ (sym at ∙ own.is))) own.such

pub names_listed : (types : List HolType) (places : List Name) (lists : List (List ℕ)) (o : Option ListId) (id : ListId) (numbers list : List ℕ)
    → Tells (AreNames types places) lists o → o ≡ Some id → slice_get lists id.0 ≡ Some list → numbers ≡ list → AreNames types places numbers
names_listed types places lists o id numbers list t e at n =
    let own = subst (Tells (AreNames types places) lists) e t in
    subst (AreNames types places) (sym (n ∙ same_Some _ _ (sym at ∙ own.is))) own.such

-- the lists of a term's variables have as many numbers as it has variables
pub listed_count : (trees : Trees) (id : ℕ) (names variables : List ℕ) (n : ℕ) → AreOfTerm trees id names variables
    → n ≡ min (length names + length variables) (2 ^ 64 - 1) → n ≡ min (variable_count (term_at trees id)) (2 ^ 64 - 1)
listed_count trees id names variables n h e =
    let k = sym (length-map names (name_at trees.types)) ∙ ap length h.type_variables.are in
    let v = sym (length-map variables (variable_at trees)) ∙ ap length h.free_variables.are in
    e ∙ λ i. min (k i + v i) (2 ^ 64 - 1)

-- a sequent without hypotheses has the parameters of its conclusion
pub parameter_count-alone : (trees : Trees) (s : Sequent) → s.hyps ≡ [] → variable_count (term_at trees s.concl.0) ≡ parameter_count (sequent_at trees s)
parameter_count-alone trees s e = subst (λ hyps. variable_count t ≡ parameter_count (sequent_at trees (record { hyps = hyps; concl = s.concl }))) (sym e) alone
  where
    t : Term
    t = term_at trees s.concl.0

    names : length (distinct name_eq (type_variable_places t)) ≡ length (distinct name_eq (type_variable_places t ++ []))
    names = ap (λ l. length (distinct name_eq l)) (sym (append-nil (type_variable_places t)))

    variables : length (distinct variable_eq (free_places t)) ≡ length (distinct variable_eq (free_places t ++ []))
    variables = ap (λ l. length (distinct variable_eq l)) (sym (append-nil (free_places t)))

    alone : variable_count t ≡ length (distinct name_eq (type_variable_places t ++ [])) + length (distinct variable_eq (free_places t ++ [])) + 0
    alone = omega (arith, names, variables)
