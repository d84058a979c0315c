-- What was noted stays right while the table grows.
use Rattle.std.proofs.Common.{◌≡◌, ℕ, ◌<◌, refl, sym, ap, ◌∙◌, subst, arith, List, [], ◌∷◌, map, length, Option, Some, None}
use Rattle.std.specs.List.{AllByRecursion}
use Rattle.std.proofs.Math.Path.{ap₂}
use Rattle.std.proofs.lemmas.Option.{slice_get_within}
use Rattle.hol_spec.specs.Names.{Name}
use Rattle.hol_spec.specs.Types.{HolType, variable, variable_places}
use Rattle.hol_spec.specs.Terms.{free, Variable as AVariable, type_variable_places, free_places}
use Rattle.hol_laws.specs.Members.{All-weaker}
use Rattle.hol_type.specs.Tables.{tree_at}
use Rattle.hol_type.specs.Tables as type
use Rattle.hol_type.specs.TableLaws.{Holds-tree_at, tree_at-Stays}
use Rattle.hol_term.specs.Tables.{Trees, term_at, Stays, Keeps}
use Rattle.hol_term.specs.TableLaws.{Some-term_in, term_in-Stays}
use Rattle.hol_variables.specs.declared.lists.ListId.{ListId}
use Rattle.hol_variables.specs.declared.Own.{Own}
use Rattle.hol_variables.specs.declared.ParamMemo.{ParamMemo}
use Rattle.hol_variables.specs.Lists.{KeepsLists, Tells}
use Rattle.hol_variables.specs.Noted.{AreTypesNoted, AreTermsNoted, AreNoted}
use Rattle.hol_variables.specs.Variables.{name_of, name_at, IsNameAt, AreNames, variable_of, variable_at, IsVariableAt, AreVariables}

-- a type variable's name, and a free variable, by their numbers
pub name_at-is : (types : List HolType) (i : ℕ) (h : IsNameAt types i) → name_at types i ≡ h.name
name_at-is types i h = ap name_of (Holds-tree_at types i (variable h.name) h.is)

pub variable_at-is : (trees : Trees) (i : ℕ) (h : IsVariableAt trees i) → variable_at trees i ≡ (h.name, h.ty)
variable_at-is trees i h = ap variable_of (Some-term_in trees.terms i (free h.name h.ty) h.is)

-- where the first implies the second, and lists are kept, what tells the first tells the second
pub Tells-weaker : {P Q : List ℕ → Type 0} {old new : List (List ℕ)} → KeepsLists old new → ((l : List ℕ) → P l → Q l) → (o : Option ListId) → Tells P old o
    → Tells Q new o
Tells-weaker k f None h = tt
Tells-weaker k f (Some id) h = record { list = h.list; is = k.each id.0 h.list h.is; such = f h.list h.such }

pub KeepsLists-refl : (ls : List (List ℕ)) → KeepsLists ls ls
KeepsLists-refl ls = record { each = λ i l e. e }

module _ (a b : List HolType) (k : type.Stays a b) where
  name_stays : (i : ℕ) → IsNameAt a i → IsNameAt b i
  name_stays i h = record { name = h.name; is = k.each i (variable h.name) h.is }

  names_stay : (ids : List ℕ) → AllByRecursion (IsNameAt a) ids → map (name_at a) ids ≡ map (name_at b) ids
  unfolding name_stays
  names_stay [] h = refl
  names_stay (i ∷ ids) h = ap₂ (λ n l. n ∷ l) (name_at-is a i h.0 ∙ sym (name_at-is b i (name_stays i h.0))) (names_stay ids h.1)

  -- type variables stay
  pub AreNames-Stays : (ps qs : List Name) (ids : List ℕ) → ps ≡ qs → AreNames a ps ids → AreNames b qs ids
  AreNames-Stays ps qs ids e h = subst (λ l. AreNames b l ids) e (record {
    each = All-weaker (IsNameAt a) (IsNameAt b) name_stays ids h.each;
    are = sym (names_stay ids h.each) ∙ h.are;
  })

module _ (a b : Trees) (k : Stays a.terms b.terms) where
  variable_stays : (i : ℕ) → IsVariableAt a i → IsVariableAt b i
  variable_stays i h = record { name = h.name; ty = h.ty; is = k.each i (free h.name h.ty) h.is }

  variables_stay : (ids : List ℕ) → AllByRecursion (IsVariableAt a) ids → map (variable_at a) ids ≡ map (variable_at b) ids
  unfolding variable_stays
  variables_stay [] h = refl
  variables_stay (i ∷ ids) h = ap₂ (λ v l. v ∷ l) (variable_at-is a i h.0 ∙ sym (variable_at-is b i (variable_stays i h.0))) (variables_stay ids h.1)

  -- free variables stay
  pub AreVariables-Stays : (ps qs : List AVariable) (ids : List ℕ) → ps ≡ qs → AreVariables a ps ids → AreVariables b qs ids
  AreVariables-Stays ps qs ids e h = subst (λ l. AreVariables b l ids) e (record {
    each = All-weaker (IsVariableAt a) (IsVariableAt b) variable_stays ids h.each;
    are = sym (variables_stay ids h.each) ∙ h.are;
  })

-- what was noted of types stays right
AreTypesNoted-Keeps : (a b : List HolType) → type.Keeps a b → (names : List (List ℕ)) (noted : List (Option ListId)) → AreTypesNoted a names noted
    → AreTypesNoted b names noted
AreTypesNoted-Keeps a b k names noted h = record {
  few = omega (arith, h.few, k.longer);
  each = λ i o e.
      let lt : i < length a = omega (arith, slice_get_within noted i o e, h.few) in
      Tells-weaker (KeepsLists-refl names)
      (λ l n. AreNames-Stays a b k.stays (variable_places (tree_at a i)) (variable_places (tree_at b i)) l (ap variable_places (tree_at-Stays k.stays i lt))
      n) o (h.each i o e);
}

-- and of terms
AreTermsNoted-Keeps : (a b : Trees) → Keeps a b → (names variables : List (List ℕ)) (noted : List Own) → AreTermsNoted a names variables noted
    → AreTermsNoted b names variables noted
AreTermsNoted-Keeps a b k names variables noted h = record {
  few = omega (arith, h.few, k.longer);
  each = λ i own e.
      let lt : i < length a.terms = omega (arith, slice_get_within noted i own e, h.few) in
      let same = term_in-Stays k.stays i lt in
      let w = h.each i own e in
      record {
        type_variables = Tells-weaker (KeepsLists-refl names)
            (λ l n. AreNames-Stays a.types b.types k.types.stays (type_variable_places (term_at a i)) (type_variable_places (term_at b i)) l
            (ap type_variable_places same) n) own.names w.type_variables;
        free_variables = Tells-weaker (KeepsLists-refl variables)
            (λ l n. AreVariables-Stays a b k.stays (free_places (term_at a i)) (free_places (term_at b i)) l (ap free_places same) n) own.variables
            w.free_variables;
      };
}

-- what a memo notes stays right while the table grows
pub AreNoted-keeps : {old new : Trees} → Keeps old new → (memo : ParamMemo) → AreNoted old memo → AreNoted new memo
AreNoted-keeps {old = old} {new = new} k memo h = record {
  types = AreTypesNoted-Keeps old.types new.types k.types memo.names memo.types.items h.types;
  terms = AreTermsNoted-Keeps old new k memo.names memo.variables memo.terms.items h.terms;
}
