-- Constants that are defined one after the other.
use Rattle.std.proofs.Common.{◌≡◌, ◌<◌, ◌+◌, ℕ, get_or, refl, sym, ap, subst, ◌∙◌, arith, List, [], ◌∷◌, ◌++◌, map, length, length-append, false}
use Rattle.std.specs.Prelude.{take, drop}
use Rattle.std.proofs.lemmas.List.{append-nil, append_assoc, take-map}
use Rattle.std.proofs.lemmas.Grind.{flat_map-append}
use Rattle.std.proofs.lemmas.Bool.{or_parts}
use Rattle.hol_spec.specs.Names.{Name}
use Rattle.hol_spec.specs.NameEquality.{name_eq}
use Rattle.hol_laws.specs.NameEqualityLaws.{name_eq-Decides}
use Rattle.hol_spec.specs.Lists.{is_in}
use Rattle.hol_proof_laws.specs.SymbolGrowth.{symmetric}
use Rattle.hol_type.specs.declared.table.TypeId.{TypeId}
use Rattle.hol_term.specs.declared.TermId.{TermId}
use Rattle.hol_term.specs.declared.Variable.{Variable}
use Rattle.hol_defs.specs.declared.entry.Entry.{Entry}
use Rattle.hol_defs.specs.declared.lists.Mark.{Mark}
use Rattle.hol_defs.specs.Indexes.{taken_of, inputs_in, inputs_of, generics_in, generics_of, uses_in, uses_of, arities_in, arities_of, is_used, IsIndexed}
use Rattle.hol_defs.specs.Lists.{constants_of, AreNew, IsMarked}
use Rattle.hol_defs.specs.Symbols.{Taken, constant}
use Rattle.hol_defs.proofs.LoopLaws.{here, taken_next}
use Rattle.hol_defs.proofs.OperatorLaws.{lookup-last}

-- one pair more
pub constants_of-last : (ps : List (Name × Variable)) (ts : List TermId) (p : Name × Variable) (t : TermId) → length ps ≡ length ts
    → constants_of (ps ++ p ∷ []) (ts ++ t ∷ []) ≡ constants_of ps ts ++ constant p.0 t p.1.ty ∷ []
constants_of-last [] [] p t e = refl
constants_of-last (q ∷ ps) (u ∷ ts) p t e = ap (λ l. constant q.0 u q.1.ty ∷ l) (constants_of-last ps ts p t (omega (arith, e)))
constants_of-last [] (u ∷ ts) p t e = absurd (omega (arith, e))
constants_of-last (q ∷ ps) [] p t e = absurd (omega (arith, e))

-- the rest of the names is new when the first is taken
pub AreNew-next : (g : List (Name × TypeId)) (n : Name) (a : TypeId) (ps : List (Name × Variable)) → is_in name_eq n (map (λ q. q.0) ps) ≡ false → AreNew g ps
    → AreNew (g ++ (n, a) ∷ []) ps
AreNew-next g n a [] e h = h
AreNew-next g n a (p ∷ ps) e h =
    let both = or_parts (name_eq n p.0) (is_in name_eq n (map (λ q. q.0) ps)) e in
    ((lookup-last g n a p.0 h.0.0 (symmetric name_eq name_eq-Decides n p.0 both.0), h.0.1), AreNew-next g n a ps both.1 h.1)

generics_of-last : (xs : List Taken) (n : Name) (t : TermId) (a : TypeId) → generics_of (xs ++ constant n t a ∷ []) ≡ generics_of xs ++ (n, a) ∷ []
generics_of-last xs n t a = flat_map-append generics_in xs (constant n t a ∷ [])

-- what is taken after each pair
pub record IsTaking (old new : List Taken) (done rest : List (Name × Variable)) (terms : List TermId) : Type 0 where
  pub is : new ≡ old ++ constants_of done terms
  pub same : length done ≡ length terms
  pub free : AreNew (generics_of new) rest

pub taking_begins : (xs : List Taken) (ps : List (Name × Variable)) → AreNew (generics_of xs) ps → IsTaking xs xs [] ps []
taking_begins xs ps h = record { is = sym (append-nil xs); same = refl; free = h }

pub taking_goes_on : (old new next : List Taken) (done rest : List (Name × Variable)) (terms : List TermId) (p : Name × Variable) (t : TermId)
    → IsTaking old new done (p ∷ rest) terms → next ≡ new ++ constant p.0 t p.1.ty ∷ []
    → IsTaking old next (done ++ p ∷ []) rest (terms ++ t ∷ [])
taking_goes_on old new next done rest terms p t h e = record {
  is = e ∙ ap (λ l. l ++ constant p.0 t p.1.ty ∷ []) h.is ∙ append_assoc old (constants_of done terms) (constant p.0 t p.1.ty ∷ [])
      ∙ ap (λ l. old ++ l) (sym (constants_of-last done terms p t h.same));
  same = let k = h.same in omega (arith, k, length-append done (p ∷ []), length-append terms (t ∷ []));
  free = subst (λ g. AreNew g rest) (sym (ap generics_of e ∙ generics_of-last new p.0 t p.1.ty))
      (AreNew-next (generics_of new) p.0 p.1.ty rest h.free.0.1 h.free.1);
}

pub taking_next : (old new next : List Taken) (ps : List (Name × Variable)) (ts : List TermId) (i : ℕ) (p : Name × Variable) (t : TermId) → i < length ps
    → get_or ps i p ≡ p → i < length ts → get_or ts i t ≡ t → IsTaking old new (take i ps) (drop i ps) (take i ts)
    → next ≡ new ++ constant p.0 t p.1.ty ∷ [] → IsTaking old next (take (i + 1) ps) (drop (i + 1) ps) (take (i + 1) ts)
taking_next old new next ps ts i p t l at m it h e =
    subst (λ done. IsTaking old next done (drop (i + 1) ps) (take (i + 1) ts)) (sym (taken_next ps i p l at)) (
    subst (IsTaking old next (take i ps ++ p ∷ []) (drop (i + 1) ps)) (sym (taken_next ts i t m it)) (
    taking_goes_on old new next (take i ps) (drop (i + 1) ps) (take i ts) p t
    (subst (λ rest. IsTaking old new (take i ps) rest (take i ts)) (here ps i p l at) h) e))

-- constants have no part in the other tables
no_inputs : (ps : List (Name × Variable)) (ts : List TermId) → inputs_of (constants_of ps ts) ≡ []
no_inputs [] ts = refl
no_inputs (p ∷ ps) [] = refl
no_inputs (p ∷ ps) (t ∷ ts) = no_inputs ps ts

no_uses : (ps : List (Name × Variable)) (ts : List TermId) → uses_of (constants_of ps ts) ≡ []
no_uses [] ts = refl
no_uses (p ∷ ps) [] = refl
no_uses (p ∷ ps) (t ∷ ts) = no_uses ps ts

no_arities : (ps : List (Name × Variable)) (ts : List TermId) → arities_of (constants_of ps ts) ≡ []
no_arities [] ts = refl
no_arities (p ∷ ps) [] = refl
no_arities (p ∷ ps) (t ∷ ts) = no_arities ps ts

front : {A : Type 0} (xs ys : List A) → take (length xs) (xs ++ ys) ≡ xs
front [] ys = refl
front (x ∷ xs) ys = ap (λ l. x ∷ l) (front xs ys)

module _ (es : List Entry) (before : List Taken) (mark : Mark) (m : IsMarked before (map taken_of es) mark) where
  -- the symbols before the mark are left
  pub left : map taken_of (take mark.taken es) ≡ before
  left = sym (take-map taken_of mark.taken es) ∙ ap (take mark.taken) m.is ∙ ap (λ n. take n (before ++ constants_of m.pairs m.terms)) m.taken
      ∙ front before (constants_of m.pairs m.terms)

  inputs_left : inputs_of (map taken_of es) ≡ inputs_of before
  inputs_left = ap inputs_of m.is ∙ flat_map-append inputs_in before (constants_of m.pairs m.terms)
      ∙ ap (λ l. inputs_of before ++ l) (no_inputs m.pairs m.terms) ∙ append-nil (inputs_of before)

  uses_left : uses_of (map taken_of es) ≡ uses_of before
  uses_left = ap uses_of m.is ∙ flat_map-append uses_in before (constants_of m.pairs m.terms) ∙ ap (λ l. uses_of before ++ l) (no_uses m.pairs m.terms)
      ∙ append-nil (uses_of before)

  arities_left : arities_of (map taken_of es) ≡ arities_of before
  arities_left = ap arities_of m.is ∙ flat_map-append arities_in before (constants_of m.pairs m.terms)
      ∙ ap (λ l. arities_of before ++ l) (no_arities m.pairs m.terms) ∙ append-nil (arities_of before)

  generics_left : take mark.generics (generics_of (map taken_of es)) ≡ generics_of before
  generics_left =
      ap (take mark.generics) (ap generics_of m.is ∙ flat_map-append generics_in before (constants_of m.pairs m.terms))
      ∙ ap (λ n. take n (generics_of before ++ generics_of (constants_of m.pairs m.terms))) m.generics
      ∙ front (generics_of before) (generics_of (constants_of m.pairs m.terms))

  -- and the tables have them
  pub IsIndexed-cut : (i : List Name) (g : List (Name × TypeId)) (u : List (Name × ℕ)) (ns : List Name) (a : List (Name × ℕ))
      → IsIndexed (map taken_of es) i g u ns a → IsIndexed (map taken_of (take mark.taken es)) i (take mark.generics g) u ns a
  IsIndexed-cut i g u ns a h = rw left (record {
    inputs_are = h.inputs_are ∙ inputs_left;
    generics_are = ap (take mark.generics) h.generics_are ∙ generics_left;
    uses_are = h.uses_are ∙ uses_left;
    names_are = λ n. h.names_are n ∙ ap (is_used n) uses_left;
    arities_are = h.arities_are ∙ arities_left;
  })
