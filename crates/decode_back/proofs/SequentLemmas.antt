-- Lemmas on the walks over the parts of a sequent's product.
use Rattle.std.proofs.Common.{◌≡◌, ℕ, zero, suc, ◌+◌, ◌<◌, ◌≤◌, List, [], ◌∷◌, ◌++◌, map, length, drop, get_or, drop-cons, add-one, Option, Some, None, refl, sym, ap, subst, ◌∙◌, append_assoc, arith}
use Rattle.std.specs.Option.{option_map}
use Rattle.std.proofs.lemmas.List.{append-nil, length-append, drop_all}
use Rattle.std.proofs.Math.Path.{ap₂}
use Rattle.hol_spec.specs.Limits.{greatest_size, greatest_depth, type_size, type_depth, term_size, term_depth}
use Rattle.hol_spec.specs.Terms as term
use Rattle.hol_spec.specs.Terms.{Term}
use Rattle.hol_spec.specs.ClosedForm.{ClosedType, ClosedTerm}
use Rattle.common.specs.declared.faults.Kind.{Kind}
use Rattle.common.specs.declared.faults.Kind.TheVariants as kind
use Rattle.hol_type.specs.Refusals.{PassesLimit}
use Rattle.hol_type.specs.declared.table.TypeId.{TypeId}
use Rattle.hol_type.specs.TableLaws.{Holds-tree_at}
use Rattle.hol_term.specs.declared.TermId.{TermId}
use Rattle.hol_term.specs.Tables.{Trees, Holds, Keeps, AreKnown, term_at, terms_at, type_at}
use Rattle.hol_term.specs.TableLaws.{terms_at-Keeps, Some-term_in}
use Rattle.lp_spec.specs.Trees.{Tree}
use Rattle.lp_spec.specs.Modules.{Declaration}
use Rattle.lp_term.specs.declared.LpId.{LpId}
use Rattle.lp_term.specs.Tables as lp
use Rattle.lp_term.specs.Tables.{tree_at, trees_at}
use Rattle.translate_spec.specs.TypeEnc.{place}
use Rattle.decode_spec.specs.Options.{both}
use Rattle.decode_laws.specs.OptionLaws.{some-injective, both-is}
use Rattle.decode_spec.specs.Opened.{open_type, open_term, open_variables}
use Rattle.decode_spec.specs.Decode.{peel, type_of_tree, term_from, variables_from, hypotheses_from}
use Rattle.decode_back.specs.Walks.{parameter_name, IsTypeFound}
use Rattle.decode_back.specs.TermWalks.{free_of, AreVariables, IsTermFound}
use Rattle.decode_back.specs.SequentWalks.{IsVariableWithin, AreVariablesWithin, all_size, AreShallow}
use Rattle.decode_back.proofs.PeelLemmas.{behind_parts}
use Rattle.lp_binding_laws.specs.LookUps.{option_map-some}

-- what is peeled off, one part after another
trees_at-append : (trees : List Tree) (xs ys : List LpId) → trees_at trees (xs ++ ys) ≡ trees_at trees xs ++ trees_at trees ys
trees_at-append trees [] ys = refl
trees_at-append trees (x ∷ xs) ys = ap (λ l. tree_at trees x.0 ∷ l) (trees_at-append trees xs ys)

pub known-append : (trees : List Tree) (xs : List LpId) (x : LpId) → lp.AreKnown trees xs → x.0 < length trees → lp.AreKnown trees (xs ++ x ∷ [])
known-append trees [] x h l = (l, tt {0})
known-append trees (y ∷ xs) x h l = (h.0, known-append trees xs x h.1 l)

pub peeled-part : (whole : List Tree × Tree) (trees : List Tree) (s : ℕ) (parts after : List LpId) (x : LpId) (A B : Tree)
    → ◌≡◌ {A = List Tree × Tree} whole (behind_parts (trees_at trees parts) (peel s A))
    → ◌≡◌ {A = List Tree × Tree} (peel s A) (tree_at trees x.0 ∷ (peel s B).0, (peel s B).1) → after ≡ parts ++ x ∷ []
    → ◌≡◌ {A = List Tree × Tree} whole (behind_parts (trees_at trees after) (peel s B))
peeled-part whole trees s parts after x A B e f g =
    let z : trees_at trees parts ++ tree_at trees x.0 ∷ (peel s B).0 ≡ trees_at trees after ++ (peel s B).0 =
    sym (append_assoc (trees_at trees parts) (tree_at trees x.0 ∷ []) (peel s B).0)
    ∙ ap (λ l. l ++ (peel s B).0) (sym (ap (trees_at trees) g ∙ trees_at-append trees parts (x ∷ []))) in
    e ∙ ap (behind_parts (trees_at trees parts)) f ∙ (λ i. (z i, (peel s B).1))

pub peeled-all : (whole : List Tree × Tree) (parts : List Tree) (s : ℕ) (A : Tree) → ◌≡◌ {A = List Tree × Tree} whole (behind_parts parts (peel s A))
    → ◌≡◌ {A = List Tree × Tree} (peel s A) ([], A) → ◌≡◌ {A = List Tree × Tree} whole (parts, A)
peeled-all whole parts s A e f = let z : parts ++ [] ≡ parts = append-nil parts in e ∙ ap (behind_parts parts) f ∙ (λ i. (z i, A))

pub peeled-none : (r : List Tree × Tree) → ◌≡◌ {A = List Tree × Tree} r (behind_parts [] r)
peeled-none r = refl

-- the trees from a place on
pub next-tree : (trees : List Tree) (xs : List LpId) (i : ℕ) (x : LpId) → i < length xs → trees_at trees (drop i xs)
    ≡ tree_at trees (get_or xs i x).0 ∷ trees_at trees (drop (i + 1) xs)
next-tree trees xs i x l =
    let f : drop i xs ≡ get_or xs i x ∷ drop (i + 1) xs = rw add-one (drop-cons xs i x l) in
    ap (trees_at trees) f

pub tree-known-at : (trees : List Tree) (ids : List LpId) (j : ℕ) (x : LpId) → lp.AreKnown trees ids → j < length ids → (get_or ids j x).0 < length trees
tree-known-at trees [] j x h l = absurd (omega (arith, l))
tree-known-at trees (id ∷ ids) zero x h l = h.0
tree-known-at trees (id ∷ ids) (suc j) x h l = tree-known-at trees ids j x h.1 (omega (arith, l))

-- what a place past the end is read as
abbrev pub no_id : LpId
no_id = record { 0 = 0 }

pub no_tree : (trees : List Tree) (xs : List LpId) (i : ℕ) → length xs ≤ i → trees_at trees (drop i xs) ≡ []
no_tree trees xs i l = ap (trees_at trees) (drop_all i xs l)

-- the terms of further numbers
terms_at-append : (trees : Trees) (xs ys : List TermId) → terms_at trees (xs ++ ys) ≡ terms_at trees xs ++ terms_at trees ys
terms_at-append trees [] ys = refl
terms_at-append trees (x ∷ xs) ys = ap (λ l. term_at trees x.0 ∷ l) (terms_at-append trees xs ys)

pub terms-known : (trees : Trees) (xs : List TermId) (x : TermId) → AreKnown trees xs → x.0 < length trees.terms → AreKnown trees (xs ++ x ∷ [])
terms-known trees [] x h l = (l, tt {0})
terms-known trees (y ∷ xs) x h l = (h.0, terms-known trees xs x h.1 l)

pub terms-more : (old new : Trees) (ids after : List TermId) (id : TermId) (ts : List Term) (t : Term) → Keeps old new → AreKnown old ids → terms_at old ids
    ≡ ts → Holds new id.0 t → after ≡ ids ++ id ∷ [] → terms_at new after ≡ ts ++ t ∷ []
terms-more old new ids after id ts t k known e h f =
    ap (terms_at new) f ∙ terms_at-append new ids (id ∷ []) ∙ ap₂ (λ a b. a ++ b ∷ []) (sym (terms_at-Keeps k ids known) ∙ e) (Some-term_in new.terms id.0 t h)

open_variables-more : (i : ℕ) (types : List ClosedType) (t : ClosedType) → map free_of (open_variables parameter_name i (types ++ t ∷ []))
    ≡ map free_of (open_variables parameter_name i types) ++ term.Term.free (parameter_name (i + length types)) (open_type parameter_name t) ∷ []
open_variables-more i [] t = let z : i ≡ i + 0 = omega arith in ap (λ k. term.Term.free (parameter_name k) (open_type parameter_name t) ∷ []) z
open_variables-more i (u ∷ us) t =
    let z : suc i + length us ≡ i + suc (length us) = omega arith in
    ap (λ l. term.Term.free (parameter_name i) (open_type parameter_name u) ∷ l)
    (open_variables-more (suc i) us t ∙ ap
    (λ k. map free_of (open_variables parameter_name (suc i) us) ++ term.Term.free (parameter_name k) (open_type parameter_name t) ∷ []) z)

-- the free variables so far
pub record VariablesSoFar (d : List Declaration) (As rest : List Tree) (count number : ℕ) (trees : Trees) (ids : List TermId) : Type 0 where
  pub types : List ClosedType
  pub are : AreVariables trees ids types
  pub goes : variables_from d As count 0 ≡ option_map (λ more. types ++ more) (variables_from d rest count number)
  pub many : length types ≡ number

within-at : (types : List ClosedType) (t : ClosedType) (rest : List ClosedType) → AreVariablesWithin (types ++ t ∷ rest) → IsVariableWithin t
within-at [] t rest h = h.0
within-at (u ∷ us) t rest h = within-at us t rest h.1

module _ (d : List Declaration) (As : List Tree) (count : ℕ) where
  pub variables-none : (trees : Trees) (ids : List TermId) → ids ≡ [] → VariablesSoFar d As As count 0 trees ids
  variables-none trees ids e = record { types = []; are = ap (terms_at trees) e; goes = same (variables_from d As count 0); many = refl }
    where
      same : (o : Option (List ClosedType)) → o ≡ option_map (λ (more : List ClosedType). [] ++ more) o
      same None = refl
      same (Some ts) = refl

  pub variables-all : (number : ℕ) (trees : Trees) (ids : List TermId) (h : VariablesSoFar d As [] count number trees ids) → (types : List ClosedType)
      × (variables_from d As count 0 ≡ Some types) × AreVariables trees ids types
  variables-all number trees ids h = (h.types, h.goes ∙ ap Some (append-nil h.types), h.are)

  -- the next one is of no type within the limits, or is refused
  variable-types : (number : ℕ) (A : Tree) (rest : List Tree) (trees : Trees) (ids : List TermId) → VariablesSoFar d As (A ∷ rest) count number trees ids
      → (types : List ClosedType) → variables_from d As count 0 ≡ Some types → AreVariablesWithin types
      → (t : ClosedType) × (type_of_tree d (place count number 0 0) A ≡ Some t) × IsVariableWithin t
  variable-types number A rest trees ids h types e w =
      let p = option_map-some (λ more. h.types ++ more) (variables_from d (A ∷ rest) count number) types (sym h.goes ∙ e) in
      let q = both-is (λ (t : ClosedType) (us : List ClosedType). t ∷ us) (type_of_tree d (place count number 0 0) A) (variables_from d rest count (suc number))
      p.0 p.1 in
      (q.0, q.2, within-at h.types q.0 q.1 (subst AreVariablesWithin (sym p.2 ∙ ap (λ more. h.types ++ more) q.4) w))

  pub variable-none : (number : ℕ) (A : Tree) (rest : List Tree) (trees now : Trees) (ids : List TermId) → VariablesSoFar d As (A ∷ rest) count number trees ids
      → IsTypeFound greatest_depth (type_of_tree d (place count number 0 0) A) now None → (types : List ClosedType) → variables_from d As count 0 ≡ Some types
      → AreVariablesWithin types → ⊥
  variable-none number A rest trees now ids h none types e w =
      let p = variable-types number A rest trees ids h types e w in
      none p.0 p.1 (omega (arith, p.2.size)) (omega (arith, p.2.depth))

  pub variable-refused : (number : ℕ) (A : Tree) (rest : List Tree) (trees now : Trees) (ids : List TermId) (id : TypeId) (k : Kind)
      → VariablesSoFar d As (A ∷ rest) count number trees ids
      → IsTypeFound greatest_depth (type_of_tree d (place count number 0 0) A) now (Some id)
      → PassesLimit k (term_size (term.Term.free (parameter_name number) (type_at now id.0)))
      (term_depth (term.Term.free (parameter_name number) (type_at now id.0)))
      → (types : List ClosedType) → variables_from d As count 0 ≡ Some types → AreVariablesWithin types → ⊥
  variable-refused number A rest trees now ids id k h found p types e w =
      let v = variable-types number A rest trees ids h types e w in
      let same : found.0 ≡ v.0 = some-injective (sym found.1 ∙ v.1) in
      let held : type_at now id.0 ≡ open_type parameter_name v.0 =
      Holds-tree_at now.types id.0 (open_type parameter_name found.0) found.2 ∙ ap (open_type parameter_name) same in
      passes k _ _ (subst (λ t. PassesLimit k (1 + type_size t) (1 + type_depth t)) held p) v.2.size v.2.depth
    where
      passes : (k : Kind) (size depth : ℕ) → PassesLimit k size depth → size ≤ greatest_size → depth ≤ greatest_depth → ⊥
      passes kind.TooLarge size depth p a b = omega (arith, p, a)
      passes kind.TooDeep size depth p a b = omega (arith, p.1, b)
      passes _ size depth p a b = p

  pub variable-more : (number next : ℕ) (A : Tree) (rest : List Tree) (trees now then : Trees) (ids after : List TermId) (ty : TypeId) (id : TermId)
      → VariablesSoFar d As (A ∷ rest) count number trees ids
      → IsTypeFound greatest_depth (type_of_tree d (place count number 0 0) A) now (Some ty) → Keeps trees then → AreKnown trees ids
      → Holds then id.0 (term.Term.free (parameter_name number) (type_at now ty.0)) → after ≡ ids ++ id ∷ []
      → next ≡ number + 1 → VariablesSoFar d As rest count next then after
  variable-more number next A rest trees now then ids after ty id h found k known held f g =
      let t = found.0 in
      let type_is : type_at now ty.0 ≡ open_type parameter_name t = Holds-tree_at now.types ty.0 (open_type parameter_name t) found.2 in
      let l = length-append h.types (t ∷ []) in
      let z : suc number ≡ next = omega (arith, g) in
      let n : 0 + length h.types ≡ number = omega (arith, h.many) in
      record {
        types = h.types ++ t ∷ [];
        are = terms-more trees then ids after id (map free_of (open_variables parameter_name 0 h.types))
            (term.Term.free (parameter_name number) (open_type parameter_name t)) k known h.are
            (subst (λ u. Holds then id.0 (term.Term.free (parameter_name number) u)) type_is held) f
            ∙ ap (λ j. map free_of (open_variables parameter_name 0 h.types) ++ term.Term.free (parameter_name j) (open_type parameter_name t) ∷ []) (sym n)
            ∙ sym (open_variables-more 0 h.types t);
        goes = h.goes
            ∙ ap (λ o. option_map (λ more. h.types ++ more)
            (both (λ (t : ClosedType) (us : List ClosedType). t ∷ us) o (variables_from d rest count (suc number)))) found.1
            ∙ joins (variables_from d rest count (suc number))
            ∙ ap (λ j. option_map (λ more. (h.types ++ t ∷ []) ++ more) (variables_from d rest count j)) z;
        many = omega (arith, l, h.many, g);
      }
    where
      joins : (o : Option (List ClosedType)) → option_map (λ more. h.types ++ more) (both (λ (t : ClosedType) (us : List ClosedType). t ∷ us) (Some found.0) o)
          ≡ option_map (λ more. (h.types ++ found.0 ∷ []) ++ more) o
      joins None = refl
      joins (Some us) = ap Some (sym (append_assoc h.types (found.0 ∷ []) us))

-- the hypotheses so far
pub record HypothesesSoFar (d : List Declaration) (types : List ClosedType) (As rest : List Tree) (count free number there left : ℕ) (trees : Trees)
    (ids : List TermId) : Type 0 where
  pub terms : List ClosedTerm
  pub are : terms_at trees ids ≡ map (open_term parameter_name types) terms
  pub goes : hypotheses_from d As count free 0 ≡ option_map (λ more. terms ++ more) (hypotheses_from d rest count free number)
  pub spent : left + all_size types terms ≡ there

all_size-append : (types : List ClosedType) (cs es : List ClosedTerm) → all_size types (cs ++ es) ≡ all_size types cs + all_size types es
all_size-append types [] es = omega arith
all_size-append types (c ∷ cs) es = omega (arith, all_size-append types cs es)

shallow-at : (types : List ClosedType) (cs : List ClosedTerm) (c : ClosedTerm) (rest : List ClosedTerm) → AreShallow types (cs ++ c ∷ rest)
    → term_depth (open_term parameter_name types c) ≤ greatest_depth
shallow-at types [] c rest h = h.0
shallow-at types (e ∷ cs) c rest h = shallow-at types cs c rest h.1

map-more : {A B : Type 0} (f : A → B) (xs : List A) (x : A) → map f (xs ++ x ∷ []) ≡ map f xs ++ f x ∷ []
map-more f [] x = refl
map-more f (y ∷ xs) x = ap (λ l. f y ∷ l) (map-more f xs x)

module _ (d : List Declaration) (types : List ClosedType) (As : List Tree) (count free there : ℕ) where
  pub hypotheses-none : (left : ℕ) (trees : Trees) (ids : List TermId) → ids ≡ [] → left ≡ there
      → HypothesesSoFar d types As As count free 0 there left trees ids
  hypotheses-none left trees ids e f = record
      { terms = []; are = ap (terms_at trees) e; goes = same (hypotheses_from d As count free 0); spent = omega (arith, f) }
    where
      same : (o : Option (List ClosedTerm)) → o ≡ option_map (λ (more : List ClosedTerm). [] ++ more) o
      same None = refl
      same (Some ts) = refl

  pub hypotheses-all : (number left : ℕ) (trees : Trees) (ids : List TermId) (h : HypothesesSoFar d types As [] count free number there left trees ids)
      → (cs : List ClosedTerm) × (hypotheses_from d As count free 0 ≡ Some cs) × (terms_at trees ids ≡ map (open_term parameter_name types) cs)
      × (left + all_size types cs ≡ there)
  hypotheses-all number left trees ids h = (h.terms, h.goes ∙ ap Some (append-nil h.terms), h.are, h.spent)

  pub hypothesis-none : (number left after : ℕ) (A : Tree) (rest : List Tree) (trees now : Trees) (ids : List TermId)
      → HypothesesSoFar d types As (A ∷ rest) count free number there left trees ids
      → IsTermFound greatest_depth types left after (term_from d A (place count free number 0)) now None → (cs : List ClosedTerm)
      → hypotheses_from d As count free 0 ≡ Some cs → all_size types cs ≤ there → AreShallow types cs → ⊥
  hypothesis-none number left after A rest trees now ids h none cs e l s =
      let p = option_map-some (λ more. h.terms ++ more) (hypotheses_from d (A ∷ rest) count free number) cs (sym h.goes ∙ e) in
      let q = both-is (λ (t : ClosedTerm) (us : List ClosedTerm). t ∷ us) (term_from d A (place count free number 0))
      (hypotheses_from d rest count free (suc number)) p.0 p.1 in
      let whole : h.terms ++ q.0 ∷ q.1 ≡ cs = ap (λ more. h.terms ++ more) (sym q.4) ∙ p.2 in
      let size = all_size-append types h.terms (q.0 ∷ q.1) in
      let same : all_size types (h.terms ++ q.0 ∷ q.1) ≡ all_size types cs = ap (all_size types) whole in
      none q.0 q.2 (omega (arith, size, same, l, h.spent)) (shallow-at types h.terms q.0 q.1 (subst (AreShallow types) (sym whole) s))

  pub hypothesis-more : (number next left after : ℕ) (A : Tree) (rest : List Tree) (trees now : Trees) (ids more_ids : List TermId) (id : TermId)
      → HypothesesSoFar d types As (A ∷ rest) count free number there left trees ids
      → IsTermFound greatest_depth types left after (term_from d A (place count free number 0)) now (Some id) → Keeps trees now → AreKnown trees ids → more_ids
      ≡ ids ++ id ∷ [] → next ≡ number + 1
      → HypothesesSoFar d types As rest count free next there after now more_ids
  hypothesis-more number next left after A rest trees now ids more_ids id h found k known f g =
      let c = found.0 in
      let size = all_size-append types h.terms (c ∷ []) in
      let z : suc number ≡ next = omega (arith, g) in
      record {
        terms = h.terms ++ c ∷ [];
        are = terms-more trees now ids more_ids id (map (open_term parameter_name types) h.terms) (open_term parameter_name types c) k known h.are found.2 f
            ∙ sym (map-more (open_term parameter_name types) h.terms c);
        goes = h.goes
            ∙ ap (λ o. option_map (λ more. h.terms ++ more)
            (both (λ (t : ClosedTerm) (us : List ClosedTerm). t ∷ us) o (hypotheses_from d rest count free (suc number)))) found.1
            ∙ joins (hypotheses_from d rest count free (suc number))
            ∙ ap (λ j. option_map (λ more. (h.terms ++ c ∷ []) ++ more) (hypotheses_from d rest count free j)) z;
        spent = omega (arith, size, h.spent, found.3);
      }
    where
      joins : (o : Option (List ClosedTerm)) → option_map (λ more. h.terms ++ more) (both (λ (t : ClosedTerm) (us : List ClosedTerm). t ∷ us) (Some found.0) o)
          ≡ option_map (λ more. (h.terms ++ found.0 ∷ []) ++ more) o
      joins None = refl
      joins (Some us) = ap Some (sym (append_assoc h.terms (found.0 ∷ []) us))
