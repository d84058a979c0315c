-- The parts of a product, and what they stand for.
use Rattle.std.proofs.Common.{◌≡◌, ℕ, suc, ◌+◌, ◌<◌, ◌≤◌, List, [], ◌∷◌, map, length, Bool, false, Option, Some, None, inl, inr, refl, sym, ap, subst, ◌∙◌, arith}
use Rattle.std.specs.Prelude.{◌↔◌, IsTrue}
use Rattle.std.specs.Option.{option_map}
use Rattle.std.specs.List.{AllByRecursion, flat_map, sum_by}
use Rattle.std.proofs.lemmas.List.Sums.{sum_by-cons}
use Rattle.hol_spec.specs.Lists.{IsIn}
use Rattle.hol_laws.specs.Members.{All-each, All-at, All-left, All-right, All-append, All-weaker, IsIn-distinct_of}
use Rattle.hol_spec.specs.Limits.{greatest_size, greatest_depth, greatest_parameter_count, greatest_by, type_size, type_depth, term_size, term_depth, sequent_size}
use Rattle.hol_spec.specs.Terms as term
use Rattle.hol_spec.specs.Terms.{Term, Variable, variable_eq, free_places}
use Rattle.hol_laws.specs.TermLaws.{variable_eq-Decides}
use Rattle.hol_spec.specs.Sequents.{Sequent, terms_of, type_variables_of, free_variables_of}
use Rattle.hol_spec.specs.ClosedForm.{ClosedType, ClosedTerm, ClosedSequent}
use Rattle.lp_spec.specs.Trees.{Tree}
use Rattle.lp_term.specs.Tables as lp
use Rattle.hol_term.specs.declared.TermId.{TermId}
use Rattle.hol_term.specs.Tables.{Trees, Holds, Keeps, AreKnown, term_at, terms_at}
use Rattle.lp_term.specs.declared.LpId.{LpId}
use Rattle.std.specs.declared.vec.Vec.{Vec}
use Rattle.std.specs.declared.alloc.Global.{Global}
use Rattle.hol_term.specs.TableLaws.{Some-term_in, terms_at-Keeps}
use Rattle.sequent.specs.declared.closed.Closed.{Closed}
use Rattle.lp_spec.specs.Modules.{Declaration, term_symbol, proof_symbol}
use Rattle.translate_spec.specs.TypeEnc.{place}
use Rattle.decode_spec.specs.Options.{bind}
use Rattle.decode_laws.specs.OptionLaws.{some-injective, bind-is, both-is}
use Rattle.decode_spec.specs.Opened.{open_term, open_variables, opened, IsOpen}
use Rattle.decode_spec.specs.Decode.{proof_part, peel_types, peel, type_of_tree, term_from, variables_from, hypotheses_from, closed_sequent, Parts, parts, sequent_from}
use Rattle.decode_laws.specs.ClosedFormTestLaws.{length-numbers, closed_form-opened}
use Rattle.decode_laws.specs.SizeLaws.{summed, summed-append}
use Rattle.decode_laws.specs.SizeBound.{free_variables-size}
use Rattle.decode_back.specs.Walks.{parameter_name}
use Rattle.decode_back.specs.declared.products.Parts.{Parts as PartsFound}
use Rattle.decode_back.specs.TermWalks.{AreVariables, IsTermFound}
use Rattle.decode_back.specs.SequentWalks.{AreParts, AreVariablesWithin, AreVariablesFound, all_size, AreShallow, AreHypothesesFound, IsMade, IsJudged, IsSequentFound}
use Rattle.decode_back.proofs.NameLemmas.{parameter_name-apart}
use Rattle.decode_back.proofs.TermLemmas.{open_variables-length, length-map, AreVariables-Keeps, AreVariables-length}
use Rattle.lp_binding_laws.specs.LookUps.{option_map-some}

-- the parts of a tree, from what is left behind its type variables, behind its free variables and behind its hypotheses
module _ (A behind_types behind_variables behind_hypotheses : Tree) (n : ℕ) (vs hs : List Tree)
    (types : ◌≡◌ {A = ℕ × Tree} (peel_types A) (n, behind_types))
    (variables : ◌≡◌ {A = List Tree × Tree} (peel term_symbol behind_types) (vs, behind_variables))
    (hypotheses : ◌≡◌ {A = List Tree × Tree} (peel proof_symbol behind_variables) (hs, behind_hypotheses)) where
  pub types-are : (parts A).type_variables ≡ n
  types-are = ap (λ (r : ℕ × Tree). r.0) types

  pub variables-are : (parts A).variables ≡ vs
  variables-are = ap (λ (r : ℕ × Tree). (peel term_symbol r.1).0) types ∙ ap (λ (r : List Tree × Tree). r.0) variables

  pub hypotheses-are : (parts A).hypotheses ≡ hs
  hypotheses-are = ap (λ (r : ℕ × Tree). (peel proof_symbol (peel term_symbol r.1).1).0) types
      ∙ ap (λ (r : List Tree × Tree). (peel proof_symbol r.1).0) variables ∙ ap (λ (r : List Tree × Tree). r.0) hypotheses

  pub end-is : (parts A).end ≡ behind_hypotheses
  end-is = ap (λ (r : ℕ × Tree). (peel proof_symbol (peel term_symbol r.1).1).1) types ∙ ap (λ (r : List Tree × Tree). (peel proof_symbol r.1).1) variables
      ∙ ap (λ (r : List Tree × Tree). r.1) hypotheses

-- what a sequent is made of
module _ (d : List Declaration) (p : Parts) where
  pub record IsOf (s : ClosedSequent) : Type 0 where
    pub C : Tree
    pub count : s.type_variable_count ≡ p.type_variables
    pub variables : variables_from d p.variables p.type_variables 0 ≡ Some s.free_variable_types
    pub hypotheses : hypotheses_from d p.hypotheses p.type_variables (length p.variables) 0 ≡ Some s.hypotheses
    pub end : proof_part p.end ≡ Some C
    pub conclusion : term_from d C (place p.type_variables (length p.variables) (length p.hypotheses) 0) ≡ Some s.conclusion

  abbrev with_conclusion : List ClosedType → List ClosedTerm → Tree → Option ClosedSequent
  with_conclusion vs hs C = option_map (closed_sequent p.type_variables vs hs)
      (term_from d C (place p.type_variables (length p.variables) (length p.hypotheses) 0))

  abbrev with_hypotheses : List ClosedType → List ClosedTerm → Option ClosedSequent
  with_hypotheses vs hs = bind (proof_part p.end) (with_conclusion vs hs)

  abbrev with_variables : List ClosedType → Option ClosedSequent
  with_variables vs = bind (hypotheses_from d p.hypotheses p.type_variables (length p.variables) 0) (with_hypotheses vs)

  pub sequent_from-of : (s : ClosedSequent) → sequent_from d p ≡ Some s → IsOf s
  sequent_from-of s e =
      let v = bind-is (variables_from d p.variables p.type_variables 0) with_variables s e in
      let h = bind-is (hypotheses_from d p.hypotheses p.type_variables (length p.variables) 0) (with_hypotheses v.0) s v.2 in
      let c = bind-is (proof_part p.end) (with_conclusion v.0 h.0) s h.2 in
      let t = option_map-some (closed_sequent p.type_variables v.0 h.0) (term_from d c.0 (place p.type_variables (length p.variables) (length p.hypotheses) 0))
      s c.2 in
      subst IsOf t.2 (record { C = c.0; count = refl; variables = v.1; hypotheses = h.1; end = c.1; conclusion = t.1 })

  pub of-sequent_from : (vs : List ClosedType) (hs : List ClosedTerm) (C : Tree) (c : ClosedTerm) → variables_from d p.variables p.type_variables 0 ≡ Some vs
      → hypotheses_from d p.hypotheses p.type_variables (length p.variables) 0 ≡ Some hs → proof_part p.end ≡ Some C
      → term_from d C (place p.type_variables (length p.variables) (length p.hypotheses) 0) ≡ Some c → sequent_from d p
      ≡ Some (closed_sequent p.type_variables vs hs c)
  of-sequent_from vs hs C c e f g h =
      ap (λ o. bind o with_variables) e ∙ ap (λ o. bind o (with_hypotheses vs)) f ∙ ap (λ o. bind o (with_conclusion vs hs)) g
      ∙ ap (option_map (closed_sequent p.type_variables vs hs)) h

-- there are as many types and terms as trees
pub variables_from-length : (d : List Declaration) (As : List Tree) (n m : ℕ) (ts : List ClosedType) → variables_from d As n m ≡ Some ts → length ts ≡ length As
variables_from-length d [] n m ts e = ap length (sym (some-injective e))
variables_from-length d (A ∷ As) n m ts e =
    let p = both-is (λ (t : ClosedType) (us : List ClosedType). t ∷ us) (type_of_tree d (place n m 0 0) A) (variables_from d As n (suc m)) ts e in
    ap length p.4 ∙ ap suc (variables_from-length d As n (suc m) p.1 p.3)

pub hypotheses_from-length : (d : List Declaration) (As : List Tree) (n m l : ℕ) (ts : List ClosedTerm) → hypotheses_from d As n m l ≡ Some ts → length ts
    ≡ length As
hypotheses_from-length d [] n m l ts e = ap length (sym (some-injective e))
hypotheses_from-length d (A ∷ As) n m l ts e =
    let p = both-is (λ (t : ClosedTerm) (us : List ClosedTerm). t ∷ us) (term_from d A (place n m l 0)) (hypotheses_from d As n m (suc l)) ts e in
    ap length p.4 ∙ ap suc (hypotheses_from-length d As n m (suc l) p.1 p.3)

-- sizes and depths of what is open
abbrev variable_size : Variable → ℕ
variable_size v = 1 + type_size v.1

summed-sum_by : (ts : List Term) → summed term_size ts ≡ sum_by term_size ts
summed-sum_by [] = refl
summed-sum_by (t ∷ ts) = ap (λ n. term_size t + n) (summed-sum_by ts) ∙ sym (sum_by-cons term_size t ts)

summed-map : (types : List ClosedType) (cs : List ClosedTerm) → summed term_size (map (open_term parameter_name types) cs) ≡ all_size types cs
summed-map types [] = refl
summed-map types (c ∷ cs) = ap (λ k. term_size (open_term parameter_name types c) + k) (summed-map types cs)

pub sequent-size : (s : ClosedSequent) → sequent_size (opened parameter_name s)
    ≡ all_size s.free_variable_types s.hypotheses + term_size (open_term parameter_name s.free_variable_types s.conclusion)
sequent-size s =
    let o = opened parameter_name s in
    let a = summed-append term_size o.hypotheses (o.conclusion ∷ []) in
    let b = summed-map s.free_variable_types s.hypotheses in
    let c = summed-sum_by (terms_of o) in
    omega (arith, a, b, c)

all-greatest : (n : ℕ) (ts : List Term) → greatest_by term_depth ts ≤ n → AllByRecursion (λ t. term_depth t ≤ n) ts
all-greatest n [] h = tt
all-greatest n (t ∷ ts) h = (omega (arith, h), all-greatest n ts (omega (arith, h)))

shallow : (types : List ClosedType) (cs : List ClosedTerm) → AllByRecursion (λ t. term_depth t ≤ greatest_depth) (map (open_term parameter_name types) cs)
    → AreShallow types cs
shallow types [] h = tt
shallow types (c ∷ cs) h = (h.0, shallow types cs h.1)

variable-depths : (t : Term) → AllByRecursion (λ v. 1 + type_depth v.1 ≤ term_depth t) (free_places t)
variable-depths (term.Term.free n t) = (omega arith, tt {0})
variable-depths (term.Term.bound k) = tt
variable-depths (term.Term.constant n t) = tt
variable-depths (term.Term.app f x) =
    All-append _ (free_places f) (free_places x)
    (All-weaker (λ v. 1 + type_depth v.1 ≤ term_depth f) (λ v. 1 + type_depth v.1 ≤ term_depth (term.Term.app f x)) (λ v l. omega (arith, l))
    (free_places f) (variable-depths f))
    (All-weaker (λ v. 1 + type_depth v.1 ≤ term_depth x) (λ v. 1 + type_depth v.1 ≤ term_depth (term.Term.app f x)) (λ v l. omega (arith, l)) (free_places x)
    (variable-depths x))
variable-depths (term.Term.lam t b) = All-weaker (λ v. 1 + type_depth v.1 ≤ term_depth b) (λ v. 1 + type_depth v.1 ≤ term_depth (term.Term.lam t b))
    (λ v l. omega (arith, l)) (free_places b) (variable-depths b)

all-variable-depths : (ts : List Term) → AllByRecursion (λ v. 1 + type_depth v.1 ≤ greatest_by term_depth ts) (flat_map free_places ts)
all-variable-depths [] = tt
all-variable-depths (t ∷ ts) =
    All-append _ (free_places t) (flat_map free_places ts)
    (All-weaker (λ v. 1 + type_depth v.1 ≤ term_depth t) (λ v. 1 + type_depth v.1 ≤ greatest_by term_depth (t ∷ ts)) (λ v l. omega (arith, l)) (free_places t)
    (variable-depths t))
    (All-weaker (λ v. 1 + type_depth v.1 ≤ greatest_by term_depth ts) (λ v. 1 + type_depth v.1 ≤ greatest_by term_depth (t ∷ ts)) (λ v l. omega (arith, l))
    (flat_map free_places ts) (all-variable-depths ts))

summed-at : (f : Variable → ℕ) (vs : List Variable) (v : Variable) → IsIn vs v → f v ≤ summed f vs
summed-at f [] v h = absurd h
summed-at f (w ∷ vs) v (inl e) = let z : f v ≡ f w = ap f e in omega (arith, z)
summed-at f (w ∷ vs) v (inr h) = omega (arith, summed-at f vs v h)

types-within : (j : ℕ) (types : List ClosedType) → AllByRecursion (λ v. (1 + type_size v.1 ≤ greatest_size) × (1 + type_depth v.1 ≤ greatest_depth))
    (open_variables parameter_name j types) → AreVariablesWithin types
types-within j [] h = tt
types-within j (t ∷ ts) h = (record { size = h.0.0; depth = h.0.1 }, types-within (suc j) ts h.1)

module _ (s : ClosedSequent) (is : IsOpen parameter_name s) where
  abbrev whole : Sequent
  whole = opened parameter_name s

  pub open-count : s.type_variable_count + length s.free_variable_types + length s.hypotheses ≤ greatest_parameter_count
  open-count =
      let a : length (type_variables_of whole) ≡ s.type_variable_count = ap length is.type_variables ∙ length-numbers parameter_name 0 s.type_variable_count in
      let b : length (free_variables_of whole) ≡ length s.free_variable_types = ap length is.free_variables ∙ open_variables-length 0 s.free_variable_types in
      let c : length whole.hypotheses ≡ length s.hypotheses = length-map (open_term parameter_name s.free_variable_types) s.hypotheses in
      omega (arith, a, b, c, is.within.parameters)

  pub open-size : all_size s.free_variable_types s.hypotheses + term_size (open_term parameter_name s.free_variable_types s.conclusion) ≤ greatest_size
  open-size = let e = sequent-size s in omega (arith, e, is.within.size)

  depths : AllByRecursion (λ t. term_depth t ≤ greatest_depth) (terms_of whole)
  depths = all-greatest greatest_depth (terms_of whole) is.within.depth

  pub open-shallow : AreShallow s.free_variable_types s.hypotheses
  open-shallow = shallow s.free_variable_types s.hypotheses (All-left (λ t. term_depth t ≤ greatest_depth) whole.hypotheses (whole.conclusion ∷ []) depths)

  pub open-conclusion : term_depth (open_term parameter_name s.free_variable_types s.conclusion) ≤ greatest_depth
  open-conclusion = (All-right (λ t. term_depth t ≤ greatest_depth) whole.hypotheses (whole.conclusion ∷ []) depths).0

  pub open-variables : AreVariablesWithin s.free_variable_types
  open-variables =
      types-within 0 s.free_variable_types
      (subst (AllByRecursion (λ v. (1 + type_size v.1 ≤ greatest_size) × (1 + type_depth v.1 ≤ greatest_depth))) is.free_variables
      (All-each _ (free_variables_of whole) (λ v i.
      let a = summed-at variable_size (free_variables_of whole) v i in
      let b = free_variables-size whole in
      let c = All-at (λ w. 1 + type_depth w.1 ≤ greatest_by term_depth (terms_of whole)) (flat_map free_places (terms_of whole)) v
      (all-variable-depths (terms_of whole)) (IsIn-distinct_of variable_eq variable_eq-Decides (flat_map free_places (terms_of whole)) v i) in
      (omega (arith, a, b, is.within.size), omega (arith, c, is.within.depth)))))

-- What follows for the parts of a product.
module _ (d : List Declaration) (trees : List Tree) (p : Parts) (found : PartsFound) (are : AreParts trees p found) where
  abbrev n : ℕ
  n = found.type_variables

  abbrev variable_trees : List Tree
  variable_trees = lp.trees_at trees found.variables.items

  abbrev hypothesis_trees : List Tree
  hypothesis_trees = lp.trees_at trees found.hypotheses.items

  abbrev conclusion_tree : Tree
  conclusion_tree = lp.tree_at trees found.conclusion.0

  -- what the sequent is made of, by these trees
  record Told (s : ClosedSequent) : Type 0 where
    count : s.type_variable_count ≡ n
    variables : variables_from d variable_trees n 0 ≡ Some s.free_variable_types
    hypotheses : hypotheses_from d hypothesis_trees n (length variable_trees) 0 ≡ Some s.hypotheses
    conclusion : term_from d conclusion_tree (place n (length variable_trees) (length hypothesis_trees) 0) ≡ Some s.conclusion

  told : (s : ClosedSequent) → sequent_from d p ≡ Some s → Told s
  told s e =
      let h = sequent_from-of d p s e in
      let same : h.C ≡ conclusion_tree = some-injective (sym h.end ∙ are.conclusion) in
      record {
        count = h.count ∙ are.type_variables;
        variables = (λ i. variables_from d (sym are.variables i) (sym are.type_variables i) 0) ∙ h.variables;
        hypotheses = (λ i. hypotheses_from d (sym are.hypotheses i) (sym are.type_variables i) (length (sym are.variables i)) 0) ∙ h.hypotheses;
        conclusion = (λ i. term_from d (sym same i) (place (sym are.type_variables i) (length (sym are.variables i)) (length (sym are.hypotheses i)) 0))
            ∙ h.conclusion;
      }

  pub sequent-of_trees : (vs : List ClosedType) (hs : List ClosedTerm) (c : ClosedTerm) → variables_from d variable_trees n 0 ≡ Some vs
      → hypotheses_from d hypothesis_trees n (length variable_trees) 0 ≡ Some hs
      → term_from d conclusion_tree (place n (length variable_trees) (length hypothesis_trees) 0) ≡ Some c → sequent_from d p ≡ Some (closed_sequent n vs hs c)
  sequent-of_trees vs hs c e f g =
      of-sequent_from d p vs hs conclusion_tree c ((λ i. variables_from d (are.variables i) (are.type_variables i) 0) ∙ e)
      ((λ i. hypotheses_from d (are.hypotheses i) (are.type_variables i) (length (are.variables i)) 0) ∙ f) are.conclusion
      ((λ i. term_from d conclusion_tree (place (are.type_variables i) (length (are.variables i)) (length (are.hypotheses i)) 0)) ∙ g)
      ∙ ap (λ k. Some (closed_sequent k vs hs c)) are.type_variables

  pub too_many_parts : (m h : ℕ) → length variable_trees ≡ m → length hypothesis_trees ≡ h → greatest_parameter_count < n + m + h → IsSequentFound d p None
  too_many_parts m h e f l s g is =
      let t = told s g in
      let a = variables_from-length d variable_trees n 0 s.free_variable_types t.variables in
      let b = hypotheses_from-length d hypothesis_trees n (length variable_trees) 0 s.hypotheses t.hypotheses in
      omega (arith, open-count s is, a, b, e, f, l, t.count)

  pub no_variables : (table : Trees) → AreVariablesFound (variables_from d variable_trees n 0) table None → IsSequentFound d p None
  no_variables table none s g is = none s.free_variable_types (told s g).variables (open-variables s is)

  module _ (types : List ClosedType) (variables_are : variables_from d variable_trees n 0 ≡ Some types) where
    same_types : (s : ClosedSequent) → sequent_from d p ≡ Some s → s.free_variable_types ≡ types
    same_types s g = some-injective (sym (told s g).variables ∙ variables_are)

    pub no_hypotheses : (there left : ℕ) (table : Trees) → there ≡ greatest_size
        → AreHypothesesFound types there left (hypotheses_from d hypothesis_trees n (length variable_trees) 0) table None → IsSequentFound d p None
    no_hypotheses there left table e none s g is =
        let l = open-size s is in
        let same = same_types s g in
        let z : all_size s.free_variable_types s.hypotheses ≡ all_size types s.hypotheses = ap (λ ts. all_size ts s.hypotheses) same in
        none s.hypotheses (told s g).hypotheses (omega (arith, l, z, e)) (subst (λ ts. AreShallow ts s.hypotheses) same (open-shallow s is))

    module _ (hs : List ClosedTerm) (hypotheses_are : hypotheses_from d hypothesis_trees n (length variable_trees) 0 ≡ Some hs) where
      same_hypotheses : (s : ClosedSequent) → sequent_from d p ≡ Some s → s.hypotheses ≡ hs
      same_hypotheses s g = some-injective (sym (told s g).hypotheses ∙ hypotheses_are)

      pub no_conclusion : (there left after : ℕ) (table : Trees) → there ≡ greatest_size → left + all_size types hs ≡ there
          → IsTermFound greatest_depth types left after (term_from d conclusion_tree (place n (length variable_trees) (length hypothesis_trees) 0)) table None
          → IsSequentFound d p None
      no_conclusion there left after table e spent none s g is =
          let l = open-size s is in
          let m = open-conclusion s is in
          let a : all_size s.free_variable_types s.hypotheses ≡ all_size types hs = (λ i. all_size (same_types s g i) (same_hypotheses s g i)) in
          let b : term_size (open_term parameter_name s.free_variable_types s.conclusion) ≡ term_size (open_term parameter_name types s.conclusion) =
          ap (λ ts. term_size (open_term parameter_name ts s.conclusion)) (same_types s g) in
          let c : term_depth (open_term parameter_name s.free_variable_types s.conclusion) ≡ term_depth (open_term parameter_name types s.conclusion) =
          ap (λ ts. term_depth (open_term parameter_name ts s.conclusion)) (same_types s g) in
          none s.conclusion (told s g).conclusion (omega (arith, l, a, b, e, spent)) (omega (arith, m, c))

      module _ (c : ClosedTerm) (conclusion_is : term_from d conclusion_tree (place n (length variable_trees) (length hypothesis_trees) 0) ≡ Some c) where
        abbrev sequent : ClosedSequent
        sequent = closed_sequent n types hs c

        -- the terms of the table are those of the sequent
        pub sequent-made : (table : Trees) (there left after : ℕ) (variables ids : List TermId) (concl : TermId) → there ≡ greatest_size
            → left + all_size types hs ≡ there → AreVariables table variables types
            → terms_at table ids ≡ map (open_term parameter_name types) hs → Holds table concl.0 (open_term parameter_name types c)
            → after + term_size (open_term parameter_name types c) ≡ left
            → n + length variables + length ids ≤ greatest_parameter_count → IsMade table n variables ids concl sequent
        sequent-made table there left after variables ids concl e spent are_variables are_terms held paid few =
            let size = sequent-size sequent in
            record {
              count_is = refl;
              variables_are = are_variables;
              hypotheses_are = are_terms;
              conclusion_is = Some-term_in table.terms concl.0 (open_term parameter_name types c) held;
              small = omega (arith, size, e, spent, paid);
              few = few;
            }

        pub sequent-judged : (closed : Option Closed) → IsJudged sequent closed → IsSequentFound d p closed
        sequent-judged None h = λ s g is.
            let same : s ≡ sequent = some-injective (sym g ∙ sequent-of_trees types hs c variables_are hypotheses_are conclusion_is) in
            h (subst (IsOpen parameter_name) same is)
        sequent-judged (Some closed) h = (
          sequent,
          sequent-of_trees types hs c variables_are hypotheses_are conclusion_is,
          h.0,
          h.1
              ∙ sym (closed_form-opened parameter_name parameter_name-apart sequent h.0),
        )

-- a sum that is told not to be small is large
pub told-many : (b : Bool) (a : ℕ) → IsTrue b ↔ (a ≤ greatest_parameter_count) → b ≡ false → greatest_parameter_count < a
told-many b a told e = from (λ l. let t = told.1 l in absurd (cc))
  where
    from : (a ≤ greatest_parameter_count → ⊥) → greatest_parameter_count < a
    from f = omega (arith, f)

-- The same from what the steps of the walk answer.
module _ (d : List Declaration) (trees : List Tree) (p : Parts) (found : PartsFound) (are : AreParts trees p found) (types : List ClosedType)
    (variables_are : variables_from d (lp.trees_at trees found.variables.items) found.type_variables 0 ≡ Some types) (zero_table : Trees)
    (variables : List TermId) (vs : AreVariables zero_table variables types) where
  abbrev heads : List Tree
  heads = lp.trees_at trees found.hypotheses.items

  as_many : length variables ≡ length (lp.trees_at trees found.variables.items)
  as_many = sym (AreVariables-length zero_table variables types vs)
      ∙ variables_from-length d (lp.trees_at trees found.variables.items) found.type_variables 0 types variables_are

  pub terms-no_hypotheses : (left : ℕ) (table : Trees)
      → AreHypothesesFound types greatest_size left (hypotheses_from d heads found.type_variables (length variables) 0) table None → IsSequentFound d p None
  terms-no_hypotheses left table h =
      no_hypotheses d trees p found are types variables_are greatest_size left table refl
      (subst (λ k. AreHypothesesFound types greatest_size left (hypotheses_from d heads found.type_variables k 0) table None) as_many h)

  module _ (left : ℕ) (one : Trees) (ids : Vec TermId Global)
      (hyps : AreHypothesesFound types greatest_size left (hypotheses_from d heads found.type_variables (length variables) 0) one (Some ids)) (many : ℕ)
      (many_is : many ≡ length found.hypotheses.items) where
    hypotheses_are : hypotheses_from d heads found.type_variables (length (lp.trees_at trees found.variables.items)) 0 ≡ Some hyps.0
    hypotheses_are = ap (λ k. hypotheses_from d heads found.type_variables k 0) (sym as_many) ∙ hyps.1

    heads-many : many ≡ length heads
    heads-many = many_is ∙ sym (length-map (λ (id : LpId). lp.tree_at trees id.0) found.hypotheses.items)

    pub terms-no_conclusion : (after : ℕ) (two : Trees)
        → IsTermFound greatest_depth types left after (term_from d (lp.tree_at trees found.conclusion.0) (place found.type_variables (length variables) many 0))
        two None → IsSequentFound d p None
    terms-no_conclusion after two h =
        no_conclusion d trees p found are types variables_are hyps.0 hypotheses_are greatest_size left after two refl hyps.3
        (subst (λ k. IsTermFound greatest_depth types left after
        (term_from d (lp.tree_at trees found.conclusion.0) (place found.type_variables (length (lp.trees_at trees found.variables.items)) k 0)) two None)
        heads-many
        (subst (λ k. IsTermFound greatest_depth types left after (term_from d (lp.tree_at trees found.conclusion.0) (place found.type_variables k many 0)) two
        None) as_many h))

    pub terms-answer : (after : ℕ) (two : Trees) (concl : TermId)
        → IsTermFound greatest_depth types left after (term_from d (lp.tree_at trees found.conclusion.0) (place found.type_variables (length variables) many 0))
        two (Some concl)
        → Keeps zero_table two → Keeps one two → AreKnown zero_table variables → AreKnown one ids.items
        → found.type_variables + length variables + length found.hypotheses.items ≤ greatest_parameter_count
        → (closed : Option Closed) → ((s : ClosedSequent) → IsMade two found.type_variables variables ids.items concl s → IsJudged s closed)
        → IsSequentFound d p closed
    terms-answer after two concl h k l known_variables known_ids few closed judged =
        let conclusion_is : term_from d (lp.tree_at trees found.conclusion.0)
        (place found.type_variables (length (lp.trees_at trees found.variables.items)) (length heads) 0) ≡ Some h.0 =
        (λ i. term_from d (lp.tree_at trees found.conclusion.0) (place found.type_variables (sym as_many i) (sym heads-many i) 0)) ∙ h.1 in
        let are_terms : terms_at two ids.items ≡ map (open_term parameter_name types) hyps.0 = sym (terms_at-Keeps l ids.items known_ids) ∙ hyps.2 in
        let a : length (terms_at one ids.items) ≡ length ids.items = length-map (λ (id : TermId). term_at one id.0) ids.items in
        let b : length (terms_at one ids.items) ≡ length hyps.0 = ap length hyps.2 ∙ length-map (open_term parameter_name types) hyps.0 in
        let c = hypotheses_from-length d heads found.type_variables (length variables) 0 hyps.0 hyps.1 in
        let e : length heads ≡ length found.hypotheses.items = length-map (λ (id : LpId). lp.tree_at trees id.0) found.hypotheses.items in
        sequent-judged d trees p found are types variables_are hyps.0 hypotheses_are h.0 conclusion_is closed
        (judged (closed_sequent found.type_variables types hyps.0 h.0)
        (sequent-made d trees p found are types variables_are hyps.0 hypotheses_are h.0 conclusion_is two greatest_size left after variables ids.items concl
        refl hyps.3 (AreVariables-Keeps variables types k known_variables vs) are_terms h.2 h.3
        (omega (arith, few, a, b, c, e))))
