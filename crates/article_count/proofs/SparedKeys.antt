-- A theorem that has no key has none after types, terms and other theorems were counted.
use Rattle.std.proofs.Common.{◌≡◌, ◌≢◌, ℕ, suc, ◌+◌, ◌==◌, Bool, true, false, List, [], ◌∷◌, None, refl, ap, ◌∙◌, arith}
use Rattle.std.proofs.lemmas.Bool.Decides.{nat_tests}
use Rattle.hol_laws.specs.Members.{All-weaker}
use Rattle.hol_spec.specs.Names.{Name}
use Rattle.hol_spec.specs.Types.{HolType}
use Rattle.hol_spec.specs.Limits.{type_size, term_size}
use Rattle.hol_spec.specs.Terms.{Term, Variable}
use Rattle.hol_spec.specs.Rules.{Parameters}
use Rattle.hol_spec.specs.Proofs.{Step}
use Rattle.hol_spec.specs.declared.StepKind.{StepKind}
use Rattle.hol_spec.specs.declared.StepKind.TheVariants.{Axiom, Restate, DefineConst, DefineConstList, FirstLaw, SecondLaw}
use Rattle.article_write_spec.specs.Drafts.{Kept, kept_eq}
use Rattle.article_write_spec.specs.Lengths.{name_length, word_length, Tally, key_in, add, count_each}
use Rattle.article_write_spec.specs.TermLengths.{count_type, count_variable, count_under}
use Rattle.article_write_spec.specs.ArticleLength.{count_list, count_pair, count_premise, count_theorem, count_made, count_given, count_by, count_inferred, count_assumption}
use Rattle.article_write_spec.specs.WrittenSteps.{word_of}
use Rattle.article_write_laws.specs.KeptOnce.{no-key, IsTypeUpTo, IsTermUpTo}
use Rattle.article_write_laws.specs.CountedOnce.{type-notes, term-notes}

module _ (j : ℕ) where
  -- theorem j still has no key
  abbrev pub Spares : (Tally → Tally) → Type 0
  Spares f = (m : Tally) → key_in m.kept (Kept.theorem j) ≡ None → key_in (f m).kept (Kept.theorem j) ≡ None

  no-type : (n : ℕ) (y : Kept) → IsTypeUpTo n y → kept_eq (Kept.theorem j) y ≡ false
  no-type n (Kept.type a) h = refl
  no-type n (Kept.term t) h = refl
  no-type n (Kept.theorem i) h = absurd h

  no-term : (n : ℕ) (y : Kept) → IsTermUpTo n y → kept_eq (Kept.theorem j) y ≡ false
  no-term n (Kept.type a) h = refl
  no-term n (Kept.term t) h = refl
  no-term n (Kept.theorem i) h = absurd h

  pub type-spares : (a : HolType) → Spares (count_type a)
  type-spares a m none =
      let notes = type-notes a m in
      ap (λ l. key_in l (Kept.theorem j)) notes.is
      ∙ no-key (Kept.theorem j) 0 m.kept notes.new none
      (All-weaker (IsTypeUpTo (type_size a)) (λ y. kept_eq (Kept.theorem j) y ≡ false) (no-type (type_size a)) notes.new notes.all)

  pub term-spares : (q d : ℕ) (t : Term) → Spares (count_under q d t)
  term-spares q d t m none =
      let notes = term-notes q t d m in
      ap (λ l. key_in l (Kept.theorem j)) notes.is
      ∙ no-key (Kept.theorem j) 0 m.kept notes.new none
      (All-weaker (IsTermUpTo (term_size t)) (λ y. kept_eq (Kept.theorem j) y ≡ false) (no-term (term_size t)) notes.new notes.all)

  variable-spares : (n : Name) (a : HolType) → Spares (count_variable n a)
  variable-spares n a m none = type-spares a (add (name_length n) m) none

  pub each-spares : {A : Type 0} (f : A → Tally → Tally) → ((x : A) → Spares (f x)) → (xs : List A) → Spares (count_each f xs)
  each-spares f h [] m none = none
  each-spares f h (x ∷ xs) m none = each-spares f h xs (f x m) (h x m none)

  list-spares : {A : Type 0} (f : A → Tally → Tally) → ((x : A) → Spares (f x)) → (xs : List A) → Spares (count_list f xs)
  list-spares f h xs m none = each-spares f h xs m none

  pair-spares : (f g : Tally → Tally) → Spares f → Spares g → Spares (count_pair f g)
  pair-spares f g one two m none = two (f m) (one m none)

  -- what a rule was given
  pub given-spares : (q : ℕ) (g : Parameters) → Spares (count_given q g)
  given-spares q Parameters.nothing m none = none
  given-spares q (Parameters.term t) m none = term-spares q 0 t m none
  given-spares q (Parameters.variable v) m none = variable-spares v.0 v.1 m none
  given-spares q (Parameters.substitution types terms) m none =
      pair-spares (count_list (λ p. count_pair (add (name_length p.0)) (count_type p.1)) types)
      (count_list (λ p. count_pair (count_variable p.0.0 p.0.1) (count_under q 0 p.1)) terms)
      (list-spares (λ (p : Name × HolType). count_pair (add (name_length p.0)) (count_type p.1))
      (λ p. pair-spares (add (name_length p.0)) (count_type p.1) (λ n e. e) (type-spares p.1)) types)
      (list-spares (λ (p : Variable × Term). count_pair (count_variable p.0.0 p.0.1) (count_under q 0 p.1))
      (λ p. pair-spares (count_variable p.0.0 p.0.1) (count_under q 0 p.1) (variable-spares p.0.0 p.0.1) (term-spares q 0 p.1)) terms)
      m none
  given-spares q (Parameters.sequent s) m none = term-spares q 0 s.conclusion (count_list (count_under q 0) s.hypotheses m)
      (list-spares (count_under q 0) (term-spares q 0) s.hypotheses m none)
  given-spares q (Parameters.constant n t) m none = term-spares q 0 t (add (name_length n) m) none
  given-spares q (Parameters.constants pairs) m none =
      list-spares (λ (p : Name × Variable). count_pair (add (name_length p.0)) (count_variable p.1.0 p.1.1))
      (λ p. pair-spares (add (name_length p.0)) (count_variable p.1.0 p.1.1) (λ n e. e) (variable-spares p.1.0 p.1.1)) pairs m none
  given-spares q (Parameters.type_operator names version) m none =
      list-spares (λ (n : Name). add (name_length n)) (λ n l e. e) names.variables
      (add (name_length names.operator + name_length names.abstraction + name_length names.representation) m) none

  pub premises-spare : (is : List ℕ) → Spares (count_each count_premise is)
  premises-spare is = each-spares count_premise (λ i m none. none) is

  -- other theorems
  pub theorem-spares : (i : ℕ) → j ≢ i → Spares (count_theorem i)
  theorem-spares i apart m none =
      let off : (j == i) ≡ false = grind (arith, nat_tests, apart) in
      no-key (Kept.theorem j) 0 m.kept (Kept.theorem i ∷ []) none (off, tt {0})

  made-spares : (kind : StepKind) (i : ℕ) → j ≢ i → (kind ≡ FirstLaw → j ≢ suc i) → Spares (count_made kind i)
  made-spares DefineConst i apart next m none = theorem-spares i apart m none
  made-spares DefineConstList i apart next m none = theorem-spares i apart m none
  made-spares FirstLaw i apart next m none = theorem-spares i apart (count_theorem (suc i) m) (theorem-spares (suc i) (next refl) m none)
  made-spares kind i apart next m none = theorem-spares i apart m none

  assumption-spares : (q i : ℕ) (x : Step) → j ≢ i → Spares (count_assumption q i x)
  assumption-spares q i x apart m none = theorem-spares i apart (count_given q x.parameters m) (given-spares q x.parameters m none)

  inferred-spares : (q i : ℕ) (x : Step) → j ≢ i → (x.kind ≡ FirstLaw → j ≢ suc i) → Spares (count_inferred q i x)
  inferred-spares q i x apart next m none =
      made-spares x.kind i apart next (add (word_length (word_of x.kind)) (count_each count_premise x.premises (count_given q x.parameters m)))
      (premises-spare x.premises (count_given q x.parameters m) (given-spares q x.parameters m none))

  -- a step makes its own theorem alone, and a first law the next one too
  pub by-spares : (q : ℕ) (kind : StepKind) (b : Bool) (i : ℕ) (x : Step) → j ≢ i → (x.kind ≡ FirstLaw → j ≢ suc i) → Spares (count_by q kind b i x)
  by-spares q Axiom b i x apart next m none = assumption-spares q i x apart m none
  by-spares q Restate true i x apart next m none = given-spares q x.parameters (count_each count_premise x.premises m) (premises-spare x.premises m none)
  by-spares q Restate false i x apart next m none = assumption-spares q i x apart m none
  by-spares q SecondLaw b i x apart next m none = none
  by-spares q kind b i x apart next m none = inferred-spares q i x apart next m none
