-- What is written of a step gives keys to types, to terms and to the theorems of the step alone: a theorem behind them that had no key has none.
use Rattle.std.proofs.Common.{◌≡◌, ℕ, zero, suc, ◌+◌, ◌<◌, ◌==◌, Bool, true, false, cond, List, [], ◌∷◌, ◌++◌, length, Option, None, Some, Result, Ok, refl, sym, ap, ◌∙◌, arith}
use Rattle.std.specs.List.{position_from}
use Rattle.std.proofs.lemmas.Bool.Decides.{nat_tests}
use Rattle.hol_laws.specs.Members.{All-weaker}
use Rattle.hol_spec.specs.Names.{Name}
use Rattle.hol_spec.specs.Types.{HolType}
use Rattle.hol_spec.specs.Limits.{type_size, term_size}
use Rattle.hol_spec.specs.Terms.{Term, Variable}
use Rattle.hol_spec.specs.Rules.{Parameters}
use Rattle.hol_spec.specs.Proofs.{Step}
use Rattle.hol_spec.specs.declared.StepKind.{StepKind}
use Rattle.hol_spec.specs.declared.StepKind.TheVariants.{Axiom, Restate, DefineConst, DefineConstList, FirstLaw, SecondLaw}
use Rattle.hol_term.specs.Tables.{Trees}
use Rattle.article_spec.specs.declared.commands.Word.TheVariants as word
use Rattle.article_write_spec.specs.Lengths.{key_in}
use Rattle.article_write_spec.specs.Drafts.{Kept, kept_eq, Draft, say_name, say_word, pops, conses, write_each, write_list, write_pair}
use Rattle.article_write_spec.specs.WrittenTypes.{write_type, write_variable}
use Rattle.article_write_spec.specs.WrittenTerms.{write_term}
use Rattle.article_write_spec.specs.WrittenSteps.{write_premise, keep_theorem, keep_made, write_given, write_export, write_assumption, write_inferred, write_by, word_of}
use Rattle.article_write_laws.specs.KeptOnce.{Adds as KeepsMore, adds-none, adds-then, kept-conses, still-no-key, IsTypeUpTo, IsTermUpTo, type-adds, term-adds}
use Rattle.article_lines.specs.declared.keys.Thing.{Thing}
use Rattle.article_lines.specs.declared.keys.Thing.TheVariants as thing
use Rattle.article_lines.specs.Things.{Keyed, thing_eq, thing_key, with_thing}
use Rattle.article_lines.specs.KeptThings.{key_in-thing}
use Rattle.article_lines.specs.NewSteps.{IsNew, IsNewStep}
use Rattle.article_steps.specs.Said.{fresh, kept_by}
use Rattle.article_steps.specs.Left.{kept_of, AreKeysOf, IsOpen, Adds}
use Rattle.article_steps.specs.SelectedSteps.{written_if}
use Rattle.article_steps.specs.TheoremKeys.{IsBehind}
use Rattle.article_steps.proofs.AddsLaws.{open-of, count-of, keeps-of}

-- What is kept more
kept-pops : (k : ℕ) (d : Draft) → (pops k d).kept ≡ d.kept
kept-pops zero d = refl
kept-pops (suc k) d = kept-pops k (say_word word.Pop d)

kept-premises : (is : List ℕ) (d : Draft) → (write_each write_premise is d).kept ≡ d.kept
kept-premises [] d = refl
kept-premises (i ∷ is) d = kept-premises is (write_premise i d)

-- All that is kept is no theorem of this number
module _ (j : ℕ) where
  abbrev IsOther : Kept → Type 0
  IsOther y = kept_eq (Kept.theorem j) y ≡ false

  abbrev KeepsOthers : (Draft → Draft) → Type 0
  KeepsOthers write = (d : Draft) → KeepsMore IsOther d (write d)

  others-said : (f : Draft → Draft) → ((d : Draft) → (f d).kept ≡ d.kept) → KeepsOthers f
  others-said f same d = adds-none d (f d) (same d)

  others-then : (f g : Draft → Draft) → KeepsOthers f → KeepsOthers g → KeepsOthers (λ d. g (f d))
  others-then f g a b d = adds-then (a d) (b (f d))

  others-type : (t : HolType) → KeepsOthers (write_type t)
  others-type t d = let a = type-adds t d in record { new = a.new; is = a.is; all = All-weaker (IsTypeUpTo (type_size t)) IsOther other a.new a.all }
    where
      other : (x : Kept) → IsTypeUpTo (type_size t) x → IsOther x
      other (Kept.type a) h = refl
      other (Kept.term u) h = absurd h
      other (Kept.theorem i) h = absurd h

  others-term : (q : ℕ) (t : Term) → KeepsOthers (write_term q t)
  others-term q t d = let a = term-adds q t [] d in record { new = a.new; is = a.is; all = All-weaker (IsTermUpTo (term_size t)) IsOther other a.new a.all }
    where
      other : (x : Kept) → IsTermUpTo (term_size t) x → IsOther x
      other (Kept.type a) h = refl
      other (Kept.term u) h = refl
      other (Kept.theorem i) h = absurd h

  others-name : (n : Name) → KeepsOthers (say_name n)
  others-name n = others-said (say_name n) (λ d. refl)

  others-variable : (v : Variable) → KeepsOthers (write_variable v)
  others-variable v =
      others-then (λ d. write_type v.1 (say_name v.0 d)) (say_word word.Var) (others-then (say_name v.0) (write_type v.1) (others-name v.0) (others-type v.1))
      (others-said (say_word word.Var) (λ d. refl))

  others-each : {A : Type 0} (write : A → Draft → Draft) → ((x : A) → KeepsOthers (write x)) → (xs : List A) → KeepsOthers (write_each write xs)
  others-each write h [] = others-said (λ d. d) (λ d. refl)
  others-each write h (x ∷ xs) = others-then (write x) (write_each write xs) (h x) (others-each write h xs)

  others-listed : (k : ℕ) → KeepsOthers (λ d. conses k (say_word word.Nil d))
  others-listed k = others-said (λ d. conses k (say_word word.Nil d)) (λ d. kept-conses k (say_word word.Nil d))

  others-list : {A : Type 0} (write : A → Draft → Draft) → ((x : A) → KeepsOthers (write x)) → (xs : List A) → KeepsOthers (write_list write xs)
  others-list write h xs = others-then (write_each write xs) (λ d. conses (length xs) (say_word word.Nil d)) (others-each write h xs)
      (others-listed (length xs))

  others-pair : (one two : Draft → Draft) → KeepsOthers one → KeepsOthers two → KeepsOthers (write_pair one two)
  others-pair one two a b = others-then (λ d. two (one d)) (λ d. conses 2 (say_word word.Nil d)) (others-then one two a b) (others-listed 2)

  -- what a rule is given
  others-given : (q : ℕ) (g : Parameters) → KeepsOthers (write_given q g)
  others-given q Parameters.nothing = others-said (λ d. d) (λ d. refl)
  others-given q (Parameters.term t) = others-term q t
  others-given q (Parameters.variable v) = others-variable v
  others-given q (Parameters.substitution types terms) =
      others-pair (write_list (λ p. write_pair (say_name p.0) (write_type p.1)) types)
      (write_list (λ p. write_pair (write_variable p.0) (write_term q p.1)) terms)
      (others-list (λ (p : Name × HolType). write_pair (say_name p.0) (write_type p.1))
      (λ p. others-pair (say_name p.0) (write_type p.1) (others-name p.0) (others-type p.1)) types)
      (others-list (λ (p : Variable × Term). write_pair (write_variable p.0) (write_term q p.1))
      (λ p. others-pair (write_variable p.0) (write_term q p.1) (others-variable p.0) (others-term q p.1)) terms)
  others-given q (Parameters.sequent s) = others-then (write_list (write_term q) s.hypotheses) (write_term q s.conclusion)
      (others-list (write_term q) (others-term q) s.hypotheses) (others-term q s.conclusion)
  others-given q (Parameters.constant n t) = others-then (say_name n) (write_term q t) (others-name n) (others-term q t)
  others-given q (Parameters.constants pairs) = others-list (λ (p : Name × Variable). write_pair (say_name p.0) (write_variable p.1))
      (λ p. others-pair (say_name p.0) (write_variable p.1) (others-name p.0) (others-variable p.1)) pairs
  others-given q (Parameters.type_operator names version) =
      others-then (λ d. say_name names.representation (say_name names.abstraction (say_name names.operator d))) (write_list say_name names.variables)
      (others-said (λ d. say_name names.representation (say_name names.abstraction (say_name names.operator d))) (λ d. refl))
      (others-list say_name others-name names.variables)

  -- the theorems of a step
  others-theorem : (i : ℕ) → i < j → KeepsOthers (keep_theorem i)
  others-theorem i less d = record { new = Kept.theorem i ∷ []; is = refl; all = ((let e : (j == i) ≡ false = grind (arith, nat_tests, less) in e), tt {0}) }

  others-pops : (k : ℕ) → KeepsOthers (pops k)
  others-pops k = others-said (pops k) (kept-pops k)

  others-made : (kind : StepKind) (i : ℕ) → IsBehind kind i j → KeepsOthers (keep_made kind i)
  others-made DefineConst i h = others-then (keep_theorem i) (pops 1) (others-theorem i h) (others-pops 1)
  others-made DefineConstList i h = others-then (keep_theorem i) (pops 1) (others-theorem i h) (others-pops 1)
  others-made FirstLaw i h =
      others-then (λ d. keep_theorem i (keep_theorem (suc i) d)) (pops 3)
      (others-then (keep_theorem (suc i)) (keep_theorem i) (others-theorem (suc i) h) (others-theorem i (omega (arith, h)))) (others-pops 3)
  others-made kind i h = others-theorem i h

  behind-first : (kind : StepKind) (i : ℕ) → IsBehind kind i j → i < j
  behind-first FirstLaw i h = omega (arith, h)
  behind-first kind i h = h

  -- a step
  others-export : (q : ℕ) (x : Step) → KeepsOthers (write_export q x)
  others-export q x =
      others-then (λ d. write_given q x.parameters (write_each write_premise x.premises d)) (say_word word.Thm)
      (others-then (write_each write_premise x.premises) (write_given q x.parameters)
      (others-said (write_each write_premise x.premises) (kept-premises x.premises)) (others-given q x.parameters))
      (others-said (say_word word.Thm) (λ d. refl))

  others-assumption : (q i : ℕ) (x : Step) → i < j → KeepsOthers (write_assumption q i x)
  others-assumption q i x h =
      others-then (λ d. say_word word.Axiom (write_given q x.parameters d)) (keep_theorem i)
      (others-then (write_given q x.parameters) (say_word word.Axiom) (others-given q x.parameters) (others-said (say_word word.Axiom) (λ d. refl)))
      (others-theorem i h)

  others-inferred : (q i : ℕ) (x : Step) → IsBehind x.kind i j → KeepsOthers (write_inferred q i x)
  others-inferred q i x h =
      others-then (λ d. say_word (word_of x.kind) (write_each write_premise x.premises (write_given q x.parameters d))) (keep_made x.kind i)
      (others-then (λ d. write_each write_premise x.premises (write_given q x.parameters d)) (say_word (word_of x.kind))
      (others-then (write_given q x.parameters) (write_each write_premise x.premises) (others-given q x.parameters)
      (others-said (write_each write_premise x.premises) (kept-premises x.premises)))
      (others-said (say_word (word_of x.kind)) (λ d. refl)))
      (others-made x.kind i h)

  others-by : (q : ℕ) (kind : StepKind) (e : Bool) (i : ℕ) (x : Step) → IsBehind x.kind i j → KeepsOthers (write_by q kind e i x)
  others-by q Axiom e i x h = others-assumption q i x (behind-first x.kind i h)
  others-by q Restate true i x h = others-export q x
  others-by q Restate false i x h = others-assumption q i x (behind-first x.kind i h)
  others-by q SecondLaw e i x h = others-said (λ d. d) (λ d. refl)
  others-by q kind e i x h = others-inferred q i x h

  others-if : (b : Bool) (write : Draft → Draft) → KeepsOthers write → KeepsOthers (written_if b write)
  others-if true write h = h
  others-if false write h = others-said (λ d. d) (λ d. refl)

  -- so a theorem that had no key has none then
  pub given-none : (q : ℕ) (g : Parameters) (kept : List Kept) → key_in kept (Kept.theorem j) ≡ None → key_in (kept_by (write_given q g) kept) (Kept.theorem j)
      ≡ None
  unfolding kept_by
  given-none q g kept none = still-no-key IsOther (Kept.theorem j) (fresh kept) (write_given q g (fresh kept)) none (others-given q g (fresh kept)) (λ y h. h)

  pub step-none : (b : Bool) (q : ℕ) (kind : StepKind) (e : Bool) (i : ℕ) (x : Step) (kept : List Kept) → IsBehind x.kind i j → key_in kept (Kept.theorem j)
      ≡ None
      → key_in (kept_by (written_if b (write_by q kind e i x)) kept) (Kept.theorem j) ≡ None
  unfolding kept_by
  step-none b q kind e i x kept h none =
      still-no-key IsOther (Kept.theorem j) (fresh kept) (written_if b (write_by q kind e i x) (fresh kept)) none
      (others-if b (write_by q kind e i x) (others-by q kind e i x h) (fresh kept)) (λ y k. k)

-- Keys by the numbers of theorems
module _ (trees : Trees) where
  pub theorem-key : (keys : Keyed) (i : ℕ) → AreKeysOf trees keys → i < keys.theorems → key_in (kept_of trees keys) (Kept.theorem i)
      ≡ thing_key keys (thing.Theorem i)
  theorem-key keys i known low = key_in-thing trees keys.theorems keys.things (thing.Theorem i) known.distinct known.things low

  -- a theorem that has no key among what was kept more
  pub new-still : (write : Draft → Draft) (k l : Keyed) (i : ℕ) → AreKeysOf trees k → AreKeysOf trees l → l.theorems ≡ k.theorems → i < k.theorems
      → kept_of trees l ≡ kept_by write (kept_of trees k)
      → (key_in (kept_of trees k) (Kept.theorem i) ≡ None → key_in (kept_by write (kept_of trees k)) (Kept.theorem i) ≡ None) → IsNew k i → IsNew l i
  new-still write k l i known later count low same still new =
      sym (theorem-key l i later (omega (arith, count, low))) ∙ ap (λ kept. key_in kept (Kept.theorem i)) same ∙ still (theorem-key k i known low ∙ new)

  -- what a rule was given gives no key to a theorem, nor does a step to one behind its own
  pub new-given : {T E : Type 0} (q : ℕ) (g : Parameters) (k l : Keyed) (p o : ℕ) (a b : Option (List ℕ)) (f h : ℕ) (r : Result T E) (v : T) (kind : StepKind)
      (i : ℕ) → r ≡ Ok v → IsOpen trees k p → Adds trees (write_given q g) k a f l o b h r
      → i < k.theorems → IsNewStep k kind i → IsNewStep l kind i
  new-given q g k l p o a b f h r v kind i e ready adds low new = go kind new
    where
      count : l.theorems ≡ k.theorems
      count = count-of trees (write_given q g) k l o a b f h r v e adds

      one : (j : ℕ) → j < k.theorems → IsNew k j → IsNew l j
      one j less = new-still (write_given q g) k l j ready.known (open-of trees (write_given q g) k l o a b f h r v e adds).known count less
          (keeps-of trees (write_given q g) k l o a b f h r v e adds) (given-none j q g (kept_of trees k))

      go : (kind : StepKind) → IsNewStep k kind i → IsNewStep l kind i
      go FirstLaw n = record
          { first = one i low n.first; second = one (suc i) n.next n.second; next = (let c = count in let m = n.next in omega (arith, c, m)) }
      go SecondLaw n = tt
      go kind n = one i low n

  pub new-written : {T E : Type 0} (t : Bool) (q : ℕ) (kind : StepKind) (e : Bool) (i : ℕ) (x : Step) (k l : Keyed) (p o : ℕ) (a b : Option (List ℕ)) (f h : ℕ)
      (r : Result T E) (v : T) (j : ℕ) → r ≡ Ok v → IsOpen trees k p
      → Adds trees (written_if t (write_by q kind e i x)) k a f l o b h r → j < k.theorems → IsBehind x.kind i j → IsNew k j → IsNew l j
  new-written t q kind e i x k l p o a b f h r v j is ready adds low behind =
      let write = written_if t (write_by q kind e i x) in
      new-still write k l j ready.known (open-of trees write k l o a b f h r v is adds).known (count-of trees write k l o a b f h r v is adds) low
      (keeps-of trees write k l o a b f h r v is adds) (step-none j t q kind e i x (kept_of trees k) behind)

-- Another theorem has no key either
not-last : (x y : Thing) (start : ℕ) (xs : List Thing) → position_from (thing_eq x) start xs ≡ None → thing_eq x y ≡ false
    → position_from (thing_eq x) start (xs ++ y ∷ []) ≡ None
not-last x y start [] e h = ap (λ b. cond b (Some start) None) h
not-last x y start (z ∷ xs) e h = go (thing_eq x z) e (not-last x y (start + 1) xs)
  where
    go : (b : Bool) → cond b (Some start) (position_from (thing_eq x) (start + 1) xs) ≡ None
        → (position_from (thing_eq x) (start + 1) xs ≡ None → thing_eq x y ≡ false → position_from (thing_eq x) (start + 1) (xs ++ y ∷ []) ≡ None)
        → cond b (Some start) (position_from (thing_eq x) (start + 1) (xs ++ y ∷ [])) ≡ None
    go true f g = absurd (cc)
    go false f g = g f h

pub new-first : (k l : Keyed) (i j : ℕ) → l ≡ with_thing (thing.Theorem j) k → i < j → IsNew k i → IsNew l i
new-first k l i j is less new =
    let other : (i == j) ≡ false = grind (arith, nat_tests, less) in
    ap (λ (z : Keyed). thing_key z (thing.Theorem i)) is ∙ not-last (thing.Theorem i) (thing.Theorem j) 0 k.things new other
