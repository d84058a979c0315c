-- What an article is given to write stands in it: the name of each variable that a step is given is the name in a command.
use Rattle.std.proofs.Common.{◌≡◌, ℕ, zero, suc, ◌==◌, Bool, true, false, List, [], ◌∷◌, ◌++◌, length, pos, Option, None, Some, refl, sym, inl}
use Rattle.std.specs.List.{AllByRecursion, list_any}
use Rattle.hol_laws.specs.Members.{All-append, IsIn-left, IsIn-right}
use Rattle.hol_proof_laws.specs.ProofGrowth.{All-get}
use Rattle.hol_spec.specs.Lists.{IsIn}
use Rattle.hol_spec.specs.Names.{Name}
use Rattle.hol_spec.specs.Types.{HolType, HolTypes, count}
use Rattle.hol_spec.specs.Terms.{Term, Variable}
use Rattle.hol_spec.specs.TermBinding.{loose}
use Rattle.hol_spec.specs.Sequents.{Sequent}
use Rattle.hol_spec.specs.Rules.{Parameters}
use Rattle.hol_spec.specs.Proofs.{Step}
use Rattle.hol_spec.specs.declared.StepKind.{StepKind}
use Rattle.hol_spec.specs.declared.StepKind.TheVariants.{Refl, Assume, EqMp, AbsThm, AppThm, DeductAntisym, BetaConv, Sym, Trans, ProveHyp, Subst, Axiom, Restate, DefineConst, DefineConstList, FirstLaw, SecondLaw}
use Rattle.article_spec.specs.declared.commands.Item.{Item}
use Rattle.article_spec.specs.declared.commands.Item.TheVariants as item
use Rattle.article_spec.specs.declared.commands.Word.{Word}
use Rattle.article_spec.specs.declared.commands.Word.TheVariants as word
use Rattle.article_write_spec.specs.ReachedSteps.{Numbered}
use Rattle.article_write_spec.specs.Drafts.{Kept, Draft, key_of, say, say_number, say_name, say_word, pops, keep, refer, once_at, once, conses, write_each, write_list, write_pair}
use Rattle.article_write_spec.specs.WrittenTypes.{write_type, write_types, write_variable}
use Rattle.article_write_spec.specs.WrittenTerms.{binder_at, next_binder, once_closed, shared, write_under, write_term}
use Rattle.article_write_spec.specs.WrittenSteps.{write_premise, keep_theorem, word_of, keep_made, write_sequent, write_given, write_export, write_assumption, write_inferred, write_restated, write_by, write_step}
use Rattle.article_write_laws.specs.Scenes.{key-place}
use Rattle.bridge_laws.specs.RuleVariables.{TermIn, SequentIn, GivenIn}

-- a command of a draft has this name
abbrev pub Says : Draft → Name → Type 0
Says d n = IsIn d.commands (item.Name n)

module _ (P : Name → Type 0) where
  -- of what a key stands for, the names of the variables have the property
  abbrev pub KeptIn : Kept → Type 0
  KeptIn (Kept.type a) = Unit {0}
  KeptIn (Kept.term t) = TermIn P t
  KeptIn (Kept.theorem i) = Unit {0}

  -- From one draft to a later one no name is lost; and where those of the later one have the property, what is kept keeps it, and this is so.
  pub record Wrote (d e : Draft) (fact : Type 0) : Type 0 where
    pub more : (n : Name) → Says d n → Says e n
    pub then : ((n : Name) → Says e n → P n) → AllByRecursion KeptIn d.kept → AllByRecursion KeptIn e.kept × fact

  nothing : (d : Draft) → Wrote d d (Unit {0})
  nothing d = record { more = λ n s. s; then = λ within k. (k, tt {0}) }

  infer : {d e : Draft} {F G : Type 0} → (F → G) → Wrote d e F → Wrote d e G
  infer f w = record { more = w.more; then = λ within k. let a = w.then within k in (a.0, f a.1) }

  -- one after the other
  after : {d e f : Draft} {F G : Type 0} → Wrote d e F → Wrote e f G → Wrote d f (F × G)
  after one two = record {
    more = λ n s. two.more n (one.more n s);
    then = λ within k. let a = one.then (λ n s. within n (two.more n s)) k in let b = two.then within a.0 in (b.0, (a.1, b.1));
  }

  first : {d e f : Draft} {F G : Type 0} → Wrote d e F → Wrote e f G → Wrote d f F
  first one two = infer (λ h. h.0) (after one two)

  second : {d e f : Draft} {F G : Type 0} → Wrote d e F → Wrote e f G → Wrote d f G
  second one two = infer (λ h. h.1) (after one two)

  said : (i : Item) (d : Draft) → Wrote d (say i d) (Unit {0})
  said i d = record { more = λ n s. IsIn-left d.commands (i ∷ []) (item.Name n) s; then = λ within k. (k, tt {0}) }

  name : (n : Name) (d : Draft) → Wrote d (say_name n d) (P n)
  name n d = record {
    more = λ m s. IsIn-left d.commands (item.Name n ∷ []) (item.Name m) s;
    then = λ within k. (k, within n (IsIn-right d.commands (item.Name n ∷ []) (item.Name n) (inl refl)));
  }

  -- a word more
  word_said : (w : Word) {d e : Draft} {F : Type 0} → Wrote d e F → Wrote d (say_word w e) F
  word_said w {e = e} h = first h (said (item.Word w) e)

  referred : (k : ℕ) (d : Draft) → Wrote d (refer k d) (Unit {0})
  referred k d = word_said word.Ref (said (item.Number (pos k)) d)

  kept : (x : Kept) {d e : Draft} → Wrote d e (KeptIn x) → Wrote d (keep x e) (KeptIn x)
  kept x {d = d} {e = e} h =
      let two = after (said (item.Number (pos (length e.kept))) e) (said (item.Word word.Def) (say_number (length e.kept) e)) in
      record {
        more = λ n s. two.more n (h.more n s);
        then = λ within k. let a = h.then (λ n s. within n (two.more n s)) k in (All-append KeptIn e.kept (x ∷ []) a.0 (a.1, tt {0}), a.1);
      }

  once_kept : (x : Kept) (build : Draft → Draft) (d : Draft) → Wrote d (build d) (KeptIn x) → Wrote d (once x build d) (KeptIn x)
  once_kept x build d h = go (key_of x d) refl
    where
      go : (o : Option ℕ) → key_of x d ≡ o → Wrote d (once_at o x build d) (KeptIn x)
      go None e = kept x h
      go (Some k) e =
          let r = referred k d in
          record { more = r.more; then = λ within all. (all, All-get KeptIn d.kept k x all (key-place x d k e)) }

  popped : (k : ℕ) {d e : Draft} {F : Type 0} → Wrote d e F → Wrote d (pops k e) F
  popped zero h = h
  popped (suc k) h = popped k (word_said word.Pop h)

  consed : (k : ℕ) {d e : Draft} {F : Type 0} → Wrote d e F → Wrote d (conses k e) F
  consed zero h = h
  consed (suc k) h = consed k (word_said word.Cons h)

  each : {A : Type 0} (write : A → Draft → Draft) (F : A → Type 0) → ((x : A) (d : Draft) → Wrote d (write x d) (F x)) → (xs : List A) (d : Draft)
      → Wrote d (write_each write xs d) (AllByRecursion F xs)
  each write F h [] d = nothing d
  each write F h (x ∷ xs) d = after (h x d) (each write F h xs (write x d))

  listed : {A : Type 0} (write : A → Draft → Draft) (F : A → Type 0) → ((x : A) (d : Draft) → Wrote d (write x d) (F x)) → (xs : List A) (d : Draft)
      → Wrote d (write_list write xs d) (AllByRecursion F xs)
  listed write F h xs d = consed (length xs) (word_said word.Nil (each write F h xs d))

  paired : (one two : Draft → Draft) (F G : Type 0) → ((d : Draft) → Wrote d (one d) F) → ((d : Draft) → Wrote d (two d) G) → (d : Draft)
      → Wrote d (write_pair one two d) (F × G)
  paired one two F G f g d = consed 2 (word_said word.Nil (after (f d) (g (one d))))

  mutual
    typed : (t : HolType) (d : Draft) → Wrote d (write_type t d) (Unit {0})
    typed (HolType.variable n) d =
        once_kept (Kept.type (HolType.variable n)) (λ e. say_word word.VarType (say_name n e)) d (infer (λ h. tt) (word_said word.VarType (name n d)))
    typed (HolType.operator n ts) d =
        once_kept (Kept.type (HolType.operator n ts))
        (λ e. say_word word.OpType (conses (count ts) (say_word word.Nil (write_types ts (say_word word.TypeOp (say_name n e)))))) d
        (word_said word.OpType
        (consed (count ts) (word_said word.Nil (second (word_said word.TypeOp (name n d)) (all_typed ts (say_word word.TypeOp (say_name n d)))))))

    all_typed : (ts : HolTypes) (d : Draft) → Wrote d (write_types ts d) (Unit {0})
    all_typed HolTypes.none d = nothing d
    all_typed (HolTypes.more t ts) d = second (typed t d) (all_typed ts (write_type t d))

  variable : (v : Variable) (d : Draft) → Wrote d (write_variable v d) (P v.0)
  variable v d = word_said word.Var (first (name v.0 d) (typed v.1 (say_name v.0 d)))

  shares : (t : Term) (build : Draft → Draft) (d : Draft) → Wrote d (build d) (TermIn P t) → Wrote d (shared t build d) (TermIn P t)
  shares t build d h = go (loose t == 0)
    where
      go : (b : Bool) → Wrote d (once_closed b t build d) (TermIn P t)
      go true = once_kept (Kept.term t) build d h
      go false = h

  -- a second law, which isn't written, is given no variable
  abbrev pub IsLawGiven : Step → Type 0
  IsLawGiven x = x.kind ≡ SecondLaw → GivenIn P x.parameters

  module _ (q : ℕ) where
    under : (t : Term) (vs : List Variable) (d : Draft) → Wrote d (write_under q vs t d) (TermIn P t)
    under (Term.free n a) vs d = shares (Term.free n a) (λ e. say_word word.VarTerm (write_variable (n, a) e)) d (word_said word.VarTerm (variable (n, a) d))
    under (Term.bound k) vs d = infer (λ h. tt) (word_said word.VarTerm (variable (binder_at vs k) d))
    under (Term.constant n a) vs d =
        shares (Term.constant n a) (λ e. say_word word.ConstTerm (write_type a (say_word word.Const (say_name n e)))) d
        (word_said word.ConstTerm (second (word_said word.Const (name n d)) (typed a (say_word word.Const (say_name n d)))))
    under (Term.app f x) vs d =
        shares (Term.app f x) (λ e. say_word word.AppTerm (write_under q vs x (write_under q vs f e))) d
        (word_said word.AppTerm (after (under f vs d) (under x vs (write_under q vs f d))))
    under (Term.lam a b) vs d =
        let v = next_binder q vs a in
        shares (Term.lam a b) (λ e. say_word word.AbsTerm (write_under q (v ∷ vs) b (write_variable v e))) d
        (word_said word.AbsTerm (second (variable v d) (under b (v ∷ vs) (write_variable v d))))

    sequent : (s : Sequent) (d : Draft) → Wrote d (write_sequent q s d) (SequentIn P s)
    sequent s d =
        infer (λ h. record { hypotheses = h.0; conclusion = h.1 })
        (after (listed (write_term q) (TermIn P) (λ t e. under t [] e) s.hypotheses d) (under s.conclusion [] (write_list (write_term q) s.hypotheses d)))

    given : (g : Parameters) (d : Draft) → Wrote d (write_given q g d) (GivenIn P g)
    given Parameters.nothing d = nothing d
    given (Parameters.term t) d = under t [] d
    given (Parameters.variable v) d = variable v d
    given (Parameters.substitution types terms) d =
        infer (λ h. h.1)
        (paired (write_list (λ p. write_pair (say_name p.0) (write_type p.1)) types)
        (write_list (λ p. write_pair (write_variable p.0) (write_term q p.1)) terms)
        (AllByRecursion (λ (p : Name × HolType). P p.0 × Unit {0}) types) (AllByRecursion (λ (p : Variable × Term). P p.0.0 × TermIn P p.1) terms)
        (listed (λ p. write_pair (say_name p.0) (write_type p.1)) (λ (p : Name × HolType). P p.0 × Unit {0})
        (λ p e. paired (say_name p.0) (write_type p.1) (P p.0) (Unit {0}) (name p.0) (typed p.1) e) types)
        (listed (λ p. write_pair (write_variable p.0) (write_term q p.1)) (λ (p : Variable × Term). P p.0.0 × TermIn P p.1)
        (λ p e. paired (write_variable p.0) (write_term q p.1) (P p.0.0) (TermIn P p.1) (variable p.0) (under p.1 []) e) terms)
        d)
    given (Parameters.sequent s) d = sequent s d
    given (Parameters.constant n t) d = second (name n d) (under t [] (say_name n d))
    given (Parameters.constants pairs) d =
        listed (λ p. write_pair (say_name p.0) (write_variable p.1)) (λ (p : Name × Variable). P p.1.0)
        (λ p e. infer (λ h. h.1) (paired (say_name p.0) (write_variable p.1) (P p.0) (P p.1.0) (name p.0) (variable p.1) e)) pairs d
    given (Parameters.type_operator names version) d =
        infer (λ h. tt)
        (second (second (second (name names.operator d) (name names.abstraction (say_name names.operator d)))
        (name names.representation (say_name names.abstraction (say_name names.operator d))))
        (listed say_name P name names.variables (say_name names.representation (say_name names.abstraction (say_name names.operator d)))))

    premises : (is : List ℕ) (d : Draft) → Wrote d (write_each write_premise is d) (Unit {0})
    premises is d = infer (λ h. tt) (each write_premise (λ i. Unit {0}) (λ i e. referred _ e) is d)

    theorem_kept : (i : ℕ) {d e : Draft} {F : Type 0} → Wrote d e F → Wrote d (keep_theorem i e) F
    theorem_kept i {e = e} h = word_said word.Pop (first h (kept (Kept.theorem i) (nothing e)))

    made_kept : (kind : StepKind) (i : ℕ) {d e : Draft} {F : Type 0} → Wrote d e F → Wrote d (keep_made kind i e) F
    made_kept DefineConst i h = popped 1 (theorem_kept i h)
    made_kept DefineConstList i h = popped 1 (theorem_kept i h)
    made_kept FirstLaw i h = popped 3 (theorem_kept i (theorem_kept (suc i) h))
    made_kept Refl i h = theorem_kept i h
    made_kept Assume i h = theorem_kept i h
    made_kept EqMp i h = theorem_kept i h
    made_kept AbsThm i h = theorem_kept i h
    made_kept AppThm i h = theorem_kept i h
    made_kept DeductAntisym i h = theorem_kept i h
    made_kept BetaConv i h = theorem_kept i h
    made_kept Sym i h = theorem_kept i h
    made_kept Trans i h = theorem_kept i h
    made_kept ProveHyp i h = theorem_kept i h
    made_kept Subst i h = theorem_kept i h
    made_kept Axiom i h = theorem_kept i h
    made_kept Restate i h = theorem_kept i h
    made_kept SecondLaw i h = theorem_kept i h

    inferred : (i : ℕ) (x : Step) (d : Draft) → Wrote d (write_inferred q i x d) (GivenIn P x.parameters)
    inferred i x d = made_kept x.kind i (word_said (word_of x.kind) (first (given x.parameters d) (premises x.premises (write_given q x.parameters d))))

    assumed : (i : ℕ) (x : Step) (d : Draft) → Wrote d (write_assumption q i x d) (GivenIn P x.parameters)
    assumed i x d = theorem_kept i (word_said word.Axiom (given x.parameters d))

    exported : (x : Step) (d : Draft) → Wrote d (write_export q x d) (GivenIn P x.parameters)
    exported x d = word_said word.Thm (second (premises x.premises d) (given x.parameters (write_each write_premise x.premises d)))

    by_kind : (kind : StepKind) (is_export : Bool) (i : ℕ) (x : Step) (d : Draft) → (kind ≡ SecondLaw → GivenIn P x.parameters)
        → Wrote d (write_by q kind is_export i x d) (GivenIn P x.parameters)
    by_kind SecondLaw is_export i x d h = infer (λ k. h refl) (nothing d)
    by_kind Axiom is_export i x d h = assumed i x d
    by_kind Restate true i x d h = exported x d
    by_kind Restate false i x d h = assumed i x d
    by_kind DefineConst is_export i x d h = inferred i x d
    by_kind DefineConstList is_export i x d h = inferred i x d
    by_kind FirstLaw is_export i x d h = inferred i x d
    by_kind Refl is_export i x d h = inferred i x d
    by_kind Assume is_export i x d h = inferred i x d
    by_kind EqMp is_export i x d h = inferred i x d
    by_kind AbsThm is_export i x d h = inferred i x d
    by_kind AppThm is_export i x d h = inferred i x d
    by_kind DeductAntisym is_export i x d h = inferred i x d
    by_kind BetaConv is_export i x d h = inferred i x d
    by_kind Sym is_export i x d h = inferred i x d
    by_kind Trans is_export i x d h = inferred i x d
    by_kind ProveHyp is_export i x d h = inferred i x d
    by_kind Subst is_export i x d h = inferred i x d

    -- The steps that are written
    pub steps : (exports : List ℕ) (ys : List Numbered) → AllByRecursion (λ (y : Numbered). IsLawGiven y.step) ys → (d : Draft)
        → Wrote d (write_each (write_step q exports) ys d) (AllByRecursion (λ (y : Numbered). GivenIn P y.step.parameters) ys)
    steps exports [] h d = nothing d
    steps exports (y ∷ ys) h d = after (by_kind y.step.kind (list_any (λ i. y.number == i) exports) y.number y.step d h.0)
        (steps exports ys h.1 (write_step q exports y d))
