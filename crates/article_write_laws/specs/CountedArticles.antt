-- What is counted of the article of a run is the length of its text.
use Rattle.std.proofs.Common.{◌≡◌, ℕ, suc, ◌+◌, ◌==◌, Bool, true, false, List, [], ◌∷◌, map, length, refl, sym, ap, subst, arith}
use Rattle.std.specs.Prelude.{unwrap_or}
use Rattle.std.specs.List.{AllByRecursion, list_any}
use Rattle.hol_spec.specs.Names.{Name}
use Rattle.hol_spec.specs.Types.{HolType}
use Rattle.hol_spec.specs.Primitives.{bool}
use Rattle.hol_spec.specs.Terms.{Term, Variable, HasType}
use Rattle.hol_spec.specs.TermBinding.{loose}
use Rattle.hol_spec.specs.TermSubstitution.{TermPairs, AreFitting}
use Rattle.hol_laws.specs.TermTyping.{loose-typed}
use Rattle.hol_laws.specs.Members.{All-append}
use Rattle.hol_spec.specs.Sequents.{Sequent, IsSequent}
use Rattle.hol_spec.specs.Rules.{Parameters, Rule}
use Rattle.hol_spec.specs.Proofs.{Made, Step, Accepted, steps_of, IsProof}
use Rattle.hol_spec.specs.Proofs as made
use Rattle.hol_spec.specs.declared.Version.{Version}
use Rattle.hol_spec.specs.declared.StepKind.{StepKind}
use Rattle.hol_spec.specs.declared.StepKind.TheVariants.{Axiom, Restate, DefineConst, DefineConstList, FirstLaw, SecondLaw}
use Rattle.hol_proof_laws.specs.ProofGrowth.{steps_of-append}
use Rattle.article_spec.specs.declared.commands.Item.TheVariants as item
use Rattle.article_spec.specs.declared.commands.Word.TheVariants as word
use Rattle.article_write_spec.specs.Mentions.{Need}
use Rattle.article_write_spec.specs.ReachedSteps.{Numbered, reached_steps}
use Rattle.article_write_spec.specs.BinderNames.{binder_number}
use Rattle.article_write_spec.specs.Drafts.{Kept, say_name, say_word, key_of, pops, write_each, write_list, write_pair}
use Rattle.article_write_spec.specs.WrittenTypes.{write_type, write_variable}
use Rattle.article_write_spec.specs.WrittenTerms.{write_term}
use Rattle.article_write_spec.specs.WrittenSteps.{write_premise, keep_theorem, keep_made, word_of, write_sequent, write_given, write_export, write_assumption, write_inferred, write_by, write_step}
use Rattle.article_write_spec.specs.Article.{version_items, version_draft, article_items, article}
use Rattle.article_write_spec.specs.Lengths.{items_length, name_length, word_length, key_length, add, count_each, capped}
use Rattle.article_write_spec.specs.TermLengths.{count_type, count_variable, count_under}
use Rattle.article_write_spec.specs.ArticleLength.{count_list, count_pair, count_premise, count_theorem, count_made, count_sequent, count_given, count_export, count_assumption, count_inferred, count_by, count_step, tally, LengthsAreCounted}
use Rattle.article_write_laws.specs.LengthLaws.{text-length}
use Rattle.article_write_laws.specs.CountLaws.{Counts, Counted, counts-said, counts-noted, counts-referred, counted-each, counted-list, counted-pair, counted-name, counted-type, counted-variable}
use Rattle.article_write_laws.specs.CountedTerms.{counted-term}
use Rattle.article_write_laws.specs.Flags.{selected-all}
use Rattle.article_write_laws.specs.ReachLaws.{is_flagged, reached-selected}

-- What a rule is given has no loose numbers
abbrev pub IsClosedTerm : Term → Type 0
IsClosedTerm t = loose t ≡ 0

abbrev pub GivenClosed : Parameters → Type 0
GivenClosed Parameters.nothing = Unit {0}
GivenClosed (Parameters.term t) = IsClosedTerm t
GivenClosed (Parameters.variable v) = Unit {0}
GivenClosed (Parameters.substitution types terms) = AllByRecursion (λ (p : Variable × Term). IsClosedTerm p.1) terms
GivenClosed (Parameters.sequent s) = AllByRecursion IsClosedTerm s.hypotheses × IsClosedTerm s.conclusion
GivenClosed (Parameters.constant n t) = IsClosedTerm t
GivenClosed (Parameters.constants pairs) = Unit {0}
GivenClosed (Parameters.type_operator names version) = Unit {0}

typed-closed : (t : Term) (a : HolType) → HasType t a → IsClosedTerm t
typed-closed t a h = let low = loose-typed [] t a h in omega (arith, low)

fitting-closed : (ps : TermPairs) → AreFitting ps → AllByRecursion (λ (p : Variable × Term). IsClosedTerm p.1) ps
fitting-closed [] h = tt
fitting-closed (p ∷ ps) h = (typed-closed p.1 p.0.1 h.0, fitting-closed ps h.1)

bools-closed : (ts : List Term) → AllByRecursion (λ t. HasType t bool) ts → AllByRecursion IsClosedTerm ts
bools-closed [] h = tt
bools-closed (t ∷ ts) h = (typed-closed t bool h.0, bools-closed ts h.1)

sequent-closed : (s : Sequent) → IsSequent s → AllByRecursion IsClosedTerm s.hypotheses × IsClosedTerm s.conclusion
sequent-closed s h = (bools-closed s.hypotheses h.hypotheses, typed-closed s.conclusion bool h.conclusion)

given-closed : (kind : StepKind) (ss : List Sequent) (g : Parameters) (s : Sequent) → Rule kind ss g s → GivenClosed g
given-closed kind ss g s (Rule.refl {t = t} {a = a} h e) = typed-closed t a h
given-closed kind ss g s (Rule.assume {p = t} h e) = typed-closed t bool h
given-closed kind ss g s (Rule.eq_mp f h e) = tt
given-closed kind ss g s (Rule.abs_thm f h e) = tt
given-closed kind ss g s (Rule.app_thm f h e) = tt
given-closed kind ss g s (Rule.deduct_antisym e) = tt
given-closed kind ss g s (Rule.beta_conv {a = a} {b = b} {t = t} {u = u} h e) = typed-closed (Term.app (Term.lam a t) u) b h
given-closed kind ss g s (Rule.sym f e) = tt
given-closed kind ss g s (Rule.trans f h e) = tt
given-closed kind ss g s (Rule.prove_hyp e) = tt
given-closed kind ss g s (Rule.subst {terms = terms} h e) = fitting-closed terms h
given-closed kind ss g s (Rule.recorded h) = sequent-closed s h
given-closed kind ss g s (Rule.restate h w) = sequent-closed s h
given-closed kind ss g s (Rule.define_const {t = t} {a = a} h e) = typed-closed t a h.typed
given-closed kind ss g s (Rule.define_const_list h l e) = tt
given-closed kind ss g s (Rule.first_law h e) = tt
given-closed kind ss g s (Rule.second_law h e) = tt
given-closed kind ss g s (Rule.first_law_free h e) = tt
given-closed kind ss g s (Rule.second_law_free h e) = tt

proof-closed : (m : List Made) → IsProof m → AllByRecursion (λ (x : Step). GivenClosed x.parameters) (steps_of m)
proof-closed m made.Each.empty = tt
proof-closed m (made.Each.more {made = before} x p h is) =
    subst (λ (w : List Made). AllByRecursion (λ (y : Step). GivenClosed y.parameters) (steps_of w)) (sym is)
    (subst (AllByRecursion (λ (y : Step). GivenClosed y.parameters)) (sym (steps_of-append before (x ∷ [])))
    (All-append (λ (y : Step). GivenClosed y.parameters) (steps_of before) (steps_of (x ∷ [])) (proof-closed before p) (last x h)))
  where
    last : (x : Made) → made.IsMade before x → AllByRecursion (λ (y : Step). GivenClosed y.parameters) (steps_of (x ∷ []))
    last (Made.symbol y) h = tt
    last (Made.type_definition names c f i) h = tt
    last (Made.step y) h = (given-closed y.kind h.premises y.parameters y.sequent h.follows.rule, tt {0})

-- Steps
counted-premise : (i : ℕ) → Counted (count_premise i) (write_premise i)
counted-premise i owed m d c =
    subst (λ k. Counts owed (add k m) (write_premise i d)) (ap (λ (l : List Kept). key_length l (Kept.theorem i)) (sym c.kept))
    (counts-referred (unwrap_or (key_of (Kept.theorem i) d) 0) c)

counted-theorem : (i : ℕ) → Counted (count_theorem i) (keep_theorem i)
counted-theorem i owed m d c = counts-said (item.Word word.Pop) (counts-noted (Kept.theorem i) c)

any : (is : List ℕ) → AllByRecursion (λ i. Unit {0}) is
any [] = tt
any (i ∷ is) = (tt {0}, any is)

counted-premises : (is : List ℕ) → Counted (count_each count_premise is) (write_each write_premise is)
counted-premises is = counted-each (λ i. Unit {0}) count_premise write_premise (λ i h. counted-premise i) is (any is)

counted-defined : (i : ℕ) → Counted (λ m. add (word_length word.Pop) (count_theorem i m)) (λ d. pops 1 (keep_theorem i d))
counted-defined i owed m d c = counts-said (item.Word word.Pop) (counted-theorem i owed m d c)

counted-made : (kind : StepKind) (i : ℕ) → Counted (count_made kind i) (keep_made kind i)
counted-made DefineConst i = counted-defined i
counted-made DefineConstList i = counted-defined i
counted-made FirstLaw i = λ owed m d c.
    let law = counted-theorem i owed (count_theorem (suc i) m) (keep_theorem (suc i) d) (counted-theorem (suc i) owed m d c) in
    let one = counts-said (item.Word word.Pop) law in
    let two = counts-said (item.Word word.Pop) one in
    let three = counts-said (item.Word word.Pop) two in
    record { kept = three.kept; length = (let l = three.length in omega (arith, l)) }
counted-made kind i = counted-theorem i

module _ (q : ℕ) where
  counted-pairs : (ps : List (Variable × Term)) → AllByRecursion (λ (p : Variable × Term). IsClosedTerm p.1) ps
      → Counted (count_list (λ p. count_pair (count_variable p.0.0 p.0.1) (count_under q 0 p.1)) ps)
      (write_list (λ p. write_pair (write_variable p.0) (write_term q p.1)) ps)
  counted-pairs ps h =
      counted-list (λ (p : Variable × Term). IsClosedTerm p.1) (λ p. count_pair (count_variable p.0.0 p.0.1) (count_under q 0 p.1))
      (λ p. write_pair (write_variable p.0) (write_term q p.1))
      (λ p k. counted-pair (count_variable p.0.0 p.0.1) (count_under q 0 p.1) (write_variable p.0) (write_term q p.1) (counted-variable p.0)
      (counted-term q p.1 k)) ps h

  counted-sequent : (s : Sequent) → AllByRecursion IsClosedTerm s.hypotheses → IsClosedTerm s.conclusion → Counted (count_sequent q s) (write_sequent q s)
  counted-sequent s h k owed m d c =
      counted-term q s.conclusion k owed (count_list (count_under q 0) s.hypotheses m) (write_list (write_term q) s.hypotheses d)
      (counted-list IsClosedTerm (count_under q 0) (write_term q) (counted-term q) s.hypotheses h owed m d c)

  counted-given : (g : Parameters) → GivenClosed g → Counted (count_given q g) (write_given q g)
  counted-given Parameters.nothing h = λ owed m d c. c
  counted-given (Parameters.term t) h = counted-term q t h
  counted-given (Parameters.variable v) h = counted-variable v
  counted-given (Parameters.substitution types terms) h =
      counted-pair (count_list (λ p. count_pair (add (name_length p.0)) (count_type p.1)) types)
      (count_list (λ p. count_pair (count_variable p.0.0 p.0.1) (count_under q 0 p.1)) terms)
      (write_list (λ p. write_pair (say_name p.0) (write_type p.1)) types) (write_list (λ p. write_pair (write_variable p.0) (write_term q p.1)) terms)
      (counted-list (λ (p : Name × HolType). Unit {0}) (λ p. count_pair (add (name_length p.0)) (count_type p.1))
      (λ p. write_pair (say_name p.0) (write_type p.1))
      (λ p k. counted-pair (add (name_length p.0)) (count_type p.1) (say_name p.0) (write_type p.1) (counted-name p.0) (counted-type p.1)) types (all types))
      (counted-pairs terms h)
    where
      all : (ps : List (Name × HolType)) → AllByRecursion (λ (p : Name × HolType). Unit {0}) ps
      all [] = tt
      all (p ∷ ps) = (tt {0}, all ps)
  counted-given (Parameters.sequent s) h = counted-sequent s h.0 h.1
  counted-given (Parameters.constant n t) h = λ owed m d c. counted-term q t h owed (add (name_length n) m) (say_name n d) (counted-name n owed m d c)
  counted-given (Parameters.constants pairs) h =
      counted-list (λ (p : Name × Variable). Unit {0}) (λ p. count_pair (add (name_length p.0)) (count_variable p.1.0 p.1.1))
      (λ p. write_pair (say_name p.0) (write_variable p.1))
      (λ p k. counted-pair (add (name_length p.0)) (count_variable p.1.0 p.1.1) (say_name p.0) (write_variable p.1) (counted-name p.0) (counted-variable p.1))
      pairs (all pairs)
    where
      all : (ps : List (Name × Variable)) → AllByRecursion (λ (p : Name × Variable). Unit {0}) ps
      all [] = tt
      all (p ∷ ps) = (tt {0}, all ps)
  counted-given (Parameters.type_operator names version) h = λ owed m d c.
      let said = counts-said (item.Name names.representation) (counts-said (item.Name names.abstraction) (counts-said (item.Name names.operator) c)) in
      counted-list (λ (n : Name). Unit {0}) (λ n. add (name_length n)) say_name (λ n k. counted-name n) names.variables (all names.variables) owed
      (add (name_length names.operator + name_length names.abstraction + name_length names.representation) m)
      (say_name names.representation (say_name names.abstraction (say_name names.operator d)))
      (record { kept = said.kept; length = (let l = said.length in omega (arith, l)) })
    where
      all : (ns : List Name) → AllByRecursion (λ (n : Name). Unit {0}) ns
      all [] = tt
      all (n ∷ ns) = (tt {0}, all ns)

  counted-export : (x : Step) → GivenClosed x.parameters → Counted (count_export q x) (write_export q x)
  counted-export x h owed m d c =
      counts-said (item.Word word.Thm)
      (counted-given x.parameters h owed (count_each count_premise x.premises m) (write_each write_premise x.premises d)
      (counted-premises x.premises owed m d c))

  counted-assumption : (i : ℕ) (x : Step) → GivenClosed x.parameters → Counted (count_assumption q i x) (write_assumption q i x)
  counted-assumption i x h owed m d c =
      counted-theorem i owed (add (word_length word.Axiom) (count_given q x.parameters m)) (say_word word.Axiom (write_given q x.parameters d))
      (counts-said (item.Word word.Axiom) (counted-given x.parameters h owed m d c))

  counted-inferred : (i : ℕ) (x : Step) → GivenClosed x.parameters → Counted (count_inferred q i x) (write_inferred q i x)
  counted-inferred i x h owed m d c =
      counted-made x.kind i owed (add (word_length (word_of x.kind)) (count_each count_premise x.premises (count_given q x.parameters m)))
      (say_word (word_of x.kind) (write_each write_premise x.premises (write_given q x.parameters d)))
      (counts-said (item.Word (word_of x.kind))
      (counted-premises x.premises owed (count_given q x.parameters m) (write_given q x.parameters d) (counted-given x.parameters h owed m d c)))

  counted-by : (kind : StepKind) (b : Bool) (i : ℕ) (x : Step) → GivenClosed x.parameters → Counted (count_by q kind b i x) (write_by q kind b i x)
  counted-by Axiom b i x h = counted-assumption i x h
  counted-by Restate true i x h = counted-export x h
  counted-by Restate false i x h = counted-assumption i x h
  counted-by SecondLaw b i x h = λ owed m d c. c
  counted-by kind b i x h = counted-inferred i x h

  counted-steps : (exports : List ℕ) (ys : List Numbered) → AllByRecursion (λ (y : Numbered). GivenClosed y.step.parameters) ys
      → Counted (count_each (count_step q exports) ys) (write_each (write_step q exports) ys)
  counted-steps exports ys h =
      counted-each (λ (y : Numbered). GivenClosed y.step.parameters) (count_step q exports) (write_step q exports)
      (λ y k. counted-by y.step.kind (list_any (λ i. y.number == i) exports) y.number y.step k) ys h

-- The whole article
pub counted-article : (version : Version) (run : Accepted) → IsProof run.made → (tally version run).length ≡ length (article version run)
counted-article version run proof =
    let q = binder_number (reached_steps run) in
    let all = subst (AllByRecursion (λ (y : Numbered). GivenClosed y.step.parameters))
    (sym (reached-selected (map Need.step run.exports) 0 (steps_of run.made)))
    (selected-all (λ x. GivenClosed x.parameters) (is_flagged (map Need.step run.exports) 0 (steps_of run.made)) 0 (steps_of run.made)
    (proof-closed run.made proof)) in
    let first : Counts 0 (record { kept = []; length = items_length (version_items version) }) (version_draft version) =
    record { kept = refl; length = omega arith } in
    let r = counted-steps q run.exports (reached_steps run) all 0 (record { kept = []; length = items_length (version_items version) }) (version_draft version)
    first in
    let text = text-length (article_items version run) in
    omega (arith, r.length, text)

pub lengths_are_counted : LengthsAreCounted
lengths_are_counted most version run proof = ap (capped most) (counted-article version run proof)
